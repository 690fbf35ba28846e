use Rattle.statement.specs.Profile.{bad_keyword, misuses_word}
use Rattle.rules_profile.proofs.Firsts.{IsBehind}
use Rattle.rules_profile.proofs.places.first_misused_word.Given as goal

abbrev pub invariant-loop-index : goal.invariant-loop-index
invariant-loop-index g l = IsBehind bad_keyword misuses_word l.items l.index
