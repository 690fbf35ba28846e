use Rattle.meaning.proofs.Rewriting.{plays_as}
use Rattle.meaning.proofs.whole_laws.rules_stated_in_another_way_are_played_the_same.Goals as goal

pub returns : goal.returns
returns c = λ rules out own strata acyclic re closed.
    plays_as rules out own re acyclic (λ S J x. c.holds_by_a_rule.ensures out acyclic S J x) strata closed
    (λ x fixed. c.what_is_possible_and_fixed_holds.ensures.heads out acyclic x fixed)
