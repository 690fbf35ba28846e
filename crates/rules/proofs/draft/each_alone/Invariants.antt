use Rattle.std.proofs.Common.{◌≡◌, ◌++◌, map, drop}
use Rattle.rules.specs.Drafts.{numbered, shared}
use Rattle.rules.proofs.draft.each_alone.Given as goal

abbrev pub invariant-loop-alternative : goal.invariant-loop-alternative
invariant-loop-alternative l =
    map numbered l.all.items ++ map shared (drop l.alternative-index l.alternatives) ≡ map shared l.alternatives
