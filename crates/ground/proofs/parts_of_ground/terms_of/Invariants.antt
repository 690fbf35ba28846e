use Rattle.std.proofs.Common.{◌≡◌, ◌++◌, drop}
use Rattle.ground_rows.specs.Contexts.{terms_named}
use Rattle.ground.proofs.parts_of_ground.terms_of.Given as goal

abbrev pub invariant-loop-one : goal.invariant-loop-one
invariant-loop-one l = l.terms.items ++ terms_named (drop l.one-index l.named) ≡ terms_named l.fn.named
