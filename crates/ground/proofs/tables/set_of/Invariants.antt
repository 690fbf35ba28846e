use Rattle.std.proofs.Common.{◌≡◌, [], drop}
use Rattle.ground_rows.specs.Contexts.{terms_named}
use Rattle.ground_terms.specs.Atoms.{with_numbers}
use Rattle.ground.proofs.tables.set_of.Given as goal

abbrev pub invariant-loop-one : goal.invariant-loop-one
invariant-loop-one l = with_numbers [] (terms_named l.fn.named) ≡ with_numbers l.set.keys (terms_named (drop l.one-index l.named))
