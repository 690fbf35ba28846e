use Rattle.std.proofs.Common.{◌≡◌, ◌+◌, drop, nat_eq}
use Rattle.statement.specs.Printed.{first_place}
use Rattle.ground_rows.specs.Contexts.{terms_named}
use Rattle.diagnose_lint.proofs.effects.place_of.Given as goal

abbrev pub invariant-loop-place : goal.invariant-loop-place
invariant-loop-place l =
    first_place (nat_eq l.term) (terms_named l.named) ≡ l.place + first_place (nat_eq l.term) (terms_named (drop l.place l.named))
