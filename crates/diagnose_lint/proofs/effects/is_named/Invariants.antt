use Rattle.std.proofs.Common.{◌≡◌, drop, nat_eq}
use Rattle.std.specs.List.{list_any}
use Rattle.ground_rows.specs.Contexts.{terms_named}
use Rattle.diagnose_lint.proofs.effects.is_named.Given as goal

abbrev pub invariant-loop-one : goal.invariant-loop-one
invariant-loop-one l = list_any (nat_eq l.term) (terms_named l.named) ≡ list_any (nat_eq l.term) (terms_named (drop l.one-index l.named))
