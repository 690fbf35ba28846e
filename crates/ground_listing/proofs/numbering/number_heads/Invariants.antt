use Rattle.std.proofs.Common.{◌≡◌, drop, true}
use Rattle.std.specs.Prelude.{nat_eq, IfSome}
use Rattle.std.specs.List.{list_any}
use Rattle.ground_terms.specs.Atoms.{with_numbers}
use Rattle.ground_instances.specs.Lists.{entry_heads}
use Rattle.ground_listing.proofs.numbering.number_heads.Given as goal

abbrev pub invariant-loop-instance : goal.invariant-loop-instance
invariant-loop-instance l = record {
  same : with_numbers l.fn.atoms.keys (entry_heads l.fn.found) ≡ with_numbers l.atoms.keys (entry_heads (drop l.instance-index l.found));
  last : IfSome l.last (λ n. list_any (nat_eq n) l.atoms.keys ≡ true);
}
