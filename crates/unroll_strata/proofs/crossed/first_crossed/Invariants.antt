use Rattle.std.proofs.Common.{IsTrue}
use Rattle.std.specs.List.{AllWithin}
use Rattle.rules.specs.ItemLinks.{meets_component}
use Rattle.unroll_strata.proofs.crossed.first_crossed.Given as goal

abbrev pub invariant-loop-place : goal.invariant-loop-place
invariant-loop-place l = AllWithin (λ link. ¬ IsTrue (meets_component l.components link)) l.links 0 l.place
