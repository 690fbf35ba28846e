use Rattle.std.proofs.Common.{take}
use Rattle.kif.specs.View.{tree_of, trees_in}
use Rattle.rules_clauses.specs.StoreView.{data_of}
use Rattle.rules_clauses.specs.Adding.{AddsTerms}
use Rattle.rules_profile.proofs.Facts.{tree_size, trees_size}
use Rattle.rules_clauses.proofs.store.Store.+terms.Given as goal

abbrev pub decreases-add_term : goal.decreases-add_term
decreases-add_term g l = tree_size (tree_of l.e.now)

abbrev pub decreases-add_terms : goal.decreases-add_terms
decreases-add_terms g l = trees_size (trees_in l.terms.now)

abbrev pub invariant-add_terms-loop-term : goal.invariant-add_terms-loop-term
invariant-add_terms-loop-term g l = AddsTerms l.from (data_of l.fn.self) (data_of l.self) (trees_in (take l.term-index l.terms))
