use Rattle.std.proofs.Common.{List, ◌∷◌, [], sym, ap, ◌∙◌, arith, subst, refl}
use Rattle.std.proofs.lemmas.List.{length-map}
use Rattle.statement.specs.Tree.{Tree, trees_of}
use Rattle.kif.specs.View.{tree_of, trees_in}
use Rattle.kif.proofs.Facts.{trees_in_take}
use Rattle.statement.specs.Items.{is_term, are_terms}
use Rattle.rules_clauses.specs.StoreView.{data_of}
use Rattle.rules_clauses.specs.Adding.{AddsTerms}
use Rattle.rules_profile.proofs.Facts.{rest_smaller, part_smaller, tree_is_slice, tree_is_word, no_word_no_term, one_of_all, compound_word, compound_terms}
use Rattle.rules_profile.proofs.Facts.{on_ok}
use Rattle.rules_clauses.proofs.NumberLemmas.{true_or_false}
use Rattle.rules_clauses.proofs.AddingLemmas.{adds_list, adds_both, longer}
use Rattle.rules_clauses.proofs.store.Store.+terms.Goals as goal

pub add_term-unreachable-requires : goal.add_term-unreachable-requires
add_term-unreachable-requires g t c =
    true_or_false (is_term (tree_of c.args.e.now)) c.requires.term (ap is_term (tree_is_slice _ _ _ c.in-List.is c.deref-in-List.ensures.value)
    ∙ no_word_no_term _ c.in-None.ensures)

pub add_term-add_terms-requires : goal.add_term-add_terms-requires
add_term-add_terms-requires g t c κs within =
    let h = tree_is_word _ _ _ _ _ c.in-List.is c.deref-in-List.ensures.value c.in-Some.ensures in
    let k = rest_smaller _ _ _ h in (
      omega (arith, k, c.decreases),
      (
        within,
        (
          longer c.args.from _ _ _ c.in_ok-begin_list-in-Some.ensures.grows c.requires.variables,
          compound_terms c.in-Some.word.now (trees_of (trees_in c.in-Some.terms.now)) (sym (ap is_term h) ∙ c.requires.term),
        ),
      ),
    )

pub add_term-returns-in_ok-begin_list-in-Some : goal.add_term-returns-in_ok-begin_list-in-Some
add_term-returns-in_ok-begin_list-in-Some g t c =
    let h = tree_is_word _ _ _ _ _ c.in-List.is c.deref-in-List.ensures.value c.in-Some.ensures in
    on_ok c.add_terms.result _ _
    (λ x. subst (λ (u : Tree). AddsTerms c.args.from (data_of c.args.self.now) (data_of c.add_terms.new.self) (u ∷ [])) (sym h)
    (adds_list c.args.from _ _ _ _ _ _ (sym (length-map _ _))
    (compound_word c.in-Some.word.now (trees_of (trees_in c.in-Some.terms.now)) (sym (ap is_term h) ∙ c.requires.term))
    c.in_ok-begin_list-in-Some.ensures x))
    c.add_terms.ensures

pub add_terms-add_term-requires : goal.add_terms-add_term-requires
add_terms-add_term-requires g t c κs within =
    let k = part_smaller _ _ _ c.loop-term-test.true c.term-item.is in (
      omega (arith, k, c.decreases),
      (
        within,
        (
          longer c.args.from _ _ _ c.loop-term.invariant.grows c.requires.variables,
          one_of_all are_terms is_term (λ t ts. refl) c.args.terms.now c.loop-term.term-index c.term-item.result c.loop-term-test.true c.term-item.is
              c.requires.terms,
        ),
      ),
    )

pub add_terms-loop-term-preserved : goal.add_terms-loop-term-preserved
add_terms-loop-term-preserved g t c =
    subst (λ (ts : List Tree). AddsTerms c.args.from (data_of c.args.self.now) (data_of c.add_term.new.self) ts)
    (sym (trees_in_take c.args.terms.now c.loop-term.term-index c.term-item.result c.loop-term-test.true c.term-item.is))
    (adds_both c.args.from _ _ _ _ _ c.loop-term.invariant c.in_ok-add_term.ensures)
