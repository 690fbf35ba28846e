use Rattle.std.proofs.Common.{ℕ, List, ap, sym, ◌∙◌, arith, refl, subst}
use Rattle.statement.specs.Tree.{trees_of}
use Rattle.kif.specs.View.{tree_of, trees_in}
use Rattle.statement.specs.Items.{is_literal, are_literals, readings_of_all}
use Rattle.rules_clauses.specs.StoreView.{data_of}
use Rattle.rules_clauses.specs.Adding.{Spreads}
use Rattle.rules_clauses.specs.PicksView.{picks_made}
use Rattle.rules_clauses.specs.Spread.{lists_of, number_picks}
use Rattle.rules_profile.proofs.Facts.{part_smaller, tree_is_slice, tree_is_word, no_word_no_literal, literal_of_not, one_of_all, if_ok}
use Rattle.rules_clauses.proofs.NumberLemmas.{true_or_false}
use Rattle.rules_clauses.proofs.AddingLemmas.{longer}
use Rattle.rules_clauses.proofs.SpreadLemmas.{turn_begun, turn_on, picks_of_none, picks_begun, picks_on, picks_ended, not_word}
use Rattle.rules_clauses.proofs.readings.+readings.Goals as goal

pub read_all-returns-then-is_empty : goal.read_all-returns-then-is_empty
read_all-returns-then-is_empty g t c =
    if_ok c.no_picks.result _ _ (λ lists e. picks_of_none c.args.from (data_of c.args.store.now) (lists_of lists.items) c.args.parts.now
    c.if-is_empty.ensures e) c.no_picks.ensures

pub read_all-loop-part-init : goal.read_all-loop-part-init
read_all-loop-part-init g t c = picks_begun c.args.from _ _ _ c.in_ok-picks.ensures

pub read_all-read_literal-requires : goal.read_all-read_literal-requires
read_all-read_literal-requires g t c κs within =
    let k = part_smaller _ _ _ c.loop-part-test.true c.part-item.is in (
      omega (arith, k, c.decreases),
      (
        within,
        (
          longer c.args.from _ _ _ c.loop-part.invariant.spreads.grows c.requires.variables,
          one_of_all are_literals is_literal (λ t ts. refl) c.args.parts.now c.loop-part.part-index c.part-item.result c.loop-part-test.true
              c.part-item.is c.requires.literals,
        ),
      ),
    )

pub read_all-loop-part-preserved : goal.read_all-loop-part-preserved
read_all-loop-part-preserved g t c =
    picks_on c.args.from _ _ _ _ _ _ c.args.parts.now c.loop-part.part-index c.part-item.result _ c.loop-part.invariant c.loop-part-test.true
    c.part-item.is c.in_ok-lists.ensures
    (c.in_ok-pick.ensures ∙ ap (λ vs. number_picks (picks_made c.loop-part.picks) (lists_of vs)) c.deref.ensures.value)

pub read_all-returns : goal.read_all-returns
read_all-returns g t c =
    if_ok c.made.result _ _ (λ out e. subst (λ (ls : List (List ℕ)). Spreads c.args.from (data_of c.args.store.now) (data_of c.loop-part.store) ls
    (readings_of_all (trees_of (trees_in c.args.parts.now)))) (sym e)
    (picks_ended c.args.from _ _ _ c.args.parts.now c.loop-part.part-index _ c.loop-part.invariant c.loop-part-test.false)) c.made.ensures

pub read_in_turn-loop-part-init : goal.read_in_turn-loop-part-init
read_in_turn-loop-part-init g t c = turn_begun c.args.from _ _ _ (ap lists_of c.new-all.ensures.items)

pub read_in_turn-read_literal-requires : goal.read_in_turn-read_literal-requires
read_in_turn-read_literal-requires g t c κs within =
    let k = part_smaller _ _ _ c.loop-part-test.true c.part-item.is in (
      omega (arith, k, c.decreases),
      (
        within,
        (
          longer c.args.from _ _ _ c.loop-part.invariant.spreads.grows c.requires.variables,
          one_of_all are_literals is_literal (λ t ts. refl) c.args.parts.now c.loop-part.part-index c.part-item.result c.loop-part-test.true
              c.part-item.is c.requires.literals,
        ),
      ),
    )

pub read_in_turn-loop-part-preserved : goal.read_in_turn-loop-part-preserved
read_in_turn-loop-part-preserved g t c =
    turn_on c.args.from _ _ _ _ _ _ c.args.parts.now c.loop-part.part-index c.part-item.result _ c.loop-part.invariant c.loop-part-test.true
    c.part-item.is c.in_ok-lists.ensures c.in_ok-add_all.ensures

pub read_literal-unreachable-requires : goal.read_literal-unreachable-requires
read_literal-unreachable-requires g t c =
    true_or_false (is_literal (tree_of c.args.e.now)) c.requires.literal (ap is_literal (tree_is_slice _ _ _ c.in-List.is c.deref.ensures.value)
    ∙ no_word_no_literal _ c.in-None.ensures)

pub read_literal-only_part-requires : goal.read_literal-only_part-requires
read_literal-only_part-requires g t c =
    let h = tree_is_word _ _ _ _ _ c.in-List.is c.deref.ensures.value c.in-Some.ensures in
    sym (literal_of_not c.in-Some.word.now (trees_of (trees_in c.in-Some.rest.now))
    (not_word c.in-Some.word.now c.connective_of.result c.connective_of.ensures c.in-Not.is))
    ∙ sym (ap is_literal h) ∙ c.requires.literal
