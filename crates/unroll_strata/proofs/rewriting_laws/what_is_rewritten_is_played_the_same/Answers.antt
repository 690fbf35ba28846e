use Rattle.std.proofs.Common.{inl, inr}
use Rattle.statement.specs.Dependence.{is_among}
use Rattle.statement.specs.Items.{alternatives}
use Rattle.meaning.specs.Extension.{IsClosed}
use Rattle.unroll_strata.specs.Adding.{HasItsRanges}
use Rattle.unroll_strata.proofs.AddedItems.{rewriting, closed, closed_by_words}
use Rattle.unroll_strata.proofs.rewriting_laws.what_is_rewritten_is_played_the_same.Goals as goal

pub returns : goal.returns
returns c = λ own items out faultless strata re answered ranges.
    let well = c.accepted_items_are_well_formed.ensures out faultless in
    let is_closed : HasItsRanges items out → IsClosed (alternatives items) (alternatives out) = λ known. elim known [
      | inl both ↦ closed_by_words (alternatives items) (alternatives out) both.0 both.1
      | inr none ↦ closed (alternatives out) (λ x. c.the_listing_is_exact.ensures.atoms (alternatives out) well x)
          (λ p. c.the_context_is_listed.ensures.base (alternatives out) well p) none (alternatives items)
          (λ r m role. c.the_context_is_listed.ensures.inputs (alternatives out) well r m role)
    ] in
    c.rules_stated_in_another_way_are_played_the_same.ensures (alternatives items) (alternatives out) (λ p. is_among p own) strata well.acyclic
    (rewriting own items out re answered) (is_closed ranges)
