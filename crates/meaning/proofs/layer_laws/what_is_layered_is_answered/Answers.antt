use Rattle.meaning.proofs.Answers.{answered}
use Rattle.meaning.proofs.layer_laws.what_is_layered_is_answered.Goals as goal

pub returns : goal.returns
returns c = λ rules out own word n well is bounded.
    answered rules out own word well (λ S J x. c.holds_by_a_rule.ensures out well.acyclic S J x)
    (λ S J base input x. c.kept_instances_suffice.ensures out well.acyclic S J base input x)
    (λ i. c.the_listing_is_exact.ensures.instances out well i) (λ x. c.the_listing_is_exact.ensures.heads out well x)
    (λ x fixed. c.what_is_possible_and_fixed_holds.ensures.heads out well.acyclic x fixed) n is bounded
