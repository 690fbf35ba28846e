use Rattle.std.proofs.Common.{ℕ, List, ◌<◌, length, subst, sym}
use Rattle.std.specs.Prelude.{All}
use Rattle.std.proofs.lemmas.List.Elements.{All-get_or}
use Rattle.rules.specs.RuleSetView.{lists_of_set}
use Rattle.test_texts.proofs.descriptions.add_relations.Goals as goal

pub add_relation-requires : goal.add_relation-requires
add_relation-requires c =
    All-get_or (λ k. k < length (lists_of_set c.args.set.now).signatures) c.relations_in_order-number-items.result.now c.loop-number.number-index 0
    c.loop-number-test.true
    (subst (λ (ks : List ℕ). All (λ k. k < length (lists_of_set c.args.set.now).signatures) ks)
    (sym c.relations_in_order-number-items.ensures) c.args.set.now.sound.inside)
