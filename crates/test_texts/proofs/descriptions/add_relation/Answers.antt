use Rattle.std.proofs.Common.{sym, subst, ◌<◌, ℕ, length}
use Rattle.rules_clauses.specs.declared.signatures.Signature.{Signature}
use Rattle.rules.specs.RuleSetView.{lists_of_set}
use Rattle.test_texts.proofs.descriptions.add_relation.Goals as goal

pub symbol-requires : goal.symbol-requires
symbol-requires c =
    subst (λ (s : Signature). s.word < length (lists_of_set c.args.set.now).words) (sym c.relation-relation.ensures)
    (c.args.set.now.sound.named c.args.number c.requires)

pub is_fixed-requires : goal.is_fixed-requires
is_fixed-requires c = subst (λ (n : ℕ). c.args.number < n) (sym c.args.set.now.sound.each_fixed) c.requires
