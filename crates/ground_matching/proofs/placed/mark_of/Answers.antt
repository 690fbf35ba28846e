use Rattle.std.proofs.Common.{◌<◌, length, subst, sym}
use Rattle.rules_clauses.specs.declared.numbered.Literal as memory
use Rattle.rules.specs.RuleSetView.{lists_of_set}
use Rattle.ground_matching.proofs.placed.mark_of.Goals as goal

pub is_settled-requires : goal.is_settled-requires
is_settled-requires c = subst (λ (l : memory.Literal). l.atom.relation < length (lists_of_set c.args.set.now).signatures)
    (sym c.literal-literal.ensures) c.requires.relation

pub is_pair-requires : goal.is_pair-requires
is_pair-requires c = subst (λ (l : memory.Literal). l.atom.relation < length (lists_of_set c.args.set.now).signatures) (sym c.literal-literal.ensures)
    c.requires.relation
