use Rattle.ground_terms.proofs.KindTables.{no_value, a_value}
use Rattle.ground_terms.proofs.arena.Arena.goal_value.Goals as goal

pub returns-then-key-ne1 : goal.returns-then-key-ne1
returns-then-key-ne1 c = no_value _ _ _ _ _ _ c.key-key.ensures.numbered c.requires.number c.key-key.ensures.is c.if-key-ne1.true

pub returns : goal.returns
returns c = a_value _ _ _ _ _ _ _ _ c.key-key.ensures.numbered c.requires.number c.key-key.ensures.is c.if-key-ne1.false c.if-not-is_asked.false
    c.symbol.ensures c.value_up_to.ensures
