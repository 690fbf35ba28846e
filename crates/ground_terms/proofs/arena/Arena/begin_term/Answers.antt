use Rattle.ground_terms.proofs.Written.{begin_name, begin_more, some_key}
use Rattle.ground_terms.proofs.arena.Arena.begin_term.Goals as goal

pub returns-then-key-eq1 : goal.returns-then-key-eq1
returns-then-key-eq1 c = begin_name _ _ _ _ _ _ _ _ _ c.key-key.ensures.numbered c.requires.number c.key-key.ensures.is c.if-key-eq1.true
    c.symbol-word.ensures c.in_ok-extend_from_slice.ensures.items

pub push_parts-requires : goal.push_parts-requires
push_parts-requires c = some_key _ _ _ _ c.key-key.ensures.numbered c.requires.number c.key-key.ensures.is

pub returns : goal.returns
returns c =
    begin_more _ _ _ _ _ _ _ _ _ _ _ _ c.key-key.ensures.numbered c.requires.number c.key-key.ensures.is c.if-key-eq1.false c.symbol-word.ensures
    c.in_ok-push.ensures.items
    c.in_ok-extend_from_slice-2.ensures.items c.in_ok-push-2.ensures.items c.in_ok-push_parts.ensures
