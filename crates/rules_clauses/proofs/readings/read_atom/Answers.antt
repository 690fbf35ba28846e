use Rattle.rules_clauses.proofs.AddingLemmas.{extends_refl}
use Rattle.rules_clauses.proofs.SpreadLemmas.{spreads_atom, one_alone}
use Rattle.rules_clauses.proofs.readings.read_atom.Goals as goal

pub place_of_literal-requires : goal.place_of_literal-requires
place_of_literal-requires g c = (c.in_ok-number.ensures.stands _ (extends_refl _)).within

pub returns : goal.returns
returns g c =
    spreads_atom c.args.from _ _ c.in_ok-number.number _ _ c.in_ok-number.ensures
    (one_alone _ _ _ _ _ _ c.in_ok-push-2.ensures.items c.new-lists.ensures.items c.in_ok-push.ensures.items c.new-reading.ensures.items
    c.place_of_literal.ensures)
