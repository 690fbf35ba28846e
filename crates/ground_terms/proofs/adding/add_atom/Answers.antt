use Rattle.ground_terms.proofs.AddingAtoms.{added_one, key_front}
use Rattle.ground_terms.proofs.adding.add_atom.Goals as goal

pub returns-clause-front : goal.returns-clause-front
returns-clause-front c = key_front _ _ _ c.in_ok-number.ensures.kept

pub returns-clause-added : goal.returns-clause-added
returns-clause-added c = λ words t x tree.
    added_one words c.args.arena.now c.intern.new.self c.args.atoms.now.keys _ c.args.key.now _ x c.requires c.in_ok-number.ensures.kept
    c.intern.ensures.sizes c.intern.ensures.numbered c.in_ok-number.ensures.found.0 c.in_ok-number.ensures.found.1
    c.in_ok-insert.ensures.added t tree
