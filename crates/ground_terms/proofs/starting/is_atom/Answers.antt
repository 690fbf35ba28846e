use Rattle.std.proofs.Common.{◌∙◌}
use Rattle.ground_terms.proofs.StartLemmas.{known_key, unknown_key}
use Rattle.ground_terms.proofs.starting.is_atom.Goals as goal

pub returns-in-None : goal.returns-in-None
returns-in-None c = unknown_key c.args.arena.now.keys c.args.key.now c.in-None.ensures c.args.atoms.now.keys c.requires.atoms

pub returns-in-Some : goal.returns-in-Some
returns-in-Some c = c.contains.ensures ∙ known_key _ c.args.arena.now.keys c.args.key.now c.in-Some.number c.requires.numbered c.in-Some.ensures.0
    c.in-Some.ensures.1 c.args.atoms.now.keys c.requires.atoms
