use Rattle.std.proofs.Common.{drop, map}
use Rattle.ground_terms.specs.Vectors.{items_of}
use Rattle.ground_rows.specs.Contexts.{terms_named}
use Rattle.ground_rows.proofs.Facts.{AddingMoves}
use Rattle.ground_rows.proofs.context_step.add_moves.Given as goal

abbrev pub invariant-loop-place : goal.invariant-loop-place
invariant-loop-place l =
    AddingMoves l.fn.arena l.arena l.fn.atoms.keys l.atoms.keys l.word l.fn.roles (map terms_named (items_of l.fn.inputs)) (drop l.place l.roles)
    (map terms_named (items_of (drop l.place l.inputs)))
