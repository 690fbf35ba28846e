use Rattle.std.proofs.Common.{◌≡◌, ◌++◌, drop}
use Rattle.ground_terms.specs.Vectors.{items_of}
use Rattle.ground_rows.specs.Contexts.{inputs_of_roles}
use Rattle.ground_rows.proofs.context_step.inputs_of_roles.Given as goal

abbrev pub invariant-loop-role : goal.invariant-loop-role
invariant-loop-role l = items_of l.inputs.items ++ inputs_of_roles l.arena.keys l.word l.atoms (drop l.role-index l.roles) ≡ inputs_of_roles
    l.fn.arena.keys l.fn.word l.fn.atoms l.fn.roles
