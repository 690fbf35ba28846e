use Rattle.std.proofs.Common.{◌∙◌}
use Rattle.ground_terms.specs.Vectors.{items_of}
use Rattle.ground_rows.specs.Contexts.{roles_stated}
use Rattle.ground_rows.proofs.Facts.{below_is, lists_below_are, only_below, inputs_below, named_below, all_named_below, as_many}
use Rattle.ground_rows.proofs.context_step.list_context.Goals as goal

pub name_all-requires-clause-roles : goal.name_all-requires-clause-roles
name_all-requires-clause-roles c =
    below_is _ _ _ c.in_ok-collected.ensures.roles
    (only_below _ c.args.arena.now.keys c.requires.numbered.keyed c.keywords-words.result.role c.as_slice.result.now
    (below_is _ _ _ c.as_slice.ensures.keys c.requires.atoms))

pub name_all-requires-clause-base : goal.name_all-requires-clause-base
name_all-requires-clause-base c =
    below_is _ _ _ c.in_ok-collected.ensures.base
    (only_below _ c.args.arena.now.keys c.requires.numbered.keyed c.keywords-words.result.base c.as_slice.result.now
    (below_is _ _ _ c.as_slice.ensures.keys c.requires.atoms))

pub name_all-requires-clause-inputs : goal.name_all-requires-clause-inputs
name_all-requires-clause-inputs c =
    lists_below_are _ _ _ c.in_ok-collected.ensures.inputs
    (inputs_below _ c.args.arena.now.keys c.requires.numbered.keyed c.keywords-words.result.input c.as_slice.result.now _
    (below_is _ _ _ c.as_slice.ensures.keys c.requires.atoms))

pub number_all-requires-clause-roles : goal.number_all-requires-clause-roles
number_all-requires-clause-roles c =
    below_is _ _ _ (c.in_ok-context.ensures.roles_are ∙ c.in_ok-collected.ensures.roles)
    (only_below _ c.args.arena.now.keys c.requires.numbered.keyed c.keywords-words.result.role c.as_slice.result.now
    (below_is _ _ _ c.as_slice.ensures.keys c.requires.atoms))

pub number_all-requires-clause-base : goal.number_all-requires-clause-base
number_all-requires-clause-base c =
    named_below _ _ _ _ c.in_ok-context.ensures.base_are
    (below_is _ _ _ c.in_ok-collected.ensures.base
    (only_below _ c.args.arena.now.keys c.requires.numbered.keyed c.keywords-words.result.base c.as_slice.result.now
    (below_is _ _ _ c.as_slice.ensures.keys c.requires.atoms)))

pub number_all-requires-clause-inputs : goal.number_all-requires-clause-inputs
number_all-requires-clause-inputs c =
    all_named_below _ _ _ _ c.in_ok-context.ensures.inputs_are
    (lists_below_are _ _ _ c.in_ok-collected.ensures.inputs
    (inputs_below _ c.args.arena.now.keys c.requires.numbered.keyed c.keywords-words.result.input c.as_slice.result.now _
    (below_is _ _ _ c.as_slice.ensures.keys c.requires.atoms)))

pub number_all-requires-clause-each : goal.number_all-requires-clause-each
number_all-requires-clause-each c =
    as_many c.args.arena.now.keys c.keywords-words.result.input c.as_slice.result.now
    (roles_stated c.args.arena.now.keys c.keywords-words.result c.as_slice.result.now)
    (items_of c.in_ok-collected.collected.inputs.items) _ c.in_ok-context.context.roles.items c.in_ok-context.context.inputs.items
    (c.in_ok-context.ensures.roles_are ∙ c.in_ok-collected.ensures.roles) c.in_ok-collected.ensures.inputs c.in_ok-context.ensures.inputs_are
