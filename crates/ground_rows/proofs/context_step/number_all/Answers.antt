use Rattle.std.proofs.Common.{ap, ◌∙◌, List}
use Rattle.ground_rows.specs.Contexts.{terms_named}
use Rattle.ground_terms.specs.declared.naming.Named.{Named}
use Rattle.ground_rows.proofs.Facts.{roles_later, lists_at, number_end}
use Rattle.ground_rows.proofs.context_step.number_all.Goals as goal

pub add_moves-requires-clause-roles : goal.add_moves-requires-clause-roles
add_moves-requires-clause-roles c =
    roles_later c.args.arena.now c.add_named.new.arena _ _ (c.deref-3.ensures.value ∙ c.in_ok-roles.ensures
    ∙ ap (λ (ns : List Named). terms_named ns) c.deref.ensures.value) c.in_ok-add_named.ensures.front c.requires.roles

pub add_moves-requires-clause-terms : goal.add_moves-requires-clause-terms
add_moves-requires-clause-terms c = lists_at c.args.arena.now c.add_named.new.arena _ _ c.deref-4.ensures.value c.in_ok-add_named.ensures.front
    c.requires.inputs

pub returns : goal.returns
returns c = λ words t.
    number_end words c.args.arena.now c.add_named.new.arena c.add_moves.new.arena _ _ _ c.args.words _ _ _ _ _ _
    (c.deref-3.ensures.value ∙ c.in_ok-roles.ensures ∙ ap (λ (ns : List Named). terms_named ns) c.deref.ensures.value) c.deref-2.ensures.value
    c.deref-4.ensures.value c.in_ok-add_named.ensures.front
    c.requires.roles c.requires.inputs t (c.in_ok-add_named.ensures.added words) (c.in_ok-add_moves.ensures words)
