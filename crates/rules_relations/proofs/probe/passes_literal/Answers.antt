use Rattle.std.proofs.Common.{ap, ◌∙◌, sym, Bool}
use Rattle.kif.specs.View.{trees_in}
use Rattle.statement.specs.Tree.{trees_of}
use Rattle.rules_relations.specs.Probes.{passes, literal_of}
use Rattle.rules_relations.proofs.Looking.{relation_passes, variable_passes}
use Rattle.rules_relations.proofs.probe.passes_literal.Goals as goal

pub returns-in-Relation : goal.returns-in-Relation
returns-in-Relation g c =
    relation_passes c.is_wanted.result c.args.word.now c.args.wanted.now c.args.count c.args.terms.now c.args.is_negated c.is_wanted.ensures
    ∙ ap (λ kind. passes kind c.args.wanted.now c.args.count (literal_of c.args.is_negated c.args.word.now (trees_of (trees_in c.args.terms.now))))
    (sym c.in-Relation.is)

pub returns-in-Variable : goal.returns-in-Variable
returns-in-Variable g c =
    variable_passes c.is_bound.result _ _ c.args.word.now c.args.wanted.now c.args.count c.args.terms.now c.args.is_negated
    c.is_wanted-is_distinct.ensures c.have_variable-is_there.ensures c.is_bound.ensures
    ∙ ap (λ kind. passes kind c.args.wanted.now c.args.count (literal_of c.args.is_negated c.args.word.now (trees_of (trees_in c.args.terms.now))))
    (sym c.in-Variable.is)
