use Rattle.std.proofs.Common.{ℕ, sym, ap, ◌∙◌}
use Rattle.statement.specs.Clause.{Atom, relation_of}
use Rattle.statement.specs.Dependence.{is_among}
use Rattle.unroll_strata.proofs.TreeLemmas.{count_parts}
use Rattle.unroll_strata.proofs.literals.is_own.Goals as goal

pub returns : goal.returns
returns c =
    c.contains.ensures
    ∙ ap (λ (n : ℕ). is_among (record { word = c.split_atom.result.0.now; arity = n }) c.args.own.now) (sym (count_parts c.split_atom.result.1.now))
    ∙ sym (ap (λ (a : Atom). is_among (relation_of a) c.args.own.now) c.split_atom.ensures)
