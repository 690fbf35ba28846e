use Rattle.std.proofs.Common.{Option, ℕ, ap, sym, ◌∙◌, subst}
use Rattle.std.specs.Prelude.{IfSome}
use Rattle.rules_clauses.specs.declared.numbered.Literal as memory
use Rattle.rules_clauses.specs.Store.{relation_at, stated_atom}
use Rattle.statement.specs.Clause.{Literal, tree_of}
use Rattle.statement.specs.Dependence.{is_distinct}
use Rattle.statement.specs.Substitution.{atom_under}
use Rattle.ground_matching.specs.Plans.{CanBuild}
use Rattle.rules.specs.RuleSetView.{lists_of_set, rules_in}
use Rattle.statement.specs.Listing.{passes}
use Rattle.ground_rows.specs.Instances.{row_map, atom_by, IsNumberIn}
use Rattle.ground_rows.specs.SetWords.{words_of}
use Rattle.ground_rows.proofs.Facts.{absent_literal}
use Rattle.ground_rows.proofs.Facts.{made_of, row_relation}
use Rattle.ground_rows.proofs.Facts.{not_false}
use Rattle.ground_listing.proofs.unbuilt.passes_unbuilt.Goals as goal

pub returns-in-None : goal.returns-in-None
returns-in-None c = λ so_far a.
    let set = c.args.rows.now.set.now in
    let d = lists_of_set set in
    let from = c.args.rows.now.alternative.now.variables.from in
    let places = c.args.rows.now.places.now in
    let keys = c.args.arena.now.keys in
    let n = c.args.planned.now.number in
    let l_is = c.requires.literal in
    let told = subst (λ (o : Option (Option ℕ)). IfSome o (λ k. IsNumberIn (words_of set) keys c.args.rows.now.atoms.now.keys
    (atom_by d from keys places c.args.values.now n) k)) c.in-Some.is c.in_ok-number.ensures in
    let none = subst (λ (o : Option ℕ). IsNumberIn (words_of set) keys c.args.rows.now.atoms.now.keys
    (atom_by d from keys places c.args.values.now n) o) c.in-None.is told in
    absent_literal (rules_in set) d from keys places c.args.values.now n
    (ap (λ (k : memory.Literal). k.is_negated) (sym l_is) ∙ not_false _ c.if-not-literal.false)
    (ap (λ (k : memory.Literal). is_distinct (relation_at d k.atom.relation)) (sym l_is) ∙ sym c.is_distinct.ensures ∙ c.if-is_distinct.false)
    c.requires.planned.atom.can so_far (none so_far a)

pub returns-in-Some-number : goal.returns-in-Some-number
returns-in-Some-number c = λ so_far a.
    let set = c.args.rows.now.set.now in
    let d = lists_of_set set in
    let from = c.args.rows.now.alternative.now.variables.from in
    let places = c.args.rows.now.places.now in
    let keys = c.args.arena.now.keys in
    let row = c.args.values.now in
    let l : memory.Literal = c.args.literal in
    let n = c.args.planned.now.number in
    let told = subst (λ (o : Option (Option ℕ)). IfSome o (λ k. IsNumberIn (words_of set) keys c.args.rows.now.atoms.now.keys
    (atom_by d from keys places row n) k)) c.in-Some.is c.in_ok-number.ensures in
    let there = subst (λ (o : Option ℕ). IsNumberIn (words_of set) keys c.args.rows.now.atoms.now.keys
    (atom_by d from keys places row n) o) c.in-Some-number.is told in
    let can : CanBuild d from places l.atom =
    subst (λ (k : memory.Literal). CanBuild d from places k.atom) (sym c.requires.literal) c.requires.planned.atom.can in
    c.is_passing-passes.ensures so_far _ a (row_relation d from (row_map d keys places row) l.atom can.inside)
    (there.1 ∙ ap (λ (k : memory.Literal). tree_of (atom_under (row_map d keys places row) (stated_atom d from k.atom))) (sym c.requires.literal))
    ∙ ap (λ (k : Literal). passes (rules_in set) so_far k) (made_of d from keys places row n l c.requires.literal)
