use Rattle.std.proofs.Common.{List, ℕ, ◌∙◌, ◌++◌, ◌∷◌, [], length, ap}
use Rattle.rules_clauses.proofs.NumberLemmas.{with_next, with_new}
use Rattle.rules_clauses.proofs.symbols.Symbols.add_by.Goals as goal

pub returns-clause-found : goal.returns-clause-found
returns-clause-found c =
    with_new c.args.self.now _ c.args.name.now _ c.requires.next
    (with_next c.args.self.now _ c.args.name.now c.requires.next
    (c.in_ok-add_name.ensures.added ∙ ap (λ (ns : List (List ℕ)). ns ++ c.args.name.now ∷ []) c.self.view_is))
    (c.len-number.ensures ∙ ap length c.self.view_is)

pub returns-clause-kept : goal.returns-clause-kept
returns-clause-kept c =
    with_next c.args.self.now _ c.args.name.now c.requires.next
    (c.in_ok-add_name.ensures.added ∙ ap (λ (ns : List (List ℕ)). ns ++ c.args.name.now ∷ []) c.self.view_is)
