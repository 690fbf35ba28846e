use Rattle.std.proofs.Common.{List, ℕ, ◌∙◌, ◌++◌, ◌∷◌, [], length, ap}
use Rattle.ground_terms.proofs.KeyNumbers.{with_next, with_new}
use Rattle.ground_terms.proofs.keyed.Terms.add_by.Goals as goal

pub returns-clause-found : goal.returns-clause-found
returns-clause-found c =
    with_new c.args.self.now _ c.args.key.now _ c.requires.next
    (with_next c.args.self.now _ c.args.key.now c.requires.next
    (c.in_ok-add.ensures.added ∙ ap (λ (ks : List (List ℕ)). ks ++ c.args.key.now ∷ []) c.self.view_is))
    (c.len-number.ensures ∙ ap length c.self.view_is)

pub returns-clause-kept : goal.returns-clause-kept
returns-clause-kept c =
    with_next c.args.self.now _ c.args.key.now c.requires.next
    (c.in_ok-add.ensures.added ∙ ap (λ (ks : List (List ℕ)). ks ++ c.args.key.now ∷ []) c.self.view_is)
