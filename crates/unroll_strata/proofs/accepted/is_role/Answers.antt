use Rattle.std.proofs.Common.{◌∷◌, [], ℕ, List, map, arith, ap, sym, ◌∙◌}
use Rattle.statement.specs.Tree.{text}
use Rattle.rules_profile.proofs.Facts.{role_stated-here}
use Rattle.unroll_strata.proofs.LawfulLemmas.{on_true}
use Rattle.unroll_strata.proofs.accepted.is_role.Goals as goal

pub returns-in-Some : goal.returns-in-Some
returns-in-Some c =
    let here = role_stated-here c.args.items.now c.args.place c.index-items-place.result (omega (arith, c.if-place-items.false)) c.index-items-place.is in
    on_true _ _ (λ yes. ap (map text) (here ∙ c.in-Some.ensures) ∙ ap (λ (x : List ℕ). x ∷ []) (sym (c.text_is.ensures.0 yes)))
