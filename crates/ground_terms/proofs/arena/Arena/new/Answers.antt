use Rattle.std.proofs.Common.{ℕ, List, [], ◌∷◌, length, ap, arith, ◌∙◌}
use Rattle.ground_terms.specs.Arena.{cut}
use Rattle.ground_terms.specs.Keys.{with_key}
use Rattle.ground_terms.proofs.Lengths.{begun_next, begun_held}
use Rattle.ground_terms.proofs.arena.Arena.new.Goals as goal

pub loop-symbol-preserved : goal.loop-symbol-preserved
loop-symbol-preserved c =
    begun_next _ _ _ _ _ _ _ c.loop-symbol.invariant (omega arith) (c.cut.ensures ∙ ap (λ (w : List ℕ). cut (length w)) c.symbol.ensures)
    c.in_ok-push.ensures.items
    (c.in_ok-intern.ensures.kept ∙ ap (λ (n : ℕ). with_key c.loop-symbol.terms (n ∷ [])) c.in_ok-number.ensures)

pub invariant_of-result : goal.invariant_of-result
invariant_of-result c = begun_held _ _ _ _ _ c.count_symbols.ensures (omega arith) c.loop-symbol.invariant
