use Rattle.std.proofs.Common.{ℕ, suc, ◌≡◌, ◌<◌, ◌∷◌, ◌+◌, List, length, drop, drop-cons, get_or, refl, sym, ap, ◌∙◌, subst, arith}
use Rattle.rules_clauses.specs.declared.numbered.Part.{Part}
use Rattle.ground_rows.specs.Pairs.{HaveSameValues}
use Rattle.ground_terms.proofs.Facts.{at_end}
use Rattle.ground_listing.proofs.sharing.have_no_variables.Goals as goal

here : (ps : List Part) (i : ℕ) (d : Part) → i < length ps → drop i ps ≡ get_or ps i d ∷ drop (i + 1) ps
here ps i d h =
    let n : suc i ≡ i + 1 = omega arith in drop-cons ps i d h ∙ ap (λ (j : ℕ). get_or ps i d ∷ drop j ps) n

pub loop-part-preserved : goal.loop-part-preserved
loop-part-preserved c = λ xs ys rest.
    c.loop-part.invariant xs ys
    (subst (λ (ps : List Part). HaveSameValues xs ys ps) (sym (here c.args.parts.now c.loop-part.part-index _ c.loop-part-test.true))
    (c.is_variable.ensures c.if-is_variable.false xs ys, rest))

pub returns : goal.returns
returns c = λ yes xs ys.
    c.loop-part.invariant xs ys (subst (λ (ps : List Part). HaveSameValues xs ys ps)
    (sym (at_end c.args.parts.now c.args.parts.now c.loop-part.part-index refl c.loop-part-test.false)) tt)
