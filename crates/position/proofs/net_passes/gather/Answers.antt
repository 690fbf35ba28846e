use Rattle.std.proofs.Common.{ℕ, get_or, get_or-set_same, get_or-set_other, sym, subst, arith, inl, inr}
use Rattle.std.proofs.Math.ListN.{set}
use Rattle.std.proofs.lemmas.Bool.{cases_eq}
use Rattle.propnet_tape.specs.Tapes.{IsTurnWordOf}
use Rattle.position.proofs.net_passes.gather.Goals as goal

pub loop-k-preserved : goal.loop-k-preserved
loop-k-preserved c = λ net kept words i of run lt.
    let k = c.loop-k.k in
    let old = c.loop-k.out in
    elim (cases_eq i k) [
      | inl same ↦
          subst (λ (j : ℕ). IsTurnWordOf net words (get_or kept j 0) (get_or (set old k c.word.result) j 0)) (sym same)
          (subst (λ (w : ℕ). IsTurnWordOf net words (get_or kept k 0) w) (sym (get_or-set_same old k c.word.result 0 (omega arith)))
          (c.word.ensures.turns net kept words of run))
      | inr other ↦
          subst (λ (w : ℕ). IsTurnWordOf net words (get_or kept i 0) w) (sym (get_or-set_other old k i c.word.result 0 other))
          (c.loop-k.invariant net kept words i of run (omega arith))
    ]
