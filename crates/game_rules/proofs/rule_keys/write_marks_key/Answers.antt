use Rattle.std.proofs.Common.{ℕ, false, get_or, sym, ap, ◌∙◌, arith, inl, inr}
use Rattle.std.proofs.lemmas.Bool.{cases_eq}
use Rattle.game.specs.Keys.{has_bit}
use Rattle.game_rules.proofs.Facts.{filters_agree}
use Rattle.game_rules.proofs.rule_keys.write_marks_key.Goals as goal

pub loop-p-preserved : goal.loop-p-preserved
loop-p-preserved c = λ q below.
    let p = c.loop-p.p in
    let marks = c.args.marks.now in
    let new = c.put_bit.new.key in
    elim (cases_eq q p) [
      | inl same ↦ ap (has_bit new) same ∙ c.put_bit.ensures.here ∙ sym (ap (λ (i : ℕ). get_or marks i false) same)
      | inr other ↦ c.put_bit.ensures.others q other ∙ c.loop-p.invariant q (omega arith)
    ]

pub returns : goal.returns
returns c =
    filters_agree (has_bit c.loop-p.key) (λ i. get_or c.args.marks.now i false) 0 _
    (λ k from to. c.loop-p.invariant k (omega arith))
