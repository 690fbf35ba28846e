use Rattle.std.proofs.Common.{◌+◌, refl, ap, ◌∙◌}
use Rattle.ground_rows.proofs.Facts.{with_constant, with_variable}
use Rattle.ground_rows.proofs.sought.blank_key.Goals as goal
use Rattle.ground_rows.proofs.sought.blank_key.Goals.{in-Variable+in_ok-weight-in-Variable+in_ok-push-in-Variable+in_ok-push-in-Variable-2, in-Constant+in_ok-number-in-Constant+in_ok-push-in-Constant}

pub loop-index-preserved : goal.loop-index-preserved
loop-index-preserved c =
    let ps = c.args.parts.now in
    let i = c.loop-index.index in
    let l = c.loop-index.invariant in
    let key = c.loop-index.key.items in
    let blanks = c.loop-index.blanks.items in
    elim c.match-part.branch [
      | in-Variable+in_ok-weight-in-Variable+in_ok-push-in-Variable+in_ok-push-in-Variable-2 w ↦
          with_variable c.args.word ps i _ (record { at = i + 1; place = w.in-Variable.place; weight = w.in_ok-weight-in-Variable.weight }) blanks
          c.match-part.blanks.items key c.match-part.key.items c.loop-index-test.true w.in-Variable.is refl w.in_ok-weight-in-Variable.ensures
          (ap (λ v. v.items) w.blanks-is ∙ w.in_ok-push-in-Variable.ensures.items)
          (ap (λ v. v.items) w.key-is ∙ w.in_ok-push-in-Variable-2.ensures.items) l
      | in-Constant+in_ok-number-in-Constant+in_ok-push-in-Constant w ↦
          with_constant c.args.word ps i _ w.in-Constant.symbol w.in_ok-number-in-Constant.number blanks c.match-part.blanks.items key c.match-part.key.items
          c.loop-index-test.true w.in-Constant.is w.in_ok-number-in-Constant.ensures (ap (λ v. v.items) w.blanks-is)
          (ap (λ v. v.items) w.key-is ∙ w.in_ok-push-in-Constant.ensures.items) l
    ]
