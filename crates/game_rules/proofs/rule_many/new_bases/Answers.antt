use Rattle.std.proofs.Common.{◌≡◌, ◌+◌, List, [], ◌∷◌, length, get_or, sym, subst, ap, ◌∙◌, arith}
use Rattle.std.proofs.lemmas.List.{length-append}
use Rattle.game_rules.specs.declared.rule_many.RuleBase.{RuleBase}
use Rattle.game.proofs.Facts.{push_all}
use Rattle.game_rules.proofs.rule_many.new_bases.Goals as goal

pub loop-i-preserved : goal.loop-i-preserved
loop-i-preserved c =
    let many = length c.args.game.now.played.starts.items in
    let old = c.loop-i.states.items in
    let new = c.in_ok-new_base.field-0 in
    let size : length old ≡ c.loop-i._i = c.loop-i.invariant.size in
    let pushed = c.in_ok-push.ensures.items in
    record {
      size = ap length pushed ∙ length-append old (new ∷ []) ∙ (let z : length old + 1 ≡ c.loop-i._i + 1 = omega arith in z);
      each = λ k d lt. subst (λ (ps : List RuleBase). length (get_or ps k d).marks.items ≡ many) (sym pushed)
          (push_all (λ (p : RuleBase). length p.marks.items ≡ many) old new c.in_ok-new_base.ensures
          (λ i e l. c.loop-i.invariant.each i e (omega arith)) k d (omega arith));
    }
