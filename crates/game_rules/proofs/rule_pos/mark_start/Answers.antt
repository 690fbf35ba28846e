use Rattle.std.proofs.Common.{◌≡◌, length, false, get_or, ap, ◌∙◌, arith}
use Rattle.std.proofs.Math.ListN.{length-set}
use Rattle.game_rules.proofs.Marks.{mark_more}
use Rattle.game_rules.proofs.rule_pos.mark_start.Goals as goal

pub loop-proposition-preserved : goal.loop-proposition-preserved
loop-proposition-preserved c =
    let k = c.loop-proposition.proposition in
    let size : length c.loop-proposition.base.items ≡ length c.args.ground.now.starts.items = c.loop-proposition.invariant.size in
    let whole : length c.args.base.now.items ≡ length c.args.ground.now.starts.items = c.requires in
    record {
      size = ap length c.put_mark.ensures.written ∙ length-set c.loop-proposition.base.items k _ ∙ size;
      each = mark_more (λ p. get_or c.args.ground.now.starts.items p false) c.loop-proposition.base.items _ k _ (omega arith)
          c.put_mark.ensures.written
          c.starts.ensures c.loop-proposition.invariant.each;
    }
