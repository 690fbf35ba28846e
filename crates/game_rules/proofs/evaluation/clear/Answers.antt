use Rattle.std.proofs.Common.{◌≡◌, length, false, ap, ◌∙◌, arith, refl}
use Rattle.std.proofs.Math.ListN.{length-set}
use Rattle.game_rules.proofs.Marks.{mark_more}
use Rattle.game_rules.proofs.evaluation.clear.Goals as goal

pub loop-place-preserved : goal.loop-place-preserved
loop-place-preserved c =
    let size : length c.loop-place.marks.items ≡ length c.args.marks.now.items = c.loop-place.invariant.size in
    record {
      size = ap length c.put_mark.ensures.written ∙ length-set c.loop-place.marks.items c.loop-place.place false ∙ size;
      each = mark_more (λ k. false) c.loop-place.marks.items _ c.loop-place.place false (omega arith) c.put_mark.ensures.written refl
          c.loop-place.invariant.each;
      capacity = c.put_mark.ensures.capacity ∙ c.loop-place.invariant.capacity;
    }
