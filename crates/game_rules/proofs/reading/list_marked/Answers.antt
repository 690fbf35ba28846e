use Rattle.std.proofs.Common.{ℕ, List, [], ◌∷◌, ◌++◌, false, cond, get_or, sym, ap, ◌∙◌, arith}
use Rattle.game_rules.proofs.Facts.{filter_range_more}
use Rattle.game_rules.proofs.reading.list_marked.Goals as goal

pub loop-number-preserved : goal.loop-number-preserved
loop-number-preserved c =
    let k = c.loop-number.number in
    let count = c.put_if-count.ensures.count in
    let before = c.loop-number.invariant.count in
    record {
      listed = c.put_if-count.ensures.listed
          ∙ ap (λ (ns : List ℕ). ns ++ cond (get_or c.args.marks.now k false) (k ∷ []) []) c.loop-number.invariant.listed
          ∙ sym (filter_range_more (λ n. get_or c.args.marks.now n false) k);
      count = omega arith;
      size = c.put_if-count.ensures.size ∙ c.loop-number.invariant.size;
      capacity = c.put_if-count.ensures.capacity ∙ c.loop-number.invariant.capacity;
    }
