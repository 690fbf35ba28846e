use Rattle.std.proofs.Common.{ℕ, Bool, List, [], ◌∷◌, ◌++◌, cond, take, get_or, sym, ap, ◌∙◌, arith}
use Rattle.position.proofs.ReaderLemmas.{moves_more}
use Rattle.position.proofs.readers.read_moves.Goals as goal

pub loop-i-preserved : goal.loop-i-preserved
loop-i-preserved c =
    let legals = c.args.legals.now in
    let i = c.loop-i.i in
    let x = get_or legals i (0, 0) in
    let count = c.put_number-count.ensures.count in
    let before = c.loop-i.invariant.count in
    record {
      listed = λ on tells.
          c.put_number-count.ensures.listed
          ∙ ap (λ (b : Bool). take c.loop-i.count c.loop-i.numbers ++ cond b (x.1 ∷ []) []) (c.holds_at-mark.ensures on tells)
          ∙ ap (λ (ns : List ℕ). ns ++ cond (on x.0) (x.1 ∷ []) []) (c.loop-i.invariant.listed on tells)
          ∙ sym (moves_more on legals i (0, 0) c.loop-i-test.true);
      count = omega arith;
    }
