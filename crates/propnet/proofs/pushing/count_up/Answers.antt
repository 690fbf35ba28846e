use Rattle.std.proofs.Common.{ℕ, ◌≡◌, ◌+◌, ◌-◌, ◌++◌, ◌∷◌, [], List, ap, sym, ◌∙◌, arith, append_assoc}
use Rattle.std.specs.List.{range_with_len}
use Rattle.propnet.proofs.AtomLemmas.{range_more}
use Rattle.propnet.proofs.pushing.count_up.Goals as goal

pub loop-number-preserved : goal.loop-number-preserved
loop-number-preserved c =
    let s = c.args.start in
    let n = c.loop-number.number in
    let old = c.args.operands.now.items in
    let one : n + 1 - s ≡ (n - s) + 1 = omega arith in
    let last : n ≡ s + (n - s) = omega arith in
    let room = c.loop-number.invariant.room in
    let len = c.push_reserved.ensures.len in
    let capacity = c.push_reserved.ensures.capacity in
    record {
      room = omega arith;
      written = c.push_reserved.ensures.items
          ∙ ap (λ (ns : List ℕ). ns ++ n ∷ []) c.loop-number.invariant.written
          ∙ append_assoc old (range_with_len s (n - s)) (n ∷ [])
          ∙ ap (λ (i : ℕ). old ++ (range_with_len s (n - s) ++ i ∷ [])) last
          ∙ ap (λ (ns : List ℕ). old ++ ns) (sym (range_more s (n - s)))
          ∙ ap (λ (k : ℕ). old ++ range_with_len s k) (sym one);
    }
