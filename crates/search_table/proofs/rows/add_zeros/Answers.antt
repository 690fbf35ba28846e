use Rattle.std.proofs.Common.{◌≡◌, ℕ, ◌+◌, ◌≤◌, ◌++◌, zero, suc, List, [], ◌∷◌, length, replicate, vec_capacity, refl, sym, ap, ◌∙◌, arith, append_assoc, length-append}
use Rattle.std.proofs.lemmas.List.{length-replicate}
use Rattle.search_table.proofs.rows.add_zeros.Goals as goal

one_more : (n : ℕ) → ◌≡◌ {A = List ℕ} (◌++◌ {A = ℕ} (replicate n 0) (0 ∷ [])) (replicate (n + 1) 0)
one_more zero = refl
one_more (suc n) =
    let e : suc n + 1 ≡ suc (n + 1) = omega arith in
    ap (λ (xs : List ℕ). 0 ∷ xs) (one_more n) ∙ sym (ap (λ (k : ℕ). replicate {A = ℕ} k 0) e)

pub push_reserved-requires : goal.push_reserved-requires
push_reserved-requires c =
    let i = c.loop-i._i in
    let size : length c.loop-i.words.items ≡ length c.args.words.now.items + i =
    ap length c.loop-i.invariant.words ∙ length-append c.args.words.now.items (replicate {A = ℕ} i 0)
    ∙ ap (λ (k : ℕ). length c.args.words.now.items + k) (length-replicate {A = ℕ} i 0) in
    let len : c.loop-i.words.len ≡ length c.loop-i.words.items = c.loop-i.words.ok.0 in
    let room : length c.args.words.now.items + c.args.count ≤ vec_capacity c.args.words.now = c.requires in
    let same = c.loop-i.invariant.capacity in
    omega arith

pub loop-i-preserved : goal.loop-i-preserved
loop-i-preserved c = record {
  words =
      c.push_reserved.ensures.items ∙ ap (λ (xs : List ℕ). xs ++ 0 ∷ []) c.loop-i.invariant.words
      ∙ append_assoc c.args.words.now.items (replicate {A = ℕ} c.loop-i._i 0) (0 ∷ [])
      ∙ ap (λ (xs : List ℕ). c.args.words.now.items ++ xs) (one_more c.loop-i._i);
  capacity = c.push_reserved.ensures.capacity ∙ c.loop-i.invariant.capacity;
}
