-- The numbers of the first tasks of the moves, and which move a task is of.
use Rattle.std.proofs.Common.{◌≡◌, ℕ, zero, suc, ◌+◌, ◌-◌, ◌<◌, ◌≤◌, List, [], ◌∷◌, ◌++◌, length, take, refl, ap, ◌∙◌, arith}
use Rattle.std.specs.Prelude.{slice_index}
use Rattle.board.specs.Values.{move_of, reply_of, task_count, starts_from}
use Rattle.board.proofs.Places.{move_first, move_later, reply_first, reply_later}

length-starts_from : (n : ℕ) (rs : List ℕ) → length (starts_from n rs) ≡ length rs + 1
length-starts_from n [] = refl
length-starts_from n (r ∷ rs) = omega (arith, length-starts_from (n + r) rs)

starts_first : (n : ℕ) (rs : List ℕ) → slice_index (starts_from n rs) 0 ≡ n
starts_first n [] = refl
starts_first n (r ∷ rs) = refl

starts_last : (n : ℕ) (rs : List ℕ) → slice_index (starts_from n rs) (length rs) ≡ n + task_count rs
starts_last n [] = omega arith
starts_last n (r ∷ rs) = omega (arith, starts_last (n + r) rs)

starts_grow : (n : ℕ) (rs : List ℕ) (i : ℕ) → i ≤ length rs → n ≤ slice_index (starts_from n rs) i
starts_grow n rs zero h = omega (arith, starts_first n rs)
starts_grow n [] (suc i) h = absurd (omega arith)
starts_grow n (r ∷ rs) (suc i) h = omega (arith, starts_grow (n + r) rs i (omega arith))

-- x lies between the starts of move i and of the next one
move_between : (n : ℕ) (rs : List ℕ) (i x : ℕ) → i < length rs → slice_index (starts_from n rs) i ≤ n + x
    → n + x < slice_index (starts_from n rs) (suc i)
    → (move_of rs x ≡ i) × (slice_index (starts_from n rs) i + reply_of rs x ≡ n + x)
move_between n [] i x h low high = absurd (omega arith)
move_between n (r ∷ rs) zero x h low high = let lt : x < r = omega (arith, high, starts_first (n + r) rs) in
    (move_first r rs x lt, omega (arith, reply_first r rs x lt))
move_between n (r ∷ rs) (suc i) x h low high =
    let le : r ≤ x = omega (arith, low, starts_grow (n + r) rs i (omega arith)) in
    let there : n + r + (x - r) ≡ n + x = omega arith in
    let later = move_between (n + r) rs i (x - r) (omega arith) (omega (arith, low, there)) (omega (arith, high, there)) in
    (move_later r rs x le ∙ ap suc later.0, omega (arith, reply_later r rs x le, later.1, there))

starts_next : (n : ℕ) (rs : List ℕ) (i : ℕ) → i < length rs → starts_from n (take (suc i) rs) ≡ starts_from n (take i rs)
    ++ (n + task_count (take (suc i) rs)) ∷ []
starts_next n [] i lt = absurd (omega arith)
starts_next n (r ∷ rs) zero lt = ap (λ (m : ℕ). n ∷ m ∷ []) (omega arith)
starts_next n (r ∷ rs) (suc i) lt = ap (λ (ms : List ℕ). n ∷ ms) (starts_next (n + r) rs i (omega arith)
    ∙ ap (λ (m : ℕ). starts_from (n + r) (take i rs) ++ m ∷ []) (let e : n + r + task_count (take (suc i) rs) ≡ n
    + (r + task_count (take (suc i) rs)) = omega arith in e))

count_next : (rs : List ℕ) (i : ℕ) → i < length rs → task_count (take (suc i) rs) ≡ task_count (take i rs) + slice_index rs i
count_next [] i lt = absurd (omega arith)
count_next (r ∷ rs) zero lt = omega arith
count_next (r ∷ rs) (suc i) lt = omega (arith, count_next rs i (omega arith))

pub count_some : (rs : List ℕ) (i : ℕ) → task_count (take i rs) ≤ task_count rs
count_some [] zero = omega arith
count_some [] (suc i) = omega arith
count_some (r ∷ rs) zero = omega arith
count_some (r ∷ rs) (suc i) = omega (arith, count_some rs i)

pub count_step : (rs : List ℕ) (i : ℕ) → i < length rs → task_count (take (i + 1) rs) ≡ task_count (take i rs) + slice_index rs i
count_step rs i lt = ap (λ (j : ℕ). task_count (take j rs)) (let e : i + 1 ≡ suc i = omega arith in e) ∙ count_next rs i lt

pub starts_step : (rs : List ℕ) (i m : ℕ) → i < length rs → m ≡ task_count (take (i + 1) rs)
    → starts_from 0 (take (i + 1) rs) ≡ starts_from 0 (take i rs) ++ m ∷ []
starts_step rs i m lt is = let e : i + 1 ≡ suc i = omega arith in
    ap (λ (j : ℕ). starts_from 0 (take j rs)) e ∙ (starts_next 0 rs i lt
    ∙ ap (λ (k : ℕ). starts_from 0 (take i rs) ++ k ∷ []) (let f : 0 + task_count (take (suc i) rs) ≡ m =
    omega (arith, is, ap (λ (j : ℕ). task_count (take j rs)) e) in f))

-- what the starts tell of a task x
module _ (starts rs : List ℕ) (x : ℕ) (are : starts ≡ starts_from 0 rs) where
  at : (i : ℕ) → slice_index starts i ≡ slice_index (starts_from 0 rs) i
  at i = ap (λ (ns : List ℕ). slice_index ns i) are

  pub starts_long : (i : ℕ) → i ≡ length rs → i < length starts
  starts_long i is = omega (arith, is, ap (λ (ns : List ℕ). length ns) are, length-starts_from 0 rs)

  pub end_is : (i : ℕ) → i ≡ length rs → slice_index starts i ≡ task_count rs
  end_is i is = omega (arith, at i, ap (λ (j : ℕ). slice_index (starts_from 0 rs) j) is, starts_last 0 rs)

  pub begin_is : slice_index starts 0 ≡ 0
  begin_is = omega (arith, at 0, starts_first 0 rs)

  pub place_at : (low high : ℕ) → slice_index starts low ≤ x → x < slice_index starts high → low < high → high - low ≤ 1 → high ≤ length rs
      → (move_of rs x ≡ low) × (x - slice_index starts low ≡ reply_of rs x)
  place_at low high from under apart close within =
      let next : high ≡ suc low = omega arith in
      let found = move_between 0 rs low x (omega arith) (omega (arith, from, at low))
      (omega (arith, under, at high, ap (λ (j : ℕ). slice_index (starts_from 0 rs) j) next)) in
      (found.0, omega (arith, found.1, at low))
