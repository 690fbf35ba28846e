-- What a search turn by turn writes, one depth at a time.
use Rattle.std.proofs.Common.{ℕ, zero, suc, ◌+◌, ◌-◌, ◌≤◌, ◌≡◌, Bool, true, false, cond, List, [], ◌++◌, Option, Some, None, codes, refl, ap, ◌∙◌, arith, append_assoc, append-nil}
use Rattle.std.specs.Prelude.{find, unwrap_or}
use Rattle.std.specs.List.{flat_map, range_with_len}
use Rattle.statement.specs.declared.at_bound.AtBound.{AtBound}
use Rattle.statement.specs.NamedRules.{NamedRules}
use Rattle.statement.specs.Rules.{State}
use Rattle.statement.specs.Deepening.{is_settled, first_settled, depth_lines, settled_line, deepen_lines}

-- what is made of so many numbers from the first on, up to the first that passes a test, behind which stands an end
abbrev pub up_to : (ℕ → Bool) → (ℕ → List ℕ) → List ℕ → ℕ → ℕ → List ℕ
up_to p f end first zero = []
up_to p f end first (suc more) = f first ++ cond (p first) end (up_to p f end (first + 1) more)

-- the same by the number that was found
abbrev told : (ℕ → List ℕ) → List ℕ → ℕ → ℕ → Option ℕ → List ℕ
told f end first count None = flat_map f (range_with_len first count) ++ []
told f end first count (Some k) = flat_map f (range_with_len first (k + 1 - first)) ++ end

found_from : (p : ℕ → Bool) (first count k : ℕ) → find p (range_with_len first count) ≡ Some k → first ≤ k
found_from p first zero k h = absurd cc
found_from p first (suc more) k h = either (p first) h (found_from p (first + 1) more k)
  where
    either : (b : Bool) → cond b (Some first) (find p (range_with_len (first + 1) more)) ≡ Some k
        → (find p (range_with_len (first + 1) more) ≡ Some k → first + 1 ≤ k) → first ≤ k
    either true h later = let same : first ≡ k = cc in omega (arith, same)
    either false h later = omega (arith, later h)

one_more : (f : ℕ → List ℕ) (end : List ℕ) (first count : ℕ) (found : Option ℕ) → ((k : ℕ) → found ≡ Some k → first + 1 ≤ k)
    → told f end first (suc count) found ≡ f first ++ told f end (first + 1) count found
one_more f end first count None above = append_assoc (f first) (flat_map f (range_with_len (first + 1) count)) []
one_more f end first count (Some k) above =
    let more : first + 1 ≤ k = above k refl in
    let next : k + 1 - first ≡ suc (k + 1 - (first + 1)) = omega (arith, more) in
    ap (λ (n : ℕ). flat_map f (range_with_len first n) ++ end) next
    ∙ append_assoc (f first) (flat_map f (range_with_len (first + 1) (k + 1 - (first + 1)))) end

told_here : (f : ℕ → List ℕ) (end : List ℕ) (first count : ℕ) → told f end first count (Some first) ≡ f first ++ end
told_here f end first count =
    let one : first + 1 - first ≡ suc zero = omega arith in
    ap (λ (n : ℕ). flat_map f (range_with_len first n) ++ end) one ∙ ap (λ (xs : List ℕ). xs ++ end) (append-nil (f first))

told_up_to : (p : ℕ → Bool) (f : ℕ → List ℕ) (end : List ℕ) (first count : ℕ)
    → told f end first count (find p (range_with_len first count)) ≡ up_to p f end first count
told_up_to p f end first zero = refl
told_up_to p f end first (suc more) =
    either (p first) (found_from p (first + 1) more) (told_up_to p f end (first + 1) more)
  where
    either : (b : Bool) → ((k : ℕ) → find p (range_with_len (first + 1) more) ≡ Some k → first + 1 ≤ k)
        → told f end (first + 1) more (find p (range_with_len (first + 1) more)) ≡ up_to p f end (first + 1) more
        → told f end first (suc more) (cond b (Some first) (find p (range_with_len (first + 1) more)))
        ≡ f first ++ cond b end (up_to p f end (first + 1) more)
    either true above rest = told_here f end first (suc more)
    either false above rest =
        one_more f end first more (find p (range_with_len (first + 1) more)) above ∙ ap (λ (xs : List ℕ). f first ++ xs) rest

module _ (g : NamedRules) (role : ℕ) (at : AtBound) (s : State) where
  -- the lines of so many depths from the first on
  abbrev pub lines_from : ℕ → ℕ → List ℕ
  lines_from first count = up_to (is_settled g.rules role s) (depth_lines g role at s) (codes "settled\n") first count

  by_found : (depth : ℕ) (found : Option ℕ) → flat_map (depth_lines g role at s) (range_with_len 1 (unwrap_or found depth)) ++ settled_line found
      ≡ told (depth_lines g role at s) (codes "settled\n") 1 depth found
  by_found depth None = refl
  by_found depth (Some k) =
      let same : k ≡ k + 1 - 1 = omega arith in
      ap (λ (n : ℕ). flat_map (depth_lines g role at s) (range_with_len 1 n) ++ codes "settled\n") same

  pub all_depths : (depth : ℕ) → deepen_lines g role depth at s ≡ lines_from 1 depth
  all_depths depth =
      by_found depth (first_settled g.rules role depth s)
      ∙ told_up_to (is_settled g.rules role s) (depth_lines g role at s) (codes "settled\n") 1 depth

  -- a depth with those behind it, where it is not settled
  pub further_depths : (first count : ℕ) → is_settled g.rules role s first ≡ false
      → lines_from first (suc count) ≡ depth_lines g role at s first ++ lines_from (first + 1) count
  further_depths first count not =
      ap (λ (b : Bool). depth_lines g role at s first ++ cond b (codes "settled\n") (lines_from (first + 1) count)) not

  pub last_depth : (first count : ℕ) → is_settled g.rules role s first ≡ true
      → lines_from first (suc count) ≡ depth_lines g role at s first ++ codes "settled\n"
  last_depth first count is =
      ap (λ (b : Bool). depth_lines g role at s first ++ cond b (codes "settled\n") (lines_from (first + 1) count)) is
