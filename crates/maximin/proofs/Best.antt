use Rattle.std.proofs.Common.{true, false, ◌≡◌, ℕ, ◌+◌, ◌-◌, ◌<◌, ◌≤◌, Bool, List, [], ◌∷◌, length, zero, suc, refl, sym, ap, ◌∙◌, arith, get_or, inl, inr}
use Rattle.std.proofs.lemmas.Int.{ints, clamps}
use Rattle.std.proofs.lemmas.Bool.{cases_lt}
use Rattle.std.proofs.lemmas.Bool.Decides.{nat_tests}
use Rattle.std.specs.Prelude.{ℤ, pos, negsuc, ◌<ℤ◌, ◌≤ℤ◌, ◌==◌, ◌||◌, if◌then◌else◌, find, Option, None, slice_get}
use Rattle.statement.specs.Rules.{Rules, State, is_stuck}
use Rattle.statement.specs.declared.at_bound.AtBound.{AtBound}
use Rattle.game.specs.Value.{Answers}
use Rattle.statement.specs.Value.{value, worst, choice_of}
use Rattle.maximin.specs.Open.{IsOpen}
use Rattle.maximin.proofs.Values.{value_reached, worst_le_value}
use Rattle.maximin.specs.Best.{IsBest, own_worth}

pub best_none : (worth : ℕ → ℕ) → IsBest worth 0 (negsuc 0) 0
best_none worth = record {
  seen = λ k lt. absurd (omega arith);
  reached = λ lt. absurd (omega arith);
  before = λ lt. absurd (omega arith);
  first = λ k lt. absurd (omega arith);
  none = λ _. refl;
  low = omega (arith, ints);
  high = omega (arith, ints);
}

-- a move that is better than the best becomes the best
pub best_raised : (worth : ℕ → ℕ) (place : ℕ) (best r : ℤ) (chosen : ℕ) → worth place ≤ 100 → Answers (worth place) best (pos 101) r → best <ℤ r
    → IsBest worth place best chosen → IsBest worth (place + 1) r place
best_raised worth place best r chosen few h more old =
    let bottom = h.at_least in
    let top = h.at_most in
    let same : pos (worth place) ≡ r = omega (arith, ints, clamps) in
    record {
      seen = λ k lt. elim (cases_lt k place) [
        | inl before ↦ let seen = old.seen k before in omega (arith, ints)
        | inr here ↦ let at : k ≡ place = omega arith in rw at (omega (arith, ints))
      ];
      reached = λ _. same;
      before = λ _. omega arith;
      first = λ k lt. let seen = old.seen k lt in omega (arith, ints);
      none = λ e. absurd (omega arith);
      low = let l = old.low in omega (arith, ints);
      high = omega (arith, ints);
    }

-- a move that is not better leaves the best
pub best_kept : (worth : ℕ → ℕ) (place : ℕ) (best r : ℤ) (chosen : ℕ) → worth place ≤ 100 → Answers (worth place) best (pos 101) r → r ≤ℤ best
    → IsBest worth place best chosen → IsBest worth (place + 1) best chosen
best_kept worth place best r chosen few h less old =
    let bottom = h.at_least in
    let here : pos (worth place) ≤ℤ best = omega (arith, ints, clamps) in
    let some : 0 < place = elim (cases_lt 0 place) [
      | inl above ↦ above
      | inr not_above ↦ let none = old.none (omega arith) in
          absurd (omega (arith, ints))
    ] in
    record {
      seen = λ k lt. elim (cases_lt k place)
          [ inl before ↦ old.seen k before | inr last ↦ let at : k ≡ place = omega arith in rw at here ];
      reached = λ _. old.reached some;
      before = λ _. let b = old.before some in omega arith;
      first = old.first;
      none = λ e. absurd (omega arith);
      low = old.low;
      high = old.high;
    }

-- the first element that passes
pub find_first : (p : ℕ → Bool) (xs : List ℕ) (i : ℕ) → i < length xs → p (get_or xs i 0) ≡ true → ((k : ℕ) → k < i → p (get_or xs k 0) ≡ false)
    → find p xs ≡ slice_get xs i
find_first p [] i inside here before = absurd (omega arith)
find_first p (x ∷ xs) zero inside here before = rw here refl
find_first p (x ∷ xs) (suc i) inside here before =
    let not_first : p x ≡ false = before 0 (omega arith) in
    rw not_first (find_first p xs i (omega arith) here (λ k lt. before (suc k) (omega arith)))

-- the same where the turn of the move is counted
abbrev pub worst_at_place : Rules → ℕ → ℕ → AtBound → State → ℕ → ℕ
worst_at_place g role depth at s k = own_worth g role (depth - 1) at s k

best_is_value : (g : Rules) (role depth : ℕ) (at : AtBound) (s : State) (place : ℕ) (best : ℤ) (chosen : ℕ) → IsOpen g depth s → role < g.roles
    → place ≡ length (g.legal s role)
    → IsBest (worst_at_place g role depth at s) place best chosen → (chosen < length (g.legal s role))
    × (worst_at_place g role depth at s chosen ≡ value g role depth at s)
best_is_value g role depth at s place best chosen h known all is =
    let top = value_reached g role depth at s h known in
    let some : 0 < place = omega (arith, top.1) in
    let inside : chosen < length (g.legal s role) = omega (arith, is.before some) in
    let part = worst_le_value g role depth at s chosen h inside in
    let seen = is.seen top.0 (omega (arith, top.1)) in
    let reached = is.reached some in
    let same = top.2 in
    (inside, omega (arith, ints))

either_false : (b c : Bool) (x y : Option ℕ) → b ≡ false → c ≡ false → (if b || c then x else y) ≡ y
either_false b c x y e f = rw (e, f) refl

test_true : (x y : ℕ) → x ≡ y → (x == y) ≡ true
test_true x y e = grind (arith, nat_tests)

test_false : (x y : ℕ) → x < y → (x == y) ≡ false
test_false x y e = grind (arith, nat_tests)

-- the first move that is worth what the state is
pub choice_here : (g : Rules) (role depth : ℕ) (at : AtBound) (s : State) (chosen : ℕ) → IsOpen g depth s → chosen < length (g.legal s role)
    → worst_at_place g role depth at s chosen ≡ value g role depth at s
    → ((k : ℕ) → k < chosen → worst_at_place g role depth at s k < value g role depth at s)
    → choice_of g role depth at s ≡ slice_get (g.legal s role) chosen
choice_here g role zero at s chosen h inside here before = absurd (h.turn refl)
choice_here g role (suc depth) at s chosen h inside here before =
    let same : suc depth - 1 ≡ depth = omega arith in
    let attained : worst g role depth at s (get_or (g.legal s role) chosen 0) ≡ value g role (suc depth) at s = rw same at here in
    let missed : (k : ℕ) → k < chosen → worst g role depth at s (get_or (g.legal s role) k 0) < value g role (suc depth) at s = λ k lt. rw same at
    (before k lt) in
    either_false (g.ended s) (is_stuck g s) None _ h.going h.free
    ∙ (find_first (λ m. worst g role depth at s m == value g role (suc depth) at s) (g.legal s role) chosen inside
    (test_true _ _ attained) (λ k lt. test_false _ _ (missed k lt)))

-- what is best of all moves is worth the value
pub best_found : (g : Rules) (role depth : ℕ) (at : AtBound) (s : State) (best : ℤ) (chosen : ℕ) → IsOpen g depth s → role < g.roles
    → IsBest (worst_at_place g role depth at s) (length (g.legal s role)) best chosen
    → (chosen < length (g.legal s role)) × (best ≡ pos (value g role depth at s))
best_found g role depth at s best chosen h known is =
    let best_one = best_is_value g role depth at s (length (g.legal s role)) best chosen h known refl is in
    let reached = is.reached (omega (arith, best_one.0)) in
    (best_one.0, sym reached ∙ ap (λ (v : ℕ). pos v) best_one.1)

pub choice_found : (g : Rules) (role depth : ℕ) (at : AtBound) (s : State) (place : ℕ) (best : ℤ) (chosen : ℕ) → IsOpen g depth s → role < g.roles
    → place ≡ length (g.legal s role)
    → IsBest (worst_at_place g role depth at s) place best chosen → choice_of g role depth at s ≡ slice_get (g.legal s role) chosen
choice_found g role depth at s place best chosen h known all is =
    let best_one = best_is_value g role depth at s place best chosen h known all is in
    choice_here g role depth at s chosen h best_one.0 best_one.1
    (λ k lt. let less = is.first k lt in let reached = is.reached (omega (arith, best_one.0)) in let same = best_one.1 in omega (arith, ints))

-- a move behind which there is none is worth it, where those before it are not
pub choice_last : (g : Rules) (role depth : ℕ) (at : AtBound) (s : State) (chosen : ℕ) → IsOpen g depth s → role < g.roles
    → chosen < length (g.legal s role)
    → length (g.legal s role) ≤ chosen + 1 → ((k : ℕ) → k < chosen → worst_at_place g role depth at s k < value g role depth at s)
    → choice_of g role depth at s ≡ slice_get (g.legal s role) chosen
choice_last g role depth at s chosen h known inside last before =
    let top = value_reached g role depth at s h known in
    let at_last : top.0 ≡ chosen = elim (cases_lt top.0 chosen)
    [ inl less ↦ let missed = before top.0 less in let same = top.2 in absurd (omega arith) | inr more ↦ omega (arith, top.1) ] in
    choice_here g role depth at s chosen h inside (rw at_last at top.2) before
