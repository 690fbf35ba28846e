-- The own moves of a role where no other role has a choice.
use Rattle.std.proofs.Common.{
  ◌≡◌,
  ℕ,
  ◌+◌,
  ◌-◌,
  ◌<◌,
  ◌≤◌,
  ◌++◌,
  List,
  [],
  ◌∷◌,
  length,
  take,
  drop,
  get_or,
  zero,
  suc,
  refl,
  sym,
  ap,
  ◌∙◌,
  arith,
  inl,
  inr,
  get_or-set_same,
  get_or-set_other,
}
use Rattle.std.proofs.Math.ListN.{set, length-set}
use Rattle.std.proofs.lemmas.Bool.{cases_eq, cases_lt}
use Rattle.std.proofs.lemmas.Int.{ints, clamps}
use Rattle.std.proofs.lemmas.List.{take_more, get_or-drop, get_or-take, length-drop, length-take-le, map-append, length-map, get_or-map}
use Rattle.std.specs.Int.{int_min, int_max}
use Rattle.std.specs.Prelude.{ℤ, pos, ◌≤ℤ◌, map}
use Rattle.statement.specs.declared.at_bound.AtBound.{AtBound}
use Rattle.statement.specs.Rules.{Rules, State, Turn, IsTurn, all_picks, choices, turns_with}
use Rattle.game.specs.Value.{Answers}
use Rattle.statement.specs.Value.{value, worst, least, greatest}
use Rattle.maximin.specs.Alone.{IsAlone}
use Rattle.maximin.specs.Turns.{StandsAt}
use Rattle.maximin.proofs.Choices.{length-choices, choices_own, choices_other}
use Rattle.maximin.proofs.Windows.{le_greatest, greatest_reached, raised_most, raised_seen}

-- a joint move with another own move
pub own_turn : (g : Rules) (j : Turn) (role own : ℕ) → role < g.roles → own < g.moves role → IsTurn g j → IsTurn g (set j role own)
own_turn g j role own below known h = record {
  of_each_role = length-set j role own ∙ h.of_each_role;
  each_known = λ q lt. elim (cases_eq q role) [
    | inl same ↦ let here : role < length j = omega (arith, h.of_each_role) in rw (same, get_or-set_same) known
    | inr other ↦ rw get_or-set_other (h.each_known q lt)
  ];
}

-- one own move more
pub own_more : (f : ℕ → Turn) (legal : List ℕ) (p n n' own : ℕ) (old new : List Turn) → p + n < length legal → get_or legal (p + n) 0 ≡ own
    → n' ≡ n + 1
    → old ≡ map f (take n (drop p legal)) → new ≡ old ++ f own ∷ [] → new ≡ map f (take n' (drop p legal))
own_more f legal p n n' own old new inside here next before added =
    let rest = length-drop p legal in
    let last : get_or (drop p legal) n 0 ≡ own = get_or-drop p legal n 0 ∙ here in
    let more : take n' (drop p legal) ≡ take n (drop p legal) ++ own ∷ [] =
    ap (λ (k : ℕ). take k (drop p legal)) next ∙ take_more (drop p legal) n 0 (omega arith) ∙ ap (λ (m : ℕ). take n (drop p legal) ++ m ∷ []) last in
    added ∙ ap (λ (ts : List Turn). ts ++ f own ∷ []) before ∙ sym (ap (map f) more ∙ map-append f (take n (drop p legal)) (own ∷ []))

-- where each list has one element, there is one pick
picks_single : (lists : List (List ℕ)) (joint : Turn) → length joint ≡ length lists
    → ((q : ℕ) → q < length lists → get_or lists q [] ≡ get_or joint q 0 ∷ [])
    → all_picks lists ≡ joint ∷ []
picks_single [] [] size each = refl
picks_single [] (x ∷ j) size each = absurd (omega arith)
picks_single (xs ∷ rest) [] size each = absurd (omega arith)
picks_single (xs ∷ rest) (x ∷ j) size each =
    let here : xs ≡ x ∷ [] = each 0 (omega arith) in
    let below : all_picks rest ≡ j ∷ [] = picks_single rest j (omega arith) (λ q lt. each (suc q) (omega arith)) in
    rw (here, below) refl

pub one_element : (xs : List ℕ) (k : ℕ) → k < length xs → length xs ≤ 1 → xs ≡ get_or xs k 0 ∷ []
one_element [] k inside few = absurd (omega arith)
one_element (x ∷ []) zero inside few = refl
one_element (x ∷ []) (suc k) inside few = absurd (omega arith)
one_element (x ∷ y ∷ ys) k inside few = absurd (omega arith)

-- each own move is in one joint move, with the moves that the others have at any cursor
alone_turns : (g : Rules) (s : State) (role own : ℕ) (places : List ℕ) (joint : Turn) → role < g.roles → IsAlone g s role
    → StandsAt (choices g s role own) places joint
    → (m : ℕ) → turns_with g s role m ≡ set joint role m ∷ []
alone_turns g s role own places joint known alone h m =
    let count = length-choices g s role own in
    let size = length-choices g s role m in
    let long : role < length joint = omega (arith, h.move_for_each) in
    picks_single (choices g s role m) (set joint role m) (length-set joint role m ∙ h.move_for_each ∙ count ∙ sym size)
    (λ q lt. elim (cases_eq q role) [
      | inl same ↦ rw (choices_own g s role m q (omega arith) same) (rw (same, get_or-set_same) refl)
      | inr other ↦
          let below : q < g.roles = omega arith in
          let list = choices_other g s role own q below other in
          let inside = rw list at (h.in_list q (omega arith)) in
          let there : get_or joint q 0 ≡ get_or (g.legal s q) (get_or places q 0) 0 = rw list at (h.at_place q (omega arith)) in
          choices_other g s role m q below other ∙ one_element (g.legal s q) (get_or places q 0) inside (alone q below other)
          ∙ ap (λ (x : ℕ). x ∷ []) (sym (rw get_or-set_other there))
    ])

-- it is worth what the state after that is
pub alone_worst : (g : Rules) (role depth : ℕ) (at : AtBound) (s : State) (own : ℕ) (places : List ℕ) (joint : Turn) → role < g.roles
    → IsAlone g s role
    → StandsAt (choices g s role own) places joint → (m : ℕ) → worst g role depth at s m ≡ value g role depth at (g.after s (set joint role m))
alone_worst g role depth at s own places joint known alone h m =
    ap (λ (ts : List Turn). least (map (λ j. value g role depth at (g.after s j)) ts)) (alone_turns g s role own places joint known alone h m)

-- what the states after own moves are worth
pub own_worths : (worth : Turn → ℕ) (turn : ℕ → Turn) (own_worth : ℕ → ℕ) → ((m : ℕ) → own_worth m ≡ worth (turn m)) → (ms : List ℕ)
    → map worth (map turn ms) ≡ map own_worth ms
own_worths worth turn own_worth same [] = refl
own_worths worth turn own_worth same (m ∷ ms) =
    ap (λ (x : ℕ). x ∷ map worth (map turn ms)) (sym (same m)) ∙ ap (λ (xs : List ℕ). own_worth m ∷ xs) (own_worths worth turn own_worth same ms)

-- each number of a part of a list is at most the greatest of the part, which is a number of the list
part_below : (xs : List ℕ) (p n k : ℕ) → p + n ≤ length xs → p ≤ k → k < p + n → get_or xs k 0 ≤ greatest (take n (drop p xs))
part_below xs p n k within from to =
    let rest = length-drop p xs in
    let size = length-take-le n (drop p xs) (omega arith) in
    let i = k - p in
    let below : get_or (take n (drop p xs)) i 0 ≤ greatest (take n (drop p xs)) = le_greatest (take n (drop p xs)) i (omega arith) in
    let there : get_or (take n (drop p xs)) i 0 ≡ get_or xs (p + i) 0 = get_or-take n (drop p xs) i 0 (omega arith) ∙ get_or-drop p xs i 0 in
    let at : p + i ≡ k = omega arith in
    rw (there, at) at below

part_at_most : (xs : List ℕ) (p n : ℕ) → 0 < n → p + n ≤ length xs → greatest (take n (drop p xs)) ≤ greatest xs
part_at_most xs p n some within =
    let rest = length-drop p xs in
    let size = length-take-le n (drop p xs) (omega arith) in
    let top = greatest_reached (take n (drop p xs)) (omega arith) in
    let there : get_or (take n (drop p xs)) top.0 0 ≡ get_or xs (p + top.0) 0 = get_or-take n (drop p xs) top.0 0 (omega (arith, top.1))
    ∙ get_or-drop p xs top.0 0 in
    let part = le_greatest xs (p + top.0) (omega (arith, top.1)) in
    let same = top.2 in
    omega arith

-- the best of a run of own moves raises the lower bound
pub run_seen : (xs : List ℕ) (p n : ℕ) (b best r : ℤ) → p + n ≤ length xs → ((k : ℕ) → k < p → int_min (pos (get_or xs k 0)) b ≤ℤ best)
    → int_min (pos (greatest (take n (drop p xs)))) b ≤ℤ r → (k : ℕ) → k < p + n → int_min (pos (get_or xs k 0)) b ≤ℤ int_max best r
run_seen xs p n b best r within seen h k lt = elim (cases_lt k p) [
  | inl before ↦ raised_seen (get_or xs k 0) b best r (seen k before)
  | inr here ↦
      let part = part_below xs p n k within here lt in
      omega (arith, ints, clamps)
]

pub run_most : (xs : List ℕ) (p n : ℕ) (a b best r : ℤ) → 0 < n → p + n ≤ length xs → best ≤ℤ int_max (pos (greatest xs)) a
    → Answers (greatest (take n (drop p xs))) best b r → int_max best r ≤ℤ int_max (pos (greatest xs)) a
run_most xs p n a b best r some within most h =
    raised_most (greatest xs) (greatest (take n (drop p xs))) a b best r (part_at_most xs p n some within) most h

-- the greatest of a list that was seen to its end
pub run_end : (xs : List ℕ) (p : ℕ) (b best : ℤ) → 0 < length xs → length xs ≤ p → ((k : ℕ) → k < p → int_min (pos (get_or xs k 0)) b ≤ℤ best)
    → int_min (pos (greatest xs)) b ≤ℤ best
run_end xs p b best some all seen =
    let top = greatest_reached xs some in
    rw top.2 at (seen top.0 (omega (arith, top.1)))

-- the same of what states are worth
pub greatest_worth_above : (worth : List ℕ → ℕ) (states : List (List ℕ)) (k : ℕ) → k < length states
    → worth (get_or states k []) ≤ greatest (map worth states)
greatest_worth_above worth states k below =
    let size = length-map states worth in
    rw (get_or-map worth states k [] 0 below) at (le_greatest (map worth states) k (omega arith))

pub greatest_worth_reached : (worth : List ℕ → ℕ) (states : List (List ℕ)) → 0 < length states
    → (k : ℕ) × (k < length states) × (worth (get_or states k []) ≡ greatest (map worth states))
greatest_worth_reached worth states some =
    let size = length-map states worth in
    let top = greatest_reached (map worth states) (omega arith) in
    let inside : top.0 < length states = omega (arith, top.1) in
    (top.0, inside, rw (get_or-map worth states top.0 [] 0 inside) at top.2)

pub map_part : (f : ℕ → ℕ) (p n : ℕ) (xs : List ℕ) → map f (take n (drop p xs)) ≡ take n (drop p (map f xs))
map_part f zero n xs = map_front f n xs
  where
    map_front : (f : ℕ → ℕ) (n : ℕ) (xs : List ℕ) → map f (take n xs) ≡ take n (map f xs)
    map_front f zero xs = refl
    map_front f (suc n) [] = refl
    map_front f (suc n) (x ∷ xs) = ap (λ (ys : List ℕ). f x ∷ ys) (map_front f n xs)
map_part f (suc p) zero [] = refl
map_part f (suc p) (suc n) [] = refl
map_part f (suc p) n (x ∷ xs) = map_part f p n xs
