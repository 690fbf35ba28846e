-- Runs of joint moves, and the least of what they are worth.
use Rattle.std.proofs.Common.{
  ◌≡◌,
  ℕ,
  ◌<◌,
  ◌≤◌,
  ◌++◌,
  Bool,
  true,
  false,
  List,
  [],
  ◌∷◌,
  length,
  take,
  zero,
  suc,
  refl,
  ap,
  subst,
  sym,
  ◌∙◌,
  arith,
  get_or,
  inl,
  inr,
}
use Rattle.std.proofs.Common.{length-append}
use Rattle.std.proofs.lemmas.Bool.{cases_lt}
use Rattle.std.proofs.lemmas.List.Elements.{All-nil, All-cons, All-append}
use Rattle.std.proofs.lemmas.List.{length-take-le, map-append, length-map, get_or-map}
use Rattle.std.specs.Bool.{OnTrue, OnFalse}
use Rattle.std.specs.Prelude.{All, map, min}
use Rattle.smallvec.specs.SmallVec.{SmallVec}
use Rattle.statement.specs.Rules.{Rules, Turn, IsTurn}
use Rattle.statement.specs.Value.{least}
use Rattle.maximin.specs.declared.run.Run.{Run}
use Rattle.maximin.specs.Judged.{CanBeStepped}
use Rattle.maximin.specs.Run.{IsRunOf, turns_in}

-- what holds of each turn holds of each joint move
pub known_each : (P : Turn → Type 0) (xs : List (SmallVec ℕ)) → All P (map (λ (j : SmallVec ℕ). j.items) xs) → All (λ (j : SmallVec ℕ). P j.items) xs
known_each P [] h k d below = absurd (omega arith)
known_each P (x ∷ xs) h zero d below = h 0 [] (omega arith)
known_each P (x ∷ xs) h (suc k) d below = known_each P xs (λ i e lt. h (suc i) e (omega arith)) k d (omega arith)

-- the joint moves of a run
pub steps_of : (g : Rules) (r : Run) (joints : List (SmallVec ℕ)) → joints ≡ r.joints.items → IsRunOf g.roles r → 0 < r.count
    → All (IsTurn g) (turns_in r) → CanBeStepped g (take r.count joints)
steps_of g r joints e h some known =
    let size = h.size in
    let few = h.few in
    let count : length (take r.count joints) ≡ r.count = length-take-le r.count joints (omega (arith, ap (λ (js : List (SmallVec ℕ)). length js) e)) in
    record {
      some = omega arith;
      few = omega arith;
      known = known_each (IsTurn g) (take r.count joints) (rw e known);
    }

-- one joint move of the game more
pub turn_added : (P : Turn → Type 0) (ts new : List Turn) (t : Turn) → new ≡ ts ++ t ∷ [] → All P ts → P t → All P new
turn_added P ts new t e h here = subst (All P) (sym e) (All-append P ts (t ∷ []) h (All-cons P t [] here (All-nil P)))

pub some_taken : (xs : List (SmallVec ℕ)) (n : ℕ) → 0 < n → 0 < length xs → 0 < length (map (λ (j : SmallVec ℕ). j.items) (take n xs))
some_taken xs zero some there = absurd (omega arith)
some_taken [] (suc n) some there = absurd (omega arith)
some_taken (x ∷ xs) (suc n) some there = omega arith

-- the states after some joint moves
pub states_after : (after : Turn → List ℕ) (xs : List (SmallVec ℕ))
    → map (λ (j : SmallVec ℕ). after j.items) xs ≡ map after (map (λ (j : SmallVec ℕ). j.items) xs)
states_after after [] = refl
states_after after (x ∷ xs) = ap (λ (ss : List (List ℕ)). after x.items ∷ ss) (states_after after xs)

-- what the states after some joint moves are worth
pub worths_after : (worth : List ℕ → ℕ) (after : Turn → List ℕ) (xs : List (SmallVec ℕ))
    → map worth (map (λ (j : SmallVec ℕ). after j.items) xs) ≡ map (λ t. worth (after t)) (map (λ (j : SmallVec ℕ). j.items) xs)
worths_after worth after [] = refl
worths_after worth after (x ∷ xs) = ap (λ (ns : List ℕ). worth (after x.items) ∷ ns) (worths_after worth after xs)

-- the least of a list is at most each of its parts, and stands in it
least_below : (xs : List ℕ) (k : ℕ) → k < length xs → least xs ≤ get_or xs k 0
least_below [] k below = absurd (omega arith)
least_below (x ∷ []) zero below = omega arith
least_below (x ∷ []) (suc k) below = absurd (omega arith)
least_below (x ∷ y ∷ ys) zero below = omega arith
least_below (x ∷ y ∷ ys) (suc k) below = let rest = least_below (y ∷ ys) k (omega arith) in omega arith

least_reached : (xs : List ℕ) → 0 < length xs → (k : ℕ) × (k < length xs) × (get_or xs k 0 ≡ least xs)
least_reached [] some = absurd (omega arith)
least_reached (x ∷ []) some = (0, omega arith, refl)
least_reached (x ∷ y ∷ ys) some =
    let rest : (k : ℕ) × (k < length (y ∷ ys)) × (get_or (y ∷ ys) k 0 ≡ least (y ∷ ys)) = least_reached (y ∷ ys) (omega arith) in
    elim (cases_lt x (least (y ∷ ys))) [
      | inl less ↦ (0, omega arith, omega arith)
      | inr more ↦ (suc rest.0, omega (arith, rest.1), rest.2 ∙ omega arith)
    ]

-- the same of what states are worth
pub least_worth_below : (worth : List ℕ → ℕ) (states : List (List ℕ)) (k : ℕ) → k < length states
    → least (map worth states) ≤ worth (get_or states k [])
least_worth_below worth states k below =
    let size = length-map states worth in
    rw (get_or-map worth states k [] 0 below) at (least_below (map worth states) k (omega arith))

pub least_worth_reached : (worth : List ℕ → ℕ) (states : List (List ℕ)) → 0 < length states
    → (k : ℕ) × (k < length states) × (worth (get_or states k []) ≡ least (map worth states))
least_worth_reached worth states some =
    let size = length-map states worth in
    let top = least_reached (map worth states) (omega arith) in
    let inside : top.0 < length states = omega (arith, top.1) in
    (top.0, inside, rw (get_or-map worth states top.0 [] 0 inside) at top.2)

pub least_joined : (xs ys : List ℕ) → 0 < length xs → 0 < length ys → least (xs ++ ys) ≡ min (least xs) (least ys)
least_joined [] ys some more = absurd (omega arith)
least_joined (x ∷ []) [] some more = absurd (omega arith)
least_joined (x ∷ []) (y ∷ ys) some more = refl
least_joined (x ∷ z ∷ zs) ys some more = let rest = least_joined (z ∷ zs) ys (omega arith) more in omega (arith, rest)

-- the least worth of the turns of a run and of those behind it
pub least_behind : (worth : Turn → ℕ) (all run : List Turn) (next : Turn) (behind : List Turn) → all ≡ run ++ next ∷ behind → 0 < length run
    → least (map worth all) ≡ min (least (map worth run)) (least (map worth (next ∷ behind)))
least_behind worth all [] next behind e some = absurd (omega arith)
least_behind worth all (t ∷ ts) next behind e some =
    ap (λ (turns : List Turn). least (map worth turns)) e ∙ ap least (map-append worth (t ∷ ts) (next ∷ behind))
    ∙ least_joined (map worth (t ∷ ts)) (map worth (next ∷ behind)) (omega arith) (omega arith)

-- no turn of a run is worth less than the least of all, whether or not there are turns behind it
pub least_of_run : (worth : Turn → ℕ) (all run : List Turn) (next : Turn) (behind : List Turn) (more : Bool)
    → OnTrue more (all ≡ run ++ next ∷ behind) → OnFalse more (all ≡ run) → 0 < length run → least (map worth all) ≤ least (map worth run)
least_of_run worth all run next behind true h k some = omega (arith, least_behind worth all run next behind h some)
least_of_run worth all run next behind false h k some = omega (arith, ap (λ (turns : List Turn). least (map worth turns)) k)

-- behind a run fewer turns are left
pub fewer_behind : (now next : Turn) (later run behind : List Turn) → now ∷ later ≡ run ++ next ∷ behind → 0 < length run
    → length behind < length later
fewer_behind now next later run behind e some = omega (arith, ap length e, length-append run (next ∷ behind))
