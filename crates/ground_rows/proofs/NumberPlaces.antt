-- Where numbers stand among numbers of which each stands once.
use Rattle.std.proofs.Common.{ℕ, zero, suc, ◌<◌, ◌≤◌, ◌≡◌, Bool, true, false, cond, ◌||◌, List, [], ◌∷◌, length, Option, Some, None, nat_eq, get_or, refl, sym, ap, subst, ◌∙◌, arith}
use Rattle.std.specs.List.{list_any, IsDistinct, AllByRecursion}
use Rattle.std.specs.Prelude.{slice_get}
use Rattle.std.proofs.lemmas.Bool.Decides.{nat_tests}
use Rattle.statement.specs.Printed.{first_place}
use Rattle.ground_matching.specs.Plans.{number_in}
use Rattle.ground_rows.specs.Steps.{place_in}

same_self : (n : ℕ) → nat_eq n n ≡ true
same_self n = grind (arith, nat_tests)

turned : (m n : ℕ) → nat_eq m n ≡ false → nat_eq n m ≡ false
turned m n e = grind (arith, nat_tests)

some_number : (a b : ℕ) → Some a ≡ Some b → a ≡ b
some_number a b e = cc

-- what holds of all numbers holds of each
all_at : (P : ℕ → Type 0) (ns : List ℕ) → AllByRecursion P ns → (i k : ℕ) → slice_get ns i ≡ Some k → P k
all_at P [] all i k e = absurd cc
all_at P (n ∷ ns) all zero k e = subst P (some_number n k e) all.0
all_at P (n ∷ ns) all (suc i) k e = all_at P ns all.1 i k e

-- each stands where it is found
pub place_found : (ns : List ℕ) → IsDistinct nat_eq ns → (i k : ℕ) → slice_get ns i ≡ Some k → first_place (nat_eq k) ns ≡ i
unfolding IsDistinct
place_found [] d i k e = absurd cc
place_found (n ∷ ns) d zero k e =
    let same : nat_eq k n ≡ true = ap (nat_eq k) (some_number n k e) ∙ same_self k in rw same refl
place_found (n ∷ ns) d (suc i) k e =
    let other : nat_eq k n ≡ false = turned n k (all_at (λ y. nat_eq n y ≡ false) ns d.0 i k e) in
    let more = place_found ns d.1 i k e in rw other (ap suc more)

-- what stands at a place is got there
pub got_at : (xs : List ℕ) (i n : ℕ) → i < length xs → n ≡ get_or xs i n → slice_get xs i ≡ Some n
got_at [] i n h e = absurd (let bad : ⊥ = omega (arith, h) in bad)
got_at (x ∷ xs) zero n h e = ap Some (sym e)
got_at (x ∷ xs) (suc i) n h e = got_at xs i n (omega (arith, h)) e

some_at : (ns : List ℕ) (i : ℕ) → i < length ns → (k : ℕ) × (slice_get ns i ≡ Some k)
some_at [] i h = absurd (let bad : ⊥ = omega (arith, h) in bad)
some_at (n ∷ ns) zero h = (n, refl)
some_at (n ∷ ns) (suc i) h = some_at ns i (omega (arith, h))

none_behind : (ns : List ℕ) (i : ℕ) → length ns ≤ i → slice_get ns i ≡ None
none_behind [] zero h = refl
none_behind [] (suc i) h = refl
none_behind (n ∷ ns) zero h = absurd (let bad : ⊥ = omega (arith, h) in bad)
none_behind (n ∷ ns) (suc i) h = none_behind ns i (omega (arith, h))

pub place_within : (ns : List ℕ) → IsDistinct nat_eq ns → (o : Option ℕ) (i : ℕ) → o ≡ Some i → i < length ns → Some i ≡ place_in ns (number_in ns o)
place_within ns d o i e less =
    let k = some_at ns i less in
    ap Some (sym (place_found ns d i k.0 k.1)) ∙ ap (place_in ns) (sym (ap (number_in ns) e ∙ k.1))

pub place_behind : (ns : List ℕ) (o : Option ℕ) (i : ℕ) → o ≡ Some i → length ns ≤ i → None ≡ place_in ns (number_in ns o)
place_behind ns o i e more = ap (place_in ns) (sym (ap (number_in ns) e ∙ none_behind ns i more))

-- a number that is not among them stands behind them
pub is_there : (ns : List ℕ) (k : ℕ) → first_place (nat_eq k) ns < length ns → list_any (nat_eq k) ns ≡ true
is_there [] k h = absurd (let bad : ⊥ = omega (arith, h) in bad)
is_there (n ∷ ns) k h = go (nat_eq k n) h (is_there ns k)
  where
    go : (b : Bool) → cond b 0 (suc (first_place (nat_eq k) ns)) < suc (length ns)
        → (first_place (nat_eq k) ns < length ns → list_any (nat_eq k) ns ≡ true) → (b || list_any (nat_eq k) ns) ≡ true
    go true less more = refl
    go false less more = more (omega (arith, less))

pub is_nowhere : (ns : List ℕ) (k : ℕ) → length ns ≤ first_place (nat_eq k) ns → list_any (nat_eq k) ns ≡ false
is_nowhere [] k h = refl
is_nowhere (n ∷ ns) k h = go (nat_eq k n) h (is_nowhere ns k)
  where
    go : (b : Bool) → suc (length ns) ≤ cond b 0 (suc (first_place (nat_eq k) ns))
        → (length ns ≤ first_place (nat_eq k) ns → list_any (nat_eq k) ns ≡ false) → (b || list_any (nat_eq k) ns) ≡ false
    go true more rest = absurd (let bad : ⊥ = omega (arith, more) in bad)
    go false more rest = rest (omega (arith, more))

-- where a place is told, it is that of a number
pub record IsPlaceOf (ns : List ℕ) (o : Option ℕ) (i : ℕ) : Type 0 where
  pub number : ℕ
  pub is : o ≡ Some number
  pub place : i ≡ first_place (nat_eq number) ns

pub place_of : (ns : List ℕ) (o : Option ℕ) (i : ℕ) → place_in ns o ≡ Some i → IsPlaceOf ns o i
place_of ns None i e = absurd cc
place_of ns (Some k) i e = record { number = k; is = refl; place = sym (some_number (first_place (nat_eq k) ns) i e) }
