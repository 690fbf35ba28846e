-- Lists in order: their parts, and that their members determine them.
use Rattle.std.proofs.Common.{
  ℕ,
  suc,
  ◌<◌,
  Bool,
  true,
  false,
  not,
  cond,
  ◌≡◌,
  ◌⊎◌,
  ◌↔◌,
  inl,
  inr,
  List,
  [],
  ◌∷◌,
  ◌++◌,
  length,
  map,
  refl,
  sym,
  ap,
  subst,
  ◌∙◌,
  arith,
}
use Rattle.std.specs.Prelude.{filter}
use Rattle.statement.specs.Dependence.{IsAmong}
use Rattle.rules_profile.proofs.Facts.{IsAmong-append, IsAmong-append_left}
use Rattle.statement.specs.Printed.{AreInOrder, first_place}
use Rattle.meaning.specs.InOrder.{AreDistinct, IsLess}

pub less_never : (ns : List ℕ) → IsLess ns ns → ⊥
less_never [] h = h
less_never (n ∷ ns) (inl h) = absurd (omega arith)
less_never (n ∷ ns) (inr h) = less_never ns h.1

pub less_trans : (ls ms ns : List ℕ) → IsLess ls ms → IsLess ms ns → IsLess ls ns
less_trans [] ms ns h k = absurd h
less_trans (l ∷ ls) [] ns h k = absurd h
less_trans (l ∷ ls) (m ∷ ms) [] h k = absurd k
less_trans (l ∷ ls) (m ∷ ms) (n ∷ ns) h k = go h k (less_trans ls ms ns)
  where
    go : (l < m) ⊎ ((l ≡ m) × IsLess ls ms) → (m < n) ⊎ ((m ≡ n) × IsLess ms ns) → (IsLess ls ms → IsLess ms ns → IsLess ls ns) → (l < n)
        ⊎ ((l ≡ n) × IsLess ls ns)
    go (inl a) (inl b) more = inl (omega arith)
    go (inl a) (inr b) more = let e = b.0 in inl (omega arith)
    go (inr a) (inl b) more = let e = a.0 in inl (omega arith)
    go (inr a) (inr b) more = inr (a.0 ∙ b.0, more a.1 b.1)

pub order_append : {A : Type 0} (B : A → A → Type 0) (xs ys : List A) → AreInOrder B xs → AreInOrder B ys
    → ((x y : A) → IsAmong x xs → IsAmong y ys → B x y) → AreInOrder B (xs ++ ys)
order_append B [] ys h k cross = k
order_append {A} B (x ∷ xs) ys h k cross = (
  (λ y a. pick y (IsAmong-append y xs ys a)),
  order_append B xs ys h.1 k (λ z y a b. cross z y (inr a) b),
)
  where
    pick : (y : A) → IsAmong y xs ⊎ IsAmong y ys → B x y
    pick y (inl a) = h.0 y a
    pick y (inr a) = cross x y (inl refl) a

-- another order that has each pair that the first has
pub order_other : {A : Type 0} (B C : A → A → Type 0) (xs : List A) → ((x y : A) → IsAmong x xs → IsAmong y xs → B x y → C x y) → AreInOrder B xs
    → AreInOrder C xs
order_other B C [] h k = tt
order_other B C (x ∷ xs) h k = (
  (λ y a. h x y (inl refl) (inr a) (k.0 y a)),
  order_other B C xs (λ y z a b. h y z (inr a) (inr b)) k.1,
)

pub among_map_out : {A C : Type 0} (f : A → C) (y : C) (xs : List A) → IsAmong y (map f xs) → (x : A) × IsAmong x xs × (y ≡ f x)
among_map_out f y [] a = absurd a
among_map_out f y (x ∷ xs) (inl e) = (x, inl refl, e)
among_map_out f y (x ∷ xs) (inr a) = let r = among_map_out f y xs a in (r.0, inr r.1, r.2)

pub among_map_in : {A C : Type 0} (f : A → C) (x : A) (xs : List A) → IsAmong x xs → IsAmong (f x) (map f xs)
among_map_in f x [] a = absurd a
among_map_in f x (y ∷ xs) (inl e) = inl (ap f e)
among_map_in f x (y ∷ xs) (inr a) = inr (among_map_in f x xs a)

pub order_map : {A C : Type 0} (f : A → C) (B : C → C → Type 0) (xs : List A) → AreInOrder (λ x y. B (f x) (f y)) xs → AreInOrder B (map f xs)
order_map f B [] h = tt
order_map {A} {C} f B (x ∷ xs) h = (
  (λ y a. let r = among_map_out f y xs a in subst (λ (z : C). B (f x) z) (sym r.2) (h.0 r.0 r.1)),
  order_map f B xs h.1,
)

pub among_filter : {A : Type 0} (f : A → Bool) (x : A) (xs : List A) → IsAmong x (filter f xs) → IsAmong x xs × (f x ≡ true)
among_filter f x [] a = absurd a
among_filter {A} f x (y ∷ ys) a = go (f y) refl a (among_filter f x ys)
  where
    go : (t : Bool) → f y ≡ t → IsAmong x (cond t (y ∷ filter f ys) (filter f ys)) → (IsAmong x (filter f ys) → IsAmong x ys × (f x ≡ true))
        → IsAmong x (y ∷ ys) × (f x ≡ true)
    go true e (inl s) more = (inl s, subst (λ (z : A). f z ≡ true) (sym s) e)
    go true e (inr k) more = let r = more k in (inr r.0, r.1)
    go false e k more = let r = more k in (inr r.0, r.1)

pub among_filter_in : {A : Type 0} (f : A → Bool) (x : A) (xs : List A) → IsAmong x xs → f x ≡ true → IsAmong x (filter f xs)
among_filter_in f x [] a e = absurd a
among_filter_in {A} f x (y ∷ ys) (inl s) e = let k : f y ≡ true = subst (λ (z : A). f z ≡ true) s e in rw k (inl s)
among_filter_in f x (y ∷ ys) (inr a) e = go (f y) (among_filter_in f x ys a e)
  where
    go : (t : Bool) → IsAmong x (filter f ys) → IsAmong x (cond t (y ∷ filter f ys) (filter f ys))
    go true k = inr k
    go false k = k

pub filter_append : {A : Type 0} (f : A → Bool) (is js : List A) → filter f (is ++ js) ≡ filter f is ++ filter f js
filter_append f [] js = refl
filter_append {A} f (i ∷ is) js = go (f i) (filter_append f is js)
  where
    go : (b : Bool) → filter f (is ++ js) ≡ filter f is ++ filter f js
        → cond b (i ∷ filter f (is ++ js)) (filter f (is ++ js)) ≡ cond b (i ∷ filter f is) (filter f is) ++ filter f js
    go true h = ap (λ (l : List A). i ∷ l) h
    go false h = h

pub filter_all : {A : Type 0} (f : A → Bool) (is : List A) → ((i : A) → IsAmong i is → f i ≡ true) → filter f is ≡ is
filter_all f [] h = refl
filter_all {A} f (i ∷ is) h = let e = h i (inl refl) in rw e (ap (λ (l : List A). i ∷ l) (filter_all f is (λ j a. h j (inr a))))

pub filter_none : {A : Type 0} (f : A → Bool) (is : List A) → ((i : A) → IsAmong i is → f i ≡ false) → filter f is ≡ []
filter_none f [] h = refl
filter_none f (i ∷ is) h = let e = h i (inl refl) in rw e (filter_none f is (λ j a. h j (inr a)))

pub order_filter : {A : Type 0} (B : A → A → Type 0) (f : A → Bool) (xs : List A) → AreInOrder B xs → AreInOrder B (filter f xs)
order_filter B f [] h = tt
order_filter B f (x ∷ xs) h = go (f x) (order_filter B f xs h.1)
  where
    go : (t : Bool) → AreInOrder B (filter f xs) → AreInOrder B (cond t (x ∷ filter f xs) (filter f xs))
    go true k = ((λ y a. h.0 y (among_filter f y xs a).0), k)
    go false k = k

-- a list of which those that pass a test stand first is the list of these and then of the others
pub parted : {A : Type 0} (B : A → A → Type 0) (f : A → Bool) (xs : List A) → AreInOrder B xs
    → ((x y : A) → IsAmong x xs → IsAmong y xs → f x ≡ false → f y ≡ true → B x y → ⊥)
    → xs ≡ filter f xs ++ filter (λ (x : A). not (f x)) xs
parted B f [] h never = refl
parted {A} B f (x ∷ xs) h never = go (f x) refl (parted B f xs h.1 (λ y z a b. never y z (inr a) (inr b)))
  where
    behind : f x ≡ false → (y : A) → IsAmong y xs → (b : Bool) → f y ≡ b → b ≡ false
    behind e y a true k = absurd (never x y (inl refl) (inr a) e k (h.0 y a))
    behind e y a false k = refl

    go : (b : Bool) → f x ≡ b → xs ≡ filter f xs ++ filter (λ (y : A). not (f y)) xs
        → x ∷ xs
        ≡ cond b (x ∷ filter f xs) (filter f xs) ++ cond (not b) (x ∷ filter (λ (y : A). not (f y)) xs) (filter (λ (y : A). not (f y)) xs)
    go true e more = ap (λ (l : List A). x ∷ l) more
    go false e more =
        let one : filter f xs ≡ [] = filter_none f xs (λ y a. behind e y a (f y) refl) in
        let two : filter (λ (y : A). not (f y)) xs ≡ xs
        = filter_all (λ (y : A). not (f y)) xs (λ y a. ap not (behind e y a (f y) refl)) in
        cc

-- of two members, one stands before the other, or they are one
pub order_cases : {A : Type 0} (B : A → A → Type 0) (xs : List A) → AreInOrder B xs → (x y : A) → IsAmong x xs → IsAmong y xs → (x ≡ y)
    ⊎ (B x y ⊎ B y x)
order_cases B [] h x y a b = absurd a
order_cases B (z ∷ xs) h x y (inl a) (inl b) = inl (a ∙ sym b)
order_cases {A} B (z ∷ xs) h x y (inl a) (inr b) = inr (inl (subst (λ (u : A). B u y) (sym a) (h.0 y b)))
order_cases {A} B (z ∷ xs) h x y (inr a) (inl b) = inr (inr (subst (λ (u : A). B u x) (sym b) (h.0 x a)))
order_cases B (z ∷ xs) h x y (inr a) (inr b) = order_cases B xs h.1 x y a b

-- two lists in one strict order that have the same members are one
pub one_list : {A : Type 0} (B : A → A → Type 0) → ((x : A) → B x x → ⊥) → ((x y z : A) → B x y → B y z → B x z)
    → (xs ys : List A) → AreInOrder B xs → AreInOrder B ys → ((x : A) → IsAmong x xs ↔ IsAmong x ys) → xs ≡ ys
one_list B never trans [] [] h k same = refl
one_list B never trans [] (y ∷ ys) h k same = absurd ((same y).1 (inl refl))
one_list B never trans (x ∷ xs) [] h k same = absurd ((same x).0 (inl refl))
one_list {A} B never trans (x ∷ xs) (y ∷ ys) h k same =
    let e = first ((same x).0 (inl refl)) ((same y).1 (inl refl)) in
    let f = one_list B never trans xs ys h.1 k.1 (λ z. (there e z, back e z)) in
    cc
  where
    first : (x ≡ y) ⊎ IsAmong x ys → (y ≡ x) ⊎ IsAmong y xs → x ≡ y
    first (inl e) b = e
    first (inr a) (inl e) = sym e
    first (inr a) (inr b) = absurd (never x (trans x y x (h.0 y b) (k.0 x a)))

    there : x ≡ y → (z : A) → IsAmong z xs → IsAmong z ys
    there e z a = pick ((same z).0 (inr a))
      where
        pick : (z ≡ y) ⊎ IsAmong z ys → IsAmong z ys
        pick (inl f) = absurd (never x (subst (λ (u : A). B x u) (f ∙ sym e) (h.0 z a)))
        pick (inr b) = b

    back : x ≡ y → (z : A) → IsAmong z ys → IsAmong z xs
    back e z a = pick ((same z).1 (inr a))
      where
        pick : (z ≡ x) ⊎ IsAmong z xs → IsAmong z xs
        pick (inl f) = absurd (never y (subst (λ (u : A). B y u) (f ∙ e) (k.0 z a)))
        pick (inr b) = b

-- Places by a test of equality, which go up along a list without repeats.

abbrev pub IsTest : {A : Type 0} → (A → A → Bool) → Type 0
IsTest {A} test = (x y : A) → (test x y ≡ true) ↔ (x ≡ y)

pub place_here : {A : Type 0} (test : A → A → Bool) → IsTest test → (x : A) (xs : List A) → first_place (test x) (x ∷ xs) ≡ 0
place_here test t x xs = let e = (t x x).1 refl in rw e refl

pub place_later : {A : Type 0} (test : A → A → Bool) → IsTest test → (x y : A) (xs : List A) → (x ≡ y → ⊥)
    → first_place (test y) (x ∷ xs) ≡ suc (first_place (test y) xs)
place_later test t x y xs differ = go (test y x) refl
  where
    go : (b : Bool) → test y x ≡ b → cond b 0 (suc (first_place (test y) xs)) ≡ suc (first_place (test y) xs)
    go true e = absurd (differ (sym ((t y x).0 e)))
    go false e = refl

abbrev pub PlaceBefore : {A : Type 0} → (A → A → Bool) → List A → A → A → Type 0
PlaceBefore test all x y = first_place (test x) all < first_place (test y) all

places_lifted : {A : Type 0} (test : A → A → Bool) → IsTest test → (x : A) (all xs : List A) → ((y : A) → IsAmong y xs → x ≡ y → ⊥)
    → AreInOrder (PlaceBefore test all) xs → AreInOrder (PlaceBefore test (x ∷ all)) xs
places_lifted test t x all [] differ up = tt
places_lifted test t x all (z ∷ zs) differ up = (
  (λ y a.
      let lt = up.0 y a in
      let m = place_later test t x z all (differ z (inl refl)) in
      let n = place_later test t x y all (differ y (inr a)) in omega arith),
  places_lifted test t x all zs (λ y a. differ y (inr a)) up.1,
)

pub places_up : {A : Type 0} (test : A → A → Bool) → IsTest test → (all : List A) → AreDistinct all → AreInOrder (PlaceBefore test all) all
places_up test t [] d = tt
places_up test t (x ∷ xs) d = (
  (λ y a.
      let m = place_here test t x xs in
      let n = place_later test t x y xs (d.0 y a) in omega arith),
  places_lifted test t x xs xs d.0 (places_up test t xs d.1),
)

-- a member has its place in a longer list too
pub place_in_front : {A : Type 0} (test : A → A → Bool) → IsTest test → (x : A) (xs more : List A) → IsAmong x xs
    → first_place (test x) (xs ++ more) ≡ first_place (test x) xs
place_in_front test t x [] more a = absurd a
place_in_front {A} test t x (y ∷ xs) more (inl s) =
    let e : test x y ≡ true = (t x y).1 s in rw e refl
place_in_front test t x (y ∷ xs) more (inr a) = go (test x y) (place_in_front test t x xs more a)
  where
    go : (b : Bool) → first_place (test x) (xs ++ more) ≡ first_place (test x) xs
        → cond b 0 (suc (first_place (test x) (xs ++ more))) ≡ cond b 0 (suc (first_place (test x) xs))
    go true e = refl
    go false e = ap suc e

pub distinct_front : {A : Type 0} (xs more : List A) → AreDistinct (xs ++ more) → AreDistinct xs
distinct_front [] more d = tt
distinct_front (x ∷ xs) more d = ((λ y a. d.0 y (IsAmong-append_left y xs more a)), distinct_front xs more d.1)

pub place_below : {A : Type 0} (test : A → A → Bool) → IsTest test → (x : A) (xs : List A) → IsAmong x xs → first_place (test x) xs < length xs
place_below test t x [] a = absurd a
place_below test t x (y ∷ xs) a = go (test x y) refl a (place_below test t x xs)
  where
    go : (b : Bool) → test x y ≡ b → (x ≡ y) ⊎ IsAmong x xs → (IsAmong x xs → first_place (test x) xs < length xs)
        → cond b 0 (suc (first_place (test x) xs)) < suc (length xs)
    go true e k more = omega arith
    go false e (inl s) more = let f = (t x y).1 s in absurd cc
    go false e (inr k) more = let h = more k in omega arith
