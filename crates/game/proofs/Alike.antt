-- What is made of a list by two functions that agree on its elements.
use Rattle.std.proofs.Common.{
  ℕ,
  ◌<◌,
  ◌≡◌,
  Bool,
  true,
  false,
  cond,
  ◌||◌,
  List,
  [],
  ◌∷◌,
  map,
  get_or,
  refl,
  sym,
  ap,
  subst,
  ◌∙◌,
  arith,
  Option,
  Some,
  None,
}
use Rattle.std.specs.Prelude.{All, IfSome, filter, find}
use Rattle.std.specs.Option.{option_map_or}
use Rattle.std.specs.List.{flat_map, list_any, range_with_len}
use Rattle.std.proofs.lemmas.List.Elements.{All-head, All-tail, All-nil, All-cons, All-append}
use Rattle.std.proofs.lemmas.List.FromFn.{length-range_with_len, get_or-range_with_len}

-- what holds of each number below n
pub all_below : (P : ℕ → Type 0) (n : ℕ) → ((k : ℕ) → k < n → P k) → All P (range_with_len 0 n)
all_below P n h k d lt =
    let size = length-range_with_len 0 n in
    let below : k < n = omega arith in
    let at : get_or (range_with_len 0 n) k d ≡ k = get_or-range_with_len 0 n k d below ∙ omega arith in
    subst P (sym at) (h k below)

pub each_below : (P : ℕ → Type 0) (n : ℕ) → All P (range_with_len 0 n) → (k : ℕ) → k < n → P k
each_below P n h k below =
    let size = length-range_with_len 0 n in
    let at : get_or (range_with_len 0 n) k 0 ≡ k = get_or-range_with_len 0 n k 0 below ∙ omega arith in
    subst P at (h k 0 (omega arith))

pub maps_alike : {X Y : Type 0} (f g : X → Y) (xs : List X) → All (λ x. f x ≡ g x) xs → map f xs ≡ map g xs
maps_alike f g [] h = refl
maps_alike {X} {Y} f g (x ∷ xs) h =
    let P = λ (y : X). f y ≡ g y in
    ap (λ (y : Y). y ∷ map f xs) (All-head P x xs h) ∙ ap (λ (ys : List Y). g x ∷ ys) (maps_alike f g xs (All-tail P x xs h))

pub filters_alike : {X : Type 0} (p q : X → Bool) (xs : List X) → All (λ x. p x ≡ q x) xs → filter p xs ≡ filter q xs
filters_alike p q [] h = refl
filters_alike {X} p q (x ∷ xs) h =
    let P = λ (y : X). p y ≡ q y in
    ap (λ (b : Bool). cond b (x ∷ filter p xs) (filter p xs)) (All-head P x xs h)
    ∙ ap (λ (ys : List X). cond (q x) (x ∷ ys) ys) (filters_alike p q xs (All-tail P x xs h))

pub finds_alike : {X : Type 0} (p q : X → Bool) (xs : List X) → All (λ x. p x ≡ q x) xs → find p xs ≡ find q xs
finds_alike p q [] h = refl
finds_alike {X} p q (x ∷ xs) h =
    let P = λ (y : X). p y ≡ q y in
    ap (λ (b : Bool). cond b (Some x) (find p xs)) (All-head P x xs h)
    ∙ ap (λ (o : Option X). cond (q x) (Some x) o) (finds_alike p q xs (All-tail P x xs h))

pub any_alike : {X : Type 0} (p q : X → Bool) (xs : List X) → All (λ x. p x ≡ q x) xs → list_any p xs ≡ list_any q xs
any_alike p q [] h = refl
any_alike {X} p q (x ∷ xs) h =
    let P = λ (y : X). p y ≡ q y in
    ap (λ (b : Bool). b || list_any p xs) (All-head P x xs h)
    ∙ ap (λ (b : Bool). q x || b) (any_alike p q xs (All-tail P x xs h))

pub options_alike : {X Y : Type 0} (f g : X → Y) (o : Option X) (d : Y) → IfSome o (λ x. f x ≡ g x) → option_map_or f o d ≡ option_map_or g o d
options_alike f g None d h = refl
options_alike f g (Some x) d h = h

-- what is found is one of the elements
pub found_within : {X : Type 0} (P : X → Type 0) (p : X → Bool) (xs : List X) → All P xs → IfSome (find p xs) P
found_within P p [] h = tt
found_within P p (x ∷ xs) h = go (p x) (found_within P p xs (All-tail P x xs h))
  where
    go : (b : Bool) → IfSome (find p xs) P → IfSome (cond b (Some x) (find p xs)) P
    go true more = All-head P x xs h
    go false more = more

pub if_weaker : {X : Type 0} (P Q : X → Type 0) (o : Option X) → ((x : X) → P x → Q x) → IfSome o P → IfSome o Q
if_weaker P Q None more h = tt
if_weaker P Q (Some x) more h = more x h

pub all_flat : {X Y : Type 0} (P : Y → Type 0) (f : X → List Y) (xs : List X) → All (λ x. All P (f x)) xs → All P (flat_map f xs)
all_flat P f [] h = All-nil P
all_flat {X} P f (x ∷ xs) h =
    let Q = λ (y : X). All P (f y) in
    All-append P (f x) (flat_map f xs) (All-head Q x xs h) (all_flat P f xs (All-tail Q x xs h))

-- nothing passes where nothing is left
pub none_left : {X Y : Type 0} (f : X → Y) (p : X → Bool) (xs : List X) → map f (filter p xs) ≡ [] → All (λ x. p x ≡ false) xs
none_left f p [] e = All-nil (λ x. p x ≡ false)
none_left {X} f p (x ∷ xs) e = go (p x) refl e (none_left f p xs)
  where
    go : (b : Bool) → p x ≡ b → map f (cond b (x ∷ filter p xs) (filter p xs)) ≡ [] → (map f (filter p xs) ≡ [] → All (λ y. p y ≡ false) xs)
        → All (λ y. p y ≡ false) (x ∷ xs)
    go true h k more = absurd cc
    go false h k more = All-cons (λ (y : X). p y ≡ false) x xs h (more k)
