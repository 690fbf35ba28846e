-- Lists of numbers, one behind the other.
use Rattle.std.proofs.Common.{
  ℕ,
  suc,
  zero,
  ◌≡◌,
  ◌+◌,
  ◌-◌,
  ◌<◌,
  ◌≤◌,
  List,
  [],
  ◌∷◌,
  ◌++◌,
  length,
  take,
  drop,
  get_or,
  refl,
  sym,
  ◌∙◌,
  ap,
  subst,
  arith,
  length-append,
}
use Rattle.std.proofs.Math.ListN.{drop_of_length-le}
use Rattle.std.proofs.lemmas.List.{append-nil}
use Rattle.std.specs.Prelude.{slice_range}
use Rattle.util_interner.specs.KeyLists.{lists_at, AreEnds}

pub counted : (from : ℕ) (es xs : List ℕ) → length (lists_at from es xs) ≡ length es
counted from [] xs = refl
counted from (e ∷ es) xs = ap (λ (n : ℕ). suc n) (counted e es xs)

pub one_list : (from : ℕ) (es xs : List ℕ) (n : ℕ) → n < length es
    → get_or (lists_at from es xs) n [] ≡ slice_range xs (get_or (from ∷ es) n 0) (get_or es n 0)
one_list from [] xs n h = absurd (let bad : ⊥ = omega (arith, h) in bad)
one_list from (e ∷ es) xs zero h = refl
one_list from (e ∷ es) xs (suc n) h = one_list e es xs n (omega (arith, h))

-- an end is within all
pub within : (from : ℕ) (es : List ℕ) (m n : ℕ) → AreEnds from es m → n ≤ length es → get_or (from ∷ es) n 0 ≤ m
within from [] m zero a h = omega (arith, a)
within from [] m (suc n) a h = absurd (let bad : ⊥ = omega (arith, h) in bad)
within from (e ∷ es) m zero a h = let k = within e es m zero a.1 (omega arith) in let f = a.0 in omega (arith, k, f)
within from (e ∷ es) m (suc n) a h = within e es m n a.1 (omega (arith, h))

pub rises : (from : ℕ) (es : List ℕ) (m n : ℕ) → AreEnds from es m → n < length es → get_or (from ∷ es) n 0 ≤ get_or es n 0
rises from [] m n a h = absurd (let bad : ⊥ = omega (arith, h) in bad)
rises from (e ∷ es) m zero a h = a.0
rises from (e ∷ es) m (suc n) a h = rises e es m n a.1 (omega (arith, h))

pub ends_more : (from : ℕ) (es : List ℕ) (m n : ℕ) → AreEnds from es m → m ≤ n → AreEnds from (es ++ n ∷ []) n
ends_more from [] m n a h = (omega (arith, a, h), refl)
ends_more from (e ∷ es) m n a h = (a.0, ends_more e es m n a.1 h)

pub ends_less : (from : ℕ) (es : List ℕ) (m n : ℕ) → AreEnds from es m → n ≤ length es → AreEnds from (take n es) (get_or (from ∷ es) n 0)
ends_less from es m zero a h = refl
ends_less from [] m (suc n) a h = absurd (let bad : ⊥ = omega (arith, h) in bad)
ends_less from (e ∷ es) m (suc n) a h = (a.0, ends_less e es m n a.1 (omega (arith, h)))

drop_front : (xs ys : List ℕ) (n : ℕ) → n ≤ length xs → drop n (xs ++ ys) ≡ drop n xs ++ ys
drop_front xs ys zero h = refl
drop_front [] ys (suc n) h = absurd (let bad : ⊥ = omega (arith, h) in bad)
drop_front (x ∷ xs) ys (suc n) h = drop_front xs ys n (omega (arith, h))

take_front : (xs ys : List ℕ) (n : ℕ) → n ≤ length xs → take n (xs ++ ys) ≡ take n xs
take_front xs ys zero h = refl
take_front [] ys (suc n) h = absurd (let bad : ⊥ = omega (arith, h) in bad)
take_front (x ∷ xs) ys (suc n) h = ap (λ (zs : List ℕ). x ∷ zs) (take_front xs ys n (omega (arith, h)))

take_all : (xs : List ℕ) (n : ℕ) → n ≡ length xs → take n xs ≡ xs
take_all [] zero e = refl
take_all [] (suc n) e = refl
take_all (x ∷ xs) zero e = absurd (let bad : ⊥ = omega (arith, e) in bad)
take_all (x ∷ xs) (suc n) e = ap (λ (zs : List ℕ). x ∷ zs) (take_all xs n (omega (arith, e)))

drop_end : (xs : List ℕ) → drop (length xs) xs ≡ []
drop_end [] = refl
drop_end (x ∷ xs) = drop_end xs

drop_length : (xs : List ℕ) (n : ℕ) → n ≤ length xs → length (drop n xs) + n ≡ length xs
drop_length xs zero h = omega arith
drop_length [] (suc n) h = absurd (let bad : ⊥ = omega (arith, h) in bad)
drop_length (x ∷ xs) (suc n) h = let k = drop_length xs n (omega (arith, h)) in omega (arith, k)

-- a run that stands in the front of a list
range_front : (xs ys : List ℕ) (a b : ℕ) → a ≤ b → b ≤ length xs → slice_range (xs ++ ys) a b ≡ slice_range xs a b
range_front xs ys a b h k =
    ap (λ (zs : List ℕ). take (b - a) zs) (drop_front xs ys a (omega (arith, h, k)))
    ∙ take_front (drop a xs) ys (b - a) (let l = drop_length xs a (omega (arith, h, k)) in omega (arith, l, k))

range_behind : (xs ys : List ℕ) (b : ℕ) → b ≡ length xs + length ys → slice_range (xs ++ ys) (length xs) b ≡ ys
range_behind xs ys b e =
    ap (λ (zs : List ℕ). take (b - length xs) zs) (drop_front xs ys (length xs) (omega arith) ∙ ap (λ (zs : List ℕ). zs ++ ys) (drop_end xs))
    ∙ take_all ys (b - length xs) (omega (arith, e))

-- one more list
pub lists_more : (from : ℕ) (es xs ys : List ℕ) (n : ℕ) → AreEnds from es (length xs) → n ≡ length xs + length ys
    → lists_at from (es ++ n ∷ []) (xs ++ ys) ≡ lists_at from es xs ++ ys ∷ []
lists_more from [] xs ys n a e =
    ap (λ (zs : List ℕ). zs ∷ [])
    (ap (λ (k : ℕ). slice_range (xs ++ ys) k n) a ∙ range_behind xs ys n e)
lists_more from (k ∷ es) xs ys n a e =
    ap (λ (z : List ℕ). z ∷ lists_at k (es ++ n ∷ []) (xs ++ ys)) (range_front xs ys from k a.0 (within k es (length xs) zero a.1 (omega arith)))
    ∙ ap (λ (zs : List (List ℕ)). slice_range xs from k ∷ zs) (lists_more k es xs ys n a.1 e)

range_of_take : (xs : List ℕ) (m a b : ℕ) → a ≤ b → b ≤ m → slice_range (take m xs) a b ≡ slice_range xs a b
range_of_take xs m zero b h k =
    let e : b - 0 ≡ b = omega arith in
    ap (λ (n : ℕ). take n (take m xs)) e ∙ short xs m b k ∙ ap (λ (n : ℕ). take n xs) (sym e)
  where
    short : (xs : List ℕ) (m b : ℕ) → b ≤ m → take b (take m xs) ≡ take b xs
    short xs m zero k = refl
    short xs zero (suc b) k = absurd (let bad : ⊥ = omega (arith, k) in bad)
    short [] (suc m) (suc b) k = refl
    short (x ∷ xs) (suc m) (suc b) k = ap (λ (zs : List ℕ). x ∷ zs) (short xs m b (omega (arith, k)))
range_of_take xs zero (suc a) b h k = absurd (let bad : ⊥ = omega (arith, h, k) in bad)
range_of_take xs (suc m) (suc a) zero h k = absurd (let bad : ⊥ = omega (arith, h) in bad)
range_of_take [] (suc m) (suc a) (suc b) h k = refl
range_of_take (x ∷ xs) (suc m) (suc a) (suc b) h k =
    let e : suc b - suc a ≡ b - a = omega arith in
    ap (λ (n : ℕ). take n (drop a (take m xs))) e ∙ range_of_take xs m a b (omega (arith, h)) (omega (arith, k))
    ∙ ap (λ (n : ℕ). take n (drop a xs)) (sym e)

-- the lists up to a place
lists_within : (from : ℕ) (es xs : List ℕ) (m k : ℕ) → AreEnds from es m → m ≤ k → lists_at from es (take k xs) ≡ lists_at from es xs
lists_within from [] xs m k a h = refl
lists_within from (e ∷ es) xs m k a h =
    ap (λ (z : List ℕ). z ∷ lists_at e es (take k xs))
    (range_of_take xs k from e a.0 (let w = within e es m zero a.1 (omega arith) in omega (arith, w, h)))
    ∙ ap (λ (zs : List (List ℕ)). slice_range xs from e ∷ zs) (lists_within e es xs m k a.1 h)

lists_take : (from : ℕ) (es xs : List ℕ) (n : ℕ) → lists_at from (take n es) xs ≡ take n (lists_at from es xs)
lists_take from es xs zero = refl
lists_take from [] xs (suc n) = refl
lists_take from (e ∷ es) xs (suc n) = ap (λ (zs : List (List ℕ)). slice_range xs from e ∷ zs) (lists_take e es xs n)

pub lists_less : (es xs : List ℕ) (m n : ℕ) → AreEnds 0 es m → n ≤ length es
    → lists_at 0 (take n es) (take (get_or (0 ∷ es) n 0) xs) ≡ take n (lists_at 0 es xs)
lists_less es xs m n a h = lists_within 0 (take n es) xs (get_or (0 ∷ es) n 0) (get_or (0 ∷ es) n 0) (ends_less 0 es m n a h) (omega arith)
    ∙ lists_take 0 es xs n

pub take_much : (xs : List (List ℕ)) (n : ℕ) → length xs ≤ n → take n xs ≡ xs
take_much [] zero h = refl
take_much [] (suc n) h = refl
take_much (x ∷ xs) zero h = absurd (let bad : ⊥ = omega (arith, h) in bad)
take_much (x ∷ xs) (suc n) h = ap (λ (zs : List (List ℕ)). x ∷ zs) (take_much xs n (omega (arith, h)))

number_in : (es xs : List ℕ) (ls : List (List ℕ)) (n : ℕ) → lists_at 0 es xs ≡ ls → n < length ls → n < length es
number_in es xs ls n v h = let c = counted 0 es xs in let e = ap length v in omega (arith, c, e, h)

pub many_lists : (es xs : List ℕ) (ls : List (List ℕ)) (n : ℕ) → lists_at 0 es xs ≡ ls → n ≡ length es → n ≡ length ls
many_lists es xs ls n v e = e ∙ sym (counted 0 es xs) ∙ ap length v

-- The list of a number.

pub start_inside : (es es1 xs : List ℕ) (ls : List (List ℕ)) (n : ℕ) → lists_at 0 es xs ≡ ls → n < length ls → es1 ≡ es → n ≤ length es1
start_inside es es1 xs ls n v h e = let k = number_in es xs ls n v h in let l = ap length e in omega (arith, k, l)

pub end_inside : (es es1 xs : List ℕ) (ls : List (List ℕ)) (n : ℕ) → lists_at 0 es xs ≡ ls → n < length ls → es1 ≡ es → n < length es1
end_inside es es1 xs ls n v h e = let k = number_in es xs ls n v h in let l = ap length e in omega (arith, k, l)

start_is : (es es1 : List ℕ) (n from : ℕ) → es1 ≡ es → from ≡ get_or (0 ∷ es1) n 0 → from ≡ get_or (0 ∷ es) n 0
start_is es es1 n from e f = f ∙ ap (λ (zs : List ℕ). get_or (0 ∷ zs) n 0) e

end_is : (es es1 : List ℕ) (n to : ℕ) → es1 ≡ es → to ≡ get_or es1 n 0 → to ≡ get_or es n 0
end_is es es1 n to e f = f ∙ ap (λ (zs : List ℕ). get_or zs n 0) e

pub in_order : (es es1 es2 xs : List ℕ) (ls : List (List ℕ)) (n from to : ℕ) → AreEnds 0 es (length xs) → lists_at 0 es xs ≡ ls → n < length ls
    → es1 ≡ es → es2 ≡ es → from ≡ get_or (0 ∷ es1) n 0 → to ≡ get_or es2 n 0 → from ≤ to
in_order es es1 es2 xs ls n from to a v h e f s t =
    let k = rises 0 es (length xs) n a (number_in es xs ls n v h) in
    let s1 = start_is es es1 n from e s in let t1 = end_is es es2 n to f t in omega (arith, k, s1, t1)

pub ends_inside : (es es2 xs xs1 : List ℕ) (ls : List (List ℕ)) (n to : ℕ) → AreEnds 0 es (length xs) → lists_at 0 es xs ≡ ls → n < length ls
    → es2 ≡ es → xs1 ≡ xs → to ≡ get_or es2 n 0 → to ≤ length xs1
ends_inside es es2 xs xs1 ls n to a v h f x t =
    let k = within 0 es (length xs) (suc n) a (number_in es xs ls n v h) in
    let t1 = end_is es es2 n to f t in let l = ap length x in omega (arith, k, t1, l)

pub here : (es es1 es2 xs xs1 : List ℕ) (ls : List (List ℕ)) (n from to : ℕ) → lists_at 0 es xs ≡ ls → n < length ls
    → es1 ≡ es → es2 ≡ es → xs1 ≡ xs → from ≡ get_or (0 ∷ es1) n 0 → to ≡ get_or es2 n 0 → slice_range xs1 from to ≡ get_or ls n []
here es es1 es2 xs xs1 ls n from to v h e f x s t =
    ap (λ (zs : List ℕ). slice_range zs from to) x
    ∙ ap (λ (k : ℕ). slice_range xs k to) (start_is es es1 n from e s)
    ∙ ap (λ (k : ℕ). slice_range xs (get_or (0 ∷ es) n 0) k) (end_is es es2 n to f t)
    ∙ sym (one_list 0 es xs n (number_in es xs ls n v h)) ∙ ap (λ (ks : List (List ℕ)). get_or ks n []) v

-- One more list.

-- where no number of a list is left all of them are written
pub all_written : (xs xs1 xs2 ys : List ℕ) (i : ℕ) → xs2 ++ drop i ys ≡ xs1 ++ ys → xs1 ≡ xs → length ys ≤ i → xs2 ≡ xs ++ ys
all_written xs xs1 xs2 ys i e f h =
    sym (append-nil xs2) ∙ ap (λ (zs : List ℕ). xs2 ++ zs) (sym (drop_of_length-le ys h)) ∙ e ∙ ap (λ (zs : List ℕ). zs ++ ys) f

pub pushed_ends : (es es1 es2 xs xs1 ys : List ℕ) (n : ℕ) → AreEnds 0 es (length xs) → es1 ≡ es → es2 ≡ es1 ++ n ∷ [] → xs1 ≡ xs ++ ys
    → n ≡ length xs1 → AreEnds 0 es2 (length xs1)
pushed_ends es es1 es2 xs xs1 ys n a e f x l =
    subst (λ (zs : List ℕ). AreEnds 0 zs (length xs1)) (sym (f ∙ ap (λ (zs : List ℕ). zs ++ n ∷ []) e))
    (subst (λ (k : ℕ). AreEnds 0 (es ++ n ∷ []) k) l
    (ends_more 0 es (length xs) n a (let m = length-append xs ys in let k = ap length x in omega (arith, m, k, l))))

pub pushed : (es es1 es2 xs xs1 ys : List ℕ) (ls : List (List ℕ)) (n : ℕ) → AreEnds 0 es (length xs) → lists_at 0 es xs ≡ ls → es1 ≡ es
    → es2 ≡ es1 ++ n ∷ [] → xs1 ≡ xs ++ ys → n ≡ length xs1 → lists_at 0 es2 xs1 ≡ ls ++ ys ∷ []
pushed es es1 es2 xs xs1 ys ls n a v e f x l =
    ap (λ (zs : List ℕ). lists_at 0 zs xs1) (f ∙ ap (λ (zs : List ℕ). zs ++ n ∷ []) e)
    ∙ ap (λ (zs : List ℕ). lists_at 0 (es ++ n ∷ []) zs) x
    ∙ lists_more 0 es xs ys n a (l ∙ ap length x ∙ length-append xs ys)
    ∙ ap (λ (zs : List (List ℕ)). zs ++ ys ∷ []) v

-- The first lists.

pub all_kept : (es xs : List ℕ) (ls : List (List ℕ)) (n many : ℕ) → lists_at 0 es xs ≡ ls → n ≡ length es → n ≤ many → ls ≡ take many ls
all_kept es xs ls n many v e h = sym (take_much ls many (let k = many_lists es xs ls n v e in omega (arith, k, h)))

take_long : (xs : List ℕ) (n : ℕ) → n ≤ length xs → length (take n xs) ≡ n
take_long xs zero h = refl
take_long [] (suc n) h = absurd (let bad : ⊥ = omega (arith, h) in bad)
take_long (x ∷ xs) (suc n) h = ap (λ (m : ℕ). suc m) (take_long xs n (omega (arith, h)))

pub cut_ends : (es es1 es2 xs xs1 : List ℕ) (many to : ℕ) → AreEnds 0 es (length xs) → many ≤ length es → es1 ≡ es → to ≡ get_or (0 ∷ es1) many 0
    → xs1 ≡ take to xs → es2 ≡ take many es → AreEnds 0 es2 (length xs1)
cut_ends es es1 es2 xs xs1 many to a h e t x f =
    let at = start_is es es1 many to e t in
    let l = take_long xs to (let w = within 0 es (length xs) many a h in omega (arith, w, at)) in
    subst (λ (zs : List ℕ). AreEnds 0 zs (length xs1)) (sym f)
    (subst (λ (k : ℕ). AreEnds 0 (take many es) k) (sym (ap length x ∙ l ∙ at)) (ends_less 0 es (length xs) many a h))

pub cut_lists : (es es1 es2 xs xs1 : List ℕ) (ls : List (List ℕ)) (many to : ℕ) → AreEnds 0 es (length xs) → lists_at 0 es xs ≡ ls → many ≤ length es
    → es1 ≡ es → to ≡ get_or (0 ∷ es1) many 0 → xs1 ≡ take to xs → es2 ≡ take many es → lists_at 0 es2 xs1 ≡ take many ls
cut_lists es es1 es2 xs xs1 ls many to a v h e t x f =
    ap (λ (zs : List ℕ). lists_at 0 zs xs1) f
    ∙ ap (λ (zs : List ℕ). lists_at 0 (take many es) zs) (x ∙ ap (λ (k : ℕ). take k xs) (start_is es es1 many to e t))
    ∙ lists_less es xs (length xs) many a h ∙ ap (λ (ks : List (List ℕ)). take many ks) v
