-- The texts of the levels of a cut.
use Rattle.std.proofs.Common.{
  ◌≡◌,
  ℕ,
  ◌+◌,
  ◌-◌,
  ◌/◌,
  ◌%◌,
  ◌<◌,
  ◌≤◌,
  true,
  false,
  List,
  [],
  ◌∷◌,
  ◌++◌,
  length,
  zero,
  suc,
  refl,
  sym,
  ◌∙◌,
  ap,
  subst,
  arith,
  inl,
  inr,
  get_or,
  take,
  drop,
}
use Rattle.std.proofs.lemmas.Bool.{cases_lt}
use Rattle.std.proofs.lemmas.Bool.Decides.{nat_tests}
use Rattle.std.proofs.lemmas.Fmt.{decimal_digit, decimal_step, decimal_injective}
use Rattle.std.proofs.lemmas.List.Splits.{slice_split_none, slice_split_at, slice_split_first, length-slice_split, join_with_byte-slice_split}
use Rattle.std.proofs.lemmas.List.{length-map, length-drop, take_all}
use Rattle.std.proofs.lemmas.List.Sums.{fails_before_first, prefix_len-le-length}
use Rattle.std.specs.Option.{option_map}
use Rattle.std.specs.Prelude.{not, is_some, All, map, Option, Some, None, IfSome, IfNone}
use Rattle.std.specs.List.{slice_split, join_with_byte, position_or_len}
use Rattle.std.specs.Fmt.{decimal}
use Rattle.search_split.specs.Cuts.{IsCut, cut_text, is_x, pieces_of}

-- a number from 10 on and below 20 is a 1 and a digit
pub two_digits : (n : ℕ) → 10 ≤ n → n < 20 → decimal n ≡ 49 ∷ (38 + n) ∷ []
two_digits n h k =
    let tens : n / 10 ≡ 1 = omega arith in
    let ones : 48 + n % 10 ≡ 38 + n = omega arith in
    decimal_step n h (omega arith) ∙ ap (λ (q : ℕ). decimal q ++ (48 + n % 10) ∷ []) tens
    ∙ ap (λ (xs : List ℕ). xs ++ (48 + n % 10) ∷ []) (decimal_digit 1 (omega arith)) ∙ ap (λ (d : ℕ). 49 ∷ d ∷ []) ones

pub two_bytes : (n : ℕ) → 10 ≤ n → n < 20 → decimal n ≡ 49 ∷ (48 + n % 10) ∷ []
two_bytes n h k =
    let ones : 38 + n ≡ 48 + n % 10 = omega arith in
    two_digits n h k ∙ ap (λ (d : ℕ). 49 ∷ d ∷ []) ones

not_x : (b : ℕ) → b < 120 → is_x b ≡ false
not_x b h = grind (arith, nat_tests)

all_one : (b : ℕ) → b < 120 → All (λ x. is_x x ≡ false) (b ∷ [])
all_one b h zero d lt = not_x b h
all_one b h (suc k) d lt = absurd (omega arith)

all_two : (a b : ℕ) → a < 120 → b < 120 → All (λ x. is_x x ≡ false) (a ∷ b ∷ [])
all_two a b h k zero d lt = not_x a h
all_two a b h k (suc zero) d lt = not_x b k
all_two a b h k (suc (suc i)) d lt = absurd (omega arith)

-- there is no x in a level
pub plain_level : (n : ℕ) → n ≤ 16 → All (λ x. is_x x ≡ false) (decimal n)
plain_level n few = elim (cases_lt n 10) [
  | inl one ↦ subst (All (λ x. is_x x ≡ false)) (sym (decimal_digit n one)) (all_one (48 + n) (omega arith))
  | inr two ↦ subst (All (λ x. is_x x ≡ false)) (sym (two_digits n (omega arith) (omega arith))) (all_two 49 (38 + n) (omega arith) (omega arith))
]

abbrev AllFew : List ℕ → Type 0
AllFew levels = (k : ℕ) → k < length levels → get_or levels k 0 ≤ 16

-- the text of some levels, cut at each x, is their texts
pub levels_back : (levels : List ℕ) → 0 < length levels → AllFew levels → slice_split is_x (cut_text levels) ≡ map decimal levels
levels_back [] h few = absurd (omega arith)
levels_back (n ∷ []) h few = slice_split_none is_x (decimal n) (plain_level n (few 0 (omega arith)))
levels_back (n ∷ m ∷ rest) h few =
    slice_split_at is_x (decimal n) 120 (cut_text (m ∷ rest)) (plain_level n (few 0 (omega arith))) refl
    ∙ ap (λ xs. decimal n ∷ xs) (levels_back (m ∷ rest) (omega arith) (λ k below. few (suc k) (omega arith)))

-- the parts of the text of a cut
pub cut_parts : (levels : List ℕ) (text : List ℕ) → IsCut levels → cut_text levels ≡ text → slice_split is_x text ≡ map decimal levels
cut_parts levels text cut e = ap (slice_split is_x) (sym e) ∙ levels_back levels cut.some (λ k below. (cut.each k below).1)

-- and a text with such parts is that of the levels
pub parts_text : (levels text : List ℕ) → slice_split is_x text ≡ map decimal levels → cut_text levels ≡ text
parts_text levels text e = ap (join_with_byte 120) (sym e) ∙ join_with_byte-slice_split 120 text

abbrev first_of : List (List ℕ) → List ℕ
first_of [] = []
first_of (x ∷ xs) = x

abbrev rest_of : List (List ℕ) → List (List ℕ)
rest_of [] = []
rest_of (x ∷ xs) = xs

-- different levels have different texts
pub same_levels : (xs ys : List ℕ) → AllFew xs → AllFew ys → map decimal xs ≡ map decimal ys → xs ≡ ys
same_levels [] [] h k e = refl
same_levels [] (y ∷ ys) h k e = absurd (let n : 0 ≡ suc (length (map decimal ys)) = ap length e in omega (arith, n))
same_levels (x ∷ xs) [] h k e = absurd (let n : suc (length (map decimal xs)) ≡ 0 = ap length e in omega (arith, n))
same_levels (x ∷ xs) (y ∷ ys) h k e =
    let few = h 0 (omega arith) in
    let also = k 0 (omega arith) in
    let here : x ≡ y = decimal_injective x y (omega arith) (omega arith) (ap first_of e) in
    let rest = same_levels xs ys (λ i below. h (suc i) (omega arith)) (λ i below. k (suc i) (omega arith)) (ap rest_of e) in
    rw (here, rest) refl

-- whatever a text is cut into, there is a part
some_part : (text : List ℕ) → 0 < length (slice_split is_x text)
some_part text = omega (arith, length-slice_split is_x text)

abbrev pub AreLevels : List ℕ → Type 0
AreLevels levels = (k : ℕ) → k < length levels → (1 ≤ get_or levels k 0) × (get_or levels k 0 ≤ 16)

-- a text does not begin with a level
abbrev pub BeginsNone : List ℕ → Type 0
BeginsNone text = (n : ℕ) (pieces : List (List ℕ)) → 1 ≤ n → n ≤ 16 → slice_split is_x text ≡ decimal n ∷ pieces → ⊥

-- then it is not cut into levels
no_levels : (text : List ℕ) (levels : List ℕ) → BeginsNone text → AreLevels levels → map decimal levels ≡ slice_split is_x text → ⊥
no_levels text [] bare each e = let n : 0 ≡ length (slice_split is_x text) = ap length e in omega (arith, n, some_part text)
no_levels text (n ∷ levels) bare each e = bare n (map decimal levels) (each 0 (omega arith)).0 (each 0 (omega arith)).1 (sym e)

-- nor is one that it is what is left of, behind one level, or behind two
pub refused_first : (text : List ℕ) → BeginsNone text → (levels : List ℕ) → IsCut levels → cut_text levels ≡ text → ⊥
refused_first text bare levels cut e = no_levels text levels bare cut.each (sym (cut_parts levels text cut e))

behind : (x : List ℕ) (xs : List (List ℕ)) (text : List ℕ) (levels : List ℕ) → ((rest : List ℕ) → AreLevels rest → map decimal rest ≡ xs → ⊥)
    → AreLevels levels → map decimal levels ≡ x ∷ xs → ⊥
behind x xs text [] bare each e = let n : 0 ≡ suc (length xs) = ap length e in omega (arith, n)
behind x xs text (n ∷ levels) bare each e = bare levels (λ k below. each (suc k) (omega arith)) (ap rest_of e)

pub refused_second : (text x rest : List ℕ) → slice_split is_x text ≡ x ∷ slice_split is_x rest → BeginsNone rest → (levels : List ℕ) → IsCut levels
    → cut_text levels ≡ text → ⊥
refused_second text x rest parts bare levels cut e =
    behind x (slice_split is_x rest) text levels (λ more each same. no_levels rest more bare each same) cut.each
    (sym (cut_parts levels text cut e) ∙ parts)

pub refused_third : (text x y next rest : List ℕ) → slice_split is_x text ≡ x ∷ slice_split is_x next
    → slice_split is_x next ≡ y ∷ slice_split is_x rest → BeginsNone rest → (levels : List ℕ) → IsCut levels → cut_text levels ≡ text → ⊥
refused_third text x y next rest parts later bare levels cut e =
    behind x (slice_split is_x next) text levels
    (λ more each same. behind y (slice_split is_x rest) next more (λ last all there. no_levels rest last bare all there) each (same ∙ later))
    cut.each (sym (cut_parts levels text cut e) ∙ parts)

-- and more than three levels are no cut
pub refused_more : (text x y z next after : List ℕ) (more : List (List ℕ)) → slice_split is_x text ≡ x ∷ slice_split is_x next
    → slice_split is_x next ≡ y ∷ slice_split is_x after → slice_split is_x after ≡ z ∷ more → 0 < length more
    → (levels : List ℕ) → IsCut levels → cut_text levels ≡ text → ⊥
refused_more text x y z next after more parts later last some levels cut e =
    let all : map decimal levels ≡ x ∷ y ∷ z ∷ more = sym (cut_parts levels text cut e) ∙ parts
    ∙ ap (λ xs. x ∷ xs) (later ∙ ap (λ xs. y ∷ xs) last) in
    let count : length (map decimal levels) ≡ suc (suc (suc (length more))) = ap length all in
    omega (arith, count, length-map levels decimal, cut.few, some)

module _ {B : Type 0} (now : B → List ℕ) where
  pub some_pieces : (o : Option B) → is_some o ≡ true → 0 < length (pieces_of (option_map now o))
  some_pieces (Some b) e = some_part (now b)
  some_pieces None e = cc

  pub none_pieces : (o : Option B) → is_some o ≡ false → pieces_of (option_map now o) ≡ []
  none_pieces None e = refl
  none_pieces (Some b) e = cc

abbrev pub Refused : List ℕ → Type 0
Refused text = (levels : List ℕ) → IsCut levels → cut_text levels ≡ text → ⊥

module _ (text levels : List ℕ) (each : AreLevels levels) (parts : slice_split is_x text ≡ map decimal levels) where
  -- the cut of the levels that were read is that of the text
  pub read_cut : (result : Option (List ℕ)) → IfSome result (λ cut. IsCut levels × (cut ≡ levels))
      → IfSome result (λ cut. IsCut cut × (cut_text cut ≡ text))
  read_cut (Some cut) h = (subst IsCut (sym h.1) h.0, ap cut_text h.1 ∙ parts_text levels text parts)
  read_cut None h = tt

  pub read_none : (result : Option (List ℕ)) → IfNone result (IsCut levels → ⊥)
      → IfNone result ((other : List ℕ) → IsCut other → cut_text other ≡ text → ⊥)
  read_none (Some cut) h = tt
  read_none None h = λ other cut e. h (subst IsCut
      (same_levels other levels (λ k below. (cut.each k below).1) (λ k below. (each k below).1) (sym (cut_parts other text cut e) ∙ parts)) cut)

pub one_level : (a : ℕ) → (1 ≤ a) × (a ≤ 16) → AreLevels (a ∷ [])
one_level a h zero below = h
one_level a h (suc k) below = absurd (omega arith)

pub more_levels : (a : ℕ) (levels : List ℕ) → (1 ≤ a) × (a ≤ 16) → AreLevels levels → AreLevels (a ∷ levels)
more_levels a levels h each zero below = h
more_levels a levels h each (suc k) below = each k (omega arith)

pub when_none : {X : Type 0} (o : Option X) (P : Type 0) → P → IfNone o P
when_none None P h = h
when_none (Some x) P h = tt

-- the first part of a text is what stands before its first x
pub first_part : (text : List ℕ) (end : ℕ) → end ≡ position_or_len is_x text → end < length text
    → slice_split is_x text ≡ take end text ∷ slice_split is_x (drop (end + 1) text)
first_part text end e inside = rw e (slice_split_first is_x text 0 (omega arith))

pub only_part : (text : List ℕ) (end : ℕ) → end ≡ position_or_len is_x text → length text ≤ end → slice_split is_x text ≡ take end text ∷ []
only_part text end e past =
    slice_split_none is_x text (λ k d below. fails_before_first is_x text k d (omega arith))
    ∙ ap (λ (xs : List ℕ). xs ∷ []) (sym (take_all end text past))

pub first_bytes : (text : List ℕ) (end n : ℕ) (pieces : List (List ℕ)) → end ≡ position_or_len is_x text → slice_split is_x text ≡ decimal n ∷ pieces
    → decimal n ≡ take end text
first_bytes text end n pieces e parts = elim (cases_lt end (length text)) [
  | inl inside ↦ ap first_of (sym parts ∙ first_part text end e inside)
  | inr past ↦ ap first_of (sym parts ∙ only_part text end e (omega arith))
]

pub part_place : (text : List ℕ) (end : ℕ) → end ≡ position_or_len is_x text → end ≤ length text
part_place text end e = rw e (prefix_len-le-length (λ x. not (is_x x)) text)

-- what is left of a text from a place on, read to its end
pub rest_taken : (k : ℕ) (text : List ℕ) → take (length text - k) (drop k text) ≡ drop k text
rest_taken k text = take_all (length text - k) (drop k text) (omega (arith, length-drop k text))
