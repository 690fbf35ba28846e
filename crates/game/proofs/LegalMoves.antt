-- The list of legal moves, place by place.
use Rattle.std.proofs.Common.{
  ◌≡◌,
  ℕ,
  ◌+◌,
  ◌<◌,
  ◌≤◌,
  ◌^◌,
  Bool,
  true,
  false,
  List,
  [],
  ◌∷◌,
  length,
  drop,
  sym,
  ◌∙◌,
  ap,
  refl,
  arith,
  get_or,
  add-one,
  inl,
  inr,
}
use Rattle.std.specs.Prelude.{All, IfSome, Option, Some, None, slice_get, find, IsTrue, ◌↔◌}
use Rattle.std.specs.List.Sorted.{IsStrictlyIncreasing}
use Rattle.std.proofs.Math.Seq.{drop-cons}
use Rattle.std.proofs.Math.ListN.{drop_of_length-le}
use Rattle.std.proofs.lemmas.Bool.{cases_lt}
use Rattle.std.proofs.lemmas.Option.{get_or_from_slice_get, slice_get_within, slice_get-get_or}
use Rattle.statement.specs.Tree.{name_eq}
use Rattle.kif.proofs.Facts.{name_eq_yes, name_eq_self}
use Rattle.statement.specs.Rules.{Rules, State}
use Rattle.game.proofs.Ascending.{length_ascending}

-- a move that was found is one of the moves of its role
pub legal_known : (g : Rules) (s : State) (q place x : ℕ) (r : Option ℕ) → All (λ m. m < g.moves q) (g.legal s q) → r ≡ slice_get (g.legal s q) place
    → r ≡ Some x → x < g.moves q
legal_known g s q place x r h e found =
    let there : slice_get (g.legal s q) place ≡ Some x = sym e ∙ found in
    let known : get_or (g.legal s q) place 0 < g.moves q = h place 0 (slice_get_within (g.legal s q) place x there) in
    rw (get_or_from_slice_get (g.legal s q) place x 0 there) at known

pub legal_all : (g : Rules) (s : State) (q place : ℕ) (r : Option ℕ) → All (λ m. m < g.moves q) (g.legal s q) → r ≡ slice_get (g.legal s q) place
    → IfSome r (λ m. m < g.moves q)
legal_all g s q place None h e = tt
legal_all g s q place (Some x) h e = legal_known g s q place x (Some x) h e refl

pub legal_place : (g : Rules) (s : State) (q place x : ℕ) (r : Option ℕ) → r ≡ slice_get (g.legal s q) place → r ≡ Some x
    → (place < length (g.legal s q)) × (get_or (g.legal s q) place 0 ≡ x)
legal_place g s q place x r e found =
    let there : slice_get (g.legal s q) place ≡ Some x = sym e ∙ found in
    (slice_get_within (g.legal s q) place x there, get_or_from_slice_get (g.legal s q) place x 0 there)

pub legal_count : (g : Rules) (s : State) (q : ℕ) → IsStrictlyIncreasing (g.legal s q) → All (λ m. m < g.moves q) (g.legal s q) → g.moves q ≤ 2 ^ 32
    → length (g.legal s q) ≤ 2 ^ 32
legal_count g s q up within few = omega (arith, length_ascending (g.legal s q) (g.moves q) up within)

drop_here : (xs : List ℕ) (k x : ℕ) → k < length xs → get_or xs k 0 ≡ x → drop k xs ≡ x ∷ drop (k + 1) xs
drop_here xs k x inside same = rw (← same) (rw (add-one, drop-cons xs k 0 inside) refl)

-- the search ends at a move that passes
pub find_here : (p : ℕ → Bool) (xs : List ℕ) (k x : ℕ) → k < length xs → get_or xs k 0 ≡ x → find p xs ≡ find p (drop k xs) → p x ≡ true
    → Some x ≡ find p xs
find_here p xs k x inside same left passes =
    let at : find p (drop k xs) ≡ find p (x ∷ drop (k + 1) xs) = ap (find p) (drop_here xs k x inside same) in
    sym (left ∙ at ∙ rw passes refl)

-- and goes on past one that does not
pub find_more : (p : ℕ → Bool) (xs : List ℕ) (k x : ℕ) → k < length xs → get_or xs k 0 ≡ x → find p xs ≡ find p (drop k xs) → p x ≡ false
    → find p xs ≡ find p (drop (k + 1) xs)
find_more p xs k x inside same left fails =
    let at : find p (drop k xs) ≡ find p (x ∷ drop (k + 1) xs) = ap (find p) (drop_here xs k x inside same) in
    left ∙ at ∙ rw fails refl

-- a place with no move is past the end
pub none_past : (xs : List ℕ) (place : ℕ) (r : Option ℕ) → r ≡ slice_get xs place → r ≡ None → length xs ≤ place
none_past xs place r e none = elim (cases_lt place (length xs))
    [ inl inside ↦ let some = slice_get-get_or xs place 0 inside in absurd (cc (some, e, none)) | inr past ↦ past ]

-- the search ends with nothing past the end
pub find_past : (p : ℕ → Bool) (xs : List ℕ) (k : ℕ) (r : Option ℕ) → r ≡ slice_get xs k → r ≡ None → find p xs ≡ find p (drop k xs)
    → None ≡ find p xs
find_past p xs k r e none left =
    let rest : drop k xs ≡ [] = drop_of_length-le xs (none_past xs k r e none) in
    sym (left ∙ ap (find p) rest)

-- a tree is named where its text is the name
pub is_named : (part name bytes : List ℕ) (b : Bool) → b ≡ true → (IsTrue b ↔ (bytes ≡ part)) → bytes ≡ name → name_eq part name ≡ true
is_named part name bytes b passed tested is_name =
    let same : bytes ≡ part = tested.0 passed in
    let e : part ≡ name = sym same ∙ is_name in
    rw e (name_eq_self name)

not_equal : (part name : List ℕ) → (part ≡ name → ⊥) → name_eq part name ≡ false
not_equal part name differ = either (name_eq part name) (λ h. differ (name_eq_yes part name h))
  where
    either : (b : Bool) → (b ≡ true → ⊥) → b ≡ false
    either true h = absurd (h refl)
    either false h = refl

pub is_not_named : (part name bytes : List ℕ) (b : Bool) → b ≡ false → (IsTrue b ↔ (bytes ≡ part)) → bytes ≡ name → name_eq part name ≡ false
is_not_named part name bytes b failed tested is_name =
    not_equal part name (λ same. let passed : IsTrue b = tested.1 (is_name ∙ sym same) in absurd cc)
