use Rattle.std.proofs.Common.{
  ◌≡◌,
  ◌≢◌,
  ℕ,
  ◌+◌,
  ◌<◌,
  ◌≤◌,
  List,
  [],
  ◌∷◌,
  length,
  suc,
  refl,
  sym,
  arith,
  get_or,
  below_more,
  get_or-set_same,
  get_or-set_other,
}
use Rattle.std.proofs.Math.ListN.{set, length-set}
use Rattle.std.proofs.Math.Nat.{eq-or-lt_of_le}
use Rattle.std.proofs.Common.{inl, inr}
use Rattle.std.proofs.lemmas.Bool.{cases_order}
use Rattle.std.specs.Prelude.{Some, slice_get}
use Rattle.std.proofs.lemmas.Option.{get_or_from_slice_get, slice_get_within}
use Rattle.statement.specs.Rules.{Turn, all_picks}
use Rattle.maximin.specs.Turns.{StandsAt, later}
use Rattle.maximin.proofs.TurnLemmas.{picks_first, later_next, later_none}

-- the roles before n are at their first moves
pub record IsFirstBelow (lists : List (List ℕ)) (n : ℕ) (places : List ℕ) (joint : Turn) : Type 0 where
  pub place : (k : ℕ) → k < n → get_or places k 0 ≡ 0
  pub move : (k : ℕ) → k < n → get_or joint k 0 ≡ get_or (get_or lists k []) 0 0

pub first_more : (lists : List (List ℕ)) (n : ℕ) (places : List ℕ) (joint : Turn) (x : ℕ) (new_places : List ℕ) (new_joint : Turn)
    → n < length places → n < length joint → new_places ≡ set places n 0 → new_joint ≡ set joint n x
    → Some x ≡ slice_get (get_or lists n []) 0 → IsFirstBelow lists n places joint → IsFirstBelow lists (n + 1) new_places new_joint
first_more lists n places joint x new_places new_joint a b p j e h = rw (p, j) record {
  place = below_more _ _
      (λ k lt. let other : k ≢ n = omega arith in rw get_or-set_other (h.place k lt))
      (rw get_or-set_same refl);
  move = below_more _ _
      (λ k lt. let other : k ≢ n = omega arith in rw get_or-set_other (h.move k lt))
      (rw get_or-set_same (sym (get_or_from_slice_get (get_or lists n []) 0 x 0 (sym e))));
}

pub first_stands : (lists : List (List ℕ)) (n : ℕ) (places : List ℕ) (joint : Turn) → length places ≡ length lists → length joint ≡ length lists
    → length lists ≤ n
    → ((q : ℕ) → q < length lists → 0 < length (get_or lists q [])) → IsFirstBelow lists n places joint → StandsAt lists places joint
first_stands lists n places joint a b all some h = record {
  place_for_each = a;
  move_for_each = b;
  in_list = λ q below. rw (h.place q (omega arith)) (some q below);
  at_place = λ q below. rw (h.place q (omega arith)) (h.move q (omega arith));
}

pub first_picks : (lists : List (List ℕ)) (n : ℕ) (places : List ℕ) (joint : Turn) → length lists ≤ n
    → StandsAt lists places joint → IsFirstBelow lists n places joint → all_picks lists ≡ joint ∷ later lists places
first_picks lists n places joint all stands h = picks_first lists places joint stands (λ q below. h.place q (omega arith))

-- the roles from n on have gone from their last moves to their first, and the others have stayed
pub record IsWrappedFrom (lists : List (List ℕ)) (n : ℕ) (old_places : List ℕ) (old_joint : Turn) (places : List ℕ) (joint : Turn) : Type 0 where
  pub was_last : (k : ℕ) → n ≤ k → k < length lists → length (get_or lists k []) ≤ suc (get_or old_places k 0)
  pub place : (k : ℕ) → n ≤ k → k < length lists → get_or places k 0 ≡ 0
  pub move : (k : ℕ) → n ≤ k → k < length lists → get_or joint k 0 ≡ get_or (get_or lists k []) 0 0
  pub same_place : (k : ℕ) → k < n → get_or places k 0 ≡ get_or old_places k 0
  pub same_move : (k : ℕ) → k < n → get_or joint k 0 ≡ get_or old_joint k 0

-- no move is left to the role n
pub wrapped_more : (lists : List (List ℕ)) (n : ℕ) (old_places : List ℕ) (old_joint : Turn) (places : List ℕ) (joint : Turn) (x : ℕ)
    (new_places : List ℕ) (new_joint : Turn) (m : ℕ) → n + 1 ≡ m
    → n < length places → n < length joint → new_places ≡ set places n 0 → new_joint ≡ set joint n x
    → length (get_or lists n []) ≤ get_or places n 0 + 1 → Some x ≡ slice_get (get_or lists n []) 0
    → IsWrappedFrom lists m old_places old_joint places joint → IsWrappedFrom lists n old_places old_joint new_places new_joint
wrapped_more lists n old_places old_joint places joint x new_places new_joint m after a b p j last e h = rw (p, j) record {
  was_last = λ k from to. elim (eq-or-lt_of_le from)
      [ inl same ↦ let stayed = h.same_place n (omega arith) in rw (← same) (omega arith) | inr above ↦ h.was_last k (omega arith) to ];
  place = λ k from to. elim (eq-or-lt_of_le from) [
    | inl same ↦ rw (← same, get_or-set_same) refl
    | inr above ↦ let other : k ≢ n = omega arith in rw get_or-set_other (h.place k (omega arith) to)
  ];
  move = λ k from to. elim (eq-or-lt_of_le from) [
    | inl same ↦ rw (← same, get_or-set_same) (sym (get_or_from_slice_get (get_or lists n []) 0 x 0 (sym e)))
    | inr above ↦ let other : k ≢ n = omega arith in rw get_or-set_other (h.move k (omega arith) to)
  ];
  same_place = λ k below. let other : k ≢ n = omega arith in rw get_or-set_other (h.same_place k (omega arith));
  same_move = λ k below. let other : k ≢ n = omega arith in rw get_or-set_other (h.same_move k (omega arith));
}

pub wrapped_all : (lists : List (List ℕ)) (old_places : List ℕ) (old_joint : Turn) (places : List ℕ) (joint : Turn)
    → IsWrappedFrom lists 0 old_places old_joint places joint → later lists old_places ≡ []
wrapped_all lists old_places old_joint places joint h = later_none lists old_places (λ q below. h.was_last q (omega arith) below)

-- the role n goes on to its next move
pub up_stands : (lists : List (List ℕ)) (n : ℕ) (old_places : List ℕ) (old_joint : Turn) (places : List ℕ) (joint : Turn) (x : ℕ)
    (new_places : List ℕ) (new_joint : Turn) (m : ℕ) → n + 1 ≡ m
    → length places ≡ length lists → length joint ≡ length lists → n < length lists
    → new_places ≡ set places n (get_or places n 0 + 1) → new_joint ≡ set joint n x
    → Some x ≡ slice_get (get_or lists n []) (get_or places n 0 + 1)
    → StandsAt lists old_places old_joint
    → IsWrappedFrom lists m old_places old_joint places joint → StandsAt lists new_places new_joint
up_stands lists n old_places old_joint places joint x new_places new_joint m after a b below p j e old h = rw (p, j) record {
  place_for_each = simp length-set a;
  move_for_each = simp length-set b;
  in_list = λ q lt. elim (cases_order q n) [
    | inl same ↦ let inside : n < length places = omega arith in
        rw (same, get_or-set_same) (slice_get_within (get_or lists n []) (get_or places n 0 + 1) x (sym e))
    | inr apart ↦ elim apart [
      | inl before ↦ let other : q ≢ n = omega arith in rw (get_or-set_other, h.same_place q (omega arith)) (old.in_list q lt)
      | inr behind ↦ let other : q ≢ n = omega arith in rw (get_or-set_other, h.place q (omega arith) lt) (some_at old q lt)
    ]
  ];
  at_place = λ q lt. elim (cases_order q n) [
    | inl same ↦ let inside : n < length places = omega arith in let within : n < length joint = omega arith in
        rw (same, get_or-set_same, get_or-set_same) (sym (get_or_from_slice_get (get_or lists n []) (get_or places n 0 + 1) x 0 (sym e)))
    | inr apart ↦ elim apart [
      | inl before ↦ let other : q ≢ n = omega arith in
          rw (get_or-set_other, get_or-set_other, h.same_place q (omega arith), h.same_move q (omega arith)) (old.at_place q lt)
      | inr behind ↦ let other : q ≢ n = omega arith in
          rw (get_or-set_other, get_or-set_other, h.place q (omega arith) lt) (h.move q (omega arith) lt)
    ]
  ];
}
  where
    some_at : StandsAt lists old_places old_joint → (q : ℕ) → q < length lists → 0 < length (get_or lists q [])
    some_at old q lt = let inside = old.in_list q lt in omega arith

pub up_later : (lists : List (List ℕ)) (n : ℕ) (old_places : List ℕ) (old_joint : Turn) (places : List ℕ) (joint : Turn) (x : ℕ) (new_places : List ℕ)
    (new_joint : Turn) (m : ℕ) → n + 1 ≡ m
    → length places ≡ length lists → n < length lists → new_places ≡ set places n (get_or places n 0 + 1)
    → StandsAt lists old_places old_joint → StandsAt lists new_places new_joint
    → IsWrappedFrom lists m old_places old_joint places joint
    → later lists old_places ≡ new_joint ∷ later lists new_places
up_later lists n old_places old_joint places joint x new_places new_joint m after a below p old new h =
    later_next lists n old_places new_places old_joint new_joint old new below
    (λ k lt. let other : k ≢ n = omega arith in rw (p, get_or-set_other) (h.same_place k (omega arith)))
    (let inside : n < length places = omega arith in rw (p, get_or-set_same, h.same_place n (omega arith)) (omega arith))
    (λ k from to. h.was_last k (omega arith) to)
    (λ k from to. let other : k ≢ n = omega arith in rw (p, get_or-set_other) (h.place k (omega arith) to))
