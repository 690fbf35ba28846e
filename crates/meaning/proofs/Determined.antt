-- The listing and the numbers of its atoms are determined together.
use Rattle.std.proofs.Common.{zero, Bool, true, false, not, ◌≡◌, ◌⊎◌, ◌↔◌, inl, inr, List, [], ◌∷◌, ◌++◌, refl, sym, ap, subst, ◌∙◌, arith}
use Rattle.std.specs.Prelude.{filter}
use Rattle.std.proofs.lemmas.List.{append-nil}
use Rattle.statement.specs.Clause.{Atom, Alternative, Relation, relation_of, relation_eq}
use Rattle.statement.specs.Dependence.{IsAmong, is_fixed}
use Rattle.statement.specs.Order.{relations_in_order}
use Rattle.rules_profile.proofs.Facts.{not_true, not_false, relation_eq_yes, relation_eq_self, IsAmong-append, IsAmong-append_left, IsAmong-append_right}
use Rattle.statement.specs.Listing.{Instance, Listing, heads, kept_of_relation, with_atoms, list_relation, list_relations, context_atoms, fixed_listing, listing, fixed_part, other_part}
use Rattle.statement.specs.Printed.{AreInOrder}
use Rattle.meaning.specs.InOrder.{AreDistinct}
use Rattle.meaning.specs.Numbers.{key, relation_place, StandsBefore}
use Rattle.meaning.specs.Listed.{IsWellFormed}
use Rattle.meaning.specs.Determined.{by_appearance, IsListing}
use Rattle.meaning.proofs.Ordered.{less_never, less_trans, among_filter, among_filter_in, order_filter, one_list, parted, PlaceBefore, distinct_front}
use Rattle.meaning.proofs.Fold.{all_sound, listing_exact}
use Rattle.meaning.proofs.Numbered.{one_number}
use Rattle.meaning.proofs.Rising.{
  IsFrontOf,
  front_trans,
  with_front,
  steps_front,
  new_relation,
  relation_in_order,
  places_rise,
  fixed_first,
  fixed_in_front,
  kept_in_order,
}
use Rattle.meaning.proofs.Exact.{
  heads_append,
  with_append,
  more_of,
  added,
  no_listing,
  context_listing,
  fixed_relations,
  other_relations,
  first_half,
  second_half,
  fixed_is,
  other_is,
  both_halves,
  fixed_atoms,
  fixed_numbered,
  numbered_in_order,
}

no_members : {A : Type 0} (xs : List A) → ((x : A) → IsAmong x xs → ⊥) → xs ≡ []
no_members [] h = refl
no_members (x ∷ xs) h = absurd (h x (inl refl))

-- Relation by relation: what stands in order by numbers that begin with those so far is what the relations add.
module _ (rules : List Alternative) (w : IsWellFormed rules) (xs : List Atom) where
  before_never : (i : Instance) → StandsBefore rules xs i i → ⊥
  before_never i = less_never (key rules xs i)

  before_trans : (i j k : Instance) → StandsBefore rules xs i j → StandsBefore rules xs j k → StandsBefore rules xs i k
  before_trans i j k = less_trans (key rules xs i) (key rules xs j) (key rules xs k)

  -- an instance whose relation comes later does not stand before one whose relation comes earlier
  later_not_before : (i j : Instance) → PlaceBefore relation_eq (relations_in_order rules) (relation_of j.head) (relation_of i.head)
      → StandsBefore rules xs i j → ⊥
  later_not_before i j lt (inl h) = absurd (omega arith)
  later_not_before i j lt (inr h) = let e = h.0 in absurd (omega arith)

  -- the new instances of a relation stand in order by all numbers that begin with those so far
  new_in_order : (atoms : List Atom) (p : Relation) → IsFrontOf atoms (listing rules).atoms → IsFrontOf atoms xs
      → AreInOrder (StandsBefore rules xs) (kept_of_relation rules atoms p zero rules)
  new_in_order atoms p listed front =
      subst (λ (ys : List Atom). AreInOrder (StandsBefore rules ys) (kept_of_relation rules atoms p zero rules)) (sym front.1)
      (relation_in_order rules atoms front.0
      (λ x a. (all_sound rules w x (subst (λ (ys : List Atom). IsAmong x ys) (sym listed.1) (IsAmong-append_left x atoms listed.0 a))).ground)
      (distinct_front atoms listed.0 (subst (λ (ys : List Atom). AreDistinct ys) listed.1 (one_number rules))) p zero rules)

  more_relation : (g : Listing) (ps : List Relation) (i : Instance) → IsAmong i (more_of rules g ps) → IsAmong (relation_of i.head) ps
  more_relation g ps i a = (added rules g ps).of i a

  abbrev is_of : Relation → Instance → Bool
  is_of p i = relation_eq (relation_of i.head) p

  is_of_yes : (p : Relation) (i : Instance) → relation_of i.head ≡ p → is_of p i ≡ true
  is_of_yes p i e = subst (λ (q : Relation). relation_eq (relation_of i.head) q ≡ true) e (relation_eq_self (relation_of i.head))

  module _ (g : Listing) (p : Relation) (ps : List Relation) (rest : List Instance)
      (up : AreInOrder (PlaceBefore relation_eq (relations_in_order rules)) (p ∷ ps))
      (same : (i : Instance) → IsAmong i rest ↔ IsAmong i (more_of rules g (p ∷ ps))) where
    abbrev new : List Instance
    new = kept_of_relation rules g.atoms p zero rules

    abbrev later : List Instance
    later = more_of rules (list_relation rules g p) ps

    abbrev mine : List Instance
    mine = filter (is_of p) rest

    abbrev others : List Instance
    others = filter (λ (i : Instance). not (is_of p i)) rest

    new_is : (i : Instance) → IsAmong i new → is_of p i ≡ true
    new_is i a = is_of_yes p i (new_relation rules g.atoms p zero rules i a)

    -- later relations have later places
    later_place : (i : Instance) → IsAmong i later → PlaceBefore relation_eq (relations_in_order rules) p (relation_of i.head)
    later_place i a = up.0 (relation_of i.head) (more_relation (list_relation rules g p) ps i a)

    later_is : (i : Instance) → IsAmong i later → (b : Bool) → is_of p i ≡ b → b ≡ false
    later_is i a true e =
        let lt = later_place i a in
        let s : relation_place rules (relation_of i.head) ≡ relation_place rules p = ap (relation_place rules) (relation_eq_yes (relation_of i.head) p e) in
        absurd (omega arith)
    later_is i a false e = refl

    either : (i : Instance) → IsAmong i rest → IsAmong i new ⊎ IsAmong i later
    either i a = IsAmong-append i new later ((same i).0 a)

    mine_new : (i : Instance) → IsAmong i mine ↔ IsAmong i new
    mine_new i = (
      (λ a. let o = among_filter (is_of p) i rest a in there o.1 (either i o.0)),
      (λ a. among_filter_in (is_of p) i rest ((same i).1 (IsAmong-append_left i new later a)) (new_is i a)),
    )
      where
        there : is_of p i ≡ true → IsAmong i new ⊎ IsAmong i later → IsAmong i new
        there e (inl a) = a
        there e (inr a) = let f = later_is i a (is_of p i) refl in absurd cc

    others_later : (i : Instance) → IsAmong i others ↔ IsAmong i later
    others_later i = (
      (λ a. let o = among_filter (λ (j : Instance). not (is_of p j)) i rest a in there (not_true _ o.1) (either i o.0)),
      (λ a.
          among_filter_in (λ (j : Instance). not (is_of p j)) i rest ((same i).1 (IsAmong-append_right i new later a))
          (not_false _ (later_is i a (is_of p i) refl))),
    )
      where
        there : is_of p i ≡ false → IsAmong i new ⊎ IsAmong i later → IsAmong i later
        there e (inl a) = let f = new_is i a in absurd cc
        there e (inr a) = a

    -- those of p stand first
    mine_first : AreInOrder (StandsBefore rules xs) rest → rest ≡ mine ++ others
    mine_first order = parted (StandsBefore rules xs) (is_of p) rest order (λ i j a b e f h. wrong i j e f h (either i a))
      where
        wrong : (i j : Instance) → is_of p i ≡ false → is_of p j ≡ true → StandsBefore rules xs i j → IsAmong i new ⊎ IsAmong i later → ⊥
        wrong i j e f h (inl a) = let k = new_is i a in absurd cc
        wrong i j e f h (inr a) =
            let s : relation_place rules (relation_of j.head) ≡ relation_place rules p = ap (relation_place rules) (relation_eq_yes (relation_of j.head) p f) in
            let lt = later_place i a in
            later_not_before i j (omega arith) h

  same_more : (g : Listing) (ps : List Relation) (rest : List Instance) → AreInOrder (PlaceBefore relation_eq (relations_in_order rules)) ps
      → IsFrontOf (list_relations rules g ps).atoms (listing rules).atoms
      → IsFrontOf (with_atoms g.atoms (heads rest)) xs
      → AreInOrder (StandsBefore rules xs) rest
      → ((i : Instance) → IsAmong i rest ↔ IsAmong i (more_of rules g ps))
      → rest ≡ more_of rules g ps
  same_more g [] rest up listed front order same = no_members rest (λ i a. (same i).0 a)
  same_more g (p ∷ ps) rest up listed front order same =
      whole ∙ ap (λ (l : List Instance). new g p ps rest up same ++ l)
      (same_more (list_relation rules g p) ps (others g p ps rest up same) up.1 listed front_then
      (order_filter (StandsBefore rules xs) (λ (i : Instance). not (is_of p i)) rest order) (others_later g p ps rest up same))
    where
      front_now : IsFrontOf g.atoms xs
      front_now = front_trans g.atoms (with_atoms g.atoms (heads rest)) xs (with_front g.atoms (heads rest)) front

      listed_now : IsFrontOf g.atoms (listing rules).atoms
      listed_now = front_trans g.atoms _ (listing rules).atoms (steps_front rules g (p ∷ ps)) listed

      mine_are : mine g p ps rest up same ≡ new g p ps rest up same
      mine_are =
          one_list (StandsBefore rules xs) before_never before_trans (mine g p ps rest up same) (new g p ps rest up same)
          (order_filter (StandsBefore rules xs) (is_of p) rest order) (new_in_order g.atoms p listed_now front_now) (mine_new g p ps rest up same)

      whole : rest ≡ new g p ps rest up same ++ others g p ps rest up same
      whole = mine_first g p ps rest up same order ∙ ap (λ (l : List Instance). l ++ others g p ps rest up same) mine_are

      front_then : IsFrontOf (with_atoms (list_relation rules g p).atoms (heads (others g p ps rest up same))) xs
      front_then = (
        front.0,
        front.1
            ∙ ap (λ (l : List Instance). with_atoms g.atoms (heads l) ++ front.0) whole
            ∙ ap (λ (ys : List Atom). with_atoms g.atoms ys ++ front.0) (heads_append (new g p ps rest up same) (others g p ps rest up same))
            ∙ ap (λ (ys : List Atom). ys ++ front.0)
            (with_append g.atoms (heads (new g p ps rest up same)) (heads (others g p ps rest up same))),
      )

-- The two halves.

module _ (rules : List Alternative) (w : IsWellFormed rules) (g : Listing) (is : IsListing rules g) where
  halves : (i : Instance) → IsAmong i g.kept → IsAmong i (first_half rules) ⊎ IsAmong i (second_half rules)
  halves i a =
      IsAmong-append i (first_half rules) (second_half rules)
      (subst (λ (l : List Instance). IsAmong i l) (both_halves rules) ((listing_exact rules w i).1 ((is.members i).0 a)))

  back : (i : Instance) → IsAmong i (first_half rules ++ second_half rules) → IsAmong i g.kept
  back i a = (is.members i).1 ((listing_exact rules w i).0 (subst (λ (l : List Instance). IsAmong i l) (sym (both_halves rules)) a))

  abbrev fixed : List Instance
  fixed = fixed_part rules g.kept

  abbrev others_of : List Instance
  others_of = other_part rules g.kept

  fixed_members : (i : Instance) → IsAmong i fixed ↔ IsAmong i (first_half rules)
  fixed_members i = (
    (λ a. let o = among_filter (λ (j : Instance). is_fixed rules (relation_of j.head)) i g.kept a in there o.1 (halves i o.0)),
    (λ a.
        among_filter_in (λ (j : Instance). is_fixed rules (relation_of j.head)) i g.kept
        (back i (IsAmong-append_left i (first_half rules) (second_half rules) a)) (fixed_is rules i a).1),
  )
    where
      there : is_fixed rules (relation_of i.head) ≡ true → IsAmong i (first_half rules) ⊎ IsAmong i (second_half rules) → IsAmong i (first_half rules)
      there e (inl a) = a
      there e (inr a) = let f = (other_is rules i a).1 in absurd cc

  other_members : (i : Instance) → IsAmong i others_of ↔ IsAmong i (second_half rules)
  other_members i = (
    (λ a.
        let o = among_filter (λ (j : Instance). not (is_fixed rules (relation_of j.head))) i g.kept a in there (not_true _ o.1) (halves i o.0)),
    (λ a.
        among_filter_in (λ (j : Instance). not (is_fixed rules (relation_of j.head))) i g.kept
        (back i (IsAmong-append_right i (first_half rules) (second_half rules) a)) (not_false _ (other_is rules i a).1)),
  )
    where
      there : is_fixed rules (relation_of i.head) ≡ false → IsAmong i (first_half rules) ⊎ IsAmong i (second_half rules) → IsAmong i (second_half rules)
      there e (inl a) = let f = (fixed_is rules i a).1 in absurd cc
      there e (inr a) = a

  -- those of fixed relations stand first
  fixed_stand_first : g.kept ≡ fixed ++ others_of
  fixed_stand_first =
      parted (StandsBefore rules g.atoms) (λ (i : Instance). is_fixed rules (relation_of i.head)) g.kept is.order
      (λ i j a b e f h. later_not_before rules w g.atoms i j
      (fixed_first rules (relation_of j.head) (relation_of i.head) (place j (halves j b)) (place i (halves i a)) f e) h)
    where
      place : (i : Instance) → IsAmong i (first_half rules) ⊎ IsAmong i (second_half rules) → IsAmong (relation_of i.head) (relations_in_order rules)
      place i (inl a) = (fixed_is rules i a).0
      place i (inr a) = (other_is rules i a).0

  first_is : fixed ≡ first_half rules
  first_is =
      same_more rules w g.atoms no_listing (fixed_relations rules) fixed
      (places_rise rules (λ (p : Relation). is_fixed rules p)) (fixed_in_front rules) (front.0, is.numbers ∙ front.1)
      (order_filter (StandsBefore rules g.atoms) (λ (i : Instance). is_fixed rules (relation_of i.head)) g.kept is.order) fixed_members
    where
      front : IsFrontOf (with_atoms [] (heads fixed)) (by_appearance rules g.kept)
      front = with_front (with_atoms [] (heads fixed)) (context_atoms (with_atoms [] (heads fixed)) ++ heads others_of)

  fixed_atoms_are : with_atoms [] (heads fixed) ≡ (fixed_listing rules).atoms
  fixed_atoms_are = ap (λ (l : List Instance). with_atoms [] (heads l)) first_is ∙ sym (fixed_atoms rules)

  second_is : others_of ≡ second_half rules
  second_is =
      same_more rules w g.atoms (context_listing rules) (other_relations rules) others_of
      (places_rise rules (λ (p : Relation). not (is_fixed rules p))) ([], sym (append-nil (listing rules).atoms)) ([], front)
      (order_filter (StandsBefore rules g.atoms) (λ (i : Instance). not (is_fixed rules (relation_of i.head))) g.kept is.order) other_members
    where
      front : g.atoms ≡ with_atoms (context_listing rules).atoms (heads others_of) ++ []
      front =
          is.numbers
          ∙ ap (λ (xs : List Atom). with_atoms xs (context_atoms xs ++ heads others_of)) fixed_atoms_are
          ∙ with_append (fixed_listing rules).atoms (context_atoms (fixed_listing rules).atoms) (heads others_of)
          ∙ sym (append-nil (with_atoms (context_listing rules).atoms (heads others_of)))

  kept_is : g.kept ≡ (listing rules).kept
  kept_is =
      fixed_stand_first ∙ ap (λ (l : List Instance). l ++ others_of) first_is ∙ ap (λ (l : List Instance). first_half rules ++ l) second_is
      ∙ sym (both_halves rules)

pub listing_numbered : (rules : List Alternative) → (listing rules).atoms ≡ by_appearance rules (listing rules).kept
listing_numbered rules =
    numbered_in_order rules
    ∙ with_append [] (heads (fixed_part rules (listing rules).kept))
    (context_atoms (fixed_listing rules).atoms ++ heads (other_part rules (listing rules).kept))
    ∙ ap (λ (xs : List Atom). with_atoms (with_atoms [] (heads (fixed_part rules (listing rules).kept)))
    (context_atoms xs ++ heads (other_part rules (listing rules).kept))) (fixed_numbered rules)

pub listing_is : (rules : List Alternative) → IsWellFormed rules → IsListing rules (listing rules)
listing_is rules w = record { members = listing_exact rules w; order = kept_in_order rules w; numbers = listing_numbered rules }

pub determined : (rules : List Alternative) → IsWellFormed rules → (g : Listing) → IsListing rules g ↔ (g ≡ listing rules)
determined rules w g = (one, (λ e. subst (λ (l : Listing). IsListing rules l) (sym e) (listing_is rules w)))
  where
    one : IsListing rules g → g ≡ listing rules
    one is =
        let kept = kept_is rules w g is in
        let atoms = is.numbers ∙ ap (by_appearance rules) kept ∙ sym (listing_numbered rules) in
        λ i. record { atoms = atoms i; kept = kept i }
