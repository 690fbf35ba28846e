-- Atoms and their numbers, and alternatives at places.
use Rattle.std.proofs.Common.{ℕ, zero, suc, ◌<◌, Bool, true, false, not, cond, ◌≡◌, inl, inr, List, [], ◌∷◌, length, map, refl, sym, ap, subst, ◌∙◌, arith, get_or}
use Rattle.std.specs.Prelude.{All, filter}
use Rattle.statement.specs.Clause.{Atom, positive, Literal, Alternative, relation_of, atom_eq}
use Rattle.statement.specs.Dependence.{IsAmong, is_fixed}
use Rattle.statement.specs.Listing.{Instance, listing}
use Rattle.statement.specs.Kept.{number_of, is_read, reading, gate}
use Rattle.rules_profile.proofs.Facts.{atom_eq_yes, atom_eq_self}
use Rattle.meaning.specs.InOrder.{AreDistinct}
use Rattle.meaning.proofs.Facts.{among_map_out, among_map_in, among_filter_in}

-- what holds at each place holds of each member
pub of_all : {A : Type 0} (P : A → Type 0) (xs : List A) → All P xs → (x : A) → IsAmong x xs → P x
of_all P [] h x a = absurd a
of_all {A} P (y ∷ ys) h x (inl e) = subst (λ (z : A). P z) (sym e) (h zero y (omega arith))
of_all P (y ∷ ys) h x (inr a) = of_all P ys (λ k d lt. h (suc k) d (omega arith)) x a

-- a member stands at some place
pub place_of : {A : Type 0} (xs : List A) (x : A) → IsAmong x xs → (k : ℕ) × (k < length xs) × ((d : A) → get_or xs k d ≡ x)
place_of [] x a = absurd a
place_of (y ∷ ys) x (inl e) = (zero, omega arith, λ d. sym e)
place_of (y ∷ ys) x (inr a) = let p = place_of ys x a in (suc p.0, let lt = p.1 in omega arith, p.2)

-- atoms are the same if they have the same number and one of them is listed
pub one_atom : (x y : Atom) (xs : List Atom) → IsAmong y xs → number_of x xs ≡ number_of y xs → x ≡ y
one_atom x y [] a e = absurd a
one_atom x y (z ∷ zs) a e = go (atom_eq x z) refl (atom_eq y z) refl a e (λ b f. one_atom x y zs b f)
  where
    go : (s : Bool) → atom_eq x z ≡ s → (t : Bool) → atom_eq y z ≡ t → IsAmong y (z ∷ zs)
        → cond s zero (suc (number_of x zs)) ≡ cond t zero (suc (number_of y zs))
        → (IsAmong y zs → number_of x zs ≡ number_of y zs → x ≡ y) → x ≡ y
    go true f true g b h more = atom_eq_yes x z f ∙ sym (atom_eq_yes y z g)
    go true f false g b h more = absurd (omega arith)
    go false f true g b h more = absurd (omega arith)
    go false f false g (inl s) h more = let self = subst (λ (u : Atom). atom_eq y u ≡ true) s (atom_eq_self y) in absurd cc
    go false f false g (inr b) h more = more b (omega arith)

-- listed atoms that differ have numbers that differ
pub numbers_differ : (atoms xs : List Atom) → ((x : Atom) → IsAmong x xs → IsAmong x atoms) → AreDistinct xs
    → AreDistinct (map (λ x. number_of x atoms) xs)
numbers_differ atoms [] listed d = tt
numbers_differ atoms (x ∷ xs) listed d = (apart, numbers_differ atoms xs (λ y a. listed y (inr a)) d.1)
  where
    apart : (m : ℕ) → IsAmong m (map (λ y. number_of y atoms) xs) → number_of x atoms ≡ m → ⊥
    apart m a e =
        let o = among_map_out (λ (y : Atom). number_of y atoms) m xs a in
        d.0 o.0 o.1 (one_atom x o.0 atoms (listed o.0 (inr o.1)) (e ∙ o.2))

abbrev first_number : List (ℕ × Bool) → ℕ
first_number [] = zero
first_number (r ∷ rs) = r.0

no_gate : {P : Type 0} (r : ℕ × Bool) → [] ≡ r ∷ [] → P
no_gate r e = absurd cc

-- a gate that reads one atom, of a body that has one
pub one_gate : (out : List Alternative) (i : Instance) (z : Atom) (b : ℕ) → i.body ≡ positive z ∷ [] → gate out i ≡ (b, false) ∷ []
    → (is_fixed out (relation_of z) ≡ false) × (number_of z (listing out).atoms ≡ b)
one_gate out i z b e g = go (is_fixed out (relation_of z)) refl
    (subst (λ (ls : List Literal). map (reading (listing out).atoms) (filter (is_read out (listing out).atoms) ls) ≡ (b, false) ∷ []) e g)
  where
    go : (t : Bool) → is_fixed out (relation_of z) ≡ t
        → map (reading (listing out).atoms) (cond (not (is_fixed out (relation_of z))) (positive z ∷ []) []) ≡ (b, false) ∷ []
        → (is_fixed out (relation_of z) ≡ false) × (number_of z (listing out).atoms ≡ b)
    go true f h =
        no_gate (b, false)
        (subst (λ (t : Bool). map (reading (listing out).atoms) (cond (not t) (positive z ∷ []) []) ≡ (b, false) ∷ []) f h)
    go false f h = (
      f,
      ap (λ (rs : List (ℕ × Bool)). first_number rs)
          (subst (λ (t : Bool). map (reading (listing out).atoms) (cond (not t) (positive z ∷ []) []) ≡ (b, false) ∷ []) f h),
    )

-- what is read of a body stands in its gate
pub in_gate : (out : List Alternative) (i : Instance) (z : Atom) → IsAmong (positive z) i.body → is_fixed out (relation_of z) ≡ false
    → IsAmong (number_of z (listing out).atoms, false) (gate out i)
in_gate out i z a e =
    among_map_in (reading (listing out).atoms) (positive z) (filter (is_read out (listing out).atoms) i.body)
    (among_filter_in (is_read out (listing out).atoms) (positive z) i.body a (ap not e))
