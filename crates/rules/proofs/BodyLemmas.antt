-- The relations that bodies name.
use Rattle.std.proofs.Common.{ℕ, suc, zero, ◌≡◌, ◌+◌, ◌<◌, ◌≤◌, inl, inr, List, [], ◌∷◌, ◌++◌, length, drop, refl, sym, ◌∙◌, ap, subst, arith, get_or}
use Rattle.std.proofs.Common.{IsPermutation, eqb}
use Rattle.std.specs.List.{dedup}
use Rattle.std.proofs.lemmas.List.{append-nil}
use Rattle.std.proofs.lemmas.List.Kept.{Contains-dedup_nat, Contains-from_dedup}
use Rattle.std.proofs.lemmas.List.Sorted.{Contains-permutation, IsPermutation-sym}
use Rattle.statement.specs.Dependence.{IsAmong}
use Rattle.std.specs.Prelude.{Vec}
use Rattle.std.specs.List.Sorted.{IsSorted, IsStrictlyIncreasing}
use Rattle.std.specs.Ordering.{nat_cmp}
use Rattle.std.proofs.lemmas.Map.Keys.{IsStrictlyIncreasing-dedup}
use Rattle.rules_clauses.specs.declared.numbered.Span.{Span}
use Rattle.rules_clauses.specs.Spread.{lists_of, numbers_in}
use Rattle.rules_clauses.specs.Store.{Data}
use Rattle.rules_clauses.specs.Marks.{AreInside, AreAllInside}
use Rattle.rules.specs.Bodies.{named_relations, all_named_relations, HaveSame}
use Rattle.rules.proofs.ArrowLemmas.{contained, containing}
use Rattle.rules_profile.proofs.Facts.{IsAmong-append, IsAmong-append_left, IsAmong-append_right}

-- of all literals, those of the rest are still to be named
pub record Naming (from : ℕ) (d : Data) (start now all rest : List ℕ) : Type 0 where
  pub same : now ++ named_relations d rest ≡ start ++ named_relations d all
  pub inside : AreInside from d rest

pub record NamingAll (from : ℕ) (d : Data) (now : List ℕ) (all rest : List (List ℕ)) : Type 0 where
  pub same : HaveSame (now ++ all_named_relations d rest) (all_named_relations d all)
  pub rising : IsStrictlyIncreasing now
  pub inside : AreAllInside from d rest

-- what a sort leaves, without repeats, has the same numbers
pub same_once : (old sorted new : List ℕ) → IsPermutation old sorted → new ≡ dedup eqb sorted → HaveSame new old
same_once old sorted new p e x = (
  (λ i. let c =
      Contains-permutation sorted old x (IsPermutation-sym old sorted p)
      (Contains-from_dedup eqb sorted x (containing (dedup eqb sorted) x (subst (λ (xs : List ℕ). IsAmong x xs) e i))) in
      contained old x c.0 c.1 c.2),
  (λ i. let c = Contains-dedup_nat sorted x (Contains-permutation old sorted x p (containing old x i)) in
      subst (λ (xs : List ℕ). IsAmong x xs) (sym e) (contained (dedup eqb sorted) x c.0 c.1 c.2)),
)

pub rising_once : (sorted new : List ℕ) → IsSorted nat_cmp sorted → new ≡ dedup eqb sorted → IsStrictlyIncreasing new
rising_once sorted new s e = subst (λ (xs : List ℕ). IsStrictlyIncreasing xs) (sym e) (IsStrictlyIncreasing-dedup sorted s)

body_named : (from : ℕ) (d : Data) (now new out b : List ℕ) (all rest : List (List ℕ)) → NamingAll from d now all (b ∷ rest)
    → new ≡ now ++ named_relations d b → HaveSame out new → IsStrictlyIncreasing out → NamingAll from d out all rest
body_named from d now new out b all rest n e h r = record { same = λ x. (into x, back x); rising = r; inside = n.inside.1 }
  where
    into : (x : ℕ) → IsAmong x (out ++ all_named_relations d rest) → IsAmong x (all_named_relations d all)
    into x i = (n.same x).0 (elim (IsAmong-append x out (all_named_relations d rest) i) [
      | inl k ↦ elim (IsAmong-append x now (named_relations d b) (subst (λ (xs : List ℕ). IsAmong x xs) e ((h x).0 k))) [
        | inl m ↦ IsAmong-append_left x now (named_relations d b ++ all_named_relations d rest) m
        | inr m ↦ IsAmong-append_right x now (named_relations d b ++ all_named_relations d rest)
            (IsAmong-append_left x (named_relations d b) (all_named_relations d rest) m)
      ]
      | inr k ↦ IsAmong-append_right x now (named_relations d b ++ all_named_relations d rest)
          (IsAmong-append_right x (named_relations d b) (all_named_relations d rest) k)
    ])

    of_new : (x : ℕ) → IsAmong x (now ++ named_relations d b) → IsAmong x (out ++ all_named_relations d rest)
    of_new x i = IsAmong-append_left x out (all_named_relations d rest) ((h x).1 (subst (λ (xs : List ℕ). IsAmong x xs) (sym e) i))

    back : (x : ℕ) → IsAmong x (all_named_relations d all) → IsAmong x (out ++ all_named_relations d rest)
    back x i = elim (IsAmong-append x now (named_relations d b ++ all_named_relations d rest) ((n.same x).1 i)) [
      | inl k ↦ of_new x (IsAmong-append_left x now (named_relations d b) k)
      | inr k ↦ elim (IsAmong-append x (named_relations d b) (all_named_relations d rest) k) [
        | inl m ↦ of_new x (IsAmong-append_right x now (named_relations d b) m)
        | inr m ↦ IsAmong-append_right x out (all_named_relations d rest) m
      ]
    ]

all_named : (from : ℕ) (d : Data) (out : List ℕ) (all : List (List ℕ)) → NamingAll from d out all [] → HaveSame out (all_named_relations d all)
all_named from d out all n x =
    let same : out ++ [] ≡ out = append-nil out in
    ((λ i. (n.same x).0 (subst (λ (xs : List ℕ). IsAmong x xs) (sym same) i)), (λ i. subst (λ (xs : List ℕ). IsAmong x xs) same ((n.same x).1 i)))

lists_from : {G : Type 0} (xs : List (Vec Span G)) (i : ℕ) (v : Vec Span G) → i < length xs → v ≡ get_or xs i v
    → lists_of (drop i xs) ≡ numbers_in v.items ∷ lists_of (drop (suc i) xs)
lists_from [] i v h e = absurd (let bad : ⊥ = omega (arith, h) in bad)
lists_from (x ∷ xs) zero v h e = ap (λ y. lists_of (y ∷ xs)) (sym e)
lists_from (x ∷ xs) (suc i) v h e = lists_from xs i v (omega (arith, h)) e

pub next_named : {G : Type 0} (from : ℕ) (d : Data) (items : List (Vec Span G)) (i : ℕ) (v : Vec Span G) (b now new out : List ℕ) (all : List (List ℕ))
    → NamingAll from d now all (lists_of (drop i items)) → i < length items
    → v ≡ get_or items i v → b ≡ numbers_in v.items → new ≡ now ++ named_relations d b → HaveSame out new → IsStrictlyIncreasing out
    → NamingAll from d out all (lists_of (drop (i + 1) items))
next_named {G} from d items i v b now new out all n h e f g k r =
    let next : suc i ≡ i + 1 = omega arith in
    let here = subst (λ (ls : List (List ℕ)). NamingAll from d now all ls) (lists_from items i v h e) n in
    subst (λ (j : ℕ). NamingAll from d out all (lists_of (drop j items))) next
    (body_named from d now new out (numbers_in v.items) all (lists_of (drop (suc i) items)) here (g ∙ ap (λ (xs : List ℕ). now ++ named_relations d xs) f) k r)

none_left : {G : Type 0} (xs : List (Vec Span G)) (i : ℕ) → length xs ≤ i → lists_of (drop i xs) ≡ []
none_left [] zero h = refl
none_left [] (suc i) h = refl
none_left (x ∷ xs) zero h = absurd (let bad : ⊥ = omega (arith, h) in bad)
none_left (x ∷ xs) (suc i) h = none_left xs i (omega (arith, h))

pub last_named : {G : Type 0} (from : ℕ) (d : Data) (items : List (Vec Span G)) (i : ℕ) (out : List ℕ) (all : List (List ℕ))
    → NamingAll from d out all (lists_of (drop i items)) → length items ≤ i
    → HaveSame out (all_named_relations d all)
last_named {G} from d items i out all n h =
    all_named from d out all (subst (λ (ls : List (List ℕ)). NamingAll from d out all ls) (none_left items i h) n)
