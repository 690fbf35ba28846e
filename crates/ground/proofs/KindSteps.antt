-- The kinds of atoms one after the other.
use Rattle.std.proofs.Common.{ℕ, ◌+◌, ◌≡◌, List, [], ◌∷◌, ◌++◌, map, nat_lt, append_assoc, sym, ap, ◌∙◌}
use Rattle.std.proofs.lemmas.List.{append-nil}
use Rattle.statement.specs.Tree.{Tree}
use Rattle.statement.specs.Clause.{Atom, Alternative, relation_of, tree_of}
use Rattle.statement.specs.Dependence.{is_fixed}
use Rattle.statement.specs.declared.kind.Kind.{Kind}
use Rattle.ground_terms.specs.Keys.{term_at}
use Rattle.statement.specs.Kinds.{kind_of}
use Rattle.meaning.specs.Marked.{FixedBefore}

-- the kinds of the atoms before a place are known, and some atoms are left
pub record KindsTo (rules : List Alternative) (terms : List Tree) (n : ℕ) (kinds : List Kind) (place : ℕ) (rest : List ℕ) (xs : List Atom) : Type 0
  where
    pub left : List Atom
    pub same : map (term_at terms) rest ≡ map tree_of left
    pub marked : FixedBefore rules n place left
    pub kinds_are : kinds ++ map (kind_of rules) left ≡ map (kind_of rules) xs

pub record Kinding (rules : List Alternative) (terms : List Tree) (n : ℕ) (all : List ℕ) (kinds : List Kind) (place : ℕ) (rest : List ℕ) : Type 0
  where
    pub each : (xs : List Atom) → map (term_at terms) all ≡ map tree_of xs → FixedBefore rules n 0 xs → KindsTo rules terms n kinds place rest xs

module _ (rules : List Alternative) (terms : List Tree) (n : ℕ) (all : List ℕ) where
  pub kinding_next : (kinds new : List Kind) (place a : ℕ) (rest : List ℕ) (k : Kind) → Kinding rules terms n all kinds place (a ∷ rest)
      → ((x : Atom) → tree_of x ≡ term_at terms a → is_fixed rules (relation_of x) ≡ nat_lt place n → k ≡ kind_of rules x) → new ≡ kinds ++ k ∷ []
      → Kinding rules terms n all new (place + 1) rest
  kinding_next kinds new place a rest k s is e = record { each = λ xs f m. go xs (s.each xs f m) }
    where
      go : (xs : List Atom) → KindsTo rules terms n kinds place (a ∷ rest) xs → KindsTo rules terms n new (place + 1) rest xs
      go xs t = pick t.left t.same t.marked t.kinds_are
        where
          pick : (ys : List Atom) → map (term_at terms) (a ∷ rest) ≡ map tree_of ys → FixedBefore rules n place ys
              → kinds ++ map (kind_of rules) ys ≡ map (kind_of rules) xs → KindsTo rules terms n new (place + 1) rest xs
          pick [] f m g = absurd cc
          pick (y ∷ ys) f m g =
              let first : term_at terms a ≡ tree_of y = cc in
              let others : map (term_at terms) rest ≡ map tree_of ys = cc in
              let here : k ≡ kind_of rules y = is y (sym first) m.0 in
              record {
                left = ys;
                same = others;
                marked = m.1;
                kinds_are = ap (λ (l : List Kind). l ++ map (kind_of rules) ys) e ∙ append_assoc kinds (k ∷ []) (map (kind_of rules) ys)
                    ∙ ap (λ (i : Kind). kinds ++ i ∷ map (kind_of rules) ys) here ∙ g;
              }

  pub kinding_ends : (kinds : List Kind) (place : ℕ) → Kinding rules terms n all kinds place [] → (xs : List Atom)
      → map (term_at terms) all ≡ map tree_of xs → FixedBefore rules n 0 xs → kinds ≡ map (kind_of rules) xs
  kinding_ends kinds place s xs f m = go (s.each xs f m)
    where
      go : KindsTo rules terms n kinds place [] xs → kinds ≡ map (kind_of rules) xs
      go t = pick t.left t.same t.kinds_are
        where
          pick : (ys : List Atom) → [] ≡ map tree_of ys → kinds ++ map (kind_of rules) ys ≡ map (kind_of rules) xs → kinds ≡ map (kind_of rules) xs
          pick [] e g = sym (append-nil kinds) ∙ g
          pick (y ∷ ys) e g = absurd cc
