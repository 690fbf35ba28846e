-- What play comes to by numbers it comes to by the rules.
use Rattle.std.proofs.Common.{ℕ, zero, suc, ◌<◌, Bool, true, false, not, cond, ◌≡◌, ◌≢◌, ◌⊎◌, inl, inr, List, [], ◌∷◌, length, map, refl, sym, ap, subst, ◌∙◌, arith, Option, Some, None}
use Rattle.std.specs.Prelude.{filter}
use Rattle.std.specs.Option.{option_map}
use Rattle.std.proofs.lemmas.List.{length-map}
use Rattle.statement.specs.Tree.{Tree, name, Trees, no_trees, tree, text, tree_eq}
use Rattle.kif.proofs.Facts.{tree_eq_yes, tree_eq_self}
use Rattle.statement.specs.Words.{w_true, w_next}
use Rattle.statement.specs.Clause.{Atom, positive, Alternative, Relation, relation_of, atom_eq}
use Rattle.statement.specs.Dependence.{IsAmong, is_moving, is_fixed, is_fixed_in}
use Rattle.statement.specs.Meaning.{atom1}
use Rattle.statement.specs.Printed.{first_place}
use Rattle.statement.specs.Listing.{Instance, listing, base_list}
use Rattle.statement.specs.Kept.{Kept, number_of, is_read, reading, gate, numbered}
use Rattle.statement.specs.Kinds.{place_in, kind_of}
use Rattle.statement.specs.declared.kind.Kind.{Kind}
use Rattle.statement.specs.declared.kind.Kind.TheVariants.{Now, Next, Other}
use Rattle.meaning.specs.Kinds.{MeansKind}
use Rattle.meaning.proofs.Facts.{among_map_out, among_map_in, among_filter_in, atom_test}
use Rattle.ground_instances.specs.declared.flat_ground.FlatGround.{FlatGround}
use Rattle.ground_instances.specs.GroundView.{IsGround, base_of, instances_of, kinds_of}
use Rattle.unroll_strata.specs.Founded.{IsReached}
use Rattle.unroll.specs.ReachedByNumber.{kind_in, IsReachedIn}

-- one tree stands at a place
one_place : (ts : List Tree) (t u : Tree) (n : ℕ) → place_in t ts ≡ Some n → place_in u ts ≡ Some n → t ≡ u
one_place [] t u n h k = absurd cc
one_place (y ∷ ys) t u n h k = go (tree_eq t y) refl (tree_eq u y) refl n h k (λ m a b. one_place ys t u m a b) (place_in t ys) refl (place_in u ys)
    refl
  where
    go : (a : Bool) → tree_eq t y ≡ a → (b : Bool) → tree_eq u y ≡ b → (m : ℕ) → cond a (Some zero) (option_map suc (place_in t ys)) ≡ Some m
        → cond b (Some zero) (option_map suc (place_in u ys)) ≡ Some m
        → ((i : ℕ) → place_in t ys ≡ Some i → place_in u ys ≡ Some i → t ≡ u) → (o : Option ℕ) → place_in t ys ≡ o → (q : Option ℕ)
        → place_in u ys ≡ q → t ≡ u
    go true e true f m h k more o oe q qe = tree_eq_yes t y e ∙ sym (tree_eq_yes u y f)
    go true e false f m h k more o oe None qe = absurd cc
    go true e false f m h k more o oe (Some j) qe = absurd cc
    go false e true f m h k more None oe q qe = absurd cc
    go false e true f m h k more (Some i) oe q qe = absurd cc
    go false e false f m h k more None oe q qe = absurd cc
    go false e false f m h k more (Some i) oe None qe = absurd cc
    go false e false f m h k more (Some i) oe (Some j) qe =
        let a : suc i ≡ m = cc in
        let b : suc j ≡ m = cc in
        let s : j ≡ i = omega arith in
        more i oe (qe ∙ ap (λ (z : ℕ). Some z) s)

-- each tree of a list has a place in it
place_there : (t : Tree) (ts : List Tree) → IsAmong t ts → (n : ℕ) × (place_in t ts ≡ Some n) × (n < length ts)
place_there t [] h = absurd h
place_there t (u ∷ us) h = go (tree_eq t u) refl h (λ k. place_there t us k)
  where
    go : (b : Bool) → tree_eq t u ≡ b → (t ≡ u) ⊎ IsAmong t us → (IsAmong t us → (n : ℕ) × (place_in t us ≡ Some n) × (n < length us))
        → (n : ℕ) × (cond b (Some zero) (option_map suc (place_in t us)) ≡ Some n) × (n < suc (length us))
    go true e k more = (0, refl, omega arith)
    go false e (inl s) more = let f = subst (λ (v : Tree). tree_eq t v ≡ true) s (tree_eq_self t) in absurd cc
    go false e (inr k) more = let r = more k in let l = r.2 in (suc r.0, ap (option_map suc) r.1, omega arith)

-- the kind at the number of an atom is that of the atom
kind_found : (f : Atom → Kind) (x : Atom) (atoms : List Atom) (k : Kind) → k ≢ Other → kind_in (map f atoms) (number_of x atoms) ≡ k → f x ≡ k
kind_found f x [] k other e = absurd (other (sym e))
kind_found f x (y ∷ ys) k other e = go (atom_eq x y) refl e (λ h. kind_found f x ys k other h)
  where
    go : (b : Bool) → atom_eq x y ≡ b → kind_in (map f (y ∷ ys)) (cond b zero (suc (first_place (atom_eq x) ys))) ≡ k
        → (kind_in (map f ys) (number_of x ys) ≡ k → f x ≡ k) → f x ≡ k
    go true same h more = ap f ((atom_test x y).0 same) ∙ h
    go false same h more = more h

-- what moves is not fixed
moving_open : (rules : List Alternative) (p : Relation) (n : ℕ) → is_moving p ≡ true → is_fixed_in rules n p ≡ false
moving_open rules p zero e = ap not e
moving_open rules p (suc n) e = rw e refl

abbrev first_term : Trees → Tree
first_term no_trees = name []
first_term (tree t ts) = t

one_term : (w : List ℕ) (t u : Tree) → atom1 w t ≡ atom1 w u → t ≡ u
one_term w t u e = ap (λ (x : Atom). first_term x.terms) e

now_other : (j : ℕ) → Now j ≢ Other
now_other j e = absurd cc

next_other : (j : ℕ) → Next j ≢ Other
next_other j e = absurd cc

module _ (rules : List Alternative) (sound : (x : Atom) (kind : Kind) → kind_of rules x ≡ kind → kind ≢ Other → MeansKind rules x kind) where
  abbrev kinds : List Kind
  kinds = map (kind_of rules) (listing rules).atoms

  abbrev kept : List Kept
  kept = map (numbered rules) (listing rules).kept

  meant : (x : Atom) (k : Kind) → k ≢ Other → kind_in kinds (number_of x (listing rules).atoms) ≡ k → MeansKind rules x k
  meant x k other e = sound x k (kind_found (kind_of rules) x (listing rules).atoms k other e) other

  -- a literal that asks whether a term is in the state is read
  asked_there : (i : Instance) (u : Tree) → IsAmong (positive (atom1 w_true u)) i.body
      → IsAmong (number_of (atom1 w_true u) (listing rules).atoms, false) (gate rules i)
  asked_there i u a =
      let l = positive (atom1 w_true u) in
      let open_now : is_fixed rules (relation_of (atom1 w_true u)) ≡ false
      = moving_open rules (relation_of (atom1 w_true u)) (length rules) refl in
      among_map_in (reading (listing rules).atoms) l (filter (is_read rules (listing rules).atoms) i.body)
      (among_filter_in (is_read rules (listing rules).atoms) l i.body a (ap not open_now))

  pub reached_in : (n k : ℕ) (t : Tree) → place_in t (base_list rules) ≡ Some k → IsReachedIn kinds kept n k → IsReached rules n t
  reached_in zero k t place d = absurd d
  reached_in (suc n) k t place d = step (among_map_out (numbered rules) d.0 (listing rules).kept d.1) (λ j u. reached_in n j u)
    where
      step : (i : Instance) × IsAmong i (listing rules).kept × (d.0 ≡ numbered rules i)
          → ((j : ℕ) (u : Tree) → place_in u (base_list rules) ≡ Some j → IsReachedIn kinds kept n j → IsReached rules n u)
          → IsReached rules (suc n) t
      step o more =
          let head = meant (o.0).head (Next k) (next_other k) (ap (λ (i : Kept). kind_in kinds i.head) (sym o.2) ∙ d.2) in
          let same = one_place (base_list rules) head.0 t k head.2 place in (
            o.0,
            o.1,
            head.1 ∙ ap (λ (p : Tree). atom1 w_next p) same,
            λ u a.
                let b = d.3 (number_of (atom1 w_true u) (listing rules).atoms, false)
                (subst (λ (i : Kept). IsAmong (number_of (atom1 w_true u) (listing rules).atoms, false) i.body) (sym o.2) (asked_there o.0 u a)) in
                let j = (b.1).0 in
                let now = meant (atom1 w_true u) (Now j) (now_other j) (b.1).1 in
                let term = one_term w_true u now.0 now.1 in
                more j u (ap (λ (p : Tree). place_in p (base_list rules)) term ∙ now.2) (b.1).2,
          )

  module _ (g : FlatGround) (is : IsGround rules g) where
    pub reached_of : (n k : ℕ) (t : Tree) → place_in t (base_list rules) ≡ Some k → IsReachedIn (kinds_of g) (instances_of g) n k → IsReached rules n t
    reached_of n k t place d =
        reached_in n k t place
        (subst (λ (ks : List Kind). IsReachedIn ks kept n k) is.kinds_are
        (subst (λ (rows : List Kept). IsReachedIn (kinds_of g) rows n k) is.kept_are d))

pub all_reached : (rules : List Alternative) (g : FlatGround) → IsGround rules g
    → ((n k : ℕ) (t : Tree) → place_in t (base_list rules) ≡ Some k → IsReachedIn (kinds_of g) (instances_of g) n k → IsReached rules n t)
    → ((k : ℕ) → k < length (base_of g) → (n : ℕ) × IsReachedIn (kinds_of g) (instances_of g) n k)
    → (t : Tree) → IsAmong t (base_list rules) → (n : ℕ) × IsReached rules n t
all_reached rules g is law numbers t a =
    let p = place_there t (base_list rules) a in
    let long : length (base_of g) ≡ length (base_list rules) = ap length is.base_are ∙ length-map (base_list rules) text in
    let below : p.0 < length (base_of g) = subst (λ (m : ℕ). p.0 < m) (sym long) p.2 in
    let r = numbers p.0 below in
    (r.0, law r.0 p.0 t p.1 r.1)
