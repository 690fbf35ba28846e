-- The kind of an atom is what the atom is.
use Rattle.std.proofs.Common.{ℕ, zero, suc, ◌≤◌, Bool, true, false, cond, ◌≡◌, List, refl, sym, ap, subst, ◌∙◌, arith, Option, Some, None}
use Rattle.std.specs.Prelude.{decimal}
use Rattle.std.proofs.lemmas.Fmt.{decimal_injective}
use Rattle.statement.specs.Tree.{Tree, name, list, Trees, no_trees, tree, name_eq}
use Rattle.kif.proofs.Facts.{name_eq_yes, name_eq_self}
use Rattle.statement.specs.Words.{w_true, w_does, w_next, w_legal, w_goal, w_terminal}
use Rattle.statement.specs.Clause.{Atom, Alternative, Relation, relation_of}
use Rattle.statement.specs.Dependence.{IsAcyclic, is_moving, is_fixed}
use Rattle.rules_profile.proofs.Facts.{fixed_tested}
use Rattle.statement.specs.declared.kind.Kind.{Kind}
use Rattle.statement.specs.declared.kind.Kind.TheVariants.{Fixed, Now, Does, Next, Legal, Goal, Terminal, Other}
use Rattle.statement.specs.Meaning.{atom0, atom1, atom2}
use Rattle.statement.specs.Listing.{role_list, base_list, input_list}
use Rattle.statement.specs.Kinds.{place_in, value_up_to, value_of, one_number, two_numbers, kind_at, kind_of}
use Rattle.meaning.specs.Kinds.{MeansKind}

value_sound : (n : ℕ) (ds : List ℕ) (v : ℕ) → value_up_to n ds ≡ Some v → (ds ≡ decimal v) × (v ≤ n)
value_sound zero ds v h = go (name_eq ds (decimal zero)) refl h
  where
    go : (b : Bool) → name_eq ds (decimal zero) ≡ b → cond b (Some zero) None ≡ Some v → (ds ≡ decimal v) × (v ≤ zero)
    go true e k = let f : zero ≡ v = cc in (name_eq_yes ds (decimal zero) e ∙ ap decimal f, omega arith)
    go false e k = absurd cc
value_sound (suc n) ds v h = go (name_eq ds (decimal (suc n))) refl h (value_sound n ds v)
  where
    go : (b : Bool) → name_eq ds (decimal (suc n)) ≡ b → cond b (Some (suc n)) (value_up_to n ds) ≡ Some v
        → (value_up_to n ds ≡ Some v → (ds ≡ decimal v) × (v ≤ n)) → (ds ≡ decimal v) × (v ≤ suc n)
    go true e k more = let f : suc n ≡ v = cc in (name_eq_yes ds (decimal (suc n)) e ∙ ap decimal f, omega arith)
    go false e k more = let r = more k in let s = r.1 in (r.0, omega arith)

value_complete : (n v : ℕ) → v ≤ n → n ≤ 100 → value_up_to n (decimal v) ≡ Some v
value_complete zero v a b =
    let e : v ≡ zero = omega arith in
    let f = name_eq_self (decimal zero) in
    subst (λ (u : ℕ). value_up_to zero (decimal u) ≡ Some u) (sym e) (rw f refl)
value_complete (suc n) v a b = go (name_eq (decimal v) (decimal (suc n))) refl (value_complete n v)
  where
    go : (t : Bool) → name_eq (decimal v) (decimal (suc n)) ≡ t → (v ≤ n → n ≤ 100 → value_up_to n (decimal v) ≡ Some v)
        → cond t (Some (suc n)) (value_up_to n (decimal v)) ≡ Some v
    go true e more =
        let s = decimal_injective v (suc n) (omega arith) (omega arith) (name_eq_yes (decimal v) (decimal (suc n)) e) in ap Some (sym s)
    go false e more = more (omega (arith, differ)) (omega arith)
      where
        differ : v ≡ suc n → ⊥
        differ s = let f : name_eq (decimal v) (decimal (suc n)) ≡ true = subst (λ (u : ℕ). name_eq (decimal v) (decimal u) ≡ true) s
            (name_eq_self (decimal v)) in cc

module _ (rules : List Alternative) (acyclic : IsAcyclic rules) where
  -- an atom is of the kind that it is given
  pub kind_sound : (x : Atom) (k : Kind) → kind_of rules x ≡ k → (k ≡ Other → ⊥) → MeansKind rules x k
  kind_sound x k h other = go (is_fixed rules (relation_of x)) refl h
    where
      word : (w v : List ℕ) (ts : Trees) → name_eq w v ≡ true → ◌≡◌ {A = Atom} (record { word = w; terms = ts }) (record { word = v; terms = ts })
      word w v ts e = let f = name_eq_yes w v e in λ i. record { word = f i; terms = ts }

      no_terms : (w : List ℕ) (b : Bool) → name_eq w w_terminal ≡ b → cond b Terminal Other ≡ k
          → MeansKind rules (record { word = w; terms = no_trees }) k
      no_terms w true e f = subst (λ (j : Kind). MeansKind rules (record { word = w; terms = no_trees }) j) f (word w w_terminal no_trees e)
      no_terms w false e f = absurd (other (sym f))

      now_term : (w : List ℕ) (p : Tree) (o : Option ℕ) → name_eq w w_true ≡ true → place_in p (base_list rules) ≡ o → one_number Now o ≡ k
          → MeansKind rules (record { word = w; terms = tree p no_trees }) k
      now_term w p None e f g = absurd (other (sym g))
      now_term w p (Some n) e f g = subst (λ (j : Kind). MeansKind rules (record { word = w; terms = tree p no_trees }) j) g
          (p, word w w_true (tree p no_trees) e, f)

      next_term : (w : List ℕ) (p : Tree) (o : Option ℕ) → name_eq w w_next ≡ true → place_in p (base_list rules) ≡ o → one_number Next o ≡ k
          → MeansKind rules (record { word = w; terms = tree p no_trees }) k
      next_term w p None e f g = absurd (other (sym g))
      next_term w p (Some n) e f g = subst (λ (j : Kind). MeansKind rules (record { word = w; terms = tree p no_trees }) j) g
          (p, word w w_next (tree p no_trees) e, f)

      one_term : (w : List ℕ) (p : Tree) (a b : Bool) → name_eq w w_true ≡ a → name_eq w w_next ≡ b
          → cond a (one_number Now (place_in p (base_list rules))) (cond b (one_number Next (place_in p (base_list rules))) Other) ≡ k
          → MeansKind rules (record { word = w; terms = tree p no_trees }) k
      one_term w p true b e f g = now_term w p (place_in p (base_list rules)) e refl g
      one_term w p false true e f g = next_term w p (place_in p (base_list rules)) f refl g
      one_term w p false false e f g = absurd (other (sym g))

      does_terms : (w : List ℕ) (r m : Tree) (o u : Option ℕ) → name_eq w w_does ≡ true → place_in r (role_list rules) ≡ o
          → place_in m (input_list rules r) ≡ u → two_numbers Does o u ≡ k
          → MeansKind rules (record { word = w; terms = tree r (tree m no_trees) }) k
      does_terms w r m None u e f g h = absurd (other (sym h))
      does_terms w r m (Some a) None e f g h = absurd (other (sym h))
      does_terms w r m (Some a) (Some n) e f g h = subst (λ (j : Kind). MeansKind rules (record { word = w; terms = tree r (tree m no_trees) }) j) h
          (r, m, word w w_does (tree r (tree m no_trees)) e, f, g)

      legal_terms : (w : List ℕ) (r m : Tree) (o u : Option ℕ) → name_eq w w_legal ≡ true → place_in r (role_list rules) ≡ o
          → place_in m (input_list rules r) ≡ u → two_numbers Legal o u ≡ k
          → MeansKind rules (record { word = w; terms = tree r (tree m no_trees) }) k
      legal_terms w r m None u e f g h = absurd (other (sym h))
      legal_terms w r m (Some a) None e f g h = absurd (other (sym h))
      legal_terms w r m (Some a) (Some n) e f g h = subst (λ (j : Kind). MeansKind rules (record { word = w; terms = tree r (tree m no_trees) }) j) h
          (r, m, word w w_legal (tree r (tree m no_trees)) e, f, g)

      goal_terms : (w : List ℕ) (r m : Tree) (o u : Option ℕ) → name_eq w w_goal ≡ true → place_in r (role_list rules) ≡ o → value_of m ≡ u
          → two_numbers Goal o u ≡ k
          → MeansKind rules (record { word = w; terms = tree r (tree m no_trees) }) k
      goal_terms w r m None u e f g h = absurd (other (sym h))
      goal_terms w r m (Some a) None e f g h = absurd (other (sym h))
      goal_terms w r (list ts) (Some a) (Some n) e f g h = absurd cc
      goal_terms w r (name ds) (Some a) (Some n) e f g h =
          let v = value_sound 100 ds n g in
          subst (λ (j : Kind). MeansKind rules (record { word = w; terms = tree r (tree (name ds) no_trees) }) j) h
          (r, word w w_goal (tree r (tree (name ds) no_trees)) e ∙ ap (λ (cs : List ℕ). atom2 w_goal r (name cs)) v.0, f, v.1)

      two_terms : (w : List ℕ) (r m : Tree) (a b c : Bool) → name_eq w w_does ≡ a → name_eq w w_legal ≡ b → name_eq w w_goal ≡ c
          → cond a (two_numbers Does (place_in r (role_list rules)) (place_in m (input_list rules r)))
          (cond b (two_numbers Legal (place_in r (role_list rules)) (place_in m (input_list rules r)))
          (cond c (two_numbers Goal (place_in r (role_list rules)) (value_of m)) Other)) ≡ k
          → MeansKind rules (record { word = w; terms = tree r (tree m no_trees) }) k
      two_terms w r m true b c e f g h = does_terms w r m (place_in r (role_list rules)) (place_in m (input_list rules r)) e refl refl h
      two_terms w r m false true c e f g h = legal_terms w r m (place_in r (role_list rules)) (place_in m (input_list rules r)) f refl refl h
      two_terms w r m false false true e f g h = goal_terms w r m (place_in r (role_list rules)) (value_of m) g refl refl h
      two_terms w r m false false false e f g h = absurd (other (sym h))

      by_terms : (w : List ℕ) (ts : Trees) → kind_at rules w ts ≡ k → MeansKind rules (record { word = w; terms = ts }) k
      by_terms w no_trees h = no_terms w (name_eq w w_terminal) refl h
      by_terms w (tree p no_trees) h = one_term w p (name_eq w w_true) (name_eq w w_next) refl refl h
      by_terms w (tree r (tree m no_trees)) h = two_terms w r m (name_eq w w_does) (name_eq w w_legal) (name_eq w w_goal) refl refl refl h
      by_terms w (tree r (tree m (tree t ts))) h = absurd (other (sym h))

      go : (b : Bool) → is_fixed rules (relation_of x) ≡ b → cond b Fixed (kind_at rules x.word x.terms) ≡ k → MeansKind rules x k
      go true e f = subst (λ (j : Kind). MeansKind rules x j) f ((fixed_tested rules acyclic (relation_of x)).0 e)
      go false e f = by_terms x.word x.terms f

  not_fixed : (p : Relation) → is_moving p ≡ true → is_fixed rules p ≡ false
  not_fixed p moves = go (is_fixed rules p) refl
    where
      go : (b : Bool) → is_fixed rules p ≡ b → b ≡ false
      go true e = let still = ((fixed_tested rules acyclic p).0 e).itself in absurd cc
      go false e = refl

  -- an atom has the kind that it is of
  pub kind_complete : (x : Atom) (k : Kind) → MeansKind rules x k → kind_of rules x ≡ k
  kind_complete x Fixed h = let e = (fixed_tested rules acyclic (relation_of x)).1 h in rw e refl
  kind_complete x (Now n) h = ap (kind_of rules) h.1 ∙ (let e = not_fixed (relation_of (atom1 w_true h.0)) refl in rw e (ap (one_number Now) h.2))
  kind_complete x (Next n) h = ap (kind_of rules) h.1 ∙ (let e = not_fixed (relation_of (atom1 w_next h.0)) refl in rw e (ap (one_number Next) h.2))
  kind_complete x (Does k n) h =
      ap (kind_of rules) h.2
      ∙ (let e = not_fixed (relation_of (atom2 w_does h.0 h.1)) refl in
      rw e (ap (λ (o : Option ℕ). two_numbers Does o (place_in h.1 (input_list rules h.0))) h.3 ∙ ap (two_numbers Does (Some k)) h.4))
  kind_complete x (Legal k n) h =
      ap (kind_of rules) h.2
      ∙ (let e = not_fixed (relation_of (atom2 w_legal h.0 h.1)) refl in
      rw e (ap (λ (o : Option ℕ). two_numbers Legal o (place_in h.1 (input_list rules h.0))) h.3 ∙ ap (two_numbers Legal (Some k)) h.4))
  kind_complete x (Goal k v) h =
      ap (kind_of rules) h.1
      ∙ (let e = not_fixed (relation_of (atom2 w_goal h.0 (name (decimal v)))) refl in
      rw e (ap (λ (o : Option ℕ). two_numbers Goal o (value_up_to 100 (decimal v))) h.2
      ∙ ap (two_numbers Goal (Some k)) (value_complete 100 v h.3 (omega arith))))
  kind_complete x Terminal h = ap (kind_of rules) h ∙ (let e = not_fixed (relation_of (atom0 w_terminal)) refl in rw e refl)
  kind_complete x Other h = absurd h
