-- What is dropped has no effect, and the first limit passed is none exactly where all are kept.
use Rattle.std.proofs.Common.{ℕ, Bool, true, false, not, ◌&&◌, ◌||◌, ◌≡◌, ◌⊎◌, ◌↔◌, inl, inr, List, [], ◌∷◌, refl, ap, subst, ◌∙◌}
use Rattle.statement.specs.Tree.{Tree, Trees, no_trees, tree, name_eq, tree_eq}
use Rattle.kif.proofs.Facts.{both, true_and, name_eq_yes, tree_eq_yes, tree_eq_self}
use Rattle.statement.specs.Words.{w_init, w_next, w_legal}
use Rattle.statement.specs.Clause.{Atom, Alternative, relation_of, is_word}
use Rattle.statement.specs.Dependence.{IsAmong}
use Rattle.rules_profile.proofs.Facts.{or_cases, or_left, or_right, not_true}
use Rattle.statement.specs.Meaning.{atom1, IsBase, IsInput}
use Rattle.statement.specs.Listing.{role_list, base_list, input_list}
use Rattle.meaning.specs.Listed.{IsWellFormed}
use Rattle.statement.specs.Profile.{is_tree_in}
use Rattle.statement.specs.GoalsAndMoves.{misses_base, misses_input, is_dropped}
use Rattle.meaning.specs.Effects.{HasNoEffect}
use Rattle.meaning.proofs.Fold.{roles_exact, bases_exact, inputs_exact}

tree_among_yes : (t : Tree) (ts : List Tree) → is_tree_in t ts ≡ true → IsAmong t ts
tree_among_yes t [] h = absurd cc
tree_among_yes t (u ∷ us) h = go (or_cases _ _ h) (tree_among_yes t us)
  where
    go : (tree_eq t u ≡ true) ⊎ (is_tree_in t us ≡ true) → (is_tree_in t us ≡ true → IsAmong t us) → (t ≡ u) ⊎ IsAmong t us
    go (inl e) more = inl (tree_eq_yes t u e)
    go (inr k) more = inr (more k)

yes_tree_among : (t : Tree) (ts : List Tree) → IsAmong t ts → is_tree_in t ts ≡ true
yes_tree_among t [] a = absurd a
yes_tree_among t (u ∷ us) (inl e) = or_left _ _ (subst (λ (v : Tree). tree_eq t v ≡ true) e (tree_eq_self t))
yes_tree_among t (u ∷ us) (inr a) = or_right (tree_eq t u) (is_tree_in t us) (yes_tree_among t us a)

differs : (b : Bool) → (b ≡ true → ⊥) → not b ≡ true
differs true n = absurd (n refl)
differs false n = refl

module _ (rules : List Alternative) (w : IsWellFormed rules) where
  base_missed : (p : Tree) → (not (is_tree_in p (base_list rules)) ≡ true) ↔ (IsBase rules p → ⊥)
  base_missed p = (
    (λ e h. let f = yes_tree_among p (base_list rules) ((bases_exact rules w p).1 h) in let g = not_true _ e in cc),
    (λ n. differs (is_tree_in p (base_list rules)) (λ e. n ((bases_exact rules w p).0 (tree_among_yes p (base_list rules) e)))),
  )

  input_missed : (r m : Tree) → (not (is_tree_in r (role_list rules) && is_tree_in m (input_list rules r)) ≡ true) ↔ (IsInput rules r m → ⊥)
  input_missed r m = (there, (λ n. differs (is_tree_in r (role_list rules) && is_tree_in m (input_list rules r)) (back n)))
    where
      there : not (is_tree_in r (role_list rules) && is_tree_in m (input_list rules r)) ≡ true → IsInput rules r m → ⊥
      there e h =
          let f = true_and _ _ (yes_tree_among r (role_list rules) ((roles_exact rules w r).1 h.0))
          (yes_tree_among m (input_list rules r) ((inputs_exact rules w r m h.0).1 h)) in
          let g = not_true _ e in cc

      back : (IsInput rules r m → ⊥) → (is_tree_in r (role_list rules) && is_tree_in m (input_list rules r)) ≡ true → ⊥
      back n e =
          let k = both (is_tree_in r (role_list rules)) (is_tree_in m (input_list rules r)) e in
          let role = (roles_exact rules w r).0 (tree_among_yes r (role_list rules) k.0) in
          n ((inputs_exact rules w r m role).0 (tree_among_yes m (input_list rules r) k.1))

  word_is : (c v : List ℕ) (ts : Trees) → name_eq c v ≡ true → ◌≡◌ {A = Atom} (record { word = c; terms = ts }) (record { word = v; terms = ts })
  word_is c v ts e = let f = name_eq_yes c v e in λ i. record { word = f i; terms = ts }

  -- an atom that is dropped has no effect
  dropped_sound : (x : Atom) → is_dropped rules x ≡ true → HasNoEffect rules x
  dropped_sound x h = go x.word x.terms h
    where
      bases : (c : List ℕ) (ts : Trees) → (is_word w_init 1 (relation_of (record { word = c; terms = ts })) || is_word w_next 1
          (relation_of (record { word = c; terms = ts }))) ≡ true
          → misses_base rules ts ≡ true → HasNoEffect rules (record { word = c; terms = ts })
      bases c no_trees e f = absurd cc
      bases c (tree p (tree t ts)) e f = absurd cc
      bases c (tree p no_trees) e f = inl (p, word (or_cases _ _ e), (base_missed p).0 f)
        where
          word : (is_word w_init 1 (relation_of (atom1 c p)) ≡ true) ⊎ (is_word w_next 1 (relation_of (atom1 c p)) ≡ true)
              → (atom1 c p ≡ atom1 w_init p) ⊎ (atom1 c p ≡ atom1 w_next p)
          word (inl k) = inl (word_is c w_init (tree p no_trees) (both (name_eq c w_init) _ k).0)
          word (inr k) = inr (word_is c w_next (tree p no_trees) (both (name_eq c w_next) _ k).0)

      inputs : (c : List ℕ) (ts : Trees) → is_word w_legal 2 (relation_of (record { word = c; terms = ts })) ≡ true → misses_input rules ts ≡ true
          → HasNoEffect rules (record { word = c; terms = ts })
      inputs c no_trees e f = absurd cc
      inputs c (tree r no_trees) e f = absurd cc
      inputs c (tree r (tree m (tree t ts))) e f = absurd cc
      inputs c (tree r (tree m no_trees)) e f = inr (
        r,
        m,
        word_is c w_legal (tree r (tree m no_trees)) (both (name_eq c w_legal) _ e).0,
        (input_missed r m).0 f,
      )

      go : (c : List ℕ) (ts : Trees) → is_dropped rules (record { word = c; terms = ts }) ≡ true → HasNoEffect rules (record { word = c; terms = ts })
      go c ts e = pick (or_cases ((is_word w_init 1 (relation_of (record { word = c; terms = ts })) || is_word w_next 1
          (relation_of (record { word = c; terms = ts }))) && misses_base rules ts)
          (is_word w_legal 2 (relation_of (record { word = c; terms = ts })) && misses_input rules ts) e)
        where
          pick : (((is_word w_init 1 (relation_of (record { word = c; terms = ts })) || is_word w_next 1
              (relation_of (record { word = c; terms = ts }))) && misses_base rules ts) ≡ true)
              ⊎ ((is_word w_legal 2 (relation_of (record { word = c; terms = ts })) && misses_input rules ts) ≡ true)
              → HasNoEffect rules (record { word = c; terms = ts })
          pick (inl k) = let b = both _ (misses_base rules ts) k in bases c ts b.0 b.1
          pick (inr k) = let b = both _ (misses_input rules ts) k in inputs c ts b.0 b.1

  dropped_complete : (x : Atom) → HasNoEffect rules x → is_dropped rules x ≡ true
  dropped_complete x (inl h) = go h.1
    where
      miss : not (is_tree_in h.0 (base_list rules)) ≡ true
      miss = (base_missed h.0).1 h.2

      go : (x ≡ atom1 w_init h.0) ⊎ (x ≡ atom1 w_next h.0) → is_dropped rules x ≡ true
      go (inl e) = ap (is_dropped rules) e ∙ or_left _ _ miss
      go (inr e) = ap (is_dropped rules) e ∙ or_left _ _ miss
  dropped_complete x (inr h) = ap (is_dropped rules) h.2 ∙ (input_missed h.0 h.1).1 h.3

  pub dropped_exact : (x : Atom) → (is_dropped rules x ≡ true) ↔ HasNoEffect rules x
  dropped_exact x = (dropped_sound x, dropped_complete x)
