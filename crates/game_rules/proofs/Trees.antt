-- Trees by number.
use Rattle.std.proofs.Common.{
  ℕ,
  zero,
  suc,
  ◌+◌,
  ◌<◌,
  Bool,
  true,
  false,
  cond,
  ◌≡◌,
  inl,
  inr,
  List,
  [],
  ◌∷◌,
  ◌++◌,
  append_assoc,
  length-append,
  length,
  refl,
  sym,
  ap,
  subst,
  ◌∙◌,
  arith,
  Option,
  Some,
  None,
}
use Rattle.std.specs.Prelude.{filter}
use Rattle.std.specs.List.{range_with_len}
use Rattle.std.specs.Option.{option_map}
use Rattle.statement.specs.Tree.{Tree, tree_eq}
use Rattle.kif.proofs.Facts.{tree_eq_yes, tree_eq_self}
use Rattle.statement.specs.Dependence.{IsAmong}
use Rattle.meaning.specs.InOrder.{AreDistinct}
use Rattle.statement.specs.Kinds.{place_in}
use Rattle.statement.specs.Played.{nth_tree}
use Rattle.statement.specs.GameNumbers.{trees_at}

-- the trees whose places, counted from a on, pass
abbrev pub picked : (ℕ → Bool) → ℕ → List Tree → List Tree
picked f a [] = []
picked f a (t ∷ ts) = cond (f a) (t ∷ picked f (a + 1) ts) (picked f (a + 1) ts)

at_end : (pre ts : List Tree) (t : Tree) (a : ℕ) → length pre ≡ a → nth_tree (pre ++ t ∷ ts) a ≡ t
at_end [] ts t zero e = refl
at_end [] ts t (suc a) e = absurd (omega arith)
at_end (u ∷ pre) ts t zero e = absurd (omega arith)
at_end (u ∷ pre) ts t (suc a) e = at_end pre ts t a (omega arith)

one_longer : (pre : List Tree) (t : Tree) (a : ℕ) → length pre ≡ a → length (pre ++ t ∷ []) ≡ a + 1
one_longer pre t a e = let l = length-append pre (t ∷ []) in omega arith

picked_range : (f : ℕ → Bool) (pre ts : List Tree) (a : ℕ) → length pre ≡ a → trees_at (pre ++ ts) (filter f (range_with_len a (length ts))) ≡ picked
    f a ts
picked_range f pre [] a e = refl
picked_range f pre (t ∷ ts) a e =
    let rest : trees_at (pre ++ t ∷ ts) (filter f (range_with_len (a + 1) (length ts))) ≡ picked f (a + 1) ts =
    ap (λ (us : List Tree). trees_at us (filter f (range_with_len (a + 1) (length ts)))) (sym (append_assoc pre (t ∷ []) ts))
    ∙ picked_range f (pre ++ t ∷ []) ts (a + 1) (one_longer pre t a e) in
    step (f a) rest (at_end pre ts t a e)
  where
    step : (b : Bool) → trees_at (pre ++ t ∷ ts) (filter f (range_with_len (a + 1) (length ts))) ≡ picked f (a + 1) ts → nth_tree (pre ++ t ∷ ts) a ≡ t
        → trees_at (pre ++ t ∷ ts) (cond b (a ∷ filter f (range_with_len (a + 1) (length ts))) (filter f (range_with_len (a + 1) (length ts)))) ≡ cond
        b (t ∷ picked f (a + 1) ts) (picked f (a + 1) ts)
    step true rest here = ap (λ (u : Tree). u ∷ trees_at (pre ++ t ∷ ts) (filter f (range_with_len (a + 1) (length ts)))) here
        ∙ ap (λ (us : List Tree). t ∷ us) rest
    step false rest here = rest

pub trees_picked : (f : ℕ → Bool) (ts : List Tree) → trees_at ts (filter f (range_with_len 0 (length ts))) ≡ picked f 0 ts
trees_picked f ts = picked_range f [] ts 0 refl

-- what is picked by a test of the trees
pub picked_filter : (f : ℕ → Bool) (F : Tree → Bool) (a : ℕ) (ts : List Tree) → ((k : ℕ) → k < length ts → f (a + k) ≡ F (nth_tree ts k))
    → picked f a ts ≡ filter F ts
picked_filter f F a [] h = refl
picked_filter f F a (t ∷ ts) h =
    let here : f a ≡ F t = ap f (omega arith) ∙ h 0 (omega arith) in
    let rest : picked f (a + 1) ts ≡ filter F ts = picked_filter f F (a + 1) ts (λ k lt. ap f (omega arith) ∙ h (suc k) (omega arith)) in
    ap (λ (b : Bool). cond b (t ∷ picked f (a + 1) ts) (picked f (a + 1) ts)) here ∙ ap (λ (us : List Tree). cond (F t) (t ∷ us) us) rest

-- places

pub placed : (t : Tree) (ts : List Tree) (n : ℕ) → place_in t ts ≡ Some n → nth_tree ts n ≡ t
placed t [] n e = absurd cc
placed t (u ∷ us) n e = go (tree_eq t u) refl (place_in t us) refl e (λ m k. placed t us m k)
  where
    go : (b : Bool) → tree_eq t u ≡ b → (o : Option ℕ) → place_in t us ≡ o → cond b (Some zero) (option_map suc o) ≡ Some n
        → ((m : ℕ) → place_in t us ≡ Some m → nth_tree us m ≡ t) → nth_tree (u ∷ us) n ≡ t
    go true h o k f more = let z : zero ≡ n = cc in subst (λ (i : ℕ). nth_tree (u ∷ us) i ≡ t) z (sym (tree_eq_yes t u h))
    go false h None k f more = absurd cc
    go false h (Some m) k f more = let z : suc m ≡ n = cc in subst (λ (i : ℕ). nth_tree (u ∷ us) i ≡ t) z (more m k)

pub among_tree : (ts : List Tree) (k : ℕ) → k < length ts → IsAmong (nth_tree ts k) ts
among_tree [] k lt = absurd (omega arith)
among_tree (t ∷ ts) zero lt = inl refl
among_tree (t ∷ ts) (suc k) lt = inr (among_tree ts k (omega arith))

pub place_at : (ts : List Tree) → AreDistinct ts → (k : ℕ) → k < length ts → place_in (nth_tree ts k) ts ≡ Some k
place_at [] d k lt = absurd (omega arith)
place_at (t ∷ ts) d zero lt = let e = tree_eq_self t in rw e refl
place_at (t ∷ ts) d (suc k) lt = go (tree_eq (nth_tree ts k) t) refl (place_at ts d.1 k (omega arith))
  where
    go : (b : Bool) → tree_eq (nth_tree ts k) t ≡ b → place_in (nth_tree ts k) ts ≡ Some k
        → cond b (Some zero) (option_map suc (place_in (nth_tree ts k) ts)) ≡ Some (suc k)
    go true e more = absurd (d.0 (nth_tree ts k) (among_tree ts k (omega arith)) (sym (tree_eq_yes (nth_tree ts k) t e)))
    go false e more = ap (option_map suc) more
