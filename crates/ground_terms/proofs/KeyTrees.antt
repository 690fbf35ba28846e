-- Different keys are different trees.
use Rattle.std.proofs.Common.{
  ℕ,
  suc,
  zero,
  ◌≡◌,
  ◌+◌,
  ◌<◌,
  ◌≤◌,
  List,
  [],
  ◌∷◌,
  ◌++◌,
  Bool,
  true,
  false,
  cond,
  ◌⊎◌,
  inl,
  inr,
  length,
  refl,
  sym,
  ◌∙◌,
  ap,
  subst,
  arith,
  map,
}
use Rattle.statement.specs.Tree.{Tree, Trees, no_trees, tree, trees_of}
use Rattle.statement.specs.Clause.{tree_at}
use Rattle.statement.specs.Safety.{is_name_in}
use Rattle.rules_clauses.specs.Marks.{NumbersBelow}
use Rattle.rules_clauses.specs.Numbers.{word_at, NamesDiffer}
use Rattle.ground_terms.specs.Keys.{with_key, word_of, parts_of, term_at, tree_of_key, trees_behind, trees, IsKey, AreKeys, AreDifferentTerms}
use Rattle.util_interner.specs.KeyLists.{key_at}
use Rattle.ground_terms.proofs.KeyNumbers.{is_in, last_or_before, more_different, true_or_false}

pub below_more : (m n : ℕ) (xs : List ℕ) → m ≤ n → NumbersBelow m xs → NumbersBelow n xs
below_more m n [] h b = tt
below_more m n (x ∷ xs) h b = (let less = b.0 in omega (arith, h, less), below_more m n xs h b.1)

pub length_more : {A : Type 0} (xs : List A) (x : A) → length (xs ++ x ∷ []) ≡ suc (length xs)
length_more [] x = refl
length_more (v ∷ xs) x = ap (λ (n : ℕ). suc n) (length_more xs x)

pub term_before : (xs ys : List Tree) (i : ℕ) → i < length xs → term_at (xs ++ ys) i ≡ term_at xs i
term_before [] ys i h = absurd (let bad : ⊥ = omega (arith, h) in bad)
term_before (x ∷ xs) ys zero h = refl
term_before (x ∷ xs) ys (suc i) h = term_before xs ys i (omega (arith, h))

pub term_last : (xs : List Tree) (t : Tree) → term_at (xs ++ t ∷ []) (length xs) ≡ t
term_last [] t = refl
term_last (x ∷ xs) t = term_last xs t

-- what is done stays
pub stays : (words : List (List ℕ)) (done : List Tree) (ks : List (List ℕ)) (i : ℕ) → i < length done
    → term_at (trees_behind words done ks) i ≡ term_at done i
stays words done [] i h = refl
stays words done (k ∷ ks) i h =
    let t = tree_of_key words done k in
    let more = length_more done t in
    stays words (done ++ t ∷ []) ks i (omega (arith, h, more)) ∙ term_before done (t ∷ []) i h

pub map_same : (f g : ℕ → Tree) (n : ℕ) (xs : List ℕ) → NumbersBelow n xs → ((i : ℕ) → i < n → f i ≡ g i) → map f xs ≡ map g xs
map_same f g n [] b h = refl
map_same f g n (x ∷ xs) b h =
    ap (λ (t : Tree). t ∷ map f xs) (h x b.0) ∙ ap (λ (ts : List Tree). g x ∷ ts) (map_same f g n xs b.1 h)

pub length_trees : (words : List (List ℕ)) (done : List Tree) (ks : List (List ℕ)) → length (trees_behind words done ks) ≡ length done + length ks
length_trees words done [] = omega arith
length_trees words done (k ∷ ks) =
    let t = tree_of_key words done k in
    let a = length_trees words (done ++ t ∷ []) ks in let b = length_more done t in omega (arith, a, b)

-- the tree of each number is that of its key over all trees
pub tree_is : (words : List (List ℕ)) (done : List Tree) (ks : List (List ℕ)) (i : ℕ) → i < length ks
    → NumbersBelow (length done + i) (parts_of (key_at ks i))
    → term_at (trees_behind words done ks) (length done + i) ≡ tree_of_key words (trees_behind words done ks) (key_at ks i)
tree_is words done [] i h b = absurd (let bad : ⊥ = omega (arith, h) in bad)
tree_is words done (k ∷ ks) zero h b =
    let t = tree_of_key words done k in
    let all = trees_behind words (done ++ t ∷ []) ks in
    let more = length_more done t in
    let at : length done + 0 ≡ length done = omega arith in
    let parts_same : map (term_at done) (parts_of k) ≡ map (term_at all) (parts_of k) =
    map_same (term_at done) (term_at all) (length done) (parts_of k) (subst (λ (n : ℕ). NumbersBelow n (parts_of k)) at b)
    (λ i less. sym (stays words (done ++ t ∷ []) ks i (omega (arith, less, more)) ∙ term_before done (t ∷ []) i less)) in
    ap (λ (n : ℕ). term_at all n) at
    ∙ stays words (done ++ t ∷ []) ks (length done) (omega (arith, more))
    ∙ term_last done t
    ∙ ap (λ (ts : List Tree). tree_at (word_at words (word_of k)) (trees_of ts)) parts_same
tree_is words done (k ∷ ks) (suc i) h b =
    let t = tree_of_key words done k in
    let all = trees_behind words (done ++ t ∷ []) ks in
    let more = length_more done t in
    let at : length done + suc i ≡ length (done ++ t ∷ []) + i = omega (arith, more) in
    ap (λ (n : ℕ). term_at all n) at
    ∙ tree_is words (done ++ t ∷ []) ks i (omega (arith, h)) (subst (λ (n : ℕ). NumbersBelow n (parts_of (key_at ks i))) at b)

pub below_of : (many n : ℕ) (k : List ℕ) → IsKey many n k → NumbersBelow n (parts_of k)
below_of many n [] h = absurd h
below_of many n (w ∷ ps) h = h.1

word_in : (many n : ℕ) (k : List ℕ) → IsKey many n k → word_of k < many
word_in many n [] h = absurd h
word_in many n (w ∷ ps) h = h.0

same_key : (many i j : ℕ) (p q : List ℕ) → IsKey many i p → IsKey many j q → word_of p ≡ word_of q → parts_of p ≡ parts_of q → p ≡ q
same_key many i j [] q a b e f = absurd a
same_key many i j (v ∷ ps) [] a b e f = absurd b
same_key many i j (v ∷ ps) (w ∷ qs) a b e f = λ x. e x ∷ f x

pub tree_of_number : (words : List (List ℕ)) (many : ℕ) (keys : List (List ℕ)) → AreKeys many keys → (i : ℕ) → i < length keys
    → term_at (trees words keys) i ≡ tree_of_key words (trees words keys) (key_at keys i)
tree_of_number words many keys w i h =
    let at : 0 + i ≡ i = omega arith in
    subst (λ (n : ℕ). term_at (trees words keys) n ≡ tree_of_key words (trees words keys) (key_at keys i)) at
    (tree_is words [] keys i h (subst (λ (n : ℕ). NumbersBelow n (parts_of (key_at keys i))) (sym at) (below_of many i (key_at keys i) (w.each i h))))

-- a tree has one word and one list of parts
pub record Same (v w : List ℕ) (ts us : Trees) : Type 0 where
  pub word : v ≡ w
  pub parts : ts ≡ us

pub parts_of_tree : (v w : List ℕ) (ts us : Trees) → tree_at v ts ≡ tree_at w us → Same v w ts us
parts_of_tree v w no_trees no_trees e = record { word = cc; parts = refl }
parts_of_tree v w no_trees (tree u us) e = absurd cc
parts_of_tree v w (tree t ts) no_trees e = absurd cc
parts_of_tree v w (tree t ts) (tree u us) e = record { word = cc; parts = cc }

-- where the parts' trees are the same, so are their numbers
same_parts : (terms : List Tree) (n : ℕ) → ((i j : ℕ) → i < n → j < length terms → term_at terms i ≡ term_at terms j → i ≡ j)
    → (ps qs : List ℕ) → NumbersBelow n ps → NumbersBelow (length terms) qs → trees_of (map (term_at terms) ps) ≡ trees_of (map (term_at terms) qs) → ps ≡ qs
same_parts terms n h [] [] b c e = refl
same_parts terms n h [] (q ∷ qs) b c e = absurd cc
same_parts terms n h (p ∷ ps) [] b c e = absurd cc
same_parts terms n h (p ∷ ps) (q ∷ qs) b c e =
    let first : term_at terms p ≡ term_at terms q = cc in
    let rest : trees_of (map (term_at terms) ps) ≡ trees_of (map (term_at terms) qs) = cc in
    ap (λ (k : ℕ). k ∷ ps) (h p q b.0 c.0 first) ∙ ap (λ (xs : List ℕ). q ∷ xs) (same_parts terms n h ps qs b.1 c.1 rest)

different_up_to : (words : List (List ℕ)) → NamesDiffer words → (keys : List (List ℕ)) → AreKeys (length words) keys
    → (n i j : ℕ) → i < n → i < length keys → j < length keys → term_at (trees words keys) i ≡ term_at (trees words keys) j → i ≡ j
different_up_to words d keys w zero i j h a b e = absurd (let bad : ⊥ = omega (arith, h) in bad)
different_up_to words d keys w (suc n) i j h a b e =
    let all = trees words keys in
    let long : length all ≡ length keys = (let l = length_trees words [] keys in omega (arith, l)) in
    let p = key_at keys i in
    let q = key_at keys j in
    let s = parts_of_tree (word_at words (word_of p)) (word_at words (word_of q)) (trees_of (map (term_at all) (parts_of p)))
    (trees_of (map (term_at all) (parts_of q)))
    (sym (tree_of_number words (length words) keys w i a) ∙ e ∙ tree_of_number words (length words) keys w j b) in
    let parts = same_parts all i (λ k l less more f. different_up_to words d keys w n k l (omega (arith, h, less)) (omega (arith, less, a))
    (omega (arith, more, long)) f)
    (parts_of p) (parts_of q) (below_of (length words) i p (w.each i a))
    (below_more j (length all) (parts_of q) (omega (arith, b, long)) (below_of (length words) j q (w.each j b))) s.parts in
    let word = d (word_of p) (word_of q) (word_in (length words) i p (w.each i a)) (word_in (length words) j q (w.each j b)) s.word in
    w.once i j a b (same_key (length words) i j p q (w.each i a) (w.each j b) word parts)

pub different : (words : List (List ℕ)) → NamesDiffer words → (keys : List (List ℕ)) → AreKeys (length words) keys
    → AreDifferentTerms (trees words keys)
different words d keys w i j a b e =
    let long = length_trees words [] keys in
    different_up_to words d keys w (suc i) i j (omega arith) (omega (arith, a, long)) (omega (arith, b, long)) e

-- one more key, whose parts have numbers, leaves the keys in order
pub keys_kept : (many : ℕ) (keys : List (List ℕ)) (key : List ℕ) → AreKeys many keys → IsKey many (length keys) key → AreKeys many (with_key keys key)
keys_kept many keys key w h = go (is_name_in key keys) refl
  where
    pick : (i : ℕ) → ((i < length keys) × (key_at (keys ++ key ∷ []) i ≡ key_at keys i)) ⊎ ((i ≡ length keys) × (key_at (keys ++ key ∷ []) i ≡ key))
        → IsKey many i (key_at (keys ++ key ∷ []) i)
    pick i (inl a) = subst (λ (k : List ℕ). IsKey many i k) (sym a.1) (w.each i a.0)
    pick i (inr a) = subst (λ (k : List ℕ). IsKey many i k) (sym a.1) (subst (λ (n : ℕ). IsKey many n key) (sym a.0) h)

    go : (b : Bool) → is_name_in key keys ≡ b → AreKeys many (cond b keys (keys ++ key ∷ []))
    go true e = w
    go false e = record {
      each = λ i l. pick i (last_or_before keys key [] i l);
      once = more_different keys key [] (λ k l same. true_or_false (is_name_in key keys) (is_in keys key k l same) e) w.once;
    }
