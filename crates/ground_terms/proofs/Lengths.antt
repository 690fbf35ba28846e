-- Lengths of texts beside the keys of ground terms.
use Rattle.std.proofs.Common.{
  ℕ,
  suc,
  zero,
  ◌≡◌,
  ◌+◌,
  ◌<◌,
  ◌≤◌,
  ◌⊎◌,
  inl,
  inr,
  Bool,
  true,
  false,
  cond,
  List,
  [],
  ◌∷◌,
  ◌++◌,
  length,
  map,
  take,
  drop,
  refl,
  sym,
  ◌∙◌,
  ap,
  subst,
  arith,
  get_or,
  length-append,
  add-one,
}
use Rattle.std.proofs.Math.Seq.{take-suc}
use Rattle.std.proofs.Math.ListN.{get_or-map}
use Rattle.std.proofs.lemmas.List.{map-append, length-map, take-append-le, length-take-le}
use Rattle.std.proofs.lemmas.Grind.{same_number_lists}
use Rattle.statement.specs.Tree.{Tree, name, text, further_text, trees_of}
use Rattle.statement.specs.Clause.{tree_at}
use Rattle.statement.specs.Safety.{is_name_in}
use Rattle.rules_clauses.specs.Marks.{NumbersBelow}
use Rattle.rules_clauses.specs.Numbers.{word_at}
use Rattle.ground_terms.specs.Keys.{with_key, word_of, term_at, tree_of_key, trees_behind, trees, IsKey, AreKeys}
use Rattle.util_interner.specs.KeyLists.{key_at}
use Rattle.ground_terms.specs.Arena.{Held, cut, sizes_of, lengths_of, with_parts, key_length, AreNumbered, IsHeld}
use Rattle.statement.specs.Most.{limits}
use Rattle.ground_terms.proofs.KeyNumbers.{not_in, last_or_before, with_known}
use Rattle.ground_terms.proofs.KeyTrees.{keys_kept, length_trees, tree_of_number}

-- Going through the parts of a key.

-- what is left to add is the same
pub record Adding (lengths : List ℕ) (before : ℕ) (parts : List ℕ) (i total : ℕ) : Type 0 where
  pub same : with_parts lengths before parts ≡ with_parts lengths total (drop i parts)
  pub rest : NumbersBelow (length lengths) (drop i parts)
  pub small : total ≤ suc limits.text

-- The lengths of a list of trees.

length_at : (terms : List Tree) (p : ℕ) → get_or (lengths_of terms) p 0 ≡ cut (length (text (term_at terms p)))
length_at terms p = get_or-map (λ (t : Tree). cut (length (text t))) terms p (name [])

size_at : (words : List (List ℕ)) (w : ℕ) → get_or (sizes_of words) w 0 ≡ cut (length (word_at words w))
size_at words w = get_or-map (λ (x : List ℕ). cut (length x)) words w []

pub further_length : (t : Tree) (ts : List Tree) → length (further_text (trees_of (t ∷ ts))) ≡ suc (length (text t) + length (further_text (trees_of ts)))
further_length t ts = ap (λ (n : ℕ). suc n) (length-append (text t) (further_text (trees_of ts)))

step_cut : (a b l : ℕ) → b ≡ cut l → cut (cut (a + 1) + 1 + b) ≡ cut (suc (a + l) + 1)
step_cut a b l e = omega arith

with_parts_is : (terms : List Tree) (m : ℕ) (ps : List ℕ)
    → with_parts (lengths_of terms) (cut (m + 1)) ps ≡ cut (m + length (further_text (trees_of (map (term_at terms) ps))))
with_parts_is terms m [] = refl
with_parts_is terms m (p ∷ ps) =
    let l = length (text (term_at terms p)) in
    let rest = length (further_text (trees_of (map (term_at terms) ps))) in
    ap (λ (n : ℕ). with_parts (lengths_of terms) n ps) (step_cut m (get_or (lengths_of terms) p 0) l (length_at terms p))
    ∙ with_parts_is terms (suc (m + l)) ps
    ∙ ap cut (let f = further_length (term_at terms p) (map (term_at terms) ps) in
    let g : suc (m + l) + rest ≡ m + length (further_text (trees_of (map (term_at terms) (p ∷ ps)))) = omega (arith, f) in g)

list_length : (w : List ℕ) (t : Tree) (ts : List Tree) → length (text (tree_at w (trees_of (t ∷ ts)))) ≡ suc (length w) + length
    (further_text (trees_of (t ∷ ts)))
list_length w t ts = ap (λ (n : ℕ). suc n) (length-append w (further_text (trees_of (t ∷ ts)))) ∙ omega arith

-- the length that is computed for a key is that of its tree's text
pub key_length_is : (words : List (List ℕ)) (terms : List Tree) (key : List ℕ) → 0 < length key
    → get_or (lengths_of terms) (word_of key) 0 ≡ cut (length (word_at words (word_of key)))
    → key_length (lengths_of terms) key ≡ cut (length (text (tree_of_key words terms key)))
key_length_is words terms [] h e = absurd (let bad : ⊥ = omega (arith, h) in bad)
key_length_is words terms (w ∷ []) h e = e
key_length_is words terms (w ∷ (p ∷ ps)) h e =
    let n = length (word_at words w) in
    ap (λ (k : ℕ). with_parts (lengths_of terms) k (p ∷ ps)) (let g : cut (get_or (lengths_of terms) w 0 + 2) ≡ cut (suc n + 1) = omega (arith, e) in
    g)
    ∙ with_parts_is terms (suc n) (p ∷ ps)
    ∙ ap cut (sym (list_length (word_at words w) (term_at terms p) (map (term_at terms) ps)))

-- One more key.

trees_more : (words : List (List ℕ)) (done : List Tree) (ks : List (List ℕ)) (k : List ℕ)
    → trees_behind words done (ks ++ k ∷ []) ≡ trees_behind words done ks ++ tree_of_key words (trees_behind words done ks) k ∷ []
trees_more words done [] k = refl
trees_more words done (x ∷ ks) k = trees_more words (done ++ tree_of_key words done x ∷ []) ks k

pub trees_with : (words : List (List ℕ)) (ks : List (List ℕ)) (k : List ℕ) → trees words (ks ++ k ∷ []) ≡ trees words ks ++ tree_of_key words
    (trees words ks) k ∷ []
trees_with words ks k = trees_more words [] ks k

key_some : (many n : ℕ) (key : List ℕ) → IsKey many n key → 0 < length key
key_some many n [] h = absurd h
key_some many n (w ∷ ps) h = omega arith

key_word : (many n : ℕ) (key : List ℕ) → IsKey many n key → word_of key < many
key_word many n [] h = absurd h
key_word many n (w ∷ ps) h = h.0

short_more : (lengths : List ℕ) (n : ℕ) → ((i : ℕ) → get_or lengths i 0 ≤ suc limits.text) → n ≤ suc limits.text → (i : ℕ)
    → get_or (lengths ++ n ∷ []) i 0 ≤ suc limits.text
short_more [] n s h zero = h
short_more [] n s h (suc i) = omega arith
short_more (l ∷ ls) n s h zero = s 0
short_more (l ∷ ls) n s h (suc i) = short_more ls n (λ j. s (suc j)) h i

take_at : (lengths : List ℕ) (many i : ℕ) → i < many → get_or (take many lengths) i 0 ≡ get_or lengths i 0
take_at [] zero i h = refl
take_at [] (suc many) i h = refl
take_at (l ∷ ls) zero i h = absurd (let bad : ⊥ = omega (arith, h) in bad)
take_at (l ∷ ls) (suc many) zero h = refl
take_at (l ∷ ls) (suc many) (suc i) h = take_at ls many i (omega (arith, h))

word_length : (words : List (List ℕ)) (many : ℕ) (lengths : List ℕ) (w : ℕ) → w < many → sizes_of words ≡ take many lengths
    → get_or lengths w 0 ≡ cut (length (word_at words w))
word_length words many lengths w h e = sym (take_at lengths many w h) ∙ ap (λ (xs : List ℕ). get_or xs w 0) (sym e) ∙ size_at words w

numbered_more : (many : ℕ) (keys : List (List ℕ)) (key : List ℕ) → AreNumbered many keys → IsKey many (length keys) key
    → AreNumbered many (with_key keys key)
numbered_more many keys key a k = go (is_name_in key keys) (keys_kept many keys key a.keyed k)
  where
    go : (b : Bool) → AreKeys many (cond b keys (keys ++ key ∷ [])) → AreNumbered many (cond b keys (keys ++ key ∷ []))
    go true w = a
    go false w = record {
      keyed = w;
      within = (let h = a.within in let g = length-append keys (key ∷ []) in omega (arith, h, g));
      symbols = λ s h. pick s h (last_or_before keys key [] s (let w = a.within in let g = length-append keys (key ∷ []) in omega (arith, h, w, g)));
    }
      where
        pick : (s : ℕ) → s < many → ((s < length keys) × (key_at (keys ++ key ∷ []) s ≡ key_at keys s))
            ⊎ ((s ≡ length keys) × (key_at (keys ++ key ∷ []) s ≡ key)) → key_at (keys ++ key ∷ []) s ≡ s ∷ []
        pick s h (inl e) = e.1 ∙ a.symbols s h
        pick s h (inr e) = absurd (let w = a.within in let f = e.0 in let bad : ⊥ = omega (arith, h, w, f) in bad)

held_new : (many : ℕ) (lengths : List ℕ) (keys : List (List ℕ)) (key : List ℕ) (n : ℕ) → IsHeld many lengths keys → IsKey many (length keys) key
    → n ≡ key_length lengths key → n ≤ suc limits.text → AreNumbered many (keys ++ key ∷ []) → IsHeld many (lengths ++ n ∷ []) (keys ++ key ∷ [])
held_new many lengths keys key n h k e s a = record {
  numbered = a;
  beside = length-append lengths (n ∷ []) ∙ ap (λ (m : ℕ). m + 1) h.beside ∙ sym (length-append keys (key ∷ []));
  short = short_more lengths n h.short s;
  texts = λ words sizes. texts words (sizes ∙ take-append-le many lengths (n ∷ []) (let w = h.numbered.within in let b = h.beside in
      omega (arith, w, b)));
}
  where
    texts : (words : List (List ℕ)) → sizes_of words ≡ take many lengths → lengths ++ n ∷ [] ≡ lengths_of (trees words (keys ++ key ∷ []))
    texts words sizes =
        let old : lengths ≡ lengths_of (trees words keys) = h.texts words sizes in
        let new : n ≡ cut (length (text (tree_of_key words (trees words keys) key))) =
        e ∙ ap (λ (ls : List ℕ). key_length ls key) old
        ∙ key_length_is words (trees words keys) key (key_some many (length keys) key k)
        (ap (λ (ls : List ℕ). get_or ls (word_of key) 0) (sym old) ∙ word_length words many lengths (word_of key) (key_word many (length keys) key k)
        sizes) in
        ap (λ (ls : List ℕ). ls ++ n ∷ []) old ∙ ap (λ (m : ℕ). lengths_of (trees words keys) ++ m ∷ []) new
        ∙ sym (map-append (λ (t : Tree). cut (length (text t))) (trees words keys) (tree_of_key words (trees words keys) key ∷ []))
        ∙ ap lengths_of (sym (trees_with words keys key))

-- what stands in memory once a new key is numbered
pub held_more : (many : ℕ) (lengths : List ℕ) (keys : List (List ℕ)) (key : List ℕ) (n : ℕ) (more : List ℕ) (new : List (List ℕ))
    → IsHeld many lengths keys → IsKey many (length keys) key
    → ((k : ℕ) → k < length keys → key_at keys k ≡ key → ⊥) → n ≡ key_length lengths key → n ≤ suc limits.text → more ≡ lengths ++ n ∷ []
    → new ≡ with_key keys key → IsHeld many more new
held_more many lengths keys key n more new h k none e s f g =
    let here : new ≡ keys ++ key ∷ [] = g ∙ ap (λ (b : Bool). cond b keys (keys ++ key ∷ [])) (not_in keys key none) in
    let a : AreNumbered many (keys ++ key ∷ []) = subst (λ (ks : List (List ℕ)). AreNumbered many ks) (sym g ∙ here)
    (numbered_more many keys key h.numbered k) in
    subst (λ (ls : List ℕ). IsHeld many ls new) (sym f)
    (subst (λ (ks : List (List ℕ)). IsHeld many (lengths ++ n ∷ []) ks) (sym here) (held_new many lengths keys key n h k e s a))

-- Only the symbols.

pub record Begun (words : List (List ℕ)) (n : ℕ) (lengths : List ℕ) (keys : List (List ℕ)) : Type 0 where
  pub count : length keys ≡ n
  pub sizes : lengths ≡ take n (sizes_of words)
  pub symbols : (s : ℕ) → s < n → key_at keys s ≡ s ∷ []

one_number : (m n : ℕ) → m ∷ [] ≡ n ∷ [] → m ≡ n
one_number m n e = cc

pub begun_next : (words : List (List ℕ)) (n : ℕ) (lengths more : List ℕ) (keys new : List (List ℕ)) (m : ℕ) → Begun words n lengths keys
    → n < length words
    → m ≡ cut (length (word_at words n)) → more ≡ lengths ++ m ∷ [] → new ≡ with_key keys (n ∷ []) → Begun words (n + 1) more new
begun_next words n lengths more keys new m b h e f g =
    subst (λ (k : ℕ). Begun words k more new) (sym (add-one n)) (next_of here long)
  where
    apart : (k : ℕ) → k < length keys → k ≡ n → ⊥
    apart k less s = let c = b.count in omega (arith, less, s, c)

    pick : (s : ℕ) → ((s < length keys) × (key_at (keys ++ (n ∷ []) ∷ []) s ≡ key_at keys s))
        ⊎ ((s ≡ length keys) × (key_at (keys ++ (n ∷ []) ∷ []) s ≡ n ∷ [])) → key_at (keys ++ (n ∷ []) ∷ []) s ≡ s ∷ []
    pick s (inl e) = e.1 ∙ b.symbols s (let l = e.0 in let c = b.count in omega (arith, l, c))
    pick s (inr e) = e.1 ∙ ap (λ (k : ℕ). k ∷ []) (sym b.count ∙ sym e.0)

    here : new ≡ keys ++ (n ∷ []) ∷ []
    here = g ∙ ap (λ (t : Bool). cond t keys (keys ++ (n ∷ []) ∷ []))
        (not_in keys (n ∷ []) (λ k less same. apart k less (one_number k n (sym (b.symbols k (let c = b.count in omega (arith, less, c))) ∙ same))))

    long : length new ≡ suc n
    long = ap length here ∙ length-append keys ((n ∷ []) ∷ []) ∙ (let c = b.count in let r : length keys + 1 ≡ suc n = omega (arith, c) in r)

    next_of : new ≡ keys ++ (n ∷ []) ∷ [] → length new ≡ suc n → Begun words (suc n) more new
    next_of here long = record {
      count = long;
      sizes =
          f ∙ ap (λ (ls : List ℕ). ls ++ m ∷ []) b.sizes ∙ ap (λ (x : ℕ). take n (sizes_of words) ++ x ∷ []) (e ∙ sym (size_at words n))
          ∙ sym (take-suc (sizes_of words) n 0 (let l = length-map words (λ (w : List ℕ). cut (length w)) in omega (arith, h, l)));
      symbols = λ s less. subst (λ (ks : List (List ℕ)). key_at ks s ≡ s ∷ []) (sym here)
          (pick s (last_or_before keys (n ∷ []) [] s (let r : length (keys ++ (n ∷ []) ∷ []) ≡ suc n = sym (ap length here) ∙ long in
          omega (arith, less, r))));
    }

symbol_keys : (many : ℕ) (keys : List (List ℕ)) → length keys ≡ many → ((s : ℕ) → s < many → key_at keys s ≡ s ∷ []) → AreNumbered many keys
symbol_keys many keys c h = record {
  keyed = record {
    each = λ i less. subst (λ (k : List ℕ). IsKey many i k) (sym (h i (omega (arith, less, c)))) (omega (arith, less, c), tt);
    once = λ i j less more same. one_number i j (sym (h i (omega (arith, less, c))) ∙ same ∙ h j (omega (arith, more, c)));
  };
  within = omega (arith, c);
  symbols = h;
}

take_whole : (n : ℕ) (xs : List ℕ) → length xs ≤ n → take n xs ≡ xs
take_whole zero [] h = refl
take_whole zero (x ∷ xs) h = absurd (let bad : ⊥ = omega (arith, h) in bad)
take_whole (suc n) [] h = refl
take_whole (suc n) (x ∷ xs) h = ap (λ (ys : List ℕ). x ∷ ys) (take_whole n xs (omega (arith, h)))

sizes_short : (words : List (List ℕ)) (i : ℕ) → get_or (sizes_of words) i 0 ≤ suc limits.text
sizes_short words i = let e = size_at words i in omega (arith, e)

begun_all : (words : List (List ℕ)) (n : ℕ) (lengths : List ℕ) (keys : List (List ℕ)) → n ≡ length words → Begun words n lengths keys
    → IsHeld n lengths keys
begun_all words n lengths keys e b = record {
  numbered = symbol_keys n keys b.count b.symbols;
  beside = long ∙ sym b.count;
  short = λ i. subst (λ (ls : List ℕ). get_or ls i 0 ≤ suc limits.text) (sym whole) (sizes_short words i);
  texts = texts;
}
  where
    whole : lengths ≡ sizes_of words
    whole = b.sizes ∙ take_whole n (sizes_of words) (let l = length-map words (λ (w : List ℕ). cut (length w)) in omega (arith, l, e))

    long : length lengths ≡ n
    long = ap length whole ∙ length-map words (λ (w : List ℕ). cut (length w)) ∙ sym e

    texts : (other : List (List ℕ)) → sizes_of other ≡ take n lengths → lengths ≡ lengths_of (trees other keys)
    texts other sizes =
        let count = length-map (trees other keys) (λ (t : Tree). cut (length (text t))) in
        let many : length (trees other keys) ≡ length keys = length_trees other [] keys ∙ omega arith in
        same_number_lists lengths (lengths_of (trees other keys)) (long ∙ sym b.count ∙ sym many ∙ sym count)
        (λ k less.
        let here : k < n = omega (arith, less, long) in
        word_length other n lengths k here sizes
        ∙ ap (λ (t : Tree). cut (length (text t))) (sym (ap (λ (key : List ℕ). tree_of_key other (trees other keys) key) (b.symbols k here))
        ∙ sym (tree_of_number other n keys (symbol_keys n keys b.count b.symbols).keyed k (let c = b.count in omega (arith, here, c))))
        ∙ sym (length_at (trees other keys) k))

-- with all symbols numbered, and nothing else, the lengths are right
pub begun_held : (words : List (List ℕ)) (m n : ℕ) (lengths : List ℕ) (keys : List (List ℕ)) → n ≡ length words → m ≡ n → Begun words m lengths keys
    → IsHeld n lengths keys
begun_held words m n lengths keys e f b = begun_all words n lengths keys e (subst (λ (k : ℕ). Begun words k lengths keys) f b)

-- What the fields say of the value.

pub numbered_inside : (many : ℕ) (lengths : List ℕ) (keys : List (List ℕ)) → IsHeld many lengths keys → AreNumbered (length (take many lengths)) keys
numbered_inside many lengths keys h =
    let w = h.numbered.within in let b = h.beside in
    subst (λ (n : ℕ). AreNumbered n keys) (sym (length-take-le many lengths (omega (arith, w, b)))) h.numbered

pub key_inside : (many : ℕ) (lengths : List ℕ) (keys : List (List ℕ)) (a : Held) (key : List ℕ) → IsHeld many lengths keys
    → ◌≡◌ {A = Held} (record { sizes = take many lengths; keys = keys }) a
    → IsKey (length a.sizes) (length a.keys) key → IsKey many (length keys) key
key_inside many lengths keys a key h e k =
    let w = h.numbered.within in let b = h.beside in
    subst (λ (n : ℕ). IsKey n (length keys) key) (length-take-le many lengths (omega (arith, w, b)))
    (subst (λ (x : Held). IsKey (length x.sizes) (length x.keys) key) (sym e) k)

pub known_inside : (many : ℕ) (lengths : List ℕ) (keys : List (List ℕ)) (a : Held) (key : List ℕ) (k : ℕ)
    → ◌≡◌ {A = Held} (record { sizes = take many lengths; keys = keys }) a
    → k < length keys → key_at keys k ≡ key → a.keys ≡ with_key a.keys key
known_inside many lengths keys a key k e h f = subst (λ (x : Held). x.keys ≡ with_key x.keys key) e (with_known keys key k h f)
