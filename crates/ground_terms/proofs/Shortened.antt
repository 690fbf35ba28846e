-- Terms cut back to the first so many.
use Rattle.std.proofs.Common.{ℕ, zero, suc, ◌≡◌, ◌<◌, ◌≤◌, List, [], ◌∷◌, ◌++◌, length, map, take, drop, get_or, sym, ◌∙◌, ap, subst, arith}
use Rattle.std.proofs.Math.Seq.{take-append_seam}
use Rattle.std.proofs.lemmas.List.{get_or-take, take-map, take-take, take-append-drop}
use Rattle.statement.specs.Tree.{Tree, text}
use Rattle.ground_terms.specs.Arena.{Held, IsHeld, AreNumbered, cut}
use Rattle.rules_clauses.specs.Numbers.{BeginsWith}
use Rattle.ground_terms.specs.Atoms.{WordTerms, HasGrown}
use Rattle.ground_terms.specs.Keys.{trees, IsKey}
use Rattle.util_interner.specs.KeyLists.{key_at}
use Rattle.ground_terms.proofs.AtomLemmas.{trees_front, front_itself}
use Rattle.ground_terms.proofs.KeyTrees.{length_trees}
use Rattle.ground_terms.proofs.AtPlaces.{take_length}

key_before : (n : ℕ) (keys : List (List ℕ)) (i : ℕ) → i < n → key_at (take n keys) i ≡ key_at keys i
key_before n keys i h = get_or-take n keys i [] h

numbered_take : (many n : ℕ) (keys : List (List ℕ)) → many ≤ n → n ≤ length keys → AreNumbered many keys → AreNumbered many (take n keys)
numbered_take many n keys low high k =
    record {
      keyed = record {
        each = λ i less. subst (λ (key : List ℕ). IsKey many i key) (sym (key_before n keys i (inside i less)))
            (k.keyed.each i (let h = inside i less in omega (arith, h, high)));
        once = λ i j a b e.
            k.keyed.once i j (let h = inside i a in omega (arith, h, high)) (let h = inside j b in omega (arith, h, high))
            (sym (key_before n keys i (inside i a)) ∙ e ∙ key_before n keys j (inside j b));
      };
      within = let l = take_length n keys high in omega (arith, l, low);
      symbols = λ s h. key_before n keys s (omega (arith, h, low)) ∙ k.symbols s h;
    }
  where
    inside : (i : ℕ) → i < length (take n keys) → i < n
    inside i less = let l = take_length n keys high in omega (arith, less, l)

trees_take : (words keys : List (List ℕ)) (n : ℕ) → n ≤ length keys → trees words (take n keys) ≡ take n (trees words keys)
trees_take words keys n h =
    let f = trees_front words (take n keys) keys (drop n keys, sym (take-append-drop n keys)) in
    let l = length_trees words [] (take n keys) in
    let k = take_length n keys h in
    let long : n ≡ length (trees words (take n keys)) = omega (arith, l, k) in
    sym (ap (λ (ts : List Tree). take n ts) f.1 ∙ ap (λ (m : ℕ). take m (trees words (take n keys) ++ f.0)) long
    ∙ take-append_seam (trees words (take n keys)) f.0)

small_take : (b n : ℕ) (xs : List ℕ) → ((i : ℕ) → get_or xs i 0 ≤ b) → (i : ℕ) → get_or (take n xs) i 0 ≤ b
small_take b zero xs h i = omega arith
small_take b (suc n) [] h i = omega arith
small_take b (suc n) (x ∷ xs) h zero = h 0
small_take b (suc n) (x ∷ xs) h (suc i) = small_take b n xs (λ j. h (suc j)) i

-- what is left is held
pub held_take : (many n : ℕ) (lengths : List ℕ) (keys : List (List ℕ)) → IsHeld many lengths keys → many ≤ n → n ≤ length keys
    → IsHeld many (take n lengths) (take n keys)
held_take many n lengths keys h low high =
    record {
      numbered = numbered_take many n keys low high h.numbered;
      beside = let b = h.beside in take_length n lengths (omega (arith, b, high)) ∙ sym (take_length n keys high);
      short = small_take _ n lengths h.short;
      texts = λ words e.
          ap (λ (ls : List ℕ). take n ls) (h.texts words (e ∙ take-take many n lengths low))
          ∙ take-map (λ (t : Tree). cut (length (text t))) n (trees words keys)
          ∙ ap (λ (ts : List Tree). map (λ (t : Tree). cut (length (text t))) ts) (sym (trees_take words keys n high));
    }

pub cut_inside : (count : ℕ) (lengths : List ℕ) (keys : List (List ℕ)) (a : Held) (many : ℕ) (ls : List ℕ) (ks : List (List ℕ))
    → IsHeld count lengths keys
    → ◌≡◌ {A = Held} (record { sizes = take count lengths; keys = keys }) a → length a.sizes ≤ many → many ≤ length a.keys → ls ≡ take many lengths
    → ks ≡ take many keys → IsHeld count ls ks
cut_inside count lengths keys a many ls ks h e low high ls_are ks_are =
    let w = h.numbered.within in
    let b = h.beside in
    let sizes : length (take count lengths) ≤ many = subst (λ (x : Held). length x.sizes ≤ many) (sym e) low in
    let room : many ≤ length keys = subst (λ (x : Held). many ≤ length x.keys) (sym e) high in
    let own = take_length count lengths (omega (arith, w, b)) in
    subst (λ (xs : List ℕ). IsHeld count xs ks) (sym ls_are) (subst (λ (xs : List (List ℕ)). IsHeld count (take many lengths) xs) (sym ks_are)
    (held_take count many lengths keys h (omega (arith, sizes, own)) room))

-- cut back to what there was before, the terms are those before
pub again : (words : List (List ℕ)) (old after new : Held) (n : ℕ) → WordTerms words old → HasGrown words old after → n ≡ length old.keys
    → new.keys ≡ take n after.keys → new.sizes ≡ after.sizes → HasGrown words old new
again words old after new n t g n_is keys sizes =
    let same : new.keys ≡ old.keys = keys ∙ ap (λ (m : ℕ). take m after.keys) n_is ∙ ap (λ (ks : List (List ℕ)). take (length old.keys) ks) g.front.1
    ∙ take-append_seam old.keys g.front.0 in
    record {
      terms = record {
        numbered = subst (λ (ks : List (List ℕ)). AreNumbered (length words) ks) (sym same) t.numbered;
        sizes = g.terms.sizes ∙ sym sizes;
      };
      front = subst (λ (ks : List (List ℕ)). BeginsWith old.keys ks) (sym same) (front_itself old.keys);
    }
