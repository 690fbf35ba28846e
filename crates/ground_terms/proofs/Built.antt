-- Terms that are built on a stack.
use Rattle.std.proofs.Common.{
  ℕ,
  suc,
  zero,
  ◌≡◌,
  ◌-◌,
  ◌<◌,
  ◌≤◌,
  Bool,
  true,
  false,
  cond,
  List,
  [],
  ◌∷◌,
  ◌++◌,
  length,
  map,
  reverse,
  take,
  drop,
  refl,
  sym,
  ◌∙◌,
  ap,
  subst,
  arith,
  get_or,
  length-append,
  append_assoc,
}
use Rattle.std.proofs.Math.Seq.{drop-cons, take-append_seam, drop-append_seam}
use Rattle.std.proofs.lemmas.List.{
  append-nil,
  reverse-append,
  reverse-reverse,
  length-reverse,
  take-append-drop,
  length-take-le,
  take-map,
  length-map,
  length-drop,
  drop-append-le,
}
use Rattle.statement.specs.Tree.{Tree, name, list, tree, trees_of}
use Rattle.rules_clauses.specs.declared.numbered.Part.{Part}
use Rattle.rules_clauses.specs.declared.numbered.Part.TheVariants as parts
use Rattle.statement.specs.Clause.{tree_at}
use Rattle.rules_clauses.specs.Numbers.{BeginsWith, word_at}
use Rattle.statement.specs.Safety.{is_name_in}
use Rattle.rules_clauses.specs.Store.{count_terms, AreFull}
use Rattle.rules_clauses.specs.Marks.{NumbersBelow}
use Rattle.util_interner.specs.KeyLists.{key_at}
use Rattle.ground_terms.specs.Keys.{IsKey, with_key, term_at, tree_of_key, trees_behind, trees}
use Rattle.ground_terms.specs.Arena.{Held, AreNumbered}
use Rattle.ground_terms.specs.Building.{with_part, ground_terms, PartsPlaced, place_value, HeldGrows, Builds, top_key, Interns, PartIsReady, PutsPart, are_flat, flat_number}
use Rattle.ground_terms.proofs.KeyTrees.{below_more, stays, map_same, length_trees, tree_of_number}

-- Lists of numbers below a bound.

below_append : (n : ℕ) (xs ys : List ℕ) → NumbersBelow n xs → NumbersBelow n ys → NumbersBelow n (xs ++ ys)
below_append n [] ys b c = c
below_append n (x ∷ xs) ys b c = (b.0, below_append n xs ys b.1 c)

below_left : (n : ℕ) (xs ys : List ℕ) → NumbersBelow n (xs ++ ys) → NumbersBelow n xs
below_left n [] ys b = tt
below_left n (x ∷ xs) ys b = (b.0, below_left n xs ys b.1)

below_right : (n : ℕ) (xs ys : List ℕ) → NumbersBelow n (xs ++ ys) → NumbersBelow n ys
below_right n [] ys b = b
below_right n (x ∷ xs) ys b = below_right n xs ys b.1

reverse_cons : (x : ℕ) (xs : List ℕ) → reverse (x ∷ xs) ≡ reverse xs ++ x ∷ []
reverse_cons x xs = reverse-append (x ∷ []) xs

pub below_reverse : (n : ℕ) (xs : List ℕ) → NumbersBelow n xs → NumbersBelow n (reverse xs)
below_reverse n [] b = tt
below_reverse n (x ∷ xs) b = subst (λ (ys : List ℕ). NumbersBelow n ys) (sym (reverse_cons x xs))
    (below_append n (reverse xs) (x ∷ []) (below_reverse n xs b.1) (b.0, tt))

pub below_at : (n : ℕ) (xs : List ℕ) (i : ℕ) → i < length xs → NumbersBelow n xs → get_or xs i 0 < n
below_at n [] i h b = absurd (let bad : ⊥ = omega (arith, h) in bad)
below_at n (x ∷ xs) zero h b = b.0
below_at n (x ∷ xs) (suc i) h b = below_at n xs i (omega (arith, h)) b.1

below_take : (n i : ℕ) (xs : List ℕ) → NumbersBelow n xs → NumbersBelow n (take i xs)
below_take n i xs b = below_left n (take i xs) (drop i xs) (subst (λ (ys : List ℕ). NumbersBelow n ys) (sym (take-append-drop i xs)) b)

below_drop : (n i : ℕ) (xs : List ℕ) → NumbersBelow n xs → NumbersBelow n (drop i xs)
below_drop n i xs b = below_right n (take i xs) (drop i xs) (subst (λ (ys : List ℕ). NumbersBelow n ys) (sym (take-append-drop i xs)) b)

-- The top of a stack.

front_of : (xs ys : List ℕ) (n : ℕ) → length ys ≡ n → take (length (xs ++ ys) - n) (xs ++ ys) ≡ xs
front_of xs ys n e =
    let l = length-append xs ys in let g : length (xs ++ ys) - n ≡ length xs = omega (arith, l, e) in
    ap (λ (k : ℕ). take k (xs ++ ys)) g ∙ take-append_seam xs ys

back_of : (xs ys : List ℕ) (n : ℕ) → length ys ≡ n → drop (length (xs ++ ys) - n) (xs ++ ys) ≡ ys
back_of xs ys n e =
    let l = length-append xs ys in let g : length (xs ++ ys) - n ≡ length xs = omega (arith, l, e) in
    ap (λ (k : ℕ). drop k (xs ++ ys)) g ∙ drop-append_seam xs ys

reverse_parts : (n : ℕ) (top : List ℕ) → reverse top ≡ reverse (drop n top) ++ reverse (take n top)
reverse_parts n top = ap (λ (xs : List ℕ). reverse xs) (sym (take-append-drop n top)) ∙ reverse-append (take n top) (drop n top)

stack_parts : (before : List ℕ) (n : ℕ) (top stack : List ℕ) → stack ≡ before ++ reverse top
    → stack ≡ (before ++ reverse (drop n top)) ++ reverse (take n top)
stack_parts before n top stack e = e ∙ ap (λ (xs : List ℕ). before ++ xs) (reverse_parts n top)
    ∙ sym (append_assoc before (reverse (drop n top)) (reverse (take n top)))

taken : (n : ℕ) (top : List ℕ) → n ≤ length top → length (reverse (take n top)) ≡ n
taken n top h = length-reverse (take n top) ∙ length-take-le n top h

pub top_of : (before : List ℕ) (n : ℕ) (top stack : List ℕ) → stack ≡ before ++ reverse top → n ≤ length top
    → drop (length stack - n) stack ≡ reverse (take n top)
top_of before n top stack e h =
    let f = stack_parts before n top stack e in
    ap (λ (xs : List ℕ). drop (length xs - n) xs) f ∙ back_of (before ++ reverse (drop n top)) (reverse (take n top)) n (taken n top h)

pub rest_of : (before : List ℕ) (n : ℕ) (top stack : List ℕ) → stack ≡ before ++ reverse top → n ≤ length top
    → take (length stack - n) stack ≡ before ++ reverse (drop n top)
rest_of before n top stack e h =
    let f = stack_parts before n top stack e in
    ap (λ (xs : List ℕ). take (length xs - n) xs) f ∙ front_of (before ++ reverse (drop n top)) (reverse (take n top)) n (taken n top h)

-- Trees of keys that grow.

trees-append : (words : List (List ℕ)) (done : List Tree) (ks more : List (List ℕ))
    → trees_behind words done (ks ++ more) ≡ trees_behind words (trees_behind words done ks) more
trees-append words done [] more = refl
trees-append words done (k ∷ ks) more = trees-append words (done ++ tree_of_key words done k ∷ []) ks more

-- a number keeps its tree
pub tree_stays : (words : List (List ℕ)) (old new : List (List ℕ)) → BeginsWith old new → (i : ℕ) → i < length old
    → term_at (trees words new) i ≡ term_at (trees words old) i
tree_stays words old new (more, e) i h =
    ap (λ (ks : List (List ℕ)). term_at (trees words ks) i) e ∙ ap (λ (ts : List Tree). term_at ts i) (trees-append words [] old more)
    ∙ stays words (trees words old) more i (let l = length_trees words [] old in omega (arith, l, h))

pub all_stay : (words : List (List ℕ)) (old new : List (List ℕ)) → BeginsWith old new → (xs : List ℕ) → NumbersBelow (length old) xs
    → map (term_at (trees words new)) xs ≡ map (term_at (trees words old)) xs
all_stay words old new b xs h = map_same (term_at (trees words new)) (term_at (trees words old)) (length old) xs h (tree_stays words old new b)

pub begins_longer : (old new : List (List ℕ)) → BeginsWith old new → length old ≤ length new
begins_longer old new (more, e) = let l = ap length e ∙ length-append old more in omega (arith, l)

begins_itself : (ks : List (List ℕ)) → BeginsWith ks ks
begins_itself ks = ([], sym (append-nil ks))

begins_again : (a b c : List (List ℕ)) → BeginsWith a b → BeginsWith b c → BeginsWith a c
begins_again a b c (xs, e) (ys, f) = (xs ++ ys, f ∙ ap (λ (ks : List (List ℕ)). ks ++ ys) e ∙ append_assoc a xs ys)

with_key_begins : (ks : List (List ℕ)) (k : List ℕ) → BeginsWith ks (with_key ks k)
with_key_begins ks k = go (is_name_in k ks)
  where
    go : (b : Bool) → BeginsWith ks (cond b ks (ks ++ k ∷ []))
    go true = begins_itself ks
    go false = (k ∷ [], refl)

pub grows_again : (a b c : Held) → HeldGrows a b → HeldGrows b c → HeldGrows a c
grows_again a b c g h = record { sizes = h.sizes ∙ g.sizes; keys = begins_again a.keys b.keys c.keys g.keys h.keys }

pub interns_grows : (a b : Held) (key : List ℕ) (k : ℕ) → Interns a b key k → HeldGrows a b
interns_grows a b key k i = record {
  sizes = i.sizes;
  keys = subst (λ (ks : List (List ℕ)). BeginsWith a.keys ks) (sym i.keys)
      (with_key_begins a.keys key);
}

-- the tree of a key with a number
pub interned_tree : (words : List (List ℕ)) (a b : Held) (key : List ℕ) (k : ℕ) → Interns a b key k
    → term_at (trees words b.keys) k ≡ tree_of_key words (trees words b.keys) key
interned_tree words a b key k i =
    tree_of_number words (length b.sizes) b.keys i.numbered.keyed k i.within ∙ ap (λ (x : List ℕ). tree_of_key words (trees words b.keys) x) i.is

-- Going through parts from the last to the first, by the values of the terms before.

pub record Built (first now : Held) (values : List ℕ) (ps : List Part) (before after : List ℕ) : Type 0 where
  pub grows : HeldGrows first now
  pub top : List ℕ
  pub stack : after ≡ before ++ reverse top
  pub within : NumbersBelow (length now.keys) top
  pub count : length top ≡ count_terms ps
  pub terms : (words : List (List ℕ)) → map (term_at (trees words now.keys)) top ≡ ground_terms words (place_value (trees words first.keys) values) ps []

push_top : (before top stack : List ℕ) (x : ℕ) → stack ≡ before ++ reverse top → stack ++ x ∷ [] ≡ before ++ reverse (x ∷ top)
push_top before top stack x e = ap (λ (xs : List ℕ). xs ++ x ∷ []) e ∙ append_assoc before (reverse top) (x ∷ [])
    ∙ ap (λ (xs : List ℕ). before ++ xs) (sym (reverse_cons x top))

built_number : (first now : Held) (values : List ℕ) (p : Part) (ps : List Part) (before stack after : List ℕ) (x : ℕ)
    → Built first now values ps before stack
    → x < length now.keys → count_terms (p ∷ ps) ≡ suc (count_terms ps)
    → ((words : List (List ℕ)) → (ts : List Tree) → with_part words (place_value (trees words first.keys) values) p ts ≡ term_at (trees words now.keys) x
    ∷ ts)
    → after ≡ stack ++ x ∷ [] → Built first now values (p ∷ ps) before after
built_number first now values p ps before stack after x b h c t e = record {
  grows = b.grows;
  top = x ∷ b.top;
  stack = e ∙ push_top before b.top stack x b.stack;
  within = (h, b.within);
  count = ap (λ (n : ℕ). suc n) b.count ∙ sym c;
  terms = λ words. ap (λ (ts : List Tree). term_at (trees words now.keys) x ∷ ts) (b.terms words)
      ∙ sym (t words (ground_terms words (place_value (trees words first.keys) values) ps []));
}

list_tree : (w : List ℕ) (n : ℕ) (ts : List Tree) → 0 < n → n ≤ length ts
    → tree_at w (trees_of (take n ts)) ≡ list (tree (name w) (trees_of (take n ts)))
list_tree w zero ts h k = absurd (let bad : ⊥ = omega (arith, h) in bad)
list_tree w (suc n) [] h k = absurd (let bad : ⊥ = omega (arith, k) in bad)
list_tree w (suc n) (t ∷ ts) h k = refl

drop-map : (f : ℕ → Tree) (n : ℕ) (xs : List ℕ) → map f (drop n xs) ≡ drop n (map f xs)
drop-map f zero xs = refl
drop-map f (suc n) [] = refl
drop-map f (suc n) (x ∷ xs) = drop-map f n xs

pub built_list : (first now next : Held) (values : List ℕ) (s n : ℕ) (ps : List Part) (before stack after : List ℕ) (k : ℕ)
    → Built first now values ps before stack
    → n ≤ count_terms ps → 0 < n → Interns now next (top_key s n stack) k → after ≡ take (length stack - n) stack ++ k ∷ []
    → Built first next values (parts.List s n ∷ ps) before after
built_list first now next values s n ps before stack after k b full some i e = record {
  grows = grows_again first now next b.grows grown;
  top = k ∷ drop n b.top;
  stack = e ∙ ap (λ (xs : List ℕ). xs ++ k ∷ []) (rest_of before n b.top stack b.stack less)
      ∙ push_top before (drop n b.top) (before ++ reverse (drop n b.top)) k refl;
  within = (
    i.within,
    below_more (length now.keys) (length next.keys) (drop n b.top) (begins_longer now.keys next.keys grown.keys)
        (below_drop (length now.keys) n b.top b.within),
  );
  count = ap (λ (m : ℕ). suc m) (length-drop n b.top ∙ ap (λ (m : ℕ). m - n) b.count);
  terms = terms;
}
  where
    less : n ≤ length b.top
    less = let c = b.count in omega (arith, full, c)

    grown : HeldGrows now next
    grown = interns_grows now next (top_key s n stack) k i

    key_is : top_key s n stack ≡ s ∷ take n b.top
    key_is = ap (λ (xs : List ℕ). s ∷ reverse xs) (top_of before n b.top stack b.stack less)
        ∙ ap (λ (xs : List ℕ). s ∷ xs) (reverse-reverse (take n b.top))

    terms : (words : List (List ℕ)) → map (term_at (trees words next.keys)) (k ∷ drop n b.top) ≡ ground_terms words
        (place_value (trees words first.keys) values) (parts.List s n ∷ ps) []
    terms words =
        let ts = ground_terms words (place_value (trees words first.keys) values) ps [] in
        let same : map (term_at (trees words next.keys)) b.top ≡ ts = all_stay words now.keys next.keys grown.keys b.top b.within ∙ b.terms words in
        let long : length ts ≡ length b.top = ap length (sym same) ∙ length-map b.top (term_at (trees words next.keys)) in
        let first_of : term_at (trees words next.keys) k ≡ list (tree (name (word_at words s)) (trees_of (take n ts))) =
        interned_tree words now next (top_key s n stack) k i
        ∙ ap (λ (x : List ℕ). tree_of_key words (trees words next.keys) x) key_is
        ∙ ap (λ (us : List Tree). tree_at (word_at words s) (trees_of us)) (sym (take-map (term_at (trees words next.keys)) n b.top)
        ∙ ap (λ (us : List Tree). take n us) same)
        ∙ list_tree (word_at words s) n ts some (omega (arith, less, long)) in
        let others : map (term_at (trees words next.keys)) (drop n b.top) ≡ drop n ts = drop-map (term_at (trees words next.keys)) n b.top
        ∙ ap (λ (us : List Tree). drop n us) same in
        ap (λ (t : Tree). t ∷ map (term_at (trees words next.keys)) (drop n b.top)) first_of
        ∙ ap (λ (us : List Tree). list (tree (name (word_at words s)) (trees_of (take n ts))) ∷ us) others

-- One part more, whatever it is.

full_rest : (p : Part) (ps : List Part) → AreFull (p ∷ ps) → AreFull ps
full_rest (parts.Variable q) ps f = f
full_rest (parts.Constant s) ps f = f
full_rest (parts.List s n) ps f = f.1

full_drop : (n : ℕ) (ps : List Part) → AreFull ps → AreFull (drop n ps)
full_drop zero ps f = f
full_drop (suc n) [] f = f
full_drop (suc n) (p ∷ ps) f = full_drop n ps (full_rest p ps f)

placed_rest : (many places : ℕ) (p : Part) (ps : List Part) → PartsPlaced many places (p ∷ ps) → PartsPlaced many places ps
placed_rest many places (parts.Variable q) ps h = h.1
placed_rest many places (parts.Constant s) ps h = h.1
placed_rest many places (parts.List s n) ps h = h.2

placed_drop : (many places n : ℕ) (ps : List Part) → PartsPlaced many places ps → PartsPlaced many places (drop n ps)
placed_drop many places zero ps h = h
placed_drop many places (suc n) [] h = h
placed_drop many places (suc n) (p ∷ ps) h = placed_drop many places n ps (placed_rest many places p ps h)

ready_at : (first now : Held) (values : List ℕ) (p : Part) (ps : List Part) (before stack : List ℕ) → AreFull (p ∷ ps)
    → PartsPlaced (length first.sizes) (length values) (p ∷ ps)
    → Built first now values ps before stack → PartIsReady now values stack p
ready_at first now values (parts.Variable q) ps before stack f h b = h.0
ready_at first now values (parts.Constant s) ps before stack f h b = let less = h.0 in let e = ap length b.grows.sizes in omega (arith, less, e)
ready_at first now values (parts.List s n) ps before stack f h b =
    let full = f.0 in let c = b.count in let less : n ≤ length b.top = omega (arith, full, c) in (
      (let small = h.0 in let e = ap length b.grows.sizes in omega (arith, small, e)),
      (let e = ap length b.stack ∙ length-append before (reverse b.top) in let l = length-reverse b.top in omega (arith, less, e, l)),
      subst (λ (xs : List ℕ). NumbersBelow (length now.keys) xs) (sym (top_of before n b.top stack b.stack less))
          (below_reverse (length now.keys) (take n b.top) (below_take (length now.keys) n b.top b.within)),
    )

put_number : (first now next : Held) (values : List ℕ) (p : Part) (ps : List Part) (before stack after : List ℕ) (x : ℕ) → next ≡ now
    → Built first now values ps before stack
    → x < length now.keys → count_terms (p ∷ ps) ≡ suc (count_terms ps)
    → ((words : List (List ℕ)) → (ts : List Tree) → with_part words (place_value (trees words first.keys) values) p ts ≡ term_at (trees words now.keys) x
    ∷ ts)
    → after ≡ stack ++ x ∷ [] → Built first next values (p ∷ ps) before after
put_number first now next values p ps before stack after x s b h c t e =
    subst (λ (a : Held). Built first a values (p ∷ ps) before after) (sym s) (built_number first now values p ps before stack after x b h c t e)

pub symbol_tree : (words : List (List ℕ)) (a : Held) (s : ℕ) → AreNumbered (length a.sizes) a.keys → s < length a.sizes
    → term_at (trees words a.keys) s ≡ name (word_at words s)
symbol_tree words a s n h =
    tree_of_number words (length a.sizes) a.keys n.keyed s (let w = n.within in omega (arith, h, w))
    ∙ ap (λ (k : List ℕ). tree_of_key words (trees words a.keys) k) (n.symbols s h)

next_at : (first now next : Held) (values : List ℕ) (p : Part) (ps : List Part) (before stack after : List ℕ) → AreFull (p ∷ ps)
    → PartsPlaced (length first.sizes) (length values) (p ∷ ps)
    → NumbersBelow (length first.keys) values → Built first now values ps before stack → PutsPart now next values p stack after
    → Built first next values (p ∷ ps) before after
next_at first now next values (parts.Variable q) ps before stack after f h v b put =
    let small = below_at (length first.keys) values q h.0 v in
    put_number first now next values (parts.Variable q) ps before stack after (get_or values q 0) put.0 b
    (let l = begins_longer first.keys now.keys b.grows.keys in omega (arith, small, l)) refl
    (λ words ts. ap (λ (t : Tree). t ∷ ts) (sym (tree_stays words first.keys now.keys b.grows.keys (get_or values q 0) small))) put.1
next_at first now next values (parts.Constant s) ps before stack after f h v b put =
    let numbered : AreNumbered (length now.sizes) now.keys = subst (λ (a : Held). AreNumbered (length a.sizes) a.keys) put.0 put.2 in
    let small : s < length now.sizes = (let less = h.0 in let e = ap length b.grows.sizes in omega (arith, less, e)) in
    put_number first now next values (parts.Constant s) ps before stack after s put.0 b (let w = numbered.within in omega (arith, small, w)) refl
    (λ words ts. ap (λ (t : Tree). t ∷ ts) (sym (symbol_tree words now s numbered small))) put.1
next_at first now next values (parts.List s n) ps before stack after f h v b (k, put) =
    built_list first now next values s n ps before stack after k b f.0 h.1 put.0 put.1

parts_from : (ps : List Part) (left : ℕ) (d : Part) → 0 < left → left ≤ length ps → drop (left - 1) ps ≡ get_or ps (left - 1) d ∷ drop left ps
parts_from ps left d h k =
    drop-cons ps (left - 1) d (omega (arith, h, k))
    ∙ ap (λ (n : ℕ). get_or ps (left - 1) d ∷ drop n ps) (let e : suc (left - 1) ≡ left = omega (arith, h) in e)

pub ready : (first now : Held) (values : List ℕ) (ps : List Part) (left : ℕ) (before stack : List ℕ) (d : Part) → 0 < left → left ≤ length ps
    → AreFull ps
    → PartsPlaced (length first.sizes) (length values) ps → Built first now values (drop left ps) before stack
    → PartIsReady now values stack (get_or ps (left - 1) d)
ready first now values ps left before stack d h k f p b =
    let e = parts_from ps left d h k in
    ready_at first now values (get_or ps (left - 1) d) (drop left ps) before stack
    (subst (λ (qs : List Part). AreFull qs) e (full_drop (left - 1) ps f))
    (subst (λ (qs : List Part). PartsPlaced (length first.sizes) (length values) qs) e
    (placed_drop (length first.sizes) (length values) (left - 1) ps p)) b

pub next : (first now more : Held) (values : List ℕ) (ps : List Part) (left : ℕ) (before stack after : List ℕ) (d : Part) → 0 < left
    → left ≤ length ps → AreFull ps
    → PartsPlaced (length first.sizes) (length values) ps → NumbersBelow (length first.keys) values → Built first now values (drop left ps) before stack
    → PutsPart now more values (get_or ps (left - 1) d) stack after → Built first more values (drop (left - 1) ps) before after
next first now more values ps left before stack after d h k f p v b put =
    let e = parts_from ps left d h k in
    subst (λ (qs : List Part). Built first more values qs before after) (sym e)
    (next_at first now more values (get_or ps (left - 1) d) (drop left ps) before stack after
    (subst (λ (qs : List Part). AreFull qs) e (full_drop (left - 1) ps f))
    (subst (λ (qs : List Part). PartsPlaced (length first.sizes) (length values) qs) e
    (placed_drop (length first.sizes) (length values) (left - 1) ps p)) v b put)

-- All parts.

with_same : (words : List (List ℕ)) (f g : ℕ → Tree) (many places : ℕ) (p : Part) (ps : List Part) (ts : List Tree) → PartsPlaced many places (p ∷ ps)
    → ((q : ℕ) → q < places → f q ≡ g q) → with_part words f p ts ≡ with_part words g p ts
with_same words f g many places (parts.Variable q) ps ts h same = ap (λ (t : Tree). t ∷ ts) (same q h.0)
with_same words f g many places (parts.Constant s) ps ts h same = refl
with_same words f g many places (parts.List s n) ps ts h same = refl

pub ground_same : (words : List (List ℕ)) (f g : ℕ → Tree) (many places : ℕ) (ps : List Part) (ts : List Tree) → PartsPlaced many places ps
    → ((q : ℕ) → q < places → f q ≡ g q) → ground_terms words f ps ts ≡ ground_terms words g ps ts
ground_same words f g many places [] ts h same = refl
ground_same words f g many places (p ∷ ps) ts h same =
    ap (λ (us : List Tree). with_part words f p us) (ground_same words f g many places ps ts (placed_rest many places p ps h) same)
    ∙ with_same words f g many places p ps (ground_terms words g ps ts) h same

values_stay : (words : List (List ℕ)) (old new : List (List ℕ)) (values : List ℕ) (many : ℕ) (ps : List Part) → BeginsWith old new
    → PartsPlaced many (length values) ps → NumbersBelow (length old) values
    → ground_terms words (place_value (trees words old) values) ps [] ≡ ground_terms words (place_value (trees words new) values) ps []
values_stay words old new values many ps b h v =
    ground_same words (place_value (trees words old) values) (place_value (trees words new) values) many (length values) ps [] h
    (λ q less. sym (tree_stays words old new b (get_or values q 0) (below_at (length old) values q less v)))

pub built_all : (first now : Held) (values : List ℕ) (ps : List Part) (left : ℕ) (before after : List ℕ) → left ≤ 0
    → PartsPlaced (length first.sizes) (length values) ps → NumbersBelow (length first.keys) values
    → Built first now values (drop left ps) before after → Builds first now values ps before after
built_all first now values ps left before after h p v b =
    let e : left ≡ 0 = omega (arith, h) in whole (subst (λ (n : ℕ). Built first now values (drop n ps) before after) e b)
  where
    whole : Built first now values ps before after → Builds first now values ps before after
    whole b = record {
      grows = b.grows;
      top = b.top;
      stack = b.stack;
      within = b.within;
      count = b.count;
      terms = λ words. b.terms words ∙ values_stay words first.keys now.keys values (length first.sizes) ps b.grows.keys p v;
    }

-- The key on the top of a stack, once it is turned.

pub take_all : (n : ℕ) (xs : List ℕ) → length xs ≤ n → take n xs ≡ xs
take_all zero [] h = refl
take_all zero (x ∷ xs) h = absurd (let bad : ⊥ = omega (arith, h) in bad)
take_all (suc n) [] h = refl
take_all (suc n) (x ∷ xs) h = ap (λ (ys : List ℕ). x ∷ ys) (take_all n xs (omega (arith, h)))

pub key_on_top : (old turned seen : List ℕ) (s n from : ℕ) → n ≤ length old → from ≡ length old - n
    → turned ≡ take from (old ++ s ∷ []) ++ reverse (drop from (old ++ s ∷ []))
    → seen ≡ turned → take (length seen - from) (drop from seen) ≡ top_key s n old
key_on_top old turned seen s n from h e f g =
    let l = length-append old (s ∷ []) in
    let front : length (take from (old ++ s ∷ [])) ≡ from = length-take-le from (old ++ s ∷ []) (omega (arith, h, e, l)) in
    let key : drop from seen ≡ reverse (drop from (old ++ s ∷ [])) =
    ap (λ (xs : List ℕ). drop from xs) (g ∙ f)
    ∙ ap (λ (k : ℕ). drop k (take from (old ++ s ∷ []) ++ reverse (drop from (old ++ s ∷ [])))) (sym front)
    ∙ drop-append_seam (take from (old ++ s ∷ [])) (reverse (drop from (old ++ s ∷ []))) in
    take_all (length seen - from) (drop from seen) (let d = length-drop from seen in omega (arith, d)) ∙ key
    ∙ ap (λ (xs : List ℕ). reverse xs) (drop-append-le from old (s ∷ []) (omega (arith, h, e)))
    ∙ reverse-append (drop from old) (s ∷ [])
    ∙ ap (λ (k : ℕ). s ∷ reverse (drop k old)) e

-- An atom of the terms on the top of the stack.

count_of : (before top after : List ℕ) (n : ℕ) → after ≡ before ++ reverse top → n ≡ length after - length before → n ≡ length top
count_of before top after n e f =
    let l = ap length e ∙ length-append before (reverse top) in let r = length-reverse top in omega (arith, f, l, r)

pub atom_ready : (old new : Held) (values : List ℕ) (ps : List Part) (before after : List ℕ) (n : ℕ) → Builds old new values ps before after
    → n ≡ length after - length before
    → NumbersBelow (length new.keys) (drop (length after - n) after)
atom_ready old new values ps before after n b e =
    let c = count_of before b.top after n b.stack e in
    subst (λ (xs : List ℕ). NumbersBelow (length new.keys) xs) (sym (top_of before n b.top after b.stack (omega (arith, c))))
    (below_reverse (length new.keys) (take n b.top) (below_take (length new.keys) n b.top b.within))

pub atom_exact : (old new last : Held) (values : List ℕ) (ps : List Part) (before after : List ℕ) (n w k : ℕ)
    → PartsPlaced (length old.sizes) (length values) ps → NumbersBelow (length old.keys) values
    → Builds old new values ps before after → n ≡ length after - length before → Interns new last (top_key w n after) k
    → (words : List (List ℕ)) → term_at (trees words last.keys) k ≡ tree_at (word_at words w)
    (trees_of (ground_terms words (place_value (trees words last.keys) values) ps []))
atom_exact old new last values ps before after n w k p v b e i words =
    let c = count_of before b.top after n b.stack e in
    let key : top_key w n after ≡ w ∷ b.top =
    ap (λ (xs : List ℕ). w ∷ reverse xs) (top_of before n b.top after b.stack (omega (arith, c)))
    ∙ ap (λ (xs : List ℕ). w ∷ xs) (reverse-reverse (take n b.top) ∙ take_all n b.top (omega (arith, c))) in
    let grown = interns_grows new last (top_key w n after) k i in
    interned_tree words new last (top_key w n after) k i
    ∙ ap (λ (x : List ℕ). tree_of_key words (trees words last.keys) x) key
    ∙ ap (λ (us : List Tree). tree_at (word_at words w) (trees_of us))
    (all_stay words new.keys last.keys grown.keys b.top b.within ∙ b.terms words
    ∙ values_stay words new.keys last.keys values (length old.sizes) ps grown.keys p
    (below_more (length old.keys) (length new.keys) values (begins_longer old.keys new.keys b.grows.keys) v))

-- An atom of parts without lists.

flat_below : (a : Held) (values : List ℕ) (ps : List Part) → AreNumbered (length a.sizes) a.keys → PartsPlaced (length a.sizes) (length values) ps
    → NumbersBelow (length a.keys) values → are_flat ps ≡ true → NumbersBelow (length a.keys) (map (flat_number values) ps)
flat_below a values [] n p v f = tt
flat_below a values (parts.Variable q ∷ ps) n p v f = (below_at (length a.keys) values q p.0 v, flat_below a values ps n p.1 v f)
flat_below a values (parts.Constant s ∷ ps) n p v f =
    ((let w = n.within in let h = p.0 in omega (arith, h, w)), flat_below a values ps n p.1 v f)
flat_below a values (parts.List s m ∷ ps) n p v f = absurd cc

flat_terms : (words : List (List ℕ)) (a : Held) (values : List ℕ) (ps : List Part) → AreNumbered (length a.sizes) a.keys
    → PartsPlaced (length a.sizes) (length values) ps → are_flat ps ≡ true
    → map (term_at (trees words a.keys)) (map (flat_number values) ps) ≡ ground_terms words (place_value (trees words a.keys) values) ps []
flat_terms words a values [] n p f = refl
flat_terms words a values (parts.Variable q ∷ ps) n p f =
    ap (λ (ts : List Tree). term_at (trees words a.keys) (get_or values q 0) ∷ ts) (flat_terms words a values ps n p.1 f)
flat_terms words a values (parts.Constant s ∷ ps) n p f =
    ap (λ (t : Tree). t ∷ map (term_at (trees words a.keys)) (map (flat_number values) ps)) (symbol_tree words a s n p.0)
    ∙ ap (λ (ts : List Tree). name (word_at words s) ∷ ts) (flat_terms words a values ps n p.1 f)
flat_terms words a values (parts.List s m ∷ ps) n p f = absurd cc

-- the key of such an atom, behind what was on the stack
pub flat_key : (a : Held) (values : List ℕ) (ps : List Part) (w from : ℕ) (before stack seen key : List ℕ) → w < length a.sizes
    → AreNumbered (length a.sizes) a.keys → PartsPlaced (length a.sizes) (length values) ps → NumbersBelow (length a.keys) values → are_flat ps ≡ true
    → from ≡ length before → stack ≡ before ++ w ∷ map (flat_number values) ps → seen ≡ stack → key ≡ take (length seen - from) (drop from seen)
    → (key ≡ w ∷ map (flat_number values) ps) × IsKey (length a.sizes) (length a.keys) key
flat_key a values ps w from before stack seen key h n p v f at pushed read cut = (
  is,
  subst (λ (k : List ℕ). IsKey (length a.sizes) (length a.keys) k) (sym is) (h, flat_below a values ps n p v f),
)
  where
    is : key ≡ w ∷ map (flat_number values) ps
    is =
        cut ∙ take_all (length seen - from) (drop from seen) (let d = length-drop from seen in omega (arith, d))
        ∙ ap (λ (xs : List ℕ). drop from xs) (read ∙ pushed) ∙ ap (λ (k : ℕ). drop k (before ++ w ∷ map (flat_number values) ps)) at
        ∙ drop-append_seam before (w ∷ map (flat_number values) ps)

pub flat_exact : (old last : Held) (values : List ℕ) (ps : List Part) (w k : ℕ) (key : List ℕ) → key ≡ w ∷ map (flat_number values) ps
    → last.sizes ≡ old.sizes → AreNumbered (length last.sizes) last.keys → PartsPlaced (length old.sizes) (length values) ps → are_flat ps ≡ true
    → last.keys ≡ with_key old.keys key → k < length last.keys → key_at last.keys k ≡ key
    → (words : List (List ℕ)) → term_at (trees words last.keys) k ≡ tree_at (word_at words w)
    (trees_of (ground_terms words (place_value (trees words last.keys) values) ps []))
flat_exact old last values ps w k key is sizes n p f kept within found words =
    interned_tree words old last key k (record { sizes = sizes; keys = kept; numbered = n; within = within; is = found })
    ∙ ap (λ (x : List ℕ). tree_of_key words (trees words last.keys) x) is
    ∙ ap (λ (us : List Tree). tree_at (word_at words w) (trees_of us))
    (flat_terms words last values ps n (subst (λ (ss : List ℕ). PartsPlaced (length ss) (length values) ps) (sym sizes) p) f)
