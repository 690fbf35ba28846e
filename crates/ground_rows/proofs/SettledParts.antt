-- Parts are settled one after the other, the last one first.
use Rattle.std.proofs.Common.{ℕ, zero, suc, ◌≡◌, ◌≢◌, ◌<◌, ◌≤◌, ◌+◌, ◌-◌, List, [], ◌∷◌, ◌++◌, length, take, drop, drop-cons, get_or, map, refl, sym, ◌∙◌, ap, subst, arith, Some, false}
use Rattle.std.specs.Prelude.{slice_index, slice_set}
use Rattle.std.proofs.lemmas.List.{drop-set, length-drop, length-map, length-take-le, get_or_append_left}
use Rattle.std.proofs.Math.Seq.{take-length}
use Rattle.std.proofs.lemmas.Option.{slice_get-get_or}
use Rattle.statement.specs.Tree.{Tree, name, list, tree, trees_of}
use Rattle.statement.specs.Clause as said
use Rattle.statement.specs.Clause.{tree_at}
use Rattle.rules_clauses.specs.declared.numbered.Part.{Part}
use Rattle.rules_clauses.specs.declared.numbered.Part.TheVariants as parts
use Rattle.rules_clauses.specs.Marks.{NumbersBelow}
use Rattle.rules_clauses.specs.Numbers.{BeginsWith, word_at}
use Rattle.util_interner.specs.KeyLists.{key_at}
use Rattle.meaning.proofs.Facts.{same_some}
use Rattle.ground_terms.specs.Building.{PartsPlaced, is_list}
use Rattle.ground_terms.specs.Keys.{word_of, parts_of, term_at, trees, tree_of_key}
use Rattle.ground_terms.proofs.Facts.{tree_of_number, length_trees, different, atom_key, below_more, below_append, front_length}
use Rattle.ground_rows.specs.Pairs.{simple_number, PartNumbers, IsKeyOf}
use Rattle.ground_rows.specs.Settled.{AreTerms, AreNumbersOf, Settles, AreAbsent, terms_by}
use Rattle.ground_rows.proofs.Pairs.{simple_is}
use Rattle.ground_rows.proofs.EarlyTests.{first_placed, numbers_front, same_numbers, key_whole, key_word, key_below}

key_front : (keys all : List (List ℕ)) → BeginsWith keys all → (i : ℕ) → i < length keys → key_at all i ≡ key_at keys i
key_front keys all f i h = ap (λ (ks : List (List ℕ)). key_at ks i) f.1 ∙ get_or_append_left keys f.0 [] i h

-- each part has one number
pub numbers_once : (values : List ℕ) (qs : List Part) (ms ns : List ℕ) → PartNumbers values qs ms → PartNumbers values qs ns → ms ≡ ns
numbers_once values [] [] [] a b = refl
numbers_once values [] [] (n ∷ ns) a b = absurd b
numbers_once values [] (m ∷ ms) ns a b = absurd a
numbers_once values (q ∷ qs) [] ns a b = absurd a
numbers_once values (q ∷ qs) (m ∷ ms) [] a b = absurd b
numbers_once values (q ∷ qs) (m ∷ ms) (n ∷ ns) a b =
    ap (λ (k : ℕ). k ∷ ms) (same_some m n (sym a.0 ∙ b.0)) ∙ ap (λ (ks : List ℕ). n ∷ ks) (numbers_once values qs ms ns a.1 b.1)

numbers_take : (values : List ℕ) (n : ℕ) (qs : List Part) (ns : List ℕ) → PartNumbers values qs ns → PartNumbers values (take n qs) (take n ns)
numbers_take values zero qs ns a = tt
numbers_take values (suc n) [] [] a = tt
numbers_take values (suc n) [] (k ∷ ns) a = absurd a
numbers_take values (suc n) (q ∷ qs) [] a = absurd a
numbers_take values (suc n) (q ∷ qs) (k ∷ ns) a = (a.0, numbers_take values n qs ns a.1)

numbers_drop : (values : List ℕ) (n : ℕ) (qs : List Part) (ns : List ℕ) → PartNumbers values qs ns → PartNumbers values (drop n qs) (drop n ns)
numbers_drop values zero qs ns a = a
numbers_drop values (suc n) [] [] a = tt
numbers_drop values (suc n) [] (k ∷ ns) a = absurd a
numbers_drop values (suc n) (q ∷ qs) [] a = absurd a
numbers_drop values (suc n) (q ∷ qs) (k ∷ ns) a = numbers_drop values n qs ns a.1

numbers_length : (values : List ℕ) (qs : List Part) (ns : List ℕ) → PartNumbers values qs ns → length ns ≡ length qs
numbers_length values [] [] a = refl
numbers_length values [] (k ∷ ns) a = absurd a
numbers_length values (q ∷ qs) [] a = absurd a
numbers_length values (q ∷ qs) (k ∷ ns) a = ap (λ (n : ℕ). suc n) (numbers_length values qs ns a.1)

below_drop : (many n : ℕ) (ns : List ℕ) → NumbersBelow many ns → NumbersBelow many (drop n ns)
below_drop many zero ns b = b
below_drop many (suc n) [] b = b
below_drop many (suc n) (k ∷ ns) b = below_drop many n ns b.1

below_take : (many n : ℕ) (ns : List ℕ) → NumbersBelow many ns → NumbersBelow many (take n ns)
below_take many zero ns b = tt
below_take many (suc n) [] b = tt
below_take many (suc n) (k ∷ ns) b = (b.0, below_take many n ns b.1)

map_take : {A B : Type 0} (f : A → B) (n : ℕ) (xs : List A) → take n (map f xs) ≡ map f (take n xs)
map_take f zero xs = refl
map_take f (suc n) [] = refl
map_take f (suc n) (x ∷ xs) = ap (λ ys. f x ∷ ys) (map_take f n xs)

map_drop : {A B : Type 0} (f : A → B) (n : ℕ) (xs : List A) → drop n (map f xs) ≡ map f (drop n xs)
map_drop f zero xs = refl
map_drop f (suc n) [] = refl
map_drop f (suc n) (x ∷ xs) = map_drop f n xs

map_both : {A B : Type 0} (f : A → B) (xs ys : List A) → map f (xs ++ ys) ≡ map f xs ++ map f ys
map_both f [] ys = refl
map_both f (x ∷ xs) ys = ap (λ zs. f x ∷ zs) (map_both f xs ys)

both_again : {A : Type 0} (n : ℕ) (xs : List A) → take n xs ++ drop n xs ≡ xs
both_again zero xs = refl
both_again (suc n) [] = refl
both_again (suc n) (x ∷ xs) = ap (λ ys. x ∷ ys) (both_again n xs)

pub trees_same : (ts us : List Tree) → trees_of ts ≡ trees_of us → ts ≡ us
trees_same [] [] e = refl
trees_same [] (u ∷ us) e = absurd cc
trees_same (t ∷ ts) [] e = absurd cc
trees_same (t ∷ ts) (u ∷ us) e =
    let first : t ≡ u = cc in
    let rest : trees_of ts ≡ trees_of us = cc in
    ap (λ (v : Tree). v ∷ ts) first ∙ ap (λ (vs : List Tree). u ∷ vs) (trees_same ts us rest)

-- the terms behind the first part
behind_terms : (words first : List (List ℕ)) (p : Part) (ps : List Part) (keys : List (List ℕ)) (values : List ℕ)
    → AreTerms words first (p ∷ ps) keys values → AreTerms words first ps keys values
behind_terms words first p ps keys values t = record {
  differ = t.differ;
  front = t.front;
  numbered = t.numbered;
  below = t.below;
  placed = (first_placed (length words) (length values) p ps t.placed).1;
}

-- A part that is no list.

there : (many : ℕ) (values : List ℕ) (p : Part) → is_list p ≡ false → PartsPlaced many (length values) (p ∷ []) → (k : ℕ) × (simple_number values p ≡ Some k)
there many values (parts.Variable v) e a = (slice_index values v, slice_get-get_or values v 0 a.0)
there many values (parts.Constant s) e a = (s, refl)
there many values (parts.List s n) e a = absurd cc

pub settles_simple : (words first : List (List ℕ)) (p : Part) (ps qs : List Part) → is_list p ≡ false → Settles words first ps qs
    → Settles words first (p ∷ ps) (p ∷ qs)
settles_simple words first p ps qs e s keys values t =
    let placed = first_placed (length words) (length values) p ps t.placed in
    let rest = s keys values (behind_terms words first p ps keys values t) in
    let one = there (length words) values p e placed.0 in
    let is = simple_is words t.differ keys t.numbered values t.below p one.0 placed.0 one.1 in (
      one.0 ∷ rest.0,
      (
        (one.1, rest.1.0),
        record {
          below = (is.0, rest.1.1.below);
          are = ap (λ (ts : List Tree). term_at (trees words keys) one.0 ∷ ts) rest.1.1.are ∙ sym (is.1 (terms_by words keys values ps));
        },
      ),
    )

pub settles_none : (words first : List (List ℕ)) → Settles words first [] []
settles_none words first keys values t = ([], (tt, record { below = tt; are = refl }))

-- A list.

list_tree : (w : List ℕ) (ts : List Tree) → 0 < length ts → tree_at w (trees_of ts) ≡ list (tree (name w) (trees_of ts))
list_tree w [] h = absurd (let bad : ⊥ = omega (arith, h) in bad)
list_tree w (t ∷ ts) h = refl

-- the numbers of its terms are those in its key
record Inner (words keys : List (List ℕ)) (values : List ℕ) (s n : ℕ) (ps qs : List Part) (key : List ℕ) : Type 0 where
  ns : List ℕ
  own : PartNumbers values qs ns
  numbers : AreNumbersOf words keys values ps ns
  key_is : key ≡ s ∷ take n ns
  tree_is : tree_at (word_at words s) (trees_of (map (term_at (trees words keys)) (take n ns)))
      ≡ list (tree (name (word_at words s)) (trees_of (take n (terms_by words keys values ps))))

inner : (words first : List (List ℕ)) (s n : ℕ) (ps qs : List Part) (key : List ℕ) → n ≤ length qs → IsKeyOf [] s (take n qs) key
    → Settles words first ps qs → (keys : List (List ℕ)) (values : List ℕ) → AreTerms words first (parts.List s n ∷ ps) keys values
    → Inner words keys values s n ps qs key
inner words first s n ps qs key enough is settles keys values t =
    let rest = settles keys values (behind_terms words first (parts.List s n) ps keys values t) in
    let ns = rest.0 in
    let f = term_at (trees words keys) in
    let same = numbers_once values (take n qs) is.numbers (take n ns)
    (numbers_front [] values (take n qs) is.numbers (values, refl) is.are) (numbers_take values n qs ns rest.1.0) in
    let own_length = numbers_length values qs ns rest.1.0 in
    let long : length (map f (take n ns)) ≡ n = length-map (take n ns) f ∙ length-take-le n ns (omega (arith, own_length, enough)) in
    let some = t.placed.1 in
    record {
      ns = ns;
      own = rest.1.0;
      numbers = rest.1.1;
      key_is = is.is ∙ ap (λ (ks : List ℕ). s ∷ ks) same;
      tree_is = list_tree (word_at words s) (map f (take n ns)) (omega (arith, some, long))
          ∙ ap (λ (ts : List Tree). list (tree (name (word_at words s)) (trees_of ts)))
          (sym (map_take f n ns) ∙ ap (λ (ts : List Tree). take n ts) rest.1.1.are);
    }

-- it is a term
pub settles_list : (words first : List (List ℕ)) (s n k : ℕ) (ps qs : List Part) (key : List ℕ) → n ≤ length qs → IsKeyOf [] s (take n qs) key
    → k < length first → key_at first k ≡ key → Settles words first ps qs → Settles words first (parts.List s n ∷ ps) (parts.Constant k ∷ drop n qs)
settles_list words first s n k ps qs key enough is within at settles keys values t =
    let i = inner words first s n ps qs key enough is settles keys values t in
    let f = term_at (trees words keys) in
    let less : k < length keys = (let l = front_length first keys t.front in omega (arith, within, l)) in
    let first_is : f k ≡ list (tree (name (word_at words s)) (trees_of (take n (terms_by words keys values ps)))) =
    tree_of_number words (length words) keys t.numbered.keyed k less
    ∙ ap (λ (xs : List ℕ). tree_of_key words (trees words keys) xs) (key_front first keys t.front k within ∙ at ∙ i.key_is) ∙ i.tree_is in (
      k ∷ drop n i.ns,
      (
        (refl, numbers_drop values n qs i.ns i.own),
        record {
          below = (less, below_drop (length keys) n i.ns i.numbers.below);
          are = ap (λ (u : Tree). u ∷ map f (drop n i.ns)) first_is
              ∙ ap (λ (ts : List Tree). list (tree (name (word_at words s)) (trees_of (take n (terms_by words keys values ps)))) ∷ ts)
              (sym (map_drop f n i.ns) ∙ ap (λ (ts : List Tree). drop n ts) i.numbers.are);
        },
      ),
    )

first_two : (f : ℕ → Tree) (m : ℕ) (ns : List ℕ) (t : Tree) (ts : List Tree) → map f (m ∷ ns) ≡ t ∷ ts → (f m ≡ t) × (map f ns ≡ ts)
first_two f m ns t ts e = (cc, cc)

-- it is none
pub absent_list : (words first : List (List ℕ)) (s n : ℕ) (ps qs : List Part) (key : List ℕ) → n ≤ length qs → IsKeyOf [] s (take n qs) key
    → ((k : ℕ) → k < length first → key_at first k ≢ key) → Settles words first ps qs → AreAbsent words first (parts.List s n ∷ ps)
absent_list words first s n ps qs key enough is none settles keys values [] t below e = cc
absent_list words first s n ps qs key enough is none settles keys values (m ∷ ms) t below e =
    let i = inner words first s n ps qs key enough is settles keys values t in
    let all = trees words keys in
    let f = term_at all in
    let long = length_trees words [] keys in
    let l = front_length first keys t.front in
    let within = below.0 in
    let less : m < length keys = omega (arith, within, l) in
    let inside : m < length all = omega (arith, less, long) in
    let x : said.Atom = record { word = word_at words s; terms = trees_of (map f (take n i.ns)) } in
    let two = first_two f m ms _ _ e in
    let is_x = atom_key words t.differ keys t.numbered.keyed m x inside (two.0 ∙ sym i.tree_is) in
    let k = key_at keys m in
    let kept = t.numbered.keyed.each m less in
    let word : word_of k ≡ s = t.differ (word_of k) s (key_word (length words) m k kept) t.placed.0 is_x.word in
    let parts : parts_of k ≡ take n i.ns =
    same_numbers all (different words t.differ keys t.numbered.keyed) (parts_of k) (take n i.ns)
    (below_more m (length all) (parts_of k) (omega (arith, inside)) (key_below (length words) m k kept))
    (below_more (length keys) (length all) (take n i.ns) (omega (arith, long)) (below_take (length keys) n i.ns i.numbers.below)) is_x.parts in
    none m within
    (sym (key_front first keys t.front m within) ∙ key_whole (length words) m k kept ∙ ap (λ (v : ℕ). v ∷ parts_of k) word
    ∙ ap (λ (xs : List ℕ). s ∷ xs) parts ∙ sym i.key_is)

-- One more part before parts of which some are none.

same_inner : (w v : List ℕ) (ts us : List Tree) → tree_at w (trees_of ts) ≡ list (tree (name v) (trees_of us)) → ts ≡ us
same_inner w v [] us e = absurd cc
same_inner w v (t ∷ ts) us e = let f : trees_of (t ∷ ts) ≡ trees_of us = cc in trees_same (t ∷ ts) us f

absent_terms : (words first : List (List ℕ)) (p : Part) (ps : List Part) (keys : List (List ℕ)) (values ns : List ℕ)
    → AreTerms words first (p ∷ ps) keys values → NumbersBelow (length first) ns
    → map (term_at (trees words keys)) ns ≡ terms_by words keys values (p ∷ ps)
    → (ms : List ℕ) × (NumbersBelow (length first) ms × (map (term_at (trees words keys)) ms ≡ terms_by words keys values ps))
absent_terms words first (parts.Variable v) ps keys values [] t below e = absurd cc
absent_terms words first (parts.Variable v) ps keys values (m ∷ ms) t below e = (ms, (below.1, (first_two _ m ms _ _ e).1))
absent_terms words first (parts.Constant s) ps keys values [] t below e = absurd cc
absent_terms words first (parts.Constant s) ps keys values (m ∷ ms) t below e = (ms, (below.1, (first_two _ m ms _ _ e).1))
absent_terms words first (parts.List s n) ps keys values [] t below e = absurd cc
absent_terms words first (parts.List s n) ps keys values (m ∷ ms) t below e =
    let f = term_at (trees words keys) in
    let two = first_two f m ms _ _ e in
    let l = front_length first keys t.front in
    let within = below.0 in
    let less : m < length keys = omega (arith, within, l) in
    let k = key_at keys m in
    let own = parts_of k in
    let kept = t.numbered.keyed.each m less in
    let all = terms_by words keys values ps in
    let inner_is : map f own ≡ take n all =
    same_inner (word_at words (word_of k)) (word_at words s) (map f own) (take n all)
    (sym (tree_of_number words (length words) keys t.numbered.keyed m less) ∙ two.0) in (
      own ++ ms,
      (
        below_append (length first) own ms (below_more m (length first) own (omega (arith, within)) (key_below (length words) m k kept)) below.1,
        map_both f own ms ∙ ap (λ (ts : List Tree). ts ++ map f ms) inner_is ∙ ap (λ (ts : List Tree). take n all ++ ts) two.1 ∙ both_again n all,
      ),
    )

pub absent_behind : (words first : List (List ℕ)) (p : Part) (ps : List Part) → AreAbsent words first ps → AreAbsent words first (p ∷ ps)
absent_behind words first p ps absent keys values ns t below e =
    let more = absent_terms words first p ps keys values ns t below e in
    absent keys values more.0 (behind_terms words first p ps keys values t) more.1.0 more.1.1

pub absent_all : (words first : List (List ℕ)) (qs ps : List Part) → AreAbsent words first ps → AreAbsent words first (qs ++ ps)
absent_all words first [] ps absent = absent
absent_all words first (q ∷ qs) ps absent = absent_behind words first q (qs ++ ps) (absent_all words first qs ps absent)

-- Where they stand.

drop_drop : (i n : ℕ) (xs : List Part) → drop n (drop i xs) ≡ drop (i + n) xs
drop_drop zero n xs = let e : n ≡ 0 + n = omega arith in ap (λ (k : ℕ). drop k xs) e
drop_drop (suc i) zero [] = let e : suc i ≡ suc i + 0 = omega arith in ap (λ (k : ℕ). drop k []) e
drop_drop (suc i) (suc n) [] = let e : suc (i + suc n) ≡ suc i + suc n = omega arith in ap (λ (k : ℕ). drop k []) e
drop_drop (suc i) n (x ∷ xs) =
    let e : suc (i + n) ≡ suc i + n = omega arith in drop_drop i n xs ∙ ap (λ (k : ℕ). drop k (x ∷ xs)) e

pub put_before : (at next : ℕ) (xs : List Part) (x : Part) → next + 1 ≡ at → at ≤ length xs → drop next (slice_set xs next x) ≡ x ∷ drop at xs
put_before at next xs x e h = drop-set xs next x (omega (arith, e, h)) ∙ ap (λ (n : ℕ). x ∷ drop n xs) e

pub put_over : (at many next : ℕ) (xs : List Part) (x : Part) → next + 1 ≡ at + many → at + many ≤ length xs
    → drop next (slice_set xs next x) ≡ x ∷ drop many (drop at xs)
put_over at many next xs x e h = put_before (at + many) next xs x e h ∙ ap (λ (ys : List Part). x ∷ ys) (sym (drop_drop at many xs))

-- the key of the parts that a list takes
pub inner_key : (s at many : ℕ) (xs : List Part) (key : List ℕ) → IsKeyOf [] s (take (at + many - at) (drop at xs)) key
    → IsKeyOf [] s (take many (drop at xs)) key
inner_key s at many xs key is =
    let e : at + many - at ≡ many = omega arith in subst (λ (n : ℕ). IsKeyOf [] s (take n (drop at xs)) key) e is

-- some parts are none, so all are
pub absent_from : (words first : List (List ℕ)) (i : ℕ) (ps : List Part) → AreAbsent words first (drop i ps) → AreAbsent words first ps
absent_from words first i ps absent =
    subst (λ (qs : List Part). AreAbsent words first qs) (both_again i ps) (absent_all words first (take i ps) (drop i ps) absent)

-- a part that is no list
pub simple_part : (p : Part) → ((s n : ℕ) → p ≢ parts.List s n) → is_list p ≡ false
simple_part (parts.Variable v) h = refl
simple_part (parts.Constant s) h = refl
simple_part (parts.List s n) h = absurd (h s n refl)

pub part_before : (ps : List Part) (i : ℕ) (p : Part) → 0 < i → i ≤ length ps → drop (i - 1) ps ≡ get_or ps (i - 1) p ∷ drop i ps
part_before ps zero p some h = absurd (let bad : ⊥ = omega (arith, some) in bad)
part_before ps (suc i) p some h =
    let e : suc i - 1 ≡ i = omega arith in
    ap (λ (n : ℕ). drop n ps) e ∙ drop-cons ps i p (omega (arith, h)) ∙ ap (λ (n : ℕ). get_or ps n p ∷ drop (suc i) ps) (sym e)

pub front_same : {A : Type 0} (n : ℕ) (xs ys : List A) → length xs ≡ n → take n (xs ++ ys) ≡ xs
front_same zero [] ys e = refl
front_same zero (x ∷ xs) ys e = absurd (let bad : ⊥ = omega (arith, e) in bad)
front_same (suc n) [] ys e = absurd (let bad : ⊥ = omega (arith, e) in bad)
front_same (suc n) (x ∷ xs) ys e = ap (λ zs. x ∷ zs) (front_same n xs ys (omega (arith, e)))

pub slice_end : {A : Type 0} (i : ℕ) (xs : List A) → take (length xs - i) (drop i xs) ≡ drop i xs
slice_end i xs = ap (λ (n : ℕ). take n (drop i xs)) (sym (length-drop i xs)) ∙ take-length (drop i xs)
