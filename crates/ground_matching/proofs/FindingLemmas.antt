-- The terms that a stack has are the only ones that have the constants of parts.
use Rattle.std.proofs.Common.{ℕ, zero, suc, ◌≡◌, ◌≢◌, ◌-◌, ◌<◌, ◌≤◌, ◌⊎◌, inl, inr, List, [], ◌∷◌, ◌++◌, length, take, drop, get_or, refl, sym, ◌∙◌, ap, subst, arith, Option, Some, None, Bool, true, false, cond, eqb-true, length-append}
use Rattle.std.specs.Prelude.{◌==◌, ◌&&◌, not, reverse, MatchOption, Result, Ok, Err, IfOk}
use Rattle.std.proofs.Math.Seq.{drop-append_seam, take-append_seam}
use Rattle.std.proofs.lemmas.List.{reverse-append, reverse-reverse, length-reverse, length-drop, get_or_past, drop-append-le, length-take-le}
use Rattle.kif.proofs.Facts.{both}
use Rattle.meaning.proofs.Facts.{same_some}
use Rattle.rules_clauses.specs.declared.numbered.Part.{Part}
use Rattle.rules_clauses.specs.declared.numbered.Part.TheVariants as parts
use Rattle.util_interner.specs.KeyLists.{key_at}
use Rattle.ground_matching.specs.Cells.{behind, leaf_numbers, is_list_of}
use Rattle.ground_matching.specs.Finding.{is_constant, are_constant, constants, HaveConstants, IsSaid, key_of_top, PutsNumber}
use Rattle.ground_terms.specs.Keys.{word_of, parts_of, IsKey, AreKeys}

one_turned : (xs : List ℕ) (x : ℕ) → reverse (xs ++ x ∷ []) ≡ x ∷ reverse xs
one_turned xs x = reverse-append xs (x ∷ [])

-- a name's number, and the numbers behind it
behind_same : (x c : ℕ) (cs : List ℕ) (o : Option (List ℕ)) → behind (x ∷ []) o ≡ Some (c ∷ cs) → (x ≡ c) × (o ≡ Some cs)
behind_same x c cs None e = absurd cc
behind_same x c cs (Some ys) e =
    let s : x ∷ ys ≡ c ∷ cs = same_some (x ∷ ys) (c ∷ cs) e in
    let first : x ≡ c = cc in
    let rest : ys ≡ cs = cc in (first, ap (λ (zs : List ℕ). Some zs) rest)

pub put_constant : (keys : List (List ℕ)) (s : ℕ) (before after : List ℕ) → after ≡ before ++ s ∷ [] → PutsNumber keys (parts.Constant s) true before after
put_constant keys s before after e many k ps only [] h = absurd cc
put_constant keys s before after e many k ps only (x ∷ xs) h =
    let both_same = behind_same x s (constants ps) (leaf_numbers keys ps xs) h in (
      refl,
      ap (λ (ys : List ℕ). reverse ys) e ∙ one_turned before s ∙ ap (λ (y : ℕ). y ∷ reverse before) (sym both_same.0)
          ∙ ap (λ (ys : List ℕ). x ∷ ys) (only xs both_same.1),
    )

-- a list, whose terms stand on top of a stack
record IsListOn (keys : List (List ℕ)) (s n : ℕ) (before xs : List ℕ) : Type 0 where
  pub number : ℕ
  pub rest : List ℕ
  pub are : xs ≡ number ∷ rest
  pub word : word_of (key_at keys number) ≡ s
  pub long : length (parts_of (key_at keys number)) ≡ n
  pub some : 0 < n
  pub top : reverse before ≡ parts_of (key_at keys number) ++ rest

cond_same : (b : Bool) (o : Option (List ℕ)) (cs : List ℕ) → cond b o None ≡ Some cs → (b ≡ true) × (o ≡ Some cs)
cond_same true o cs e = (refl, e)
cond_same false o cs e = absurd cc

positive : (n : ℕ) → not (n == 0) ≡ true → 0 < n
positive zero e = absurd cc
positive (suc n) e = omega arith

list_has : (keys : List (List ℕ)) (s n : ℕ) (ps : List Part) (before : List ℕ) → ((xs : List ℕ) → HaveConstants keys ps xs → reverse before ≡ xs)
    → (xs : List ℕ) → HaveConstants keys (parts.List s n ∷ ps) xs → IsListOn keys s n before xs
list_has keys s n ps before only [] h = absurd cc
list_has keys s n ps before only (x ∷ xs) h =
    let key = key_at keys x in
    let c = cond_same (is_list_of s n key) (leaf_numbers keys ps (parts_of key ++ xs)) (constants ps) h in
    let a = both (not (n == 0)) ((word_of key == s) && (length (parts_of key) == n)) c.0 in
    let b = both (word_of key == s) (length (parts_of key) == n) a.1 in
    record {
      number = x;
      rest = xs;
      are = refl;
      word = eqb-true (word_of key) s b.0;
      long = eqb-true (length (parts_of key)) n b.1;
      some = positive n a.0;
      top = only (parts_of key ++ xs) c.1;
    }

short_or : (a b : ℕ) → (a < b) ⊎ (b ≤ a)
short_or a b = grind arith

number_within : (keys : List (List ℕ)) (s n : ℕ) (before xs : List ℕ) → (l : IsListOn keys s n before xs) → l.number < length keys
number_within keys s n before xs l = go (short_or l.number (length keys))
  where
    go : (l.number < length keys) ⊎ (length keys ≤ l.number) → l.number < length keys
    go (inl h) = h
    go (inr h) =
        let none : length (parts_of (key_at keys l.number)) ≡ 0 = ap (λ (key : List ℕ). length (parts_of key)) (get_or_past keys l.number [] h) in
        let long = l.long in let some = l.some in
        absurd (let bad : ⊥ = omega (arith, none, long, some) in bad)

key_split : (key : List ℕ) → 0 < length (parts_of key) → key ≡ word_of key ∷ parts_of key
key_split [] h = absurd (let bad : ⊥ = omega (arith, h) in bad)
key_split (w ∷ ps) h = refl

before_is : (before ps rest : List ℕ) → reverse before ≡ ps ++ rest → before ≡ reverse rest ++ reverse ps
before_is before ps rest e = sym (reverse-reverse before) ∙ ap (λ (xs : List ℕ). reverse xs) e ∙ reverse-append ps rest

from_is : (before ps rest : List ℕ) (n : ℕ) → reverse before ≡ ps ++ rest → length ps ≡ n → length before - n ≡ length (reverse rest)
from_is before ps rest n e long =
    let l = ap length (before_is before ps rest e) ∙ length-append (reverse rest) (reverse ps) in
    let r = length-reverse ps in omega (arith, l, r, long)

-- its key is what is looked for
key_found : (keys : List (List ℕ)) (s n : ℕ) (before xs : List ℕ) → (l : IsListOn keys s n before xs)
    → key_at keys l.number ≡ key_of_top s n before
key_found keys s n before xs l =
    let key = key_at keys l.number in
    let ps = parts_of key in
    let whole = before_is before ps l.rest l.top in
    let from = from_is before ps l.rest n l.top l.long in
    let tail : reverse (drop (length before - n) before) ≡ ps =
    ap (λ (k : ℕ). reverse (drop k before)) from
    ∙ ap (λ (ys : List ℕ). reverse (drop (length (reverse l.rest)) ys)) whole
    ∙ ap (λ (ys : List ℕ). reverse ys) (drop-append_seam (reverse l.rest) (reverse ps))
    ∙ reverse-reverse ps in
    key_split key (let long = l.long in let some = l.some in omega (arith, long, some))
    ∙ ap (λ (w : ℕ). w ∷ ps) l.word ∙ ap (λ (ys : List ℕ). s ∷ ys) (sym tail)

rest_left : (keys : List (List ℕ)) (s n : ℕ) (before xs : List ℕ) → (l : IsListOn keys s n before xs)
    → reverse (take (length before - n) before) ≡ l.rest
rest_left keys s n before xs l =
    let ps = parts_of (key_at keys l.number) in
    ap (λ (k : ℕ). reverse (take k before)) (from_is before ps l.rest n l.top l.long)
    ∙ ap (λ (ys : List ℕ). reverse (take (length (reverse l.rest)) ys)) (before_is before ps l.rest l.top)
    ∙ ap (λ (ys : List ℕ). reverse ys) (take-append_seam (reverse l.rest) (reverse ps))
    ∙ reverse-reverse l.rest

-- a list that no term is
pub put_none : (keys : List (List ℕ)) (s n : ℕ) (before after : List ℕ) → ((k : ℕ) → k < length keys → key_at keys k ≢ key_of_top s n before)
    → PutsNumber keys (parts.List s n) false before after
put_none keys s n before after none many k ps only xs h =
    let l = list_has keys s n ps before only xs h in
    absurd (none l.number (number_within keys s n before xs l) (key_found keys s n before xs l))

-- a list that a term is
pub put_found : (keys : List (List ℕ)) (s n : ℕ) (before after : List ℕ) (number : ℕ) → number < length keys
    → key_at keys number ≡ key_of_top s n before → after ≡ take (length before - n) before ++ number ∷ []
    → PutsNumber keys (parts.List s n) true before after
put_found keys s n before after number within is e many k ps only xs h =
    let l = list_has keys s n ps before only xs h in
    let same : number ≡ l.number = k.once number l.number within (number_within keys s n before xs l)
    (is ∙ sym (key_found keys s n before xs l)) in (
      refl,
      ap (λ (ys : List ℕ). reverse ys) e ∙ one_turned (take (length before - n) before) number
          ∙ ap (λ (ys : List ℕ). number ∷ ys) (rest_left keys s n before xs l)
          ∙ ap (λ (y : ℕ). y ∷ l.rest) same ∙ sym l.are,
    )

-- The parts from the last to the first.

-- a stack has the only terms that have the constants of parts
abbrev pub IsOnly : List (List ℕ) → List Part → List ℕ → Type 0
IsOnly keys ps stack = (many : ℕ) → AreKeys many keys → (xs : List ℕ) → HaveConstants keys ps xs → reverse stack ≡ xs

pub only_at_end : (keys : List (List ℕ)) (ps : List Part) (stack : List ℕ) (left : ℕ) → left ≡ length ps → stack ≡ [] → IsOnly keys (drop left ps) stack
only_at_end keys ps stack left e f many k xs h =
    go xs (subst (λ (qs : List Part). HaveConstants keys qs xs) (ap (λ (n : ℕ). drop n ps) e ∙ drop_whole ps) h)
  where
    drop_whole : (qs : List Part) → drop (length qs) qs ≡ []
    drop_whole [] = refl
    drop_whole (q ∷ qs) = drop_whole qs

    go : (ys : List ℕ) → HaveConstants keys [] ys → reverse stack ≡ ys
    go [] g = ap (λ (zs : List ℕ). reverse zs) f
    go (y ∷ ys) g = absurd cc

pub only_on : (keys : List (List ℕ)) (all : List Part) (left : ℕ) (p : Part) (before after : List ℕ) (found : Bool) → drop left all ≡ p ∷ drop (suc left) all
    → PutsNumber keys p found before after → IsOnly keys (drop (suc left) all) before → IsOnly keys (drop left all) after
only_on keys all left p before after found e puts only many k xs h =
    (puts many k (drop (suc left) all) (only many k) xs (subst (λ (qs : List Part). HaveConstants keys qs xs) e h)).1

pub constant_at : (ps : List Part) (i : ℕ) (d : Part) → are_constant ps ≡ true → i < length ps → is_constant (get_or ps i d) ≡ true
constant_at [] i d c h = absurd (let bad : ⊥ = omega (arith, h) in bad)
constant_at (q ∷ ps) zero d c h = (both (is_constant q) (are_constant ps) c).0
constant_at (q ∷ ps) (suc i) d c h = constant_at ps i d (both (is_constant q) (are_constant ps) c).1 (omega (arith, h))

pub none_of : (P : Type 0) (Q : ℕ → Type 0) (o : Option ℕ) → MatchOption o P Q → o ≡ None → P
none_of P Q None m e = m
none_of P Q (Some x) m e = absurd cc

pub some_of : (P : Type 0) (Q : ℕ → Type 0) (o : Option ℕ) (k : ℕ) → MatchOption o P Q → o ≡ Some k → Q k
some_of P Q None k m e = absurd cc
some_of P Q (Some x) k m e = subst Q (same_some x k e) m

pub ok_each : {T E : Type 0} {P Q : T → Type 0} (r : Result T E) → IfOk r P → ((x : T) → P x → Q x) → IfOk r Q
ok_each (Ok x) h f = f x h
ok_each (Err e) h f = tt

-- what a pattern's terms end with are the terms of its end
suffix_has : (keys : List (List ℕ)) (ps : List Part) (n : ℕ) (xs : List ℕ) → HaveConstants keys ps xs → (ys : List ℕ) × HaveConstants keys (drop n ps) ys
suffix_has keys ps zero xs h = (xs, h)
suffix_has keys [] (suc n) xs h = (xs, h)
suffix_has keys (parts.Variable v ∷ ps) (suc n) [] h = absurd cc
suffix_has keys (parts.Constant s ∷ ps) (suc n) [] h = absurd cc
suffix_has keys (parts.List s m ∷ ps) (suc n) [] h = absurd cc
suffix_has keys (parts.Variable v ∷ ps) (suc n) (x ∷ xs) h =
    suffix_has keys ps n xs (behind_same x zero (constants ps) (leaf_numbers keys ps xs) h).1
suffix_has keys (parts.Constant s ∷ ps) (suc n) (x ∷ xs) h =
    suffix_has keys ps n xs (behind_same x s (constants ps) (leaf_numbers keys ps xs) h).1
suffix_has keys (parts.List s m ∷ ps) (suc n) (x ∷ xs) h =
    suffix_has keys ps n (parts_of (key_at keys x) ++ xs)
    (cond_same (is_list_of s m (key_at keys x)) (leaf_numbers keys ps (parts_of (key_at keys x) ++ xs)) (constants ps) h).1

-- no atom is one of which a part is not found
pub said_none : (keys : List (List ℕ)) (w : ℕ) (all : List Part) (left : ℕ) (p : Part) (before after : List ℕ) (found : Bool) → found ≡ false
    → drop left all ≡ p ∷ drop (suc left) all
    → PutsNumber keys p found before after → IsOnly keys (drop (suc left) all) before
    → (many : ℕ) → AreKeys many keys → (x : ℕ) → x < length keys → IsSaid keys w all x → None ≡ Some x
said_none keys w all left p before after found f e puts only many k x within said =
    let s = suffix_has keys all left (parts_of (key_at keys x)) said.1 in
    let t = (puts many k (drop (suc left) all) (only many k) s.0 (subst (λ (qs : List Part). HaveConstants keys qs s.0) e s.1)).0 in
    absurd (let bad : ⊥ = cc in bad)

key_whole : (many i : ℕ) (key : List ℕ) → IsKey many i key → key ≡ word_of key ∷ parts_of key
key_whole many i [] k = absurd k
key_whole many i (w ∷ ps) k = refl

-- the atom that is found is the only one
pub said_found : (keys : List (List ℕ)) (w : ℕ) (all : List Part) (stack : List ℕ) (n left : ℕ) (found : Option ℕ) → left ≡ 0 → n ≡ length stack
    → MatchOption found ((k : ℕ) → k < length keys → key_at keys k ≢ key_of_top w n stack)
    (λ k. (k < length keys) × (key_at keys k ≡ key_of_top w n stack))
    → IsOnly keys (drop left all) stack
    → (many : ℕ) → AreKeys many keys → (x : ℕ) → x < length keys → IsSaid keys w all x → found ≡ Some x
said_found keys w all stack n left found z e m only many k x within said =
    go found m
  where
    top : reverse stack ≡ parts_of (key_at keys x)
    top = only many k (parts_of (key_at keys x)) (subst (λ (j : ℕ). HaveConstants keys (drop j all) (parts_of (key_at keys x))) (sym z) said.1)

    whole : key_of_top w n stack ≡ w ∷ reverse stack
    whole = ap (λ (j : ℕ). w ∷ reverse (drop j stack)) (let none : length stack - n ≡ 0 = omega (arith, e) in none)

    is : key_at keys x ≡ key_of_top w n stack
    is = key_whole many x (key_at keys x) (k.each x within) ∙ ap (λ (v : ℕ). v ∷ parts_of (key_at keys x)) said.0
        ∙ ap (λ (ys : List ℕ). w ∷ ys) (sym top) ∙ sym whole

    go : (o : Option ℕ) → MatchOption o ((j : ℕ) → j < length keys → key_at keys j ≢ key_of_top w n stack)
        (λ j. (j < length keys) × (key_at keys j ≡ key_of_top w n stack)) → o ≡ Some x
    go None none = absurd (none x within is)
    go (Some j) f = ap (λ (y : ℕ). Some y) (k.once j x f.0 within (f.1 ∙ sym is))

take_all : {A : Type 0} (n : ℕ) (xs : List A) → length xs ≤ n → take n xs ≡ xs
take_all zero [] h = refl
take_all zero (x ∷ xs) h = absurd (let bad : ⊥ = omega (arith, h) in bad)
take_all (suc n) [] h = refl
take_all {A} (suc n) (x ∷ xs) h = ap (λ (ys : List A). x ∷ ys) (take_all n xs (omega (arith, h)))

-- what stands on top of the stack once the word is pushed and all is turned
pub key_turned : (old turned seen : List ℕ) (s n from : ℕ) → n ≤ length old → from ≡ length old - n
    → turned ≡ take from (old ++ s ∷ []) ++ reverse (drop from (old ++ s ∷ []))
    → seen ≡ turned → take (length seen - from) (drop from seen) ≡ key_of_top s n old
key_turned old turned seen s n from h e f g =
    let l = length-append old (s ∷ []) in
    let front : length (take from (old ++ s ∷ [])) ≡ from = length-take-le from (old ++ s ∷ []) (omega (arith, h, e, l)) in
    let key : drop from seen ≡ reverse (drop from (old ++ s ∷ [])) =
    ap (λ (xs : List ℕ). drop from xs) (g ∙ f)
    ∙ ap (λ (k : ℕ). drop k (take from (old ++ s ∷ []) ++ reverse (drop from (old ++ s ∷ [])))) (sym front)
    ∙ drop-append_seam (take from (old ++ s ∷ [])) (reverse (drop from (old ++ s ∷ []))) in
    take_all (length seen - from) (drop from seen) (let d = length-drop from seen in omega (arith, d)) ∙ key
    ∙ ap (λ (xs : List ℕ). reverse xs) (drop-append-le from old (s ∷ []) (omega (arith, h, e)))
    ∙ reverse-append (drop from old) (s ∷ [])
    ∙ ap (λ (k : ℕ). s ∷ reverse (drop k old)) e
