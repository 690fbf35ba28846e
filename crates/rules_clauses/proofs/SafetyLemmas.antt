-- Safety over numbers is safety over names.
use Rattle.std.proofs.Common.{ℕ, suc, zero, ◌≡◌, ◌+◌, ◌<◌, ◌⊎◌, inl, inr, Bool, true, false, not, cond, ◌&&◌, ◌||◌, ◌==◌, List, [], ◌∷◌, ◌++◌, length}
use Rattle.std.proofs.Common.{map, take, drop, refl, sym, ◌∙◌, ap, subst, arith, replicate, append_assoc, eqb-true, eq-eqb}
use Rattle.std.specs.Prelude.{slice_index, slice_index_or, slice_range, slice_set}
use Rattle.std.proofs.lemmas.List.{append-nil, map-append, length-set, length-replicate, length-drop, get_or-drop}
use Rattle.statement.specs.Tree.{Tree, name, trees_of, name_eq}
use Rattle.kif.proofs.Facts.{name_eq_yes, name_eq_self}
use Rattle.statement.specs.Clause as said
use Rattle.statement.specs.Clause.{is_variable, positive, negative, relation_of}
use Rattle.statement.specs.Dependence.{is_distinct}
use Rattle.statement.specs.Safety.{variables, variables_in, is_binding, bound, needed, is_name_in, are_names_in, is_safe}
use Rattle.rules_clauses.specs.declared.numbered.Part.{Part}
use Rattle.rules_clauses.specs.declared.numbered.Part.TheVariants as parts
use Rattle.rules_clauses.specs.declared.numbered.Atom.{Atom}
use Rattle.rules_clauses.specs.Numbers.{word_at, NamesDiffer, is_number_in}
use Rattle.rules_clauses.specs.Store.{Data, variable_name, terms_before, stated_atom}
use Rattle.rules_clauses.specs.Adding.{StandOnce, AreSorted, AtomStandsFor, LiteralStandsFor, StandForEach}
use Rattle.rules_clauses.specs.Marks.{variable_numbers, with_marks, all_marked, NumbersBelow, literal_in, atom_numbers, binds, bound_numbers, needed_numbers}
use Rattle.rules_clauses.specs.Marks.{IsInside, AreInside, is_safe_by}
use Rattle.rules_clauses.proofs.CountedTerms.{arity_of_standing}

-- Variables of terms.

vars-append : (ts us : List Tree) → variables_in (trees_of (ts ++ us)) ≡ variables_in (trees_of ts) ++ variables_in (trees_of us)
vars-append [] us = refl
vars-append (t ∷ ts) us =
    ap (λ (ns : List (List ℕ)). variables t ++ ns) (vars-append ts us)
    ∙ sym (append_assoc (variables t) (variables_in (trees_of ts)) (variables_in (trees_of us)))

take_and_drop : (n : ℕ) (ts : List Tree) → take n ts ++ drop n ts ≡ ts
take_and_drop zero ts = refl
take_and_drop (suc n) [] = refl
take_and_drop (suc n) (t ∷ ts) = ap (λ (us : List Tree). t ∷ us) (take_and_drop n ts)

vars_of_name : (n : List ℕ) (b : Bool) → is_variable n ≡ b → variables (name n) ≡ cond b (n ∷ []) []
vars_of_name n b e = ap (λ (c : Bool). cond c (n ∷ []) []) e

vars_behind : (d : Data) (from : ℕ) (ps : List Part) (behind : List Tree) → AreSorted d from ps
    → variables_in (trees_of (terms_before d from ps behind)) ≡ map (variable_name d from) (variable_numbers ps) ++ variables_in (trees_of behind)
vars_behind d from [] behind s = refl
vars_behind d from (parts.Variable v ∷ ps) behind s =
    ap (λ (ns : List (List ℕ)). ns ++ variables_in (trees_of (terms_before d from ps behind))) (vars_of_name (variable_name d from v) true s.0.2)
    ∙ ap (λ (ns : List (List ℕ)). variable_name d from v ∷ ns) (vars_behind d from ps behind s.1)
vars_behind d from (parts.Constant c ∷ ps) behind s =
    ap (λ (ns : List (List ℕ)). ns ++ variables_in (trees_of (terms_before d from ps behind))) (vars_of_name (word_at d.words c) false s.0.1)
    ∙ vars_behind d from ps behind s.1
vars_behind d from (parts.List c n ∷ ps) behind s =
    let rest : List Tree = terms_before d from ps behind in
    ap (λ (ns : List (List ℕ)). (ns ++ variables_in (trees_of (take n rest))) ++ variables_in (trees_of (drop n rest)))
    (vars_of_name (word_at d.words c) false s.0.1)
    ∙ sym (vars-append (take n rest) (drop n rest))
    ∙ ap (λ (ts : List Tree). variables_in (trees_of ts)) (take_and_drop n rest)
    ∙ vars_behind d from ps behind s.1

pub vars_of_atom : (from : ℕ) (d : Data) (a : Atom) (atom : said.Atom) → AtomStandsFor from d a atom
    → variables_in atom.terms ≡ map (variable_name d from) (atom_numbers d a)
vars_of_atom from d a atom s =
    ap (λ (x : said.Atom). variables_in x.terms) (sym s.same)
    ∙ vars_behind d from (slice_range d.parts a.terms.from a.terms.to) [] s.sorted
    ∙ append-nil (map (variable_name d from) (atom_numbers d a))

-- Literals that bind.

binding_said : (b : Bool) (a : said.Atom) → is_binding (cond b (negative a) (positive a)) ≡ (not b && not (is_distinct (relation_of a)))
binding_said true a = refl
binding_said false a = refl

same_binding : (from : ℕ) (d : Data) (n : ℕ) (l : said.Literal) → LiteralStandsFor from d n l → is_binding l ≡ binds d (literal_in d n)
same_binding from d n l s =
    ap is_binding (sym s.same)
    ∙ binding_said (literal_in d n).is_negated (stated_atom d from (literal_in d n).atom)
    ∙ ap (λ (r : said.Relation). not (literal_in d n).is_negated && not (is_distinct r)) (ap relation_of s.atom.same ∙ sym s.atom.same_relation)

map-cond : (from : ℕ) (d : Data) (b : Bool) (xs ys : List ℕ)
    → cond b (map (variable_name d from) xs) (map (variable_name d from) ys) ≡ map (variable_name d from) (cond b xs ys)
map-cond from d true xs ys = refl
map-cond from d false xs ys = refl

pub bound_is : (from : ℕ) (d : Data) (ns : List ℕ) (ls : List said.Literal) → StandForEach from d ns ls
    → bound ls ≡ map (variable_name d from) (bound_numbers d ns)
bound_is from d [] [] s = refl
bound_is from d [] (l ∷ ls) s = absurd s
bound_is from d (n ∷ ns) [] s = absurd s
bound_is from d (n ∷ ns) (l ∷ ls) s =
    ap (λ (b : Bool). cond b (variables_in (said.atom_of l).terms) [] ++ bound ls) (same_binding from d n l s.0)
    ∙ ap (λ (vs : List (List ℕ)). cond (binds d (literal_in d n)) vs [] ++ bound ls)
    (vars_of_atom from d (literal_in d n).atom (said.atom_of l) s.0.atom)
    ∙ ap (λ (vs : List (List ℕ)). vs ++ bound ls) (map-cond from d (binds d (literal_in d n)) (atom_numbers d (literal_in d n).atom) [])
    ∙ ap (λ (vs : List (List ℕ)). map (variable_name d from) (cond (binds d (literal_in d n)) (atom_numbers d (literal_in d n).atom) []) ++ vs)
    (bound_is from d ns ls s.1)
    ∙ sym (map-append (variable_name d from) (cond (binds d (literal_in d n)) (atom_numbers d (literal_in d n).atom) []) (bound_numbers d ns))

pub needed_is : (from : ℕ) (d : Data) (ns : List ℕ) (ls : List said.Literal) → StandForEach from d ns ls
    → needed ls ≡ map (variable_name d from) (needed_numbers d ns)
needed_is from d [] [] s = refl
needed_is from d [] (l ∷ ls) s = absurd s
needed_is from d (n ∷ ns) [] s = absurd s
needed_is from d (n ∷ ns) (l ∷ ls) s =
    ap (λ (b : Bool). cond b [] (variables_in (said.atom_of l).terms) ++ needed ls) (same_binding from d n l s.0)
    ∙ ap (λ (vs : List (List ℕ)). cond (binds d (literal_in d n)) [] vs ++ needed ls)
    (vars_of_atom from d (literal_in d n).atom (said.atom_of l) s.0.atom)
    ∙ ap (λ (vs : List (List ℕ)). vs ++ needed ls) (map-cond from d (binds d (literal_in d n)) [] (atom_numbers d (literal_in d n).atom))
    ∙ ap (λ (vs : List (List ℕ)). map (variable_name d from) (cond (binds d (literal_in d n)) [] (atom_numbers d (literal_in d n).atom)) ++ vs)
    (needed_is from d ns ls s.1)
    ∙ sym (map-append (variable_name d from) (cond (binds d (literal_in d n)) [] (atom_numbers d (literal_in d n).atom)) (needed_numbers d ns))

-- Marks.

equal_or : (x y : ℕ) → (x ≡ y) ⊎ (x ≡ y → ⊥)
equal_or x y = grind arith

not_equal : (x y : ℕ) → (x ≡ y → ⊥) → (x == y) ≡ false
not_equal x y other = go (x == y) refl
  where
    go : (b : Bool) → (x == y) ≡ b → (x == y) ≡ false
    go true e = absurd (other (eqb-true x y e))
    go false e = e

set_same : (ms : List Bool) (x : ℕ) → x < length ms → slice_index_or (slice_set ms x true) x false ≡ true
set_same [] x h = absurd (let bad : ⊥ = omega (arith, h) in bad)
set_same (m ∷ ms) zero h = refl
set_same (m ∷ ms) (suc x) h = set_same ms x (omega (arith, h))

set_other : (ms : List Bool) (x y : ℕ) → (x ≡ y → ⊥) → slice_index_or (slice_set ms y true) x false ≡ slice_index_or ms x false
set_other [] x zero other = refl
set_other [] x (suc y) other = refl
set_other (m ∷ ms) zero zero other = absurd (other refl)
set_other (m ∷ ms) (suc x) zero other = refl
set_other (m ∷ ms) zero (suc y) other = refl
set_other (m ∷ ms) (suc x) (suc y) other = set_other ms x y (λ e. other (ap (λ (n : ℕ). suc n) e))

set_at : (ms : List Bool) (x y : ℕ) → y < length ms → slice_index_or (slice_set ms y true) x false ≡ ((x == y) || slice_index_or ms x false)
set_at ms x y h = go (equal_or x y)
  where
    go : (x ≡ y) ⊎ (x ≡ y → ⊥) → slice_index_or (slice_set ms y true) x false ≡ ((x == y) || slice_index_or ms x false)
    go (inl e) =
        subst (λ (z : ℕ). slice_index_or (slice_set ms y true) z false ≡ true) (sym e) (set_same ms y h)
        ∙ ap (λ (b : Bool). b || slice_index_or ms x false) (sym (eq-eqb x y e))
    go (inr other) = set_other ms x y other ∙ ap (λ (b : Bool). b || slice_index_or ms x false) (sym (not_equal x y other))

turn : (a b c : Bool) → (a || (b || c)) ≡ ((b || a) || c)
turn true true c = refl
turn true false c = refl
turn false true c = refl
turn false false c = refl

marked_at : (ys : List ℕ) (ms : List Bool) (x : ℕ) → NumbersBelow (length ms) ys
    → slice_index_or (with_marks ms ys) x false ≡ (is_number_in x ys || slice_index_or ms x false)
marked_at [] ms x h = refl
marked_at (y ∷ ys) ms x h =
    marked_at ys (slice_set ms y true) x (subst (λ (n : ℕ). NumbersBelow n ys) (sym (length-set ms y true)) h.1)
    ∙ ap (λ (b : Bool). is_number_in x ys || b) (set_at ms x y h.0)
    ∙ turn (is_number_in x ys) (x == y) (slice_index_or ms x false)

none_marked : (many x : ℕ) → slice_index_or (replicate many false) x false ≡ false
none_marked zero x = refl
none_marked (suc many) zero = refl
none_marked (suc many) (suc x) = none_marked many x

or_nothing : (a : Bool) → (a || false) ≡ a
or_nothing true = refl
or_nothing false = refl

abbrev are_numbers_in : List ℕ → List ℕ → Bool
are_numbers_in [] ys = true
are_numbers_in (x ∷ xs) ys = is_number_in x ys && are_numbers_in xs ys

all_marked-numbers : (many : ℕ) (ys xs : List ℕ) → NumbersBelow many ys → all_marked (with_marks (replicate many false) ys) xs ≡ are_numbers_in xs ys
all_marked-numbers many ys [] h = refl
all_marked-numbers many ys (x ∷ xs) h =
    cc (
      marked_at ys (replicate many false) x (subst (λ (n : ℕ). NumbersBelow n ys) (sym (length-replicate many false)) h),
      none_marked many x,
      or_nothing (is_number_in x ys),
      all_marked-numbers many ys xs h,
    )

-- Names by number.

-- the numbers are variables of the item
abbrev pub AreNamed : Data → ℕ → List ℕ → Type 0
AreNamed d from [] = Unit {0}
AreNamed d from (x ∷ xs) = ((from + x < length d.variables) × (slice_index d.variables (from + x) < length d.words)) × AreNamed d from xs

named : (d : Data) (from : ℕ) (ps : List Part) → AreSorted d from ps → AreNamed d from (variable_numbers ps)
named d from [] s = tt
named d from (parts.Variable v ∷ ps) s = ((s.0.0, s.0.1), named d from ps s.1)
named d from (parts.Constant c ∷ ps) s = named d from ps s.1
named d from (parts.List c n ∷ ps) s = named d from ps s.1

named_append : (d : Data) (from : ℕ) (xs ys : List ℕ) → AreNamed d from xs → AreNamed d from ys → AreNamed d from (xs ++ ys)
named_append d from [] ys h k = k
named_append d from (x ∷ xs) ys h k = (h.0, named_append d from xs ys h.1 k)

named_cond : (d : Data) (from : ℕ) (b : Bool) (xs ys : List ℕ) → AreNamed d from xs → AreNamed d from ys → AreNamed d from (cond b xs ys)
named_cond d from true xs ys h k = h
named_cond d from false xs ys h k = k

bound_named : (d : Data) (from : ℕ) (ns : List ℕ) → AreInside from d ns → AreNamed d from (bound_numbers d ns)
bound_named d from [] s = tt
bound_named d from (n ∷ ns) s = named_append d from (cond (binds d (literal_in d n)) (atom_numbers d (literal_in d n).atom) []) (bound_numbers d ns)
    (named_cond d from (binds d (literal_in d n)) (atom_numbers d (literal_in d n).atom) [] (named d from _ s.0.1.sorted) tt)
    (bound_named d from ns s.1)

needed_named : (d : Data) (from : ℕ) (ns : List ℕ) → AreInside from d ns → AreNamed d from (needed_numbers d ns)
needed_named d from [] s = tt
needed_named d from (n ∷ ns) s = named_append d from (cond (binds d (literal_in d n)) [] (atom_numbers d (literal_in d n).atom)) (needed_numbers d ns)
    (named_cond d from (binds d (literal_in d n)) [] (atom_numbers d (literal_in d n).atom) tt (named d from _ s.0.1.sorted))
    (needed_named d from ns s.1)

named_below : (d : Data) (from many : ℕ) (xs : List ℕ) → length d.variables ≡ from + many → AreNamed d from xs → NumbersBelow many xs
named_below d from many [] e h = tt
named_below d from many (x ∷ xs) e h = (let k = h.0.0 in omega (arith, k, e), named_below d from many xs e h.1)

-- where different variables of the item have different names
pub record AreDistinct (d : Data) (from : ℕ) : Type 0 where
  pub words : NamesDiffer d.words
  pub once : StandOnce (drop from d.variables)

from_place : (xs : List ℕ) (from v : ℕ) → slice_index (drop from xs) v ≡ slice_index xs (from + v)
from_place xs from v = get_or-drop from xs v 0

same_name : (d : Data) (from x y : ℕ) → AreDistinct d from → (from + x < length d.variables) × (slice_index d.variables (from + x) < length d.words)
    → (from + y < length d.variables) × (slice_index d.variables (from + y) < length d.words) → variable_name d from x ≡ variable_name d from y
    → x ≡ y
same_name d from x y a h k e =
    let l = length-drop from d.variables in
    let s : slice_index d.variables (from + x) ≡ slice_index d.variables (from + y) = a.words _ _ h.1 k.1 e in
    let h0 = h.0 in let k0 = k.0 in
    a.once x y (omega (arith, l, h0)) (omega (arith, l, k0)) (from_place d.variables from x ∙ s ∙ sym (from_place d.variables from y))

same_test : (d : Data) (from x y : ℕ) → AreDistinct d from → (from + x < length d.variables) × (slice_index d.variables (from + x) < length d.words)
    → (from + y < length d.variables) × (slice_index d.variables (from + y) < length d.words)
    → name_eq (variable_name d from x) (variable_name d from y) ≡ (x == y)
same_test d from x y a h k = go (equal_or x y)
  where
    other : (b : Bool) → (x ≡ y → ⊥) → name_eq (variable_name d from x) (variable_name d from y) ≡ b → b ≡ false
    other true unlike e = absurd (unlike (same_name d from x y a h k (name_eq_yes (variable_name d from x) (variable_name d from y) e)))
    other false unlike e = refl

    go : (x ≡ y) ⊎ (x ≡ y → ⊥) → name_eq (variable_name d from x) (variable_name d from y) ≡ (x == y)
    go (inl e) = subst (λ (z : ℕ). name_eq (variable_name d from x) (variable_name d from z) ≡ (x == z)) e (name_eq_self (variable_name d from x)
        ∙ sym (eq-eqb x x refl))
    go (inr unlike) = other (name_eq (variable_name d from x) (variable_name d from y)) unlike refl ∙ sym (not_equal x y unlike)

name_in : (d : Data) (from x : ℕ) (ys : List ℕ) → AreDistinct d from → (from + x < length d.variables)
    × (slice_index d.variables (from + x) < length d.words) → AreNamed d from ys
    → is_name_in (variable_name d from x) (map (variable_name d from) ys) ≡ is_number_in x ys
name_in d from x [] a h k = refl
name_in d from x (y ∷ ys) a h k = cc (same_test d from x y a h k.0, name_in d from x ys a h k.1)

names_in : (d : Data) (from : ℕ) (xs ys : List ℕ) → AreDistinct d from → AreNamed d from xs → AreNamed d from ys
    → are_names_in (map (variable_name d from) xs) (map (variable_name d from) ys) ≡ are_numbers_in xs ys
names_in d from [] ys a h k = refl
names_in d from (x ∷ xs) ys a h k = cc (name_in d from x ys a h.0 k, names_in d from xs ys a h.1 k)

pub is_inside : (from : ℕ) (d : Data) (a : Atom) (atom : said.Atom) → AtomStandsFor from d a atom → IsInside from d a
is_inside from d a atom s =
    record {
      relation = s.relation;
      word = s.word;
      order = s.order;
      within = s.within;
      sorted = s.sorted;
      full = s.full;
      arity =
          arity_of_standing from d a atom s;
    }

pub are_inside : (from : ℕ) (d : Data) (ns : List ℕ) (ls : List said.Literal) → StandForEach from d ns ls → AreInside from d ns
are_inside from d [] [] s = tt
are_inside from d [] (l ∷ ls) s = absurd s
are_inside from d (n ∷ ns) [] s = absurd s
are_inside from d (n ∷ ns) (l ∷ ls) s = ((s.0.within, is_inside from d (literal_in d n).atom (said.atom_of l) s.0.atom), are_inside from d ns ls s.1)

-- the test over numbers decides safety
pub safe_is : (from many : ℕ) (d : Data) (a : Atom) (atom : said.Atom) (ns : List ℕ) (ls : List said.Literal) → AreDistinct d from
    → length d.variables ≡ from + many
    → AtomStandsFor from d a atom → StandForEach from d ns ls → is_safe_by many d a ns ≡ is_safe (record { head = atom; body = ls })
safe_is from many d a atom ns ls distinct e s t =
    let i = are_inside from d ns ls t in
    let xs : List ℕ = atom_numbers d a ++ needed_numbers d ns in
    let ys : List ℕ = bound_numbers d ns in
    let inside : AreNamed d from ys = bound_named d from ns i in
    all_marked-numbers many ys xs (named_below d from many ys e inside)
    ∙ sym (names_in d from xs ys distinct (named_append d from (atom_numbers d a) (needed_numbers d ns)
    (named d from (slice_range d.parts a.terms.from a.terms.to) s.sorted) (needed_named d from ns i)) inside)
    ∙ ap (λ (vs : List (List ℕ)). are_names_in vs (map (variable_name d from) ys))
    (map-append (variable_name d from) (atom_numbers d a) (needed_numbers d ns))
    ∙ ap (λ (vs : List (List ℕ)). are_names_in (vs ++ map (variable_name d from) (needed_numbers d ns)) (map (variable_name d from) ys))
    (sym (vars_of_atom from d a atom s))
    ∙ ap (λ (vs : List (List ℕ)). are_names_in (variables_in atom.terms ++ vs) (map (variable_name d from) ys)) (sym (needed_is from d ns ls t))
    ∙ ap (λ (vs : List (List ℕ)). are_names_in (variables_in atom.terms ++ needed ls) vs) (sym (bound_is from d ns ls t))
