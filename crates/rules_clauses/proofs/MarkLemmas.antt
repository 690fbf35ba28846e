-- Marks of variables.
use Rattle.std.proofs.Common.{ℕ, suc, ◌≡◌, ◌+◌, ◌-◌, ◌<◌, Bool, true, false, cond, ◌&&◌, List, [], ◌∷◌, ◌++◌, length, take, drop, refl, sym, ◌∙◌, ap}
use Rattle.std.proofs.Common.{subst, arith, get_or, drop-cons, add-one}
use Rattle.std.specs.Prelude.{slice_index_or, slice_set}
use Rattle.std.proofs.lemmas.List.{length-set}
use Rattle.rules_clauses.specs.declared.numbered.Part.{Part}
use Rattle.rules_clauses.specs.declared.numbered.Part.TheVariants as parts
use Rattle.rules_clauses.specs.Store.{Data}
use Rattle.rules_clauses.specs.Adding.{AreSorted}
use Rattle.rules_clauses.specs.Marks.{variable_numbers, with_marks, all_marked, NumbersBelow, binds, literal_in, atom_numbers, bound_numbers, needed_numbers}
use Rattle.rules_clauses.specs.Marks.{IsInside, AreInside, AreAllInside, are_safe_by}
use Rattle.rules_clauses.specs.declared.items.Item.{Item}

-- of all parts, the rest are still to be marked
pub record Marking (start now : List Bool) (all rest : List Part) : Type 0 where
  pub same : with_marks now (variable_numbers rest) ≡ with_marks start (variable_numbers all)
  pub below : NumbersBelow (length now) (variable_numbers rest)

-- of all parts, the rest are still to be tested
pub record Testing (marks : List Bool) (all rest : List Part) : Type 0 where
  pub same : all_marked marks (variable_numbers rest) ≡ all_marked marks (variable_numbers all)
  pub below : NumbersBelow (length marks) (variable_numbers rest)

-- of all literals of a body, the rest are still to be marked
pub record MarkingBody (from : ℕ) (d : Data) (start now : List Bool) (all rest : List ℕ) : Type 0 where
  pub same : with_marks now (bound_numbers d rest) ≡ with_marks start (bound_numbers d all)
  pub inside : AreInside from d rest
  pub long : length now ≡ length start

-- of all literals of a body, the rest are still to be tested
pub record TestingBody (from : ℕ) (d : Data) (marks : List Bool) (all rest : List ℕ) : Type 0 where
  pub same : all_marked marks (needed_numbers d rest) ≡ all_marked marks (needed_numbers d all)
  pub inside : AreInside from d rest

-- all numbers of an atom that is inside are below the number of variables
pub below : (from many : ℕ) (d : Data) (ps : List Part) → AreSorted d from ps → length d.variables ≡ from + many → NumbersBelow many (variable_numbers ps)
below from many d [] s e = tt
below from many d (parts.Variable v ∷ ps) s e = (let h = s.0.0 in omega (arith, h, e), below from many d ps s.1 e)
below from many d (parts.Constant c ∷ ps) s e = below from many d ps s.1 e
below from many d (parts.List c n ∷ ps) s e = below from many d ps s.1 e

pub with_marks-length : (ms : List Bool) (vs : List ℕ) → length (with_marks ms vs) ≡ length ms
with_marks-length ms [] = refl
with_marks-length ms (v ∷ vs) = with_marks-length (slice_set ms v true) vs ∙ length-set ms v true

pub with_marks-append : (ms : List Bool) (vs ws : List ℕ) → with_marks ms (vs ++ ws) ≡ with_marks (with_marks ms vs) ws
with_marks-append ms [] ws = refl
with_marks-append ms (v ∷ vs) ws = with_marks-append (slice_set ms v true) vs ws

pub all_marked-append : (ms : List Bool) (vs ws : List ℕ) → all_marked ms (vs ++ ws) ≡ (all_marked ms vs && all_marked ms ws)
all_marked-append ms [] ws = refl
all_marked-append ms (v ∷ vs) ws =
    ap (λ (b : Bool). slice_index_or ms v false && b) (all_marked-append ms vs ws)
    ∙ sym (and_assoc (slice_index_or ms v false) (all_marked ms vs) (all_marked ms ws))
  where
    and_assoc : (a b c : Bool) → ((a && b) && c) ≡ (a && (b && c))
    and_assoc true b c = refl
    and_assoc false b c = refl

-- the numbers from a place on
pub one_from : (ns : List ℕ) (i n d : ℕ) → i < length ns → n ≡ get_or ns i d → drop i ns ≡ n ∷ drop (i + 1) ns
one_from ns i n d h e = drop-cons ns i d h ∙ ap (λ (m : ℕ). m ∷ drop (suc i) ns) (sym e) ∙ ap (λ (k : ℕ). n ∷ drop k ns) (sym (add-one i))

pub mark_on : (from : ℕ) (d : Data) (start now next : List Bool) (all : List ℕ) (i n : ℕ) → MarkingBody from d start now all (drop i all)
    → drop i all ≡ n ∷ drop (i + 1) all
    → next ≡ with_marks now (cond (binds d (literal_in d n)) (atom_numbers d (literal_in d n).atom) [])
    → MarkingBody from d start next all (drop (i + 1) all)
mark_on from d start now next all i n m e f =
    let own : List ℕ = cond (binds d (literal_in d n)) (atom_numbers d (literal_in d n).atom) [] in
    let rest : List ℕ = drop (i + 1) all in
    record {
      same =
          ap (λ (ms : List Bool). with_marks ms (bound_numbers d rest)) f
          ∙ sym (with_marks-append now own (bound_numbers d rest))
          ∙ sym (ap (λ (ns : List ℕ). with_marks now (bound_numbers d ns)) e)
          ∙ m.same;
      inside = (subst (λ (ns : List ℕ). AreInside from d ns) e m.inside).1;
      long = ap length f ∙ with_marks-length now own ∙ m.long;
    }

pub next_inside : (from : ℕ) (d : Data) (all : List ℕ) (i n : ℕ) → AreInside from d (drop i all) → drop i all ≡ n ∷ drop (i + 1) all
    → (n < length d.literals) × IsInside from d (literal_in d n).atom
next_inside from d all i n h e = (subst (λ (ns : List ℕ). AreInside from d ns) e h).0

and_true : (a b : Bool) → true ≡ a → (a && b) ≡ b
and_true true b h = refl
and_true false b h = absurd cc

and_false : (a b : Bool) → false ≡ a → (a && b) ≡ false
and_false true b h = absurd cc
and_false false b h = refl

pub test_on : (from : ℕ) (d : Data) (marks : List Bool) (all : List ℕ) (i n : ℕ) → TestingBody from d marks all (drop i all)
    → drop i all ≡ n ∷ drop (i + 1) all
    → true ≡ all_marked marks (cond (binds d (literal_in d n)) [] (atom_numbers d (literal_in d n).atom))
    → TestingBody from d marks all (drop (i + 1) all)
test_on from d marks all i n m e f =
    let own : List ℕ = cond (binds d (literal_in d n)) [] (atom_numbers d (literal_in d n).atom) in
    let rest : List ℕ = drop (i + 1) all in
    record {
      same =
          sym (ap (λ (ns : List ℕ). all_marked marks (needed_numbers d ns)) e ∙ all_marked-append marks own (needed_numbers d rest)
          ∙ and_true (all_marked marks own) (all_marked marks (needed_numbers d rest)) f)
          ∙ m.same;
      inside = (subst (λ (ns : List ℕ). AreInside from d ns) e m.inside).1;
    }

pub test_off : (from : ℕ) (d : Data) (marks : List Bool) (all : List ℕ) (i n : ℕ) → TestingBody from d marks all (drop i all)
    → drop i all ≡ n ∷ drop (i + 1) all
    → false ≡ all_marked marks (cond (binds d (literal_in d n)) [] (atom_numbers d (literal_in d n).atom))
    → false ≡ all_marked marks (needed_numbers d all)
test_off from d marks all i n m e f =
    let own : List ℕ = cond (binds d (literal_in d n)) [] (atom_numbers d (literal_in d n).atom) in
    let rest : List ℕ = drop (i + 1) all in
    sym (sym m.same ∙ ap (λ (ns : List ℕ). all_marked marks (needed_numbers d ns)) e ∙ all_marked-append marks own (needed_numbers d rest)
    ∙ and_false (all_marked marks own) (all_marked marks (needed_numbers d rest)) f)

-- a vector once all its items were written
pub all_written : (ms items : List Bool) (n : ℕ) → n ≡ length items → length ms ≡ length items → take n (ms ++ drop (length ms) items) ≡ ms
all_written ms items n e f =
    ap (λ (k : ℕ). take k (ms ++ drop (length ms) items)) (e ∙ sym f) ∙ take_front ms (drop (length ms) items)
  where
    take_front : (xs ys : List Bool) → take (length xs) (xs ++ ys) ≡ xs
    take_front [] ys = refl
    take_front (x ∷ xs) ys = ap (λ (zs : List Bool). x ∷ zs) (take_front xs ys)

-- of all alternatives of an item, the rest are still to be tested
pub record TestingItem (d : Data) (i : Item) (all rest : List (List ℕ)) : Type 0 where
  pub same : are_safe_by (i.variables.to - i.variables.from) d i.head rest ≡ are_safe_by (i.variables.to - i.variables.from) d i.head all
  pub inside : AreAllInside i.variables.from d rest
