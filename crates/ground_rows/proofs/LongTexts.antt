-- Whether a head has a long text.
use Rattle.std.proofs.Common.{ℕ, suc, ◌<◌, ◌≤◌, Bool, true, false, ◌||◌, ◌≡◌, List, [], ◌∷◌, length, map, nat_lt, min, refl, sym, ap, ◌∙◌, arith}
use Rattle.std.proofs.lemmas.Bool.Decides.{nat_tests}
use Rattle.statement.specs.Tree.{text}
use Rattle.statement.specs.Clause.{Atom, tree_of}
use Rattle.ground_terms.specs.Arena.{Held, cut, sizes_of}
use Rattle.rules_clauses.specs.Marks.{NumbersBelow}
use Rattle.ground_terms.specs.Keys.{term_at, trees}
use Rattle.statement.specs.Limits.{has_long_text}
use Rattle.statement.specs.Most.{limits}
use Rattle.ground_rows.specs.Progress.{some_long}

-- the texts of atoms are those of their trees
pub long_trees : (n : ℕ) (xs : List Atom) → some_long n (map tree_of xs) ≡ has_long_text n xs
long_trees n [] = refl
long_trees n (x ∷ xs) = ap (λ (b : Bool). nat_lt n (length (text (tree_of x))) || b) (long_trees n xs)

-- the loop over the heads of instances
pub record Looking (held : Held) (longest : ℕ) (all rest : List ℕ) : Type 0 where
  pub same : (words : List (List ℕ)) → sizes_of words ≡ held.sizes
      → some_long longest (map (term_at (trees words held.keys)) all) ≡ some_long longest
      (map (term_at (trees words held.keys)) rest)
  pub within : NumbersBelow (length held.keys) rest

cut_long : (n m : ℕ) → n ≤ limits.text → nat_lt n (min m (suc limits.text)) ≡ nat_lt n m
cut_long n m h = grind (arith, nat_tests)

pub looking_begins : (held : Held) (longest : ℕ) (all : List ℕ) → NumbersBelow (length held.keys) all → Looking held longest all all
looking_begins held longest all w = record { same = λ words e. refl; within = w }

-- the head at hand
pub here_within : (held : Held) (longest : ℕ) (all rest : List ℕ) (k : ℕ) → Looking held longest all (k ∷ rest) → k < length held.keys
here_within held longest all rest k l = l.within.0

is_long : (held : Held) (longest size : ℕ) (head : ℕ) → longest ≤ limits.text
    → ((words : List (List ℕ)) → sizes_of words ≡ held.sizes → size ≡ cut (length (text (term_at (trees words held.keys) head))))
    → (words : List (List ℕ)) → sizes_of words ≡ held.sizes
    → nat_lt longest size ≡ nat_lt longest (length (text (term_at (trees words held.keys) head)))
is_long held longest size head h sized words e = ap (nat_lt longest) (sized words e)
    ∙ cut_long longest (length (text (term_at (trees words held.keys) head))) h

pub found_long : (held : Held) (longest size : ℕ) (all rest : List ℕ) (k : ℕ) → longest ≤ limits.text → Looking held longest all (k ∷ rest)
    → ((words : List (List ℕ)) → sizes_of words ≡ held.sizes → size ≡ cut (length (text (term_at (trees words held.keys) k)))) → longest < size
    → (words : List (List ℕ)) → sizes_of words ≡ held.sizes → true ≡ some_long longest (map (term_at (trees words held.keys)) all)
found_long held longest size all rest k h l sized long words e =
    let t : nat_lt longest size ≡ true = grind (arith, nat_tests) in
    let u : nat_lt longest (length (text (term_at (trees words held.keys) k))) ≡ true = sym (is_long held longest size k h sized words e)
    ∙ t in
    sym (l.same words e ∙ ap (λ (b : Bool). b || some_long longest (map (term_at (trees words held.keys)) rest)) u)

pub looking_next : (held : Held) (longest size : ℕ) (all rest : List ℕ) (k : ℕ) → longest ≤ limits.text → Looking held longest all (k ∷ rest)
    → ((words : List (List ℕ)) → sizes_of words ≡ held.sizes → size ≡ cut (length (text (term_at (trees words held.keys) k)))) → size ≤ longest
    → Looking held longest all rest
looking_next held longest size all rest k h l sized short = record {
  same = λ words e.
      let t : nat_lt longest size ≡ false = grind (arith, nat_tests) in
      let u : nat_lt longest (length (text (term_at (trees words held.keys) k))) ≡ false = sym (is_long held longest size k h sized words e)
      ∙ t in
      l.same words e ∙ ap (λ (b : Bool). b || some_long longest (map (term_at (trees words held.keys)) rest)) u;
  within = l.within.1;
}

pub looked : (held : Held) (longest : ℕ) (all : List ℕ) → Looking held longest all []
    → (words : List (List ℕ)) → sizes_of words ≡ held.sizes → false ≡ some_long longest (map (term_at (trees words held.keys)) all)
looked held longest all l words e = sym (l.same words e)
