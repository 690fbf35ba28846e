-- This crate's own: what `run` promises does not rest on it.
-- An order of all trees, whatever bytes their names hold.
use Rattle.std.specs.Prelude.{ℕ, List, [], ◌∷◌, ◌++◌, ◌+◌, ◌*◌, ◌≡◌, map}
use Rattle.std.specs.Ordering.{nat_cmp, ordering_then}
use Rattle.std.specs.Cmp.Lexicographic.{slice_cmp}
use Rattle.std.specs.declared.cmp.Ordering.{Ordering}
use Rattle.statement.specs.Tree.{Tree, name, list, Trees, no_trees, tree}

-- the mark of a name's byte: odd, where a bracket or a space has twice its byte
abbrev pub name_mark : ℕ → ℕ
name_mark b = 2 * b + 1

-- the bytes that a name is compared by: one byte 0 if it has none
abbrev pub compared_bytes : List ℕ → List ℕ
compared_bytes [] = 0 ∷ []
compared_bytes (b ∷ bs) = b ∷ bs

-- the canonical text with a mark for each byte, so that no byte of a name is taken for a bracket or a space
abbrev mutual
  pub marks : Tree → List ℕ
  marks (name n) = map name_mark (compared_bytes n)
  marks (list ts) = 80 ∷ parts_marks ts

  -- the parts and the closing bracket
  pub parts_marks : Trees → List ℕ
  parts_marks no_trees = 82 ∷ []
  parts_marks (tree t ts) = marks t ++ further_marks ts

  -- the same, with a space before each part
  pub further_marks : Trees → List ℕ
  further_marks no_trees = 82 ∷ []
  further_marks (tree t ts) = 64 ∷ marks t ++ further_marks ts

-- the order of the marks, a beginning first
abbrev pub marked_cmp : Tree → Tree → Ordering
marked_cmp t u = slice_cmp nat_cmp (marks t) (marks u)

-- the answer orders the two, each with the mark behind it, before whatever stands further behind
pub record Orders (o : Ordering) (xs : List ℕ) (a : ℕ) (ys : List ℕ) (b : ℕ) : Type 0 where
  pub law : (r s : List ℕ) → slice_cmp nat_cmp (xs ++ a ∷ r) (ys ++ b ∷ s) ≡ ordering_then o (slice_cmp nat_cmp r s)

-- the list begins with the mark
pub record BeginsWithMark (xs : List ℕ) (a : ℕ) : Type 0 where
  pub rest : List ℕ
  pub split : xs ≡ a ∷ rest
