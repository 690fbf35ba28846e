-- This crate's own: what `run` promises does not rest on it.
-- Sets of names, as lists.
use Rattle.std.specs.Prelude.{ℕ, List, ◌≡◌, ◌++◌, length, map}
use Rattle.std.specs.Borrow.{Bor}
use Rattle.statement.specs.Safety.{is_name_in, count_different}

-- the names that references of a list point to
abbrev pub names_behind : List (Bor (List ℕ)) → List (List ℕ)
names_behind rs = map (λ r. r.now) rs

-- the same names
abbrev pub HasSameNames : List (List ℕ) → List (List ℕ) → Type 0
HasSameNames ms ns = (n : List ℕ) → is_name_in n ms ≡ is_name_in n ns

-- each name once
abbrev pub NamesOnce : List (List ℕ) → Type 0
NamesOnce ns = count_different ns ≡ length ns

-- the new names are the old ones and these, each once
pub record Gathers (old new more : List (List ℕ)) : Type 0 where
  pub same : HasSameNames new (more ++ old)
  pub different : NamesOnce new
