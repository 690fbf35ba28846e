-- This crate's own: what `run` promises does not rest on it.
-- The parts of a list.
use Rattle.std.specs.Prelude.{ℕ, ◌≡◌, List, ◌∷◌, All, true}
use Rattle.statement.specs.Items.{is_item}
use Rattle.statement.specs.Tree.{Tree, name}

-- the list does not begin with a name
abbrev pub HasNoWord : List Tree → Type 0
HasNoWord ts = (word : List ℕ) (rest : List Tree) → ts ≡ name word ∷ rest → ⊥

-- each tree is an item
abbrev pub AreItems : List Tree → Type 0
AreItems ts = All (λ t. is_item t ≡ true) ts
