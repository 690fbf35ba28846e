-- This crate's own: what `run` promises does not rest on it.
-- The relations that bodies name, by number.
use Rattle.std.specs.Prelude.{ℕ, ◌↔◌, Bool, true, false, cond, ◌||◌, List, [], ◌∷◌, ◌++◌}
use Rattle.statement.specs.Dependence.{IsAmong, is_distinct}
use Rattle.rules_clauses.specs.Store.{Data, relation_at}
use Rattle.rules_clauses.specs.Marks.{literal_in}

-- the relation of a literal, which is none of `distinct`
abbrev pub named_relation : Data → ℕ → List ℕ
named_relation d n = cond (is_distinct (relation_at d (literal_in d n).atom.relation)) [] ((literal_in d n).atom.relation ∷ [])

abbrev pub named_relations : Data → List ℕ → List ℕ
named_relations d [] = []
named_relations d (n ∷ ns) = named_relation d n ++ named_relations d ns

abbrev pub all_named_relations : Data → List (List ℕ) → List ℕ
all_named_relations d [] = []
all_named_relations d (b ∷ bodies) = named_relations d b ++ all_named_relations d bodies

-- there is a number
abbrev pub is_longer : List ℕ → Bool
is_longer [] = false
is_longer (n ∷ ns) = true

abbrev pub has_literal : List (List ℕ) → Bool
has_literal [] = false
has_literal (b ∷ bodies) = is_longer b || has_literal bodies

-- the same numbers, however often and in whatever order
abbrev pub HaveSame : List ℕ → List ℕ → Type 0
HaveSame xs ys = (x : ℕ) → IsAmong x xs ↔ IsAmong x ys
