-- This crate's own: what `run` promises does not rest on it.
-- A game of one turn.
use Rattle.std.specs.Prelude.{
  ℕ,
  zero,
  suc,
  ◌+◌,
  ◌-◌,
  ◌*◌,
  ◌==◌,
  ◌&&◌,
  ◌||◌,
  not,
  Bool,
  List,
  [],
  ◌∷◌,
  codes,
  slice_index,
  slice_index_or,
  false,
  if◌then◌else◌,
}
use Rattle.statement.specs.Rules.{Rules, State}

abbrev pub is_start : State → Bool
is_start s = slice_index s 0 == 0

-- the cell of a state in which one is chosen
abbrev pub cell_of : State → ℕ
cell_of s = slice_index s 0 - 1

-- three roles choose a side of a cube at once; the state is 0, and then the cell from 1 on
abbrev pub table_rules : List ℕ → List Bool → Rules
table_rules worth ends = record {
  roles = 3;
  moves = λ _. 2;
  start = 0 ∷ [];
  ended = λ s. not (is_start s) && slice_index_or ends (cell_of s) false;
  goal = λ s r. if r == 0 then slice_index worth (cell_of s) else 100 - slice_index worth (cell_of s);
  legal = λ s r. if is_start s || not (r == 2) then 0 ∷ 1 ∷ [] else [];
  after = λ _ j. (1 + 4 * slice_index j 0 + 2 * slice_index j 1 + slice_index j 2) ∷ [];
}

abbrev pub side_name : ℕ → List ℕ
side_name zero = codes "row"
side_name (suc zero) = codes "column"
side_name (suc (suc r)) = codes "layer"

abbrev pub choice_name : ℕ → List ℕ
choice_name zero = codes "one"
choice_name (suc m) = codes "two"
