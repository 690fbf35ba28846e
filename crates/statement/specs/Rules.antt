-- The rules of a game: what every game says of its states.
use Rattle.std.specs.Prelude.{◌≡◌, ℕ, ◌<◌, ◌==◌, Bool, List, [], ◌∷◌, length, map, slice_index, if◌then◌else◌}
use Rattle.std.specs.List.{flat_map, list_any, range_with_len}

-- a state: the numbers of the base propositions that hold; no law asks that they ascend
abbrev pub State : Type 0
State = List ℕ

-- a joint move: a move of each role, in the order of the roles
abbrev pub Turn : Type 0
Turn = List ℕ

-- the rules of a game
pub record Rules : Type 0 where
  pub roles : ℕ
  pub moves : ℕ → ℕ
  pub start : State
  pub ended : State → Bool
  pub goal : State → ℕ → ℕ
  pub legal : State → ℕ → List ℕ
  pub after : State → Turn → State

-- the roles, in order
abbrev pub all_roles : Rules → List ℕ
all_roles g = range_with_len 0 g.roles

-- some role has no legal move
abbrev pub is_stuck : Rules → State → Bool
is_stuck g s = list_any (λ q. length (g.legal s q) == 0) (all_roles g)

-- a move of each role, out of all its moves
pub record IsTurn (g : Rules) (j : Turn) : Type 0 where
  pub of_each_role : length j ≡ g.roles
  pub each_known : (q : ℕ) → q < g.roles → slice_index j q < g.moves q

-- the ways to pick one of each list, the pick of the first changing slowest
abbrev pub all_picks : List (List ℕ) → List Turn
all_picks [] = [] ∷ []
all_picks (xs ∷ rest) = flat_map (λ x. map (λ j. x ∷ j) (all_picks rest)) xs

-- what each role may play where `role` plays `own`
abbrev pub choices : Rules → State → ℕ → ℕ → List (List ℕ)
choices g s role own = map (λ q. if q == role then own ∷ [] else g.legal s q) (all_roles g)

-- the joint legal moves in which `role` plays `own`, in order
abbrev pub turns_with : Rules → State → ℕ → ℕ → List Turn
turns_with g s role own = all_picks (choices g s role own)
