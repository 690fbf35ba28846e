-- This crate's own: what `run` promises does not rest on it.
-- The game of an instantiation, and what is told of a role in a state.
use Rattle.std.specs.Prelude.{ℕ, ◌≡◌, ◌<◌, ◌≤◌, Bool, List, [], ◌∷◌, length, take, get_or, flat_map, vec_capacity}
use Rattle.statement.specs.declared.kind.Kind.{Kind}
use Rattle.ground_instances.specs.declared.flat_ground.FlatGround.{FlatGround}
use Rattle.ground_instances.specs.Grounds.{text_at, texts_at}
use Rattle.ground_instances.specs.GroundView.{roles_of, inputs_of, kinds_of, instances_of}
use Rattle.game_rules.specs.declared.naming.Naming.TheVariants.{ByLegal}
use Rattle.game_rules.specs.declared.role_state.RoleState.{RoleState}
use Rattle.statement.specs.NamedRules.{NamedRules}
use Rattle.statement.specs.Rules.{Rules, State}
use Rattle.game_rules.specs.RulePlay.{no_turn, holds, best_goal, named_below, rules_by}

-- the rules of a game, by its instantiation
abbrev pub rules_of : FlatGround → Rules
rules_of g = rules_by (inputs_of g) g.starts.items (kinds_of g) (instances_of g)

-- the same, with the texts of its roles and moves
abbrev pub named_rules_of : FlatGround → NamedRules
named_rules_of g = record {
  rules = rules_of g;
  role_name = λ r. text_at (roles_of g) r;
  move_name = λ r m. text_at (texts_at (inputs_of g) r) m;
}

-- a game by its parts is that of an instantiation
abbrev pub IsGameOver : FlatGround → Rules → (ℕ → List ℕ) → (ℕ → ℕ → List ℕ) → Type 0
IsGameOver g rules role_name move_name =
    ◌≡◌ {A = NamedRules} (record { rules = rules; role_name = role_name; move_name = move_name }) (named_rules_of g)

-- what holds in a state
abbrev pub holds_in : FlatGround → State → ℕ → Bool
holds_in g s = holds (kinds_of g) (instances_of g) s no_turn

-- there is room for n moves
abbrev pub HasRoleRoom : ℕ → RoleState → Type 0
HasRoleRoom n f = length f.moves.items ≡ n

-- the legal moves and the goal are those of the atoms that hold
pub record IsRoleRead (kinds : List Kind) (right : ℕ → Bool) (role n : ℕ) (f : RoleState) : Type 0 where
  pub goal : f.goal ≡ best_goal kinds right role
  pub count : f.count ≤ length f.moves.items
  pub legal : take f.count f.moves.items ≡ named_below kinds right (ByLegal role) n

pub record HaveRoom (inputs : List (List (List ℕ))) (fs : List RoleState) : Type 0 where
  pub size : length fs ≡ length inputs
  pub each : (r : ℕ) (d : RoleState) → r < length inputs → HasRoleRoom (length (texts_at inputs r)) (get_or fs r d)

abbrev pub AreRead : List Kind → (ℕ → Bool) → List (List (List ℕ)) → List RoleState → Type 0
AreRead kinds right inputs fs =
    (r : ℕ) (d : RoleState) → r < length inputs → IsRoleRead kinds right r (length (texts_at inputs r)) (get_or fs r d)

-- the moves and the goal are those of another state
pub record IsCopied (from new : RoleState) : Type 0 where
  pub moves : new.moves.items ≡ from.moves.items
  pub count : new.count ≡ from.count
  pub goal : new.goal ≡ from.goal

abbrev pub role_capacities : RoleState → List ℕ
role_capacities f = vec_capacity f.moves ∷ []

abbrev pub all_capacities : List RoleState → List ℕ
all_capacities fs = flat_map role_capacities fs
