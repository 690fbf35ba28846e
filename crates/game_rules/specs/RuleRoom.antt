-- This crate's own: what `run` promises does not rest on it.
-- What a state of a game of rules keeps.
use Rattle.std.specs.Prelude.{ℕ, ◌≡◌, ◌<◌, ◌++◌, List, [], ◌∷◌, length, get_or, flat_map, Vec, vec_capacity}
use Rattle.ground_instances.specs.declared.flat_ground.FlatGround.{FlatGround}
use Rattle.ground_instances.specs.Grounds.{texts_at}
use Rattle.ground_instances.specs.GroundView.{inputs_of, kinds_of}
use Rattle.game_rules.specs.declared.role_state.RoleState.{RoleState}
use Rattle.game_rules.specs.RulePlay.{marked, ends}
use Rattle.game_rules.specs.RuleState.{holds_in, HasRoleRoom, HaveRoom, AreRead, all_capacities}
use Rattle.game_rules.specs.declared.rule_pos.MoveMarks.{MoveMarks}
use Rattle.game_rules.specs.declared.rule_pos.RulePos.{RulePos}

-- there is room for n moves of a role, and for a mark for each
pub record HasMarkedRoom (n : ℕ) (m : MoveMarks) (f : RoleState) : Type 0 where
  pub marks : length m.marks.items ≡ n
  pub moves : HasRoleRoom n f

-- the same for each role
pub record HaveMarkedRoom (inputs : List (List (List ℕ))) (ms : List MoveMarks) (fs : List RoleState) : Type 0 where
  pub size : length ms ≡ length inputs
  pub each : (r : ℕ) (d : MoveMarks) → r < length inputs → length (get_or ms r d).marks.items ≡ length (texts_at inputs r)
  pub roles : HaveRoom inputs fs

-- there is room for a state of the game
pub record HasMarkRoom (g : FlatGround) (p : RulePos) : Type 0 where
  pub base : length p.base.items ≡ length g.starts.items
  pub right : length p.right.items ≡ length (kinds_of g)
  pub roles : HaveMarkedRoom (inputs_of g) p.marks.items p.roles.items

-- what is told of the state is so
pub record IsStateOf (g : FlatGround) (p : RulePos) : Type 0 where
  pub room : HasMarkRoom g p
  pub ended : p.ended ≡ ends (kinds_of g) (holds_in g (marked p.base.items))
  pub roles : AreRead (kinds_of g) (holds_in g (marked p.base.items)) (inputs_of g) p.roles.items

abbrev pub mark_capacities : MoveMarks → List ℕ
mark_capacities m = vec_capacity m.marks ∷ []

-- the capacities of what is told of the roles, and of their marks
abbrev pub marked_capacities : {G : Type 0} → Vec MoveMarks G → Vec RoleState G → List ℕ
marked_capacities ms fs = vec_capacity ms ∷ vec_capacity fs ∷ flat_map mark_capacities ms.items ++ all_capacities fs.items

-- the capacities of what the state keeps
abbrev pub capacities : RulePos → List ℕ
capacities p = vec_capacity p.base ∷ vec_capacity p.right ∷ marked_capacities p.marks p.roles
