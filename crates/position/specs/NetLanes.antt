-- This crate's own: what `run` promises does not rest on it.
-- Many states of a game over a network, a word for each base proposition, and what is told of each.
use Rattle.std.specs.Prelude.{
  ℕ,
  ◌≡◌,
  ◌<◌,
  ◌≤◌,
  ◌+◌,
  ◌++◌,
  ◌==◌,
  Bool,
  All,
  List,
  [],
  ◌∷◌,
  length,
  map,
  filter,
  sum,
  slice_index,
  vec_capacity,
  Option,
  Some,
  None,
  if◌then◌else◌,
}
use Rattle.std.specs.Int.{bit_at}
use Rattle.std.specs.List.{range_with_len}
use Rattle.smallvec.specs.SmallVec.{SmallVec}
use Rattle.ground_instances.specs.declared.flat_ground.FlatGround.{FlatGround}
use Rattle.ground_instances.specs.GroundView.{inputs_of, kinds_of}
use Rattle.propnet.specs.declared.net.Net.{Net}
use Rattle.propnet_tape.specs.declared.tape.Tape.{Tape}
use Rattle.propnet_tape.specs.Tapes.{slots_in, kept_in, IsTapeOf, HasRun, IsWordOf}
use Rattle.position.specs.declared.lane_plan.LanePlan.{LanePlan}
use Rattle.position.specs.declared.lane_plan.Probe.{Probe}
use Rattle.position.specs.declared.net_many.NetMany.{NetMany}
use Rattle.position.specs.declared.net_many.NetTurn.{NetTurn}
use Rattle.position.specs.declared.net_many.NetWide.{NetWide}
use Rattle.position.specs.declared.net_pos.LaneState.{LaneState}
use Rattle.position.specs.declared.net_pos.NetPos.{NetPos}
use Rattle.statement.specs.Rules.{State, IsTurn}
use Rattle.statement.specs.Value.{greatest}
use Rattle.game_rules.specs.RulePlay.{ends}
use Rattle.game_rules.specs.RuleState.{holds_in, rules_of, HaveRoom, AreRead, all_capacities}
use Rattle.position.specs.NetState.{lane_state, state_in, AreSpread}

-- the states that the words keep
abbrev pub lane_states : FlatGround → NetMany → List State
lane_states g m = map (lane_state m.states.items (length g.starts.items)) (range_with_len 0 m.count)

-- what holds in the state that the words keep in lane k
abbrev pub holds_lane : FlatGround → List ℕ → ℕ → ℕ → Bool
holds_lane g states k = holds_in g (lane_state states (length g.starts.items) k)

-- up to 64 joint moves of the game
pub record AreTurns (g : FlatGround) (joints : List (SmallVec ℕ)) : Type 0 where
  pub few : length joints ≤ 64
  pub each : All (λ (j : SmallVec ℕ). IsTurn (rules_of g) j.items) joints

-- the words keep the states after the one of the first lane and each joint move
abbrev pub AreAfter : FlatGround → List ℕ → List (SmallVec ℕ) → List ℕ → Type 0
AreAfter g from joints states =
    map (lane_state states (length g.starts.items)) (range_with_len 0 (length joints)) ≡ map
    (λ (j : SmallVec ℕ). (rules_of g).after (lane_state from (length g.starts.items) 0) j.items) joints

-- on says of what a tape keeps what the words that a pass writes for it have in lane k
abbrev pub Tells : Tape → List ℕ → ℕ → (ℕ → Bool) → Type 0
Tells tape room k on =
    (p w : ℕ) → p < kept_in tape
    → ((net : Net) (kept words : List ℕ) → IsTapeOf net kept tape → HasRun tape words room → IsWordOf net words (slice_index kept p) w)
    → (bit_at w k == 1) ≡ on p

-- the moves whose places hold
abbrev pub moves_on : (ℕ → Bool) → List (ℕ × ℕ) → List ℕ
moves_on on ls = map (λ (l : ℕ × ℕ). l.1) (filter (λ (l : ℕ × ℕ). on l.0) ls)

-- the greatest value whose place holds, or 0
abbrev pub goal_on : (ℕ → Bool) → List (ℕ × ℕ) → ℕ
goal_on on ls = greatest (map (λ (l : ℕ × ℕ). if on l.0 then l.1 else 0) ls)

-- there is room for 64 states and for what a tape tells of them, and both are of each of the states that there are
pub record IsNetMany (g : FlatGround) (t : Probe) (m : NetMany) : Type 0 where
  pub states : length m.states.items ≡ length g.starts.items
  pub room : slots_in t.tape ≤ vec_capacity m.room
  pub few : m.count ≤ 64
  pub ran : 0 < m.count → HasRun t.tape m.states.items m.room.items
  pub ended : (k : ℕ) → k < m.count → (bit_at m.ended k == 1) ≡ ends (kinds_of g) (holds_lane g m.states.items k)

-- the same of a probe that may be there; where it is not, there are no states
abbrev pub IsJudged : FlatGround → Option Probe → NetMany → Type 0
IsJudged g (Some t) m = IsNetMany g t m
IsJudged g None m = m.count ≡ 0

-- there is room for the words that passes over the tape of the next state are given and write
pub record HasTurnRoom (net : Net) (plan : LanePlan) (w : NetTurn) : Type 0 where
  pub words : length w.words.items ≡ net.base + sum net.inputs.items
  pub next : slots_in plan.next ≤ vec_capacity w.next

-- there is also room for the states that are judged
pub record HasWideRoom (g : FlatGround) (net : Net) (plan : LanePlan) (w : NetWide) : Type 0 where
  pub turn : HasTurnRoom net plan w.turn
  pub judged : IsJudged g plan.end_probe w.judged

abbrev pub turn_capacities : NetTurn → List ℕ
turn_capacities w = vec_capacity w.words ∷ vec_capacity w.next ∷ []

abbrev pub many_capacities : NetMany → List ℕ
many_capacities m = vec_capacity m.states ∷ vec_capacity m.room ∷ []

abbrev pub wide_capacities : NetWide → List ℕ
wide_capacities w = turn_capacities w.turn ++ many_capacities w.judged

-- the room for a turn is such a room as before, in the same memory
pub record IsTurnRewritten (net : Net) (plan : LanePlan) (old new : NetTurn) : Type 0 where
  pub room : HasTurnRoom net plan new
  pub capacities : turn_capacities new ≡ turn_capacities old

-- the same of the room for states
pub record IsManyRewritten (g : FlatGround) (t : Probe) (old new : NetMany) : Type 0 where
  pub room : IsNetMany g t new
  pub capacities : many_capacities new ≡ many_capacities old

-- there is room for a state and for what is told of it
pub record HasStateRoom (g : FlatGround) (s : LaneState) : Type 0 where
  pub lanes : length s.lanes.items ≡ length g.starts.items
  pub roles : HaveRoom (inputs_of g) s.roles.items

-- what is told of the state is so
pub record IsLaneState (g : FlatGround) (s : LaneState) : Type 0 where
  pub room : HasStateRoom g s
  pub spread : AreSpread s.lanes.items
  pub ended : s.ended ≡ ends (kinds_of g) (holds_in g (state_in g s))
  pub roles : AreRead (kinds_of g) (holds_in g (state_in g s)) (inputs_of g) s.roles.items

-- the capacities of what the state keeps
abbrev pub state_capacities : LaneState → List ℕ
state_capacities s = vec_capacity s.lanes ∷ vec_capacity s.roles ∷ all_capacities s.roles.items

-- there is room for a state of the game, and for the passes that lead to it
pub record HasNetRoom (g : FlatGround) (net : Net) (plan : LanePlan) (p : NetPos) : Type 0 where
  pub state : HasStateRoom g p.state
  pub turn : HasTurnRoom net plan p.turn
  pub many : IsNetMany g plan.probe p.many

-- what is told of the state is so
pub record IsNetState (g : FlatGround) (net : Net) (plan : LanePlan) (p : NetPos) : Type 0 where
  pub state : IsLaneState g p.state
  pub turn : HasTurnRoom net plan p.turn
  pub many : IsNetMany g plan.probe p.many

-- the capacities of what is kept with the state
abbrev pub net_capacities : NetPos → List ℕ
net_capacities p = state_capacities p.state ++ (turn_capacities p.turn ++ many_capacities p.many)
