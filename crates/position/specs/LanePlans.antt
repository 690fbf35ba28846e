-- This crate's own: what `run` promises does not rest on it.
-- The tapes of play, and where one of them keeps what is asked of a state.
use Rattle.std.specs.Prelude.{
  ℕ,
  zero,
  suc,
  true,
  ◌≡◌,
  ◌<◌,
  ◌++◌,
  List,
  [],
  ◌∷◌,
  length,
  map,
  filter,
  get_or,
  slice_index,
  Option,
  Some,
  None,
  if◌then◌else◌,
}
use Rattle.std.specs.List.{range_with_len}
use Rattle.statement.specs.declared.kind.Kind.{Kind}
use Rattle.ground_instances.specs.declared.flat_ground.FlatGround.{FlatGround}
use Rattle.ground_instances.specs.Grounds.{texts_at}
use Rattle.ground_instances.specs.GroundView.{inputs_of, kinds_of}
use Rattle.propnet.specs.declared.net.Net.{Net}
use Rattle.propnet_tape.specs.Tapes.{IsTapeOf, IsTurnTapeOf}
use Rattle.game_rules.specs.declared.naming.Naming.TheVariants.{ByLegal}
use Rattle.game_rules.specs.declared.standing.Sought.TheVariants.{Goals, Ends}
use Rattle.game_rules.specs.declared.standing.Standing.{Standing}
use Rattle.game_rules.specs.RulePlay.{kind_at, names, goal_value}
use Rattle.game_rules.specs.Standings.{all_standing}
use Rattle.position.specs.declared.lane_plan.LanePlan.{LanePlan}
use Rattle.position.specs.declared.lane_plan.Scope.{Scope}
use Rattle.position.specs.declared.lane_plan.RoleGoals.{RoleGoals}
use Rattle.position.specs.declared.lane_plan.RoleLegals.{RoleLegals}
use Rattle.position.specs.declared.lane_plan.Probe.{Probe}
use Rattle.position.specs.NetState.{asks_moves, is_asked, view_of}

-- the atoms below n that are asked, in order
abbrev pub shown_below : Scope → List Kind → ℕ → List ℕ
shown_below scope kinds n = filter (λ a. is_asked scope (kind_at kinds a)) (range_with_len 0 n)

-- the atom at a place among those that are asked
abbrev pub asked_at : Scope → List Kind → ℕ → ℕ
asked_at scope kinds p = slice_index (shown_below scope kinds (length kinds)) p

-- the nodes that tell of the atoms below n that are asked, in order
abbrev pub asked_below : Scope → List (Option ℕ) → List Kind → ℕ → List ℕ
asked_below scope views kinds n = map (view_of views) (shown_below scope kinds n)

abbrev pub asked_nodes : Scope → List (Option ℕ) → List Kind → List ℕ
asked_nodes scope views kinds = asked_below scope views kinds (length kinds)

-- where the atoms below n stand among those that are asked
abbrev pub places_below : Scope → List Kind → ℕ → List ℕ
places_below scope kinds n = map (λ a. length (shown_below scope kinds a)) (range_with_len 0 n)

abbrev pub places_of : Scope → List Kind → List ℕ
places_of scope kinds = places_below scope kinds (length kinds)

-- the atom below n that makes a move of a role legal
abbrev pub legal_named : List Kind → ℕ → ℕ → ℕ → Option ℕ
legal_named kinds r m zero = None
legal_named kinds r m (suc n) = if names (ByLegal r) (kind_at kinds n) m then Some n else legal_named kinds r m n

-- the place of the atom that makes a move legal, with the move
abbrev pub legal_pair : List ℕ → Option ℕ → ℕ → List (ℕ × ℕ)
legal_pair places None m = []
legal_pair places (Some a) m = (slice_index places a, m) ∷ []

-- the same of the moves below n of a role
abbrev pub legals_below : List ℕ → List Kind → ℕ → ℕ → List (ℕ × ℕ)
legals_below places kinds r zero = []
legals_below places kinds r (suc m) = legals_below places kinds r m ++ legal_pair places (legal_named kinds r m (length kinds)) m

-- the place of a goal of a role, with its value
abbrev pub goal_pair : List ℕ → ℕ → Standing → ℕ × ℕ
goal_pair places r p = (slice_index places p.atom, goal_value r p.kind)

abbrev pub goals_of : List ℕ → List Kind → ℕ → List (ℕ × ℕ)
goals_of places kinds r = map (goal_pair places r) (all_standing (Goals r) kinds)

-- the places of the atoms that end the game
abbrev pub ends_of : List ℕ → List Kind → List ℕ
ends_of places kinds = map (λ (p : Standing). slice_index places p.atom) (all_standing Ends kinds)

-- the transitions of the base propositions below n
abbrev pub next_below : Net → ℕ → List ℕ
next_below net n = map (λ p. get_or net.transitions.items p 0) (range_with_len 0 n)

-- a tape for what is asked of a state, with the places of what ends the game and of the goals
pub record IsProbeOf (g : FlatGround) (net : Net) (t : Probe) : Type 0 where
  pub tape : ∥ IsTapeOf net (asked_nodes t.scope net.views.items (kinds_of g)) t.tape ∥₁
  pub ends : t.ends.items ≡ ends_of (places_of t.scope (kinds_of g)) (kinds_of g)
  pub size : length t.goals.items ≡ length (inputs_of g)
  pub goals : (r : ℕ) (d : RoleGoals) → r < length (inputs_of g)
      → (get_or t.goals.items r d).goals.items ≡ goals_of (places_of t.scope (kinds_of g)) (kinds_of g) r

-- One tape for the state after a turn, and a probe of a state, with the places of the legal moves. A probe of the end alone may be there
-- too.
pub record IsLanePlanOf (g : FlatGround) (net : Net) (plan : LanePlan) : Type 0 where
  pub next : ∥ IsTurnTapeOf net (next_below net (length g.starts.items)) plan.next ∥₁
  pub probe : IsProbeOf g net plan.probe
  pub moves : asks_moves plan.probe.scope ≡ true
  pub size : length plan.legals.items ≡ length (inputs_of g)
  pub legals : (r : ℕ) (d : RoleLegals) → r < length (inputs_of g)
      → (get_or plan.legals.items r d).legals.items ≡ legals_below (places_of plan.probe.scope (kinds_of g)) (kinds_of g) r
      (length (texts_at (inputs_of g) r))
  pub end_probe : (t : Probe) → plan.end_probe ≡ Some t → IsProbeOf g net t
