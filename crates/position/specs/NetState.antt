-- This crate's own: what `run` promises does not rest on it.
-- What a state of a game over a network keeps.
use Rattle.std.specs.Prelude.{ℕ, ◌≡◌, ◌<◌, ◌==◌, Bool, true, false, List, length, filter, get_or, unwrap_or, Option, None}
use Rattle.std.specs.List.{range_with_len}
use Rattle.statement.specs.declared.kind.Kind.{Kind}
use Rattle.statement.specs.declared.kind.Kind.TheVariants.{Fixed, Now, Does, Next, Legal, Goal, Terminal, Other}
use Rattle.ground_instances.specs.declared.flat_ground.FlatGround.{FlatGround}
use Rattle.propnet.specs.Values.{lane}
use Rattle.position.specs.declared.lane_plan.Scope.{Scope}
use Rattle.position.specs.declared.lane_plan.Scope.TheVariants.{EndAlone, WithMoves}
use Rattle.position.specs.declared.net_pos.LaneState.{LaneState}
use Rattle.position.specs.declared.net_pos.NetPos.{NetPos}
use Rattle.statement.specs.Rules.{State}
use Rattle.game_rules.specs.RulePlay.{kind_at}

-- bit k of word n is 1
abbrev pub is_lane_on : List ℕ → ℕ → ℕ → Bool
is_lane_on words k n = lane words k n == 1

-- the state whose base propositions below n are 1
abbrev pub told_state : (ℕ → ℕ) → ℕ → State
told_state state n = filter (λ p. state p == 1) (range_with_len 0 n)

-- the state whose base propositions below n have bits in lane k
abbrev pub lane_state : List ℕ → ℕ → ℕ → State
lane_state words n k = told_state (lane words k) n

-- each word has the same bit in every lane
abbrev pub AreSpread : List ℕ → Type 0
AreSpread words = (p k : ℕ) → k < 64 → lane words k p ≡ lane words 0 p

-- the number of the view of an atom, or 0
abbrev pub view_of : List (Option ℕ) → ℕ → ℕ
view_of views a = unwrap_or (get_or views a None) 0

-- whether the legal moves are asked too
abbrev pub asks_moves : Scope → Bool
asks_moves EndAlone = false
asks_moves WithMoves = true

-- what is asked of each state: its end and goals, and its legal moves
abbrev pub is_asked : Scope → Kind → Bool
is_asked scope Fixed = false
is_asked scope (Now p) = false
is_asked scope (Does r m) = false
is_asked scope (Next p) = false
is_asked scope (Legal r m) = asks_moves scope
is_asked scope (Goal r v) = true
is_asked scope Terminal = true
is_asked scope Other = false

-- two tests agree on the atoms that are asked
abbrev pub Alike : Scope → List Kind → (ℕ → Bool) → (ℕ → Bool) → Type 0
Alike scope kinds f g = (a : ℕ) → a < length kinds → is_asked scope (kind_at kinds a) ≡ true → f a ≡ g a

-- the views of the atoms that are asked are below n
abbrev pub AreViewsBelow : Scope → List Kind → List (Option ℕ) → ℕ → Type 0
AreViewsBelow scope kinds views n = (a : ℕ) → a < length kinds → is_asked scope (kind_at kinds a) ≡ true → view_of views a < n

-- the state that is kept
abbrev pub state_in : FlatGround → LaneState → State
state_in g s = lane_state s.lanes.items (length g.starts.items) 0

abbrev pub kept_state : FlatGround → NetPos → State
kept_state g p = state_in g p.state
