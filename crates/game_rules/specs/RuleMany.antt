-- This crate's own: what `run` promises does not rest on it.
-- Up to 64 states of a game of rules.
use Rattle.std.specs.Prelude.{ℕ, ◌≡◌, ◌<◌, ◌≤◌, List, [], ◌∷◌, length, map, take, get_or, flat_map, Vec, vec_capacity}
use Rattle.ground_instances.specs.declared.flat_ground.FlatGround.{FlatGround}
use Rattle.ground_instances.specs.GroundView.{kinds_of}
use Rattle.game_rules.specs.declared.rule_many.RuleBase.{RuleBase}
use Rattle.game_rules.specs.declared.rule_many.RuleMany.{RuleMany}
use Rattle.game_rules.specs.declared.rule_many.RuleWide.{RuleWide}
use Rattle.game_rules.specs.RulePlay.{marked}

-- there is room for 64 states of the game
pub record HaveBaseRoom (g : FlatGround) (states : List RuleBase) : Type 0 where
  pub size : length states ≡ 64
  pub each : (k : ℕ) (d : RuleBase) → k < 64 → length (get_or states k d).marks.items ≡ length g.starts.items

abbrev pub base_capacities : RuleBase → List ℕ
base_capacities p = vec_capacity p.marks ∷ []

abbrev pub all_base_capacities : {G : Type 0} → Vec RuleBase G → List ℕ
all_base_capacities ps = vec_capacity ps ∷ flat_map base_capacities ps.items

pub record IsManyOf (g : FlatGround) (m : RuleMany) : Type 0 where
  pub room : HaveBaseRoom g m.states.items
  pub few : m.count ≤ 64

-- there is a mark for each atom
abbrev pub IsWideOf : FlatGround → RuleWide → Type 0
IsWideOf g w = length w.right.items ≡ length (kinds_of g)

-- the states that are told of
abbrev pub kept_states : RuleMany → List (List ℕ)
kept_states m = map (λ p. marked p.marks.items) (take m.count m.states.items)

abbrev pub capacities_wide : RuleWide → List ℕ
capacities_wide w = vec_capacity w.right ∷ []

abbrev pub capacities_many : RuleMany → List ℕ
capacities_many m = all_base_capacities m.states
