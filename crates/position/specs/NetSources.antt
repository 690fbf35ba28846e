-- This crate's own: what `run` promises does not rest on it.
-- The states at which the joint moves of the lanes begin.
use Rattle.std.specs.Prelude.{◌≡◌, ◌≢◌, ℕ, ◌<◌, ◌≤◌, All, List, length, map, slice_index}
use Rattle.std.specs.List.{range_with_len}
use Rattle.smallvec.specs.SmallVec.{SmallVec}
use Rattle.ground_instances.specs.declared.flat_ground.FlatGround.{FlatGround}
use Rattle.propnet.specs.Values.{lane}
use Rattle.statement.specs.Rules.{State}
use Rattle.game.specs.TurnsAfter.{turns_after}
use Rattle.game_rules.specs.RuleState.{rules_of}
use Rattle.position.specs.declared.net_sources.Sources.{Sources}
use Rattle.position.specs.NetState.{lane_state}
use Rattle.position.specs.NetLanes.{AreTurns}

-- word k marks the lanes below n whose place is k
pub record AreMarked (places words : List ℕ) (n : ℕ) : Type 0 where
  pub here : (l : ℕ) → l < n → lane words l (slice_index places l) ≡ 1
  pub other : (l k : ℕ) → l < n → k ≢ slice_index places l → lane words l k ≡ 0
  pub fresh : (l k : ℕ) → n ≤ l → lane words l k ≡ 0

-- the same of each lane, and all places stand from one place to another
pub record AreSources (places : List ℕ) (s : Sources) : Type 0 where
  pub marked : AreMarked places s.lanes (length places)
  pub from : (l : ℕ) → l < length places → s.first ≤ slice_index places l
  pub to : (l : ℕ) → l < length places → slice_index places l < s.end
  pub few : s.end ≤ 64

-- the words keep the states after joint moves, each of which begins at the state at its place
abbrev pub AreFrom : FlatGround → List State → List ℕ → List (SmallVec ℕ) → List ℕ → Type 0
AreFrom g from places joints states =
    map (lane_state states (length g.starts.items)) (range_with_len 0 (length joints))
    ≡ turns_after (rules_of g) from places (map (λ (j : SmallVec ℕ). j.items) joints)

-- up to 64 joint moves of the game, each of which begins at the state at its place
pub record ArePlaced (g : FlatGround) (from : List State) (places : List ℕ) (joints : List (SmallVec ℕ)) : Type 0 where
  pub turns : AreTurns g joints
  pub count : length places ≡ length joints
  pub within : All (λ (k : ℕ). k < length from) places
