-- This crate's own: what `run` promises does not rest on it.
-- A run of joint moves.
use Rattle.std.specs.Prelude.{◌≡◌, ℕ, ◌≤◌, List, ◌∷◌, All, length, map, take, vec_capacity}
use Rattle.smallvec.specs.SmallVec.{SmallVec}
use Rattle.statement.specs.Rules.{Turn}
use Rattle.maximin.specs.declared.run.Run.{Run}

-- a run for a game with this many roles
pub record IsRunOf (roles : ℕ) (run : Run) : Type 0 where
  pub size : length run.joints.items ≡ 64
  pub few : run.count ≤ 64
  pub room : All (λ (joint : SmallVec ℕ). roles ≤ joint.capacity) run.joints.items

-- the joint moves of the run
abbrev pub turns_in : Run → List Turn
turns_in run = map (λ (joint : SmallVec ℕ). joint.items) (take run.count run.joints.items)

-- the capacities of what the run keeps in memory
abbrev pub run_capacities : Run → List ℕ
run_capacities run = vec_capacity run.joints ∷ map (λ (joint : SmallVec ℕ). joint.capacity) run.joints.items
