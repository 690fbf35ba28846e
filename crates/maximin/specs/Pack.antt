-- This crate's own: what `run` promises does not rest on it.
-- The joint moves of several states in one run.
use Rattle.std.specs.Prelude.{◌≡◌, ◌≢◌, ℕ, ◌+◌, ◌-◌, ◌<◌, ◌≤◌, List, All, [], length, map, take, drop, slice_index_or, None, IfSome}
use Rattle.statement.specs.Rules.{Rules, State, IsTurn}
use Rattle.game.specs.TurnsAfter.{turns_after}
use Rattle.statement.specs.Value.{greatest, least, value}
use Rattle.game.specs.declared.game.Game.{Ghosts}
use Rattle.game.specs.declared.question.Question.{Question}
use Rattle.maximin.specs.declared.level.Level.{Level}
use Rattle.maximin.specs.Level.{IsLevelOf}
use Rattle.maximin.specs.declared.pack.Pack.{Pack}
use Rattle.maximin.specs.declared.pack.Part.{Part}
use Rattle.maximin.specs.declared.pack.Pick.{Pick}
use Rattle.maximin.specs.declared.pack.Pick.TheVariants.{Greatest, Least}
use Rattle.maximin.specs.declared.run.Run.{Run}
use Rattle.maximin.specs.Run.{IsRunOf, turns_in}

-- what a state is worth by what the states after its joint moves are worth
abbrev pub picked : Pick → List ℕ → ℕ
picked Greatest worths = greatest worths
picked Least worths = least worths

-- the states after the joint moves of the run, each of which begins at the state at its place
abbrev pub packed_after : Rules → List State → List ℕ → Run → List State
packed_after g states places run = turns_after g states (take run.count places) (turns_in run)

-- the states of a part tell this worth, where `next` says what each of them is worth
pub record IsPartOf (next : State → ℕ) (after : List State) (worth : ℕ) (part : Part) : Type 0 where
  pub some : 0 < part.count
  pub within : part.first + part.count ≤ length after
  pub told : worth ≡ picked part.pick (map next (take part.count (drop part.first after)))

-- the joint moves of the run begin at some of the states, and each part tells what its state is worth
pub record IsPackOf (g : Rules) (states : List State) (worth next : State → ℕ) (pack : Pack) (run : Run) : Type 0 where
  pub known : All (IsTurn g) (turns_in run)
  pub places : All (λ k. k < length states) (take run.count pack.places)
  pub parts : (k : ℕ) → k < length states
      → IfSome (slice_index_or pack.parts k None) (λ part. IsPartOf next (packed_after g states pack.places run) (worth (slice_index_or states k [])) part)

-- a run of joint moves of the game, each of which begins at one of the states
pub record IsPlacedRun (g : Rules) (states : List State) (places : List ℕ) (r : Run) : Type 0 where
  pub some : 0 < r.count
  pub run : IsRunOf g.roles r
  pub known : All (IsTurn g) (turns_in r)
  pub places_known : All (λ k. k < length states) (take r.count places)

-- the joint moves that were added to a run tell what the state is worth that they begin at
pub record IsPickedBy (g : Rules) (asked : Question) (s : State) (old new : Run) (pick : Pick) : Type 0 where
  pub some : old.count < new.count
  pub worth : value g asked.role asked.depth asked.at s
      ≡ picked pick (map (λ j. value g asked.role (asked.depth - 1) asked.at (g.after s j)) (drop old.count (turns_in new)))

module _ {G P W M : Type 0} (of : Ghosts G P W M) (game : G) where
  -- at most 64 states, of each of which it is asked what it is worth with a turn to come
  pub record ArePackable (asked : Question) (m : M) : Type 0 where
    pub many : of.fits_many game m
    pub few : length (of.states game m) ≤ 64
    pub role : asked.role < (of.rules game).roles
    pub turn : asked.depth ≢ 0

  -- the pack of some of those states, whose joint moves are in the run of a level
  pub record IsPacked (asked : Question) (m : M) (l : Level P M) (p : Pack) : Type 0 where
    pub level : IsLevelOf of game l
    pub pack : IsPackOf (of.rules game) (of.states game m) (value (of.rules game) asked.role asked.depth asked.at)
        (value (of.rules game) asked.role (asked.depth - 1) asked.at) p l.moves.run
