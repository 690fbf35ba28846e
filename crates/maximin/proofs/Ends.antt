-- What a state of the last turn is worth.
use Rattle.std.proofs.Common.{◌≡◌, ℕ, Bool, true, false, refl}
use Rattle.std.specs.Prelude.{Some, None, unwrap_or, if◌then◌else◌}
use Rattle.statement.specs.declared.at_bound.AtBound.{AtBound}
use Rattle.statement.specs.declared.at_bound.AtBound.TheVariants.{Zero}
use Rattle.statement.specs.Rules.{Rules, State, is_stuck}
use Rattle.game.specs.Told.{end_worth}
use Rattle.statement.specs.Value.{value}

-- the goal where the game has ended, and else nothing, stuck or not
pub last_worth : (g : Rules) (role depth : ℕ) (at : AtBound) (s : State) → depth ≡ 0 → at ≡ Zero
    → unwrap_or (end_worth g s role) 0 ≡ value g role depth at s
last_worth g role depth at s last bound = rw (last, bound) (either (g.ended s) (is_stuck g s))
  where
    either : (b stuck : Bool) → unwrap_or (if b then Some (g.goal s role) else None) 0 ≡ (if b then g.goal s role else if stuck then 0 else 0)
    either true stuck = refl
    either false true = refl
    either false false = refl
