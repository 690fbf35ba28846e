-- First moves that make sure of something.
use Rattle.std.proofs.Common.{ℕ, zero, suc, ◌<◌, Bool, true, false, cond, None}
use Rattle.std.specs.Prelude.{IfSome, find, nat_le, ◌||◌}
use Rattle.statement.specs.declared.at_bound.AtBound.{AtBound}
use Rattle.statement.specs.Rules.{Rules, State, is_stuck}
use Rattle.statement.specs.Value.{worst}
use Rattle.statement.specs.Within.{first_at_least}
use Rattle.game.specs.SamePlay.{AreLegalMoves}
use Rattle.game.proofs.Facts.{found_within}

-- a first move is a move of the role
pub first_within : (g : Rules) → AreLegalMoves g → (role depth : ℕ) (at : AtBound) (bound : ℕ) (s : State) → role < g.roles
    → IfSome (first_at_least g role depth at bound s) (λ m. m < g.moves role)
first_within g known role zero at bound s lt = tt
first_within g known role (suc depth) at bound s lt = go (g.ended s || is_stuck g s)
  where
    go : (b : Bool) → IfSome (cond b None (find (λ m. nat_le bound (worst g role depth at s m)) (g.legal s role))) (λ m. m < g.moves role)
    go true = tt
    go false = found_within (λ m. m < g.moves role) _ (g.legal s role) (known s role lt)
