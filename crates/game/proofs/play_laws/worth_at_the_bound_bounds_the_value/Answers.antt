use Rattle.game.proofs.Settled.{worth_rises, nothing_is_zero, lower_stays, upper_stays}
use Rattle.game.proofs.play_laws.worth_at_the_bound_bounds_the_value.Goals as goal

pub returns : goal.returns
returns c = record {
  nothing = nothing_is_zero;
  rises = worth_rises;
  lower = lower_stays;
  upper = upper_stays;
}
