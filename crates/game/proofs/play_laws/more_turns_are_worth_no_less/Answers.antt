use Rattle.game.proofs.Settled.{one_turn_rises, value_rising, value_within}
use Rattle.game.proofs.play_laws.more_turns_are_worth_no_less.Goals as goal

pub returns : goal.returns
returns c = record { one = one_turn_rises; more = value_rising; within = value_within }
