use Rattle.game.proofs.PlainValues.{value_plain, worst_plain, choice_plain, reply_plain, line_plain}
use Rattle.game.proofs.play_laws.nothing_at_the_bound_is_the_plain_value.Goals as goal

pub returns : goal.returns
returns c = record {
  value = value_plain;
  worst = worst_plain;
  choice = choice_plain;
  reply = reply_plain;
  line = line_plain;
}
