use Rattle.game.proofs.PlayRange.{role_named, turns_within, choice_within, reply_within, line_within}
use Rattle.game.proofs.play_laws.play_stays_within_the_game.Goals as goal

pub returns : goal.returns
returns c = record {
  fault = role_named;
  turns = turns_within;
  choice = choice_within;
  reply = reply_within;
  line = line_within;
}
