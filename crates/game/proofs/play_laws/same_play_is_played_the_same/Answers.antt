use Rattle.game.proofs.SamePlays.{stuck_alike, value_alike, worst_alike, choice_alike, reply_alike, line_alike, played_alike}
use Rattle.game.proofs.play_laws.same_play_is_played_the_same.Goals as goal

pub returns : goal.returns
returns c = record {
  stuck = stuck_alike;
  played = played_alike;
  value = value_alike;
  worst = worst_alike;
  choice = choice_alike;
  reply = reply_alike;
  line = line_alike;
}
