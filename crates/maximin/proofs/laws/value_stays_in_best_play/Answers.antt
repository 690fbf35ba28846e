use Rattle.maximin.proofs.Stays.{choice_stays, reply_stays}
use Rattle.maximin.proofs.laws.value_stays_in_best_play.Goals as goal

pub returns : goal.returns
returns c = record { choice = choice_stays; reply = reply_stays }
