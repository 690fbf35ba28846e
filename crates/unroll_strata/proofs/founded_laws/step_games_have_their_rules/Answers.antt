use Rattle.unroll_strata.proofs.MadeGames.{rules_of_game}
use Rattle.unroll_strata.proofs.founded_laws.step_games_have_their_rules.Goals as goal

pub returns : goal.returns
returns c = λ own below found written.
    rules_of_game own below found written (λ t. c.stepped_items_say_the_steps.ensures own t) (λ t. c.based_items_say_what_can_be.ensures t)
