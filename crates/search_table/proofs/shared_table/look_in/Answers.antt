use Rattle.game.proofs.Facts.{value_within}
use Rattle.search_table.proofs.shared_table.look_in.Goals as goal

pub returns-then-not-serves : goal.returns-then-not-serves
returns-then-not-serves c = λ g keyed goals is. c.nothing_known.ensures _ _
    (λ d. value_within g c.args.asked.role (λ s. goals s c.args.asked.role) d _ _)
