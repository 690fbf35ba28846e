use Rattle.std.proofs.Common.{[], ◌∷◌, refl, ◌∙◌}
use Rattle.test_games.specs.Table.{table_rules}
use Rattle.test_games.specs.TableMany.{chosen_states}
use Rattle.test_games.proofs.TableStates.{turns_after_alike}
use Rattle.test_games.proofs.table.TableGame.judge_from.Goals as goal

pub returns-clause-after : goal.returns-clause-after
returns-clause-after c yes_judged =
    let game = c.args.self.now in
    c.judge.ensures.after yes_judged
    ∙ turns_after_alike (table_rules game.worth game.ends) (chosen_states c.args._many.now) (0 ∷ []) c.args._places.now c.args.joints.now
    (λ t j. refl) c.requires.count
