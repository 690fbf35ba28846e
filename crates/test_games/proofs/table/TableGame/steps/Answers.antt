use Rattle.std.proofs.Common.{ℕ, [], ◌∷◌, ap, ◌∙◌, arith}
use Rattle.test_games.specs.Table.{table_rules}
use Rattle.game.proofs.Facts.{taken_map, get_or_any}
use Rattle.test_games.proofs.table.TableGame.steps.Goals as goal

pub returns-clause-after : goal.returns-clause-after
returns-clause-after c =
    let size = c.choose_each.ensures.size in
    taken_map (λ (n : ℕ). n ∷ []) ((table_rules [] []).after []) c.choose_each.new.cells c.args.joints.now size
    (λ k d lt. ap (λ (n : ℕ). n ∷ []) (get_or_any c.choose_each.new.cells k d 0 (omega arith)) ∙ c.choose_each.ensures.after k lt)
