use Rattle.std.proofs.Common.{ℕ, List, ap, ◌∙◌}
use Rattle.game_rules.specs.RulePlay.{marked}
use Rattle.game_rules.specs.RuleState.{rules_of}
use Rattle.game_rules.proofs.rule_game.RuleGameGame.step.Goals as goal

pub returns-clause-after : goal.returns-clause-after
returns-clause-after c =
    c.step_state.ensures.after ∙ ap (λ (j : List ℕ). (rules_of c.args.self.now.played).after (marked c.args.p.now.base.items) j) c.deref.ensures
