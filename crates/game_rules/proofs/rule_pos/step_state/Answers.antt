use Rattle.std.proofs.Common.{Bool, List, ap, ◌∙◌}
use Rattle.game_rules.specs.RulePlay.{marked}
use Rattle.game_rules.specs.RuleState.{rules_of}
use Rattle.game_rules.proofs.rule_pos.step_state.Goals as goal

pub returns-clause-after : goal.returns-clause-after
returns-clause-after c =
    ap marked c.read_state.ensures.same
    ∙ c.mark_next.ensures.after
    ∙ ap (λ (bs : List Bool). (rules_of c.args.game.now.played).after (marked bs) c.args.joint.now) c.deref.ensures.value
