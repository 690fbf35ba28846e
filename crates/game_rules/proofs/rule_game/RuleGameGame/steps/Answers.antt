use Rattle.std.proofs.Common.{◌≡◌, length, arith}
use Rattle.game_rules.specs.RulePlay.{marked}
use Rattle.game_rules.specs.RuleState.{rules_of}
use Rattle.game_rules.specs.declared.rule_many.RuleBase.{RuleBase}
use Rattle.game.proofs.Facts.{taken_map}
use Rattle.game_rules.proofs.rule_game.RuleGameGame.steps.Goals as goal

pub returns-clause-after : goal.returns-clause-after
returns-clause-after c =
    let g = c.args.self.now.played in
    let size : length c.step_each.new.states.items ≡ 64 = c.step_each.ensures.room.size in
    let few = c.requires.few in
    taken_map (λ (p : RuleBase). marked p.marks.items) ((rules_of g).after (marked c.args.p.now.base.items)) c.step_each.new.states.items
    c.args.joints.now (omega arith) c.step_each.ensures.after
