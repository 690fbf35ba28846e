use Rattle.std.proofs.Common.{sym, ap, ◌∙◌}
use Rattle.game_rules.specs.RulePlay.{marked, is_given}
use Rattle.game_rules.proofs.Facts.{in_marked}
use Rattle.game_rules.proofs.Marks.{past_marks}
use Rattle.game_rules.proofs.evaluation.is_given.Goals as goal

pub returns-then-p-base : goal.returns-then-p-base
returns-then-p-base c = sym (ap (is_given (marked c.args.base.now) c.args.joint.now) c.in-Now.is ∙ in_marked c.args.base.now c.in-Now.p)

pub returns-else-p-base : goal.returns-else-p-base
returns-else-p-base c =
    sym (ap (is_given (marked c.args.base.now) c.args.joint.now) c.in-Now.is ∙ in_marked c.args.base.now c.in-Now.p
    ∙ past_marks c.args.base.now c.in-Now.p c.if-p-base.false)
