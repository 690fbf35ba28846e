use Rattle.std.proofs.Common.{ap, sym, ◌∙◌}
use Rattle.ground_instances.specs.Lists.{last_behind}
use Rattle.ground_instances.proofs.RunLemmas.{same_run}
use Rattle.ground_instances.proofs.runs.add_run.Goals as goal

pub returns-then-is_last : goal.returns-then-is_last
returns-then-is_last c =
    same_run c.args.alternative c.args.place c.args.runs.now.items
    (ap (last_behind 0) (sym c.deref.ensures.value) ∙ c.is_last.ensures c.if-is_last.true)
