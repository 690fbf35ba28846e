use Rattle.ground_instances.proofs.RunLemmas.{new_run}
use Rattle.ground_instances.proofs.runs.begin_run.Goals as goal

pub returns : goal.returns
returns c =
    new_run c.args.alternative c.args.place c.in_ok-in_32_bits.field-0 c.in_ok-in_32_bits-2.field-0 c.args.runs.now.items c.push.new.self.items
    c.in_ok-in_32_bits.ensures c.in_ok-in_32_bits-2.ensures c.in_ok-push.ensures.items
