use Rattle.propnet_tape.proofs.Literals.{swapped_result}
use Rattle.propnet_tape.proofs.builder.Builder.and.Goals as goal

pub returns-then-b-a-clause-value : goal.returns-then-b-a-clause-value
returns-then-b-a-clause-value c = swapped_result _ c.args.a c.args.b _ c.and_in_order.ensures.value
