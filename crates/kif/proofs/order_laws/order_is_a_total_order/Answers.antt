use Rattle.std.specs.Cmp.Lexicographic.{on_texts}
use Rattle.kif.specs.Marks.{marks}
use Rattle.kif.proofs.MarkLemmas.{marked_cmp-printed}
use Rattle.kif.proofs.order_laws.order_is_a_total_order.Goals as goal

pub returns : goal.returns
returns c = record { total = on_texts marks; printed = marked_cmp-printed }
