use Rattle.std.specs.Cmp.Lexicographic.{on_texts}
use Rattle.std.proofs.lemmas.Cmp.{tied_itself}
use Rattle.std.proofs.lemmas.Map.Lookups.{exact_bytes}
use Rattle.statement.specs.Tree.{text}
use Rattle.kif.proofs.Texts.{text_once}
use Rattle.kif.proofs.order_laws.printed_order_is_a_total_order.Goals as goal

pub returns : goal.returns
returns c = record {
  total = on_texts text;
  same = λ t. tied_itself (on_texts text) t;
  only = λ t u h k e. text_once t u h k (exact_bytes (text t) (text u) e);
}
