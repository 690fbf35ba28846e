-- What `lint` replies to items without a fault.
use Rattle.std.proofs.Common.{ℕ, ◌≡◌, List, length, map, inr, refl, sym, subst}
use Rattle.statement.specs.Tree.{Tree, trees_of, list_of, text}
use Rattle.statement.specs.Reading.{Reads}
use Rattle.statement.specs.Items.{alternatives}
use Rattle.statement.specs.Order.{relations_in_order}
use Rattle.statement.specs.Profile.{HasNoFault, roles}
use Rattle.statement.specs.Checking.{check_lines}
use Rattle.statement.specs.Answers.{Reply, answer}
use Rattle.program_run.specs.Linted.{IsLintReply, status_of_lines}
use Rattle.kif.proofs.Facts.{list_of-trees_of}

-- what `check` answers of items without a fault
abbrev checked_items : List Tree → Reply
checked_items ts =
    answer (check_lines (length ts) (length (alternatives ts)) (length (relations_in_order (alternatives ts))) (map text (roles ts)))

-- lines with their status are a reply to bytes that are read as items without a fault
pub linted_items : (bytes : List ℕ) (ts : List Tree) (reply : Reply) → Reads bytes (trees_of ts) → HasNoFault ts
    → reply.status ≡ status_of_lines reply.output → IsLintReply bytes reply
linted_items bytes ts reply reads sound status = (
  checked_items (list_of (trees_of ts)),
  inr (trees_of ts, reads, inr (subst HasNoFault (sym (list_of-trees_of ts)) sound, refl)),
  inr (refl, status),
)
