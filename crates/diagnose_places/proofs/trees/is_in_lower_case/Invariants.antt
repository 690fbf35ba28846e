use Rattle.std.proofs.Common.{ℕ, ◌<◌, ◌≡◌, get_or}
use Rattle.statement.specs.Lexical.{lower}
use Rattle.diagnose_places.proofs.trees.is_in_lower_case.Given as goal

abbrev pub invariant-loop-i : goal.invariant-loop-i
invariant-loop-i l = (k : ℕ) → k < l.i → lower (get_or l.bytes k 0) ≡ get_or l.name k 0
