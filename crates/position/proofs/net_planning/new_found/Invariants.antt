use Rattle.std.proofs.Common.{◌≡◌, ℕ, length, get_or, None}
use Rattle.position.proofs.net_planning.new_found.Given as goal

-- there is room for each move before this one
abbrev pub invariant-loop-i : goal.invariant-loop-i
invariant-loop-i l = record {
  size : length l.found.items ≡ l._i;
  none : (m : ℕ) → get_or l.found.items m None ≡ None;
}
