use Rattle.std.proofs.Common.{◌≡◌, ℕ, ◌<◌, ◌≤◌, length, true, get_or, All}
use Rattle.propnet.specs.Nets.{gates_of}
use Rattle.propnet_tape.specs.Marks.{is_marked, TermMarked}
use Rattle.propnet_tape.proofs.cones.mark_terms.Given as goal

abbrev pub invariant-loop-number : goal.invariant-loop-number
invariant-loop-number l = record {
  count : length l.marks.items ≡ length l.initial.marks.items;
  marked : (k : ℕ) → k < l.number-index → TermMarked (gates_of l.net) l.marks.items (get_or l.numbers k 0);
  more : (m : ℕ) → is_marked l.initial.marks.items m ≡ true → is_marked l.marks.items m ≡ true;
  above : (n m : ℕ) → All (λ k. k < n) l.numbers → n ≤ m → is_marked l.marks.items m ≡ is_marked l.initial.marks.items m;
}
