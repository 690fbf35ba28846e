use Rattle.std.proofs.Common.{ℕ, ◌≡◌, ◌≤◌, length}
use Rattle.std.specs.Prelude.{All}
use Rattle.smallvec.specs.SmallVec.{SmallVec}
use Rattle.maximin.proofs.run.new_run.Given as goal

abbrev pub invariant-loop : goal.invariant-loop
invariant-loop l = record { count : length l.joints.items ≡ l.counter; room : All (λ (joint : SmallVec ℕ). l.roles ≤ joint.capacity) l.joints.items }
