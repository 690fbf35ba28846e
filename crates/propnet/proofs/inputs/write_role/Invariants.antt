use Rattle.std.proofs.Common.{ℕ, ◌≡◌, ◌+◌, ◌<◌, ◌≤◌, get_or}
use Rattle.propnet.specs.Values.{lane}
use Rattle.propnet.specs.Network.{given}
use Rattle.game.specs.Joints.{joint_at}
use Rattle.propnet.proofs.inputs.write_role.Given as goal

abbrev pub invariant-loop-k : goal.invariant-loop-k
invariant-loop-k l = record {
  written : (m j : ℕ) → l.start + m < l.end → j < l.k → lane l.out j (l.start + m) ≡ given (joint_at l.joints j) l.role m;
  clear : (n j : ℕ) → l.start ≤ n → n < l.end → l.k ≤ j → lane l.out j n ≡ 0;
  before : (n : ℕ) → n < l.start → get_or l.out n 0 ≡ get_or l.initial.out n 0;
}
