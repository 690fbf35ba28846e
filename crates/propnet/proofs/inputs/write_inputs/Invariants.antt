use Rattle.std.proofs.Common.{ℕ, ◌≡◌, ◌+◌, ◌<◌, length, get_or, take}
use Rattle.std.specs.Prelude.{sum}
use Rattle.propnet.specs.Values.{lane}
use Rattle.propnet.specs.Network.{given}
use Rattle.game.specs.Joints.{joint_at}
use Rattle.propnet.specs.Placing.{input_number}
use Rattle.propnet.proofs.inputs.write_inputs.Given as goal

abbrev pub invariant-loop-role : goal.invariant-loop-role
invariant-loop-role l = record {
  next : l.start ≡ l.base + sum (take l.role l.inputs);
  written : (r m k : ℕ) → r < l.role → m < get_or l.inputs r 0 → k < length l.joints
      → lane l.out k (input_number l.base l.inputs r m) ≡ given (joint_at l.joints k) r m;
  before : (n : ℕ) → n < l.base → get_or l.out n 0 ≡ get_or l.initial.out n 0;
}
