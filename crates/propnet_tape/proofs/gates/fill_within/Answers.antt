use Rattle.std.proofs.Common.{ℕ, arith, refl, length-set, get_or}
use Rattle.propnet_tape.specs.Values.{is_lane_on}
use Rattle.propnet_tape.proofs.Lanes.{one_given, constants}
use Rattle.propnet_tape.proofs.gates.fill_within.Goals as goal

pub loop-i-init : goal.loop-i-init
loop-i-init c = λ k n h l. constants (λ i. is_lane_on c.args.words.now k (get_or c.args.sources.now i 0)) c.args.room.now k c.complement.result
    (omega arith) (c.complement.ensures k h) n l

pub loop-i-preserved : goal.loop-i-preserved
loop-i-preserved c = λ k n h l. one_given (λ i. is_lane_on c.args.words.now k (get_or c.args.sources.now i 0)) c.loop-i.room k c.loop-i.i _ _
    (omega (arith, length-set {A = ℕ})) refl (c.complement-in-loop-i.ensures k h) (λ m j. c.loop-i.invariant k m h j) n l
