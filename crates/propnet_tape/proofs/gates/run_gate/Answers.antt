use Rattle.std.proofs.Common.{◌+◌, ◌*◌, ℕ, drop, get_or, bit_and, refl, ap, ◌∙◌, arith}
use Rattle.std.proofs.Math.ListN.{set}
use Rattle.propnet_tape.specs.Values.{pass, is_lane_on}
use Rattle.propnet_tape.proofs.Lanes.{one_gate}
use Rattle.propnet_tape.proofs.gates.run_gate.Goals as goal

pub returns : goal.returns
returns c =
    let gates = c.args.gates.now in
    let old = c.args.room.now in
    let gate = get_or gates c.args.i (record { a = 0; b = 0 }) in
    let at = c.args.first + 2 * c.args.i in
    let x = bit_and (get_or old gate.a 0) (get_or old gate.b 0) in
    let y = c.complement.result in
    record {
      values = λ k l next h e.
          ap (λ (n : ℕ). pass (c.args.first + 2 * n) (drop n gates) (is_lane_on (set (set old at x) (at + 1) y) k) l) e
          ∙ one_gate c.args.first c.args.i gates (record { a = 0; b = 0 }) old k x y (omega arith) (omega arith) refl (c.complement.ensures k h) l;
    }
