use Rattle.std.proofs.Common.{◌+◌, ◌∙◌, arith}
use Rattle.propnet_tape.proofs.gates.run_gates.Goals as goal

pub fours-preserved : goal.fours-preserved
fours-preserved c =
    let i = c.fours.i in
    record {
      within = omega arith;
      same = λ k n h.
          c.run_gate-in-fours-3.ensures.values k n (i + 4) h (omega arith)
          ∙ c.run_gate-in-fours-2.ensures.values k n (i + 3) h (omega arith)
          ∙ c.run_gate-in-fours.ensures.values k n (i + 2) h (omega arith)
          ∙ c.run_gate.ensures.values k n (i + 1) h (omega arith)
          ∙ c.fours.invariant.same k n h;
    }

pub rest-preserved : goal.rest-preserved
rest-preserved c =
    let i = c.rest.i in
    record {
      within = omega arith;
      same = λ k n h. c.run_gate-in-rest.ensures.values k n (i + 1) h (omega arith) ∙ c.rest.invariant.same k n h;
    }
