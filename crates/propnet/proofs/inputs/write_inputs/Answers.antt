use Rattle.std.proofs.Common.{arith, ◌∙◌}
use Rattle.std.proofs.lemmas.List.Sums.{sum_by_more}
use Rattle.propnet.proofs.InputLemmas.{inputs_more}
use Rattle.propnet.proofs.inputs.write_inputs.Goals as goal

pub loop-role-preserved : goal.loop-role-preserved
loop-role-preserved c =
    let inputs = c.args.inputs.now in
    let role = c.loop-role.role in
    let more = sum_by_more (λ x. x) inputs role 0 c.loop-role-test.true in
    let is = c.loop-role.invariant.next in
    record {
      next = omega arith;
      written = inputs_more c.args.base inputs c.args.joints.now c.loop-role.out c.write_role.new.out role c.loop-role.start c.loop-role-test.true is
          c.write_role.ensures.given c.write_role.ensures.before c.loop-role.invariant.written;
      before = λ n h. c.write_role.ensures.before n (omega arith) ∙ c.loop-role.invariant.before n h;
    }
