use Rattle.std.proofs.Common.{◌<◌, ◌≡◌, length, refl, arith}
use Rattle.ground_instances.specs.GroundView.{roles_of}
use Rattle.program_replies.proofs.Measuring.{sum_fits, sum_more, sum_all}
use Rattle.program_replies.proofs.sizes.inputs_in.Goals as goal

pub overflow_add-count : goal.overflow_add-count
overflow_add-count c =
    let g = c.args.ground.now in
    let lt : c.loop-role.role < length (roles_of g) = omega (arith, c.roles-role-end.ensures) in
    let few = sum_fits g c.loop-role.role c.loop-role.count c.inputs-count.result lt c.loop-role.invariant c.inputs-count.ensures in
    omega arith

pub loop-role-preserved : goal.loop-role-preserved
loop-role-preserved c =
    let g = c.args.ground.now in
    let lt : c.loop-role.role < length (roles_of g) = omega (arith, c.roles-role-end.ensures) in
    sum_more g c.loop-role.role c.loop-role.count c.inputs-count.result _ lt c.loop-role.invariant c.inputs-count.ensures refl

pub returns : goal.returns
returns c =
    let g = c.args.ground.now in
    let all : c.loop-role.role ≡ length (roles_of g) = omega (arith, c.roles-role-end.ensures) in
    sum_all g c.loop-role.role c.loop-role.count all c.loop-role.invariant
