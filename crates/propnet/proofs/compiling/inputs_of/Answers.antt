use Rattle.std.proofs.Common.{◌<◌, ◌∷◌, ◌++◌, [], ℕ, List, length, take, ap, sym, ◌∙◌, arith}
use Rattle.std.proofs.lemmas.List.{take_more, take_all}
use Rattle.ground_instances.specs.GroundView.{roles_of}
use Rattle.propnet.specs.Builders.{input_counts}
use Rattle.propnet.proofs.GroundFacts.{role_inputs, same_count}
use Rattle.propnet.proofs.compiling.inputs_of.Goals as goal

pub loop-role-preserved : goal.loop-role-preserved
loop-role-preserved c =
    let g = c.args.ground.now in
    let role = c.loop-role.role in
    let lt : role < length (roles_of g) = omega (arith, c.roles-role-end.ensures) in
    let r = role_inputs g role c.inputs.result lt c.inputs.ensures in
    c.in_ok-push.ensures.items
    ∙ ap (λ (ns : List ℕ). ns ++ c.inputs.result ∷ []) c.loop-role.invariant
    ∙ ap (λ (n : ℕ). take role (input_counts g) ++ n ∷ []) r.1
    ∙ sym (take_more (input_counts g) role 0 r.0)

pub returns : goal.returns
returns c =
    let g = c.args.ground.now in
    let all = same_count g c.loop-role.role (omega (arith, c.roles-role-end.ensures)) in
    c.loop-role.invariant ∙ take_all c.loop-role.role (input_counts g) (omega arith)
