use Rattle.std.proofs.Common.{ℕ, List, length, subst, sym, ◌<◌, ◌∙◌}
use Rattle.std.specs.Prelude.{All}
use Rattle.propnet.specs.Nets.{gates_of}
use Rattle.position.proofs.Kept.{asked_within}
use Rattle.position.proofs.lane_planning.make_probe.Goals as goal

pub new-requires : goal.new-requires
new-requires c =
    let g = c.args.ground.now in
    let net = c.args.net.now in
    subst (λ (ns : List ℕ). All (λ (n : ℕ). n < length (gates_of net)) ns) (sym (c.deref.ensures.value ∙ c.requires.nodes))
    (asked_within g net c.requires.made c.args.scope)
