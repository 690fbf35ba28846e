use Rattle.std.proofs.Common.{ℕ, List, length, subst, sym, ◌<◌, ◌∙◌}
use Rattle.std.specs.Prelude.{All}
use Rattle.propnet.specs.Nets.{gates_of}
use Rattle.position.proofs.Kept.{next_within}
use Rattle.position.proofs.lane_planning.make_next.Goals as goal

pub of_turns-requires : goal.of_turns-requires
of_turns-requires c =
    let g = c.args.ground.now in
    let net = c.args.net.now in
    subst (λ (ns : List ℕ). All (λ (n : ℕ). n < length (gates_of net)) ns) (sym (c.deref.ensures.value ∙ c.in_ok-next.ensures))
    (next_within g net c.requires)
