use Rattle.std.proofs.Common.{sym, ◌∙◌, arith}
use Rattle.game_rules.specs.GroundFacts.{fits}
use Rattle.position.proofs.net_lanes.many_over.Goals as goal

pub returns : goal.returns
returns c =
    let made = c.in_ok-vec.field-0 in
    let fit = (fits c.args.game.now.played).starts_fit in
    record {
      states = sym made.ok.0 ∙ c.in_ok-vec.ensures.len ∙ c.base.ensures ∙ sym fit;
      room = c.requires;
      few = omega arith;
      ran = λ none. absurd (omega arith);
      ended = λ k none. absurd (omega arith);
    }
