use Rattle.std.proofs.Common.{sym, ◌∙◌}
use Rattle.game_rules.specs.GroundFacts.{fits}
use Rattle.position.proofs.net_playing.new_state.Goals as goal

pub returns : goal.returns
returns c =
    let made = c.in_ok-vec.field-0 in
    record {
      lanes = sym made.ok.0 ∙ c.in_ok-vec.ensures.len ∙ c.base.ensures ∙ sym (fits c.args.game.now.played).starts_fit;
      roles = c.in_ok-new_roles.ensures;
    }
