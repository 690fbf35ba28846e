use Rattle.std.proofs.Common.{ℕ, List, length, sym, ap, subst, ◌∙◌}
use Rattle.ground_instances.specs.GroundView.{inputs_of, kinds_of}
use Rattle.game_rules.specs.declared.role_state.RoleState.{RoleState}
use Rattle.game_rules.specs.RulePlay.{ends}
use Rattle.game_rules.specs.RuleState.{AreRead, holds_in}
use Rattle.position.specs.NetState.{AreSpread, lane_state}
use Rattle.game_rules.proofs.Facts.{AreCopied, copied_room, copied_read}
use Rattle.position.proofs.net_game.NetGameGame.copy.Goals as goal

pub returns-clause-fits : goal.returns-clause-fits
returns-clause-fits c =
    let g = c.args.self.now.played in
    let n = length g.starts.items in
    let from = c.args.p.now.state.roles.items in
    let new = c.copy_roles.new.to.items in
    let same = c.copy_from_slice.ensures.items ∙ c.deref.ensures.value in
    let copied : AreCopied from new = subst (λ (fs : List RoleState). AreCopied fs new) c.deref-2.ensures.value c.copy_roles.ensures.copied in
    record {
      state = record {
        room = record {
          lanes = ap length same ∙ c.requires.from.state.room.lanes;
          roles = copied_room (inputs_of g) from new c.requires.from.state.room.roles
              (c.copy_roles.ensures.size ∙ c.requires.to.state.room.roles.size) copied;
        };
        spread = subst AreSpread (sym same) c.requires.from.state.spread;
        ended = c.requires.from.state.ended ∙ ap (λ (ws : List ℕ). ends (kinds_of g) (holds_in g (lane_state ws n 0))) (sym same);
        roles = subst (λ (ws : List ℕ). AreRead (kinds_of g) (holds_in g (lane_state ws n 0)) (inputs_of g) new) (sym same)
            (copied_read (kinds_of g) (holds_in g (lane_state c.args.p.now.state.lanes.items n 0)) (inputs_of g) from new
            c.requires.from.state.room.roles copied c.requires.from.state.roles);
      };
      turn = c.requires.to.turn;
      many = c.requires.to.many;
    }
