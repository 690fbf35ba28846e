use Rattle.std.proofs.Common.{Bool, List, length, sym, ap, subst, ◌∙◌}
use Rattle.ground_instances.specs.GroundView.{inputs_of, kinds_of}
use Rattle.game_rules.specs.declared.role_state.RoleState.{RoleState}
use Rattle.game_rules.specs.RulePlay.{marked, ends}
use Rattle.game_rules.specs.RuleState.{AreRead, holds_in}
use Rattle.game_rules.proofs.Facts.{AreCopied, copied_room, copied_read}
use Rattle.game_rules.proofs.rule_game.RuleGameGame.copy.Goals as goal

pub returns-clause-fits : goal.returns-clause-fits
returns-clause-fits c =
    let g = c.args.self.now.played in
    let from = c.args.p.now.roles.items in
    let new = c.copy_roles.new.to.items in
    let same = c.copy_from_slice.ensures.items ∙ c.deref.ensures.value in
    let copied : AreCopied from new = subst (λ (fs : List RoleState). AreCopied fs new) c.deref-2.ensures.value c.copy_roles.ensures.copied in
    let marks = c.requires.to.room.roles in
    record {
      room = record {
        base = ap length same ∙ c.requires.from.room.base;
        right = c.requires.to.room.right;
        roles = record {
          size = marks.size;
          each = marks.each;
          roles = copied_room (inputs_of g) from new c.requires.from.room.roles.roles (c.copy_roles.ensures.size ∙ marks.roles.size) copied;
        };
      };
      ended = c.requires.from.ended ∙ ap (λ (bs : List Bool). ends (kinds_of g) (holds_in g (marked bs))) (sym same);
      roles = subst (λ (bs : List Bool). AreRead (kinds_of g) (holds_in g (marked bs)) (inputs_of g) new) (sym same)
          (copied_read (kinds_of g) (holds_in g (marked c.args.p.now.base.items)) (inputs_of g) from new c.requires.from.room.roles.roles copied
          c.requires.from.roles);
    }
