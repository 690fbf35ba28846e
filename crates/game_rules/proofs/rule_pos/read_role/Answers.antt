use Rattle.std.proofs.Common.{ℕ, List, false, length, get_or, ap, subst, sym, ◌∙◌, arith}
use Rattle.ground_instances.specs.GroundView.{kinds_of}
use Rattle.game_rules.specs.declared.naming.Naming.TheVariants.{ByLegal}
use Rattle.game_rules.specs.declared.plan.RolePlan.{RolePlan}
use Rattle.game_rules.specs.declared.standing.Sought.TheVariants.{Named, Goals}
use Rattle.game_rules.specs.declared.standing.Standing.{Standing}
use Rattle.game_rules.specs.RulePlay.{marked}
use Rattle.game_rules.specs.Standings.{goal_among}
use Rattle.game_rules.specs.Plans.{IsRolePlanOf}
use Rattle.game_rules.proofs.Facts.{goals_all}
use Rattle.game_rules.proofs.PlanLemmas.{named_marks, sought_within}
use Rattle.game_rules.specs.GroundFacts.{few_moves}
use Rattle.game_rules.proofs.rule_pos.read_role.Goals as goal

pub mark_named-requires : goal.mark_named-requires
mark_named-requires c =
    let game = c.args.game.now in
    let here = subst (λ (plan : RolePlan). IsRolePlanOf (kinds_of game.played) c.args.role plan) (sym c.index-plan.ensures)
    (game.planned.roles c.args.role c.index-plan.result.now c.requires.role) in
    sought_within (Named (ByLegal c.args.role)) (kinds_of game.played) c.index-plan.result.now.legals.items c.deref.result.now
    (length c.args.right.now.items) here.legals c.deref.ensures.value c.requires.right

pub list_marked-out-requires-clause-few : goal.list_marked-out-requires-clause-few
list_marked-out-requires-clause-few c =
    let few = few_moves c.args.game.now.played c.args.role in
    let size = c.mark_named.ensures.marks.size in
    let value = ap length c.deref-2.ensures.value in
    let room = c.requires.room.marks in
    omega arith

pub best_goal-out-requires : goal.best_goal-out-requires
best_goal-out-requires c =
    let game = c.args.game.now in
    let here = subst (λ (plan : RolePlan). IsRolePlanOf (kinds_of game.played) c.args.role plan) (sym c.index-plan.ensures)
    (game.planned.roles c.args.role c.index-plan.result.now c.requires.role) in
    sought_within (Goals c.args.role) (kinds_of game.played) c.index-plan.result.now.goals.items c.deref-3.result.now (length c.args.right.now.items)
    here.goals c.deref-3.ensures.value c.requires.right

pub returns-clause-read : goal.returns-clause-read
returns-clause-read c =
    let game = c.args.game.now in
    let kinds = kinds_of game.played in
    let right = λ (a : ℕ). get_or c.args.right.now.items a false in
    let plan = c.index-plan.result.now in
    let here = subst (λ (p : RolePlan). IsRolePlanOf kinds c.args.role p) (sym c.index-plan.ensures)
    (game.planned.roles c.args.role plan c.requires.role) in
    record {
      goal = c.best_goal-out.ensures ∙ ap (λ (ps : List Standing). goal_among ps right c.args.role) (c.deref-3.ensures.value ∙ here.goals)
          ∙ goals_all kinds right c.args.role;
      count = c.list_marked-out.ensures.count;
      legal = c.list_marked-out.ensures.listed ∙ ap marked c.deref-2.ensures.value
          ∙ named_marks kinds right (ByLegal c.args.role) plan.legals.items c.deref.result.now c.mark_named.new.marks.items
          (length c.args.marks.now.marks.items) _ here.legals c.deref.ensures.value c.mark_named.ensures.marks c.requires.room.marks;
    }
