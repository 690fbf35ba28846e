use Rattle.std.proofs.Common.{rules, ℕ, arith, refl, ◌∷◌, [], List, ap, ◌∙◌}
use Rattle.kif.specs.View.{trees_in}
use Rattle.rules.specs.RuleSetView.{roles_in}
use Rattle.unroll_strata.proofs.LawfulLemmas.{one_role, true_on}
use Rattle.unroll_strata.proofs.accepted.has_roles.Goals as goal

pub loop-role-preserved : goal.loop-role-preserved
loop-role-preserved c =
    one_role (trees_in c.args.items.now) c.args.places.now c.loop-role.role _ _ (roles_in c.args.rules.now) c.loop-role-test.true refl
    (omega (arith, c.loop-role-test.true, c.if-places-roles.false, c.roles.ensures)) c.loop-role.invariant
    (true_on c.is_role.result _ c.is_role.ensures (search (rules, c.if-not-is_role.false)) ∙ ap (λ (x : List ℕ). x ∷ []) c.role_text.ensures)
