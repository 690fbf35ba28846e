use Rattle.rules_profile.proofs.RoleLists.{begin_list, excess_here, roles_here, listed_more}
use Rattle.rules_profile.proofs.roles.roles_within_limits.Goals as goal

pub loop-index-init : goal.loop-index-init
loop-index-init g c = begin_list c.args.items.now _ c.new-places.ensures

pub returns-in-Some-clause-surplus : goal.returns-in-Some-clause-surplus
returns-in-Some-clause-surplus g c =
    excess_here c.args.items.now c.loop-index.index _ _ c.in-Some.excess c.loop-index.invariant c.loop-index-test.true c.index-items-index.is
    c.in-Some.ensures

pub returns-then-not-add_role-clause-surplus : goal.returns-then-not-add_role-clause-surplus
returns-then-not-add_role-clause-surplus g c =
    roles_here c.args.items.now c.loop-index.index _ _ c.loop-index.invariant c.loop-index-test.true c.index-items-index.is c.in_default.ensures
    c.if-not-add_role.ensures.many

pub loop-index-preserved : goal.loop-index-preserved
loop-index-preserved g c =
    listed_more c.args.items.now c.loop-index.index _ _ _ c.loop-index.invariant c.loop-index-test.true c.index-items-index.is c.in_default.ensures
    c.if-not-add_role.ensures.added
