use Rattle.std.proofs.Common.{ap, arith, rules, ℕ, List, get_or}
use Rattle.propnet_tape.proofs.GroupLemmas.{groups_more, sum_more}
use Rattle.propnet_tape.proofs.groups.groups_of.Goals as goal
use Rattle.propnet_tape.proofs.groups.groups_of.Goals.{in-Some+in_ok-push, in_default}

pub loop-role-preserved : goal.loop-role-preserved
loop-role-preserved c =
    let inputs = c.args.net.now.inputs.items in
    let inside = c.loop-role-test.true in
    record {
      first = let here = ap (λ (xs : List ℕ). get_or xs c.loop-role.role 0) c.inputs.ensures in
          let more = sum_more inputs c.loop-role.role (search rules) in
          omega (arith, c.loop-role.invariant.first, here, more);
      groups = elim c.match-group_of.branch [
        | in-Some+in_ok-push w ↦ rw w.groups-is (groups_more c.args.net.now c.args.sources.now.words.items c.loop-role.groups.items
            w.push.new.self.items _ c.loop-role.invariant.groups (rw w.in-Some.is at c.group_of.ensures) w.in_ok-push.ensures.items)
        | in_default w ↦ rw w.groups-is c.loop-role.invariant.groups
      ];
    }
