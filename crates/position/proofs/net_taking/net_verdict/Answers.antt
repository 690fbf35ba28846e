use Rattle.std.proofs.Common.{◌≡◌, ◌<◌, ◌≤◌, length, subst, arith}
use Rattle.position.specs.NetState.{lane_state}
use Rattle.position.specs.NetLanes.{lane_states, IsJudged}
use Rattle.position.proofs.Lanes.{states_count}
use Rattle.position.proofs.net_taking.net_verdict.Goals as goal

pub returns-then-k-w-clause-told : goal.returns-then-k-w-clause-told
returns-then-k-w-clause-told c lt =
    let g = c.args.game.now.played in
    let m = c.args.w.now.judged in
    let size : length (lane_states g m) ≡ m.count = states_count (lane_state m.states.items (length g.starts.items)) m.count in
    let past : m.count ≤ c.args.k = omega (arith, c.if-k-w.true) in
    let inside : c.args.k < length (lane_states g m) = lt in
    absurd (omega arith)

pub end_in-requires-clause-lane : goal.end_in-requires-clause-lane
end_in-requires-clause-lane c =
    let g = c.args.game.now.played in
    let m = c.args.w.now.judged in
    let size : length (lane_states g m) ≡ m.count = states_count (lane_state m.states.items (length g.starts.items)) m.count in
    omega (arith, c.if-k-w.false)

pub returns-in-Some-clause-beyond : goal.returns-in-Some-clause-beyond
returns-in-Some-clause-beyond c le =
    let g = c.args.game.now.played in
    let m = c.args.w.now.judged in
    let size : length (lane_states g m) ≡ m.count = states_count (lane_state m.states.items (length g.starts.items)) m.count in
    let past : length (lane_states g m) ≤ c.args.k = le in
    absurd (omega (arith, c.if-k-w.false))

pub returns-in-None : goal.returns-in-None
returns-in-None c =
    let g = c.args.game.now.played in
    let m = c.args.w.now.judged in
    let none : m.count ≡ 0 = subst (λ o. IsJudged g o m) c.in-None.is c.requires.wide.judged in
    absurd (omega (arith, c.if-k-w.false))
