use Rattle.std.proofs.Common.{length, ◌∙◌}
use Rattle.position.specs.NetState.{lane_state}
use Rattle.position.proofs.Lanes.{state_at}
use Rattle.position.proofs.net_playing.take_first.Goals as goal

pub returns-clause-taken : goal.returns-clause-taken
returns-clause-taken c =
    let n = length c.args.game.now.played.starts.items in
    let many = c.args.q.now.many in
    c.take_state.ensures.taken ∙ state_at (lane_state many.states.items n) many.count 0 c.requires.some
