use Rattle.std.proofs.Common.{ℕ, List, length, ap, ◌∙◌, arith}
use Rattle.position.specs.NetState.{lane_state}
use Rattle.position.proofs.Lanes.{state_at}
use Rattle.position.proofs.Words.{written_over}
use Rattle.position.proofs.net_playing.start_net_state.Goals as goal

pub probe_lanes-requires-clause-states : goal.probe_lanes-requires-clause-states
probe_lanes-requires-clause-states c =
    let old = c.in_ok-first.first.states in
    let size = c.write_start.auto.states ∙ ap length c.deref_mut.ensures.value in
    ap length (written_over c.write_start.new.states old.items old.len old.ok.0 size) ∙ size ∙ c.in_ok-first.ensures.states

pub returns-clause-start : goal.returns-clause-start
returns-clause-start c =
    let n = length c.args.game.now.played.starts.items in
    let first = c.probe_lanes.new.out in
    let old = c.in_ok-first.first.states in
    let same = written_over c.write_start.new.states old.items old.len old.ok.0 (c.write_start.auto.states ∙ ap length c.deref_mut.ensures.value) in
    let one = c.probe_lanes.ensures.count in
    c.take_state.ensures.taken ∙ state_at (lane_state first.states.items n) first.count 0 (omega arith)
    ∙ ap (λ (ws : List ℕ). lane_state ws n 0) (c.probe_lanes.ensures.states ∙ same) ∙ c.write_start.ensures
