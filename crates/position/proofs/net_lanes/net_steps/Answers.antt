use Rattle.std.proofs.Common.{ℕ, List, length, map, ap, ◌∙◌}
use Rattle.std.specs.List.{range_with_len}
use Rattle.smallvec.specs.SmallVec.{SmallVec}
use Rattle.game_rules.specs.RuleState.{rules_of}
use Rattle.position.specs.NetState.{lane_state}
use Rattle.position.proofs.Words.{written_over}
use Rattle.position.proofs.net_lanes.net_steps.Goals as goal

pub probe_lanes-requires-clause-states : goal.probe_lanes-requires-clause-states
probe_lanes-requires-clause-states c =
    let old = c.args.out.now.states in
    let size = c.step_lanes.auto.states ∙ ap length c.deref_mut.ensures.value in
    ap length (written_over c.step_lanes.new.states old.items old.len old.ok.0 size) ∙ size ∙ c.requires.to.states

pub returns-clause-after : goal.returns-clause-after
returns-clause-after c =
    let g = c.args.game.now.played in
    let n = length g.starts.items in
    let joints = c.args.joints.now in
    let old = c.args.out.now.states in
    let same = written_over c.step_lanes.new.states old.items old.len old.ok.0 (c.step_lanes.auto.states ∙ ap length c.deref_mut.ensures.value) in
    ap (λ (m : ℕ). map (lane_state c.probe_lanes.new.out.states.items n) (range_with_len 0 m)) c.probe_lanes.ensures.count
    ∙ ap (λ (ws : List ℕ). map (lane_state ws n) (range_with_len 0 (length joints))) (c.probe_lanes.ensures.states ∙ same)
    ∙ c.step_lanes.ensures.after
    ∙ ap (λ (ws : List ℕ). map (λ (j : SmallVec ℕ). (rules_of g).after (lane_state ws n 0) j.items) joints) c.deref.ensures.value
