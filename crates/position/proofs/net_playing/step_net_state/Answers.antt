use Rattle.std.proofs.Common.{◌≡◌, ℕ, List, [], ◌∷◌, length, get_or, ap, sym, ◌∙◌, arith}
use Rattle.std.specs.Prelude.{map}
use Rattle.smallvec.specs.SmallVec.{SmallVec}
use Rattle.statement.specs.Rules.{State}
use Rattle.game_rules.specs.RuleState.{rules_of}
use Rattle.position.specs.NetState.{lane_state, kept_state}
use Rattle.position.specs.NetLanes.{lane_states}
use Rattle.position.proofs.Lanes.{states_count, state_at}
use Rattle.position.proofs.net_playing.step_net_state.Goals as goal

pub returns-clause-after : goal.returns-clause-after
returns-clause-after c =
    let g = c.args.game.now.played in
    let n = length g.starts.items in
    let m = c.net_steps.new.out in
    let after : SmallVec ℕ → State = λ j. (rules_of g).after (kept_state g c.args.p.now) j.items in
    let one : lane_states g m ≡ after c.args.joint.now ∷ [] = c.net_steps.ensures.after ∙ ap (map after) c.from_ref.ensures.value in
    let size : length (lane_states g m) ≡ m.count = states_count (lane_state m.states.items n) m.count in
    let count : m.count ≡ 1 = sym size ∙ ap (λ (ss : List State). length ss) one in
    c.take_first.ensures.taken ∙ sym (state_at (lane_state m.states.items n) m.count 0 (omega (arith, count)))
    ∙ ap (λ (ss : List State). get_or ss 0 []) one
