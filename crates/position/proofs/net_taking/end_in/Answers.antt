use Rattle.std.proofs.Common.{◌≡◌, ◌<◌, ℕ, true, false, [], length, get_or, ap, sym, ◌∙◌, arith}
use Rattle.std.proofs.lemmas.Bool.{ne_eqb}
use Rattle.std.specs.Prelude.{◌==◌}
use Rattle.ground_instances.specs.GroundView.{kinds_of}
use Rattle.statement.specs.Rules.{State}
use Rattle.game.specs.Told.{end_worth}
use Rattle.game_rules.specs.RulePlay.{ends, best_goal}
use Rattle.game_rules.specs.RuleState.{rules_of, holds_in}
use Rattle.position.specs.NetState.{lane_state}
use Rattle.position.specs.NetLanes.{lane_states}
use Rattle.position.proofs.Lanes.{states_count, state_at}
use Rattle.position.proofs.LaneLemmas.{worth_ended, worth_open}
use Rattle.position.proofs.net_taking.end_in.Goals as goal

pub lane_bit-requires : goal.lane_bit-requires
lane_bit-requires c =
    let g = c.args.game.now.played in
    let m = c.args.many.now in
    let size : length (lane_states g m) ≡ m.count = states_count (lane_state m.states.items (length g.starts.items)) m.count in
    let few = c.requires.many.few in
    let lt : c.args.k < length (lane_states g m) = c.requires.lane in
    omega arith

pub goal_in-requires-clause-lane : goal.goal_in-requires-clause-lane
goal_in-requires-clause-lane c =
    let g = c.args.game.now.played in
    let m = c.args.many.now in
    let size : length (lane_states g m) ≡ m.count = states_count (lane_state m.states.items (length g.starts.items)) m.count in
    let lt : c.args.k < length (lane_states g m) = c.requires.lane in
    omega arith

pub returns-then-lane_bit-eq1 : goal.returns-then-lane_bit-eq1
returns-then-lane_bit-eq1 c =
    let g = c.args.game.now.played in
    let m = c.args.many.now in
    let n = length g.starts.items in
    let k = c.args.k in
    let role = c.args.role in
    let kinds = kinds_of g in
    let states = m.states.items in
    let size : length (lane_states g m) ≡ m.count = states_count (lane_state states n) m.count in
    let lt : k < length (lane_states g m) = c.requires.lane in
    let lane : k < m.count = omega arith in
    let kept : get_or (lane_states g m) k [] ≡ lane_state states n k = state_at (lane_state states n) m.count k lane in
    let ended : ends kinds (holds_in g (lane_state states n k)) ≡ true =
    sym (c.requires.many.ended k lane) ∙ ap (λ (v : ℕ). v == 1) (sym c.lane_bit.ensures.value ∙ c.if-lane_bit-eq1.true) in
    worth_ended _ _ _ ended c.goal_in.ensures ∙ ap (λ (s : State). end_worth (rules_of g) s role) (sym kept)

pub returns : goal.returns
returns c =
    let g = c.args.game.now.played in
    let m = c.args.many.now in
    let n = length g.starts.items in
    let k = c.args.k in
    let role = c.args.role in
    let kinds = kinds_of g in
    let states = m.states.items in
    let size : length (lane_states g m) ≡ m.count = states_count (lane_state states n) m.count in
    let lt : k < length (lane_states g m) = c.requires.lane in
    let lane : k < m.count = omega arith in
    let kept : get_or (lane_states g m) k [] ≡ lane_state states n k = state_at (lane_state states n) m.count k lane in
    let bit : (c.lane_bit.result == 1) ≡ false = ne_eqb c.lane_bit.result 1 c.if-lane_bit-eq1.false in
    let open_there : ends kinds (holds_in g (lane_state states n k)) ≡ false =
    sym (c.requires.many.ended k lane) ∙ ap (λ (v : ℕ). v == 1) (sym c.lane_bit.ensures.value) ∙ bit in
    worth_open _ (best_goal kinds (holds_in g (lane_state states n k)) role) open_there
    ∙ ap (λ (s : State). end_worth (rules_of g) s role) (sym kept)
