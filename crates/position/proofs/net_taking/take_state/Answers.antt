use Rattle.std.proofs.Common.{◌≡◌, ◌<◌, ◌∷◌, ℕ, List, length, vec_capacity, ap, subst, sym, ◌∙◌, arith}
use Rattle.std.specs.Prelude.{◌==◌}
use Rattle.ground_instances.specs.GroundView.{inputs_of, kinds_of}
use Rattle.statement.specs.Rules.{State}
use Rattle.game_rules.specs.RulePlay.{ends}
use Rattle.game_rules.specs.RuleState.{holds_in, AreRead, all_capacities}
use Rattle.position.specs.NetState.{lane_state, AreSpread}
use Rattle.position.specs.NetLanes.{lane_states}
use Rattle.position.proofs.Lanes.{states_count, state_at, taken_there}
use Rattle.position.proofs.Words.{written_over}
use Rattle.position.proofs.net_taking.take_state.Goals as goal

pub take_lane-requires-clause-lane : goal.take_lane-requires-clause-lane
take_lane-requires-clause-lane c =
    let g = c.args.game.now.played in
    let m = c.args.many.now in
    let size : length (lane_states g m) ≡ m.count = states_count (lane_state m.states.items (length g.starts.items)) m.count in
    let few = c.requires.many.few in
    let lt : c.args.k < length (lane_states g m) = c.requires.lane in
    omega arith

pub lane_bit-requires : goal.lane_bit-requires
lane_bit-requires c =
    let g = c.args.game.now.played in
    let m = c.args.many.now in
    let size : length (lane_states g m) ≡ m.count = states_count (lane_state m.states.items (length g.starts.items)) m.count in
    let few = c.requires.many.few in
    let lt : c.args.k < length (lane_states g m) = c.requires.lane in
    omega arith

pub take_roles-requires-clause-lane : goal.take_roles-requires-clause-lane
take_roles-requires-clause-lane c =
    let g = c.args.game.now.played in
    let m = c.args.many.now in
    let size : length (lane_states g m) ≡ m.count = states_count (lane_state m.states.items (length g.starts.items)) m.count in
    let lt : c.args.k < length (lane_states g m) = c.requires.lane in
    omega arith

pub returns-clause-state : goal.returns-clause-state
returns-clause-state c =
    let g = c.args.game.now.played in
    let m = c.args.many.now in
    let n = length g.starts.items in
    let k = c.args.k in
    let states = m.states.items in
    let count : length (lane_states g m) ≡ m.count = states_count (lane_state states n) m.count in
    let lt : k < length (lane_states g m) = c.requires.lane in
    let old = c.args.out.now.lanes in
    let lanes = c.take_lane.new.lanes in
    let size = c.take_lane.auto.lanes ∙ ap length c.deref_mut.ensures.value in
    let same = written_over lanes old.items old.len old.ok.0 size in
    let whole : length c.deref.result.now ≡ n = ap length c.deref.ensures.value ∙ c.requires.many.states in
    let kept = taken_there lanes c.deref.result.now states n k whole c.deref.ensures.value c.take_lane.ensures.told in
    record {
      room = record { lanes = ap length same ∙ size ∙ c.requires.room.lanes; roles = c.take_roles.ensures.room };
      spread = subst AreSpread (sym same) c.take_lane.ensures.spread;
      ended = ap (λ (v : ℕ). v == 1) c.lane_bit.ensures.value ∙ c.requires.many.ended k (omega arith)
          ∙ ap (λ (s : State). ends (kinds_of g) (holds_in g s)) (sym kept ∙ ap (λ (ws : List ℕ). lane_state ws n 0) (sym same));
      roles = subst (λ (s : State). AreRead (kinds_of g) (holds_in g s) (inputs_of g) c.take_roles.new.roles.items)
          (sym kept ∙ ap (λ (ws : List ℕ). lane_state ws n 0) (sym same)) c.take_roles.ensures.read;
    }

pub returns-clause-taken : goal.returns-clause-taken
returns-clause-taken c =
    let g = c.args.game.now.played in
    let m = c.args.many.now in
    let n = length g.starts.items in
    let k = c.args.k in
    let states = m.states.items in
    let count : length (lane_states g m) ≡ m.count = states_count (lane_state states n) m.count in
    let lt : k < length (lane_states g m) = c.requires.lane in
    let old = c.args.out.now.lanes in
    let lanes = c.take_lane.new.lanes in
    let same = written_over lanes old.items old.len old.ok.0 (c.take_lane.auto.lanes ∙ ap length c.deref_mut.ensures.value) in
    let whole : length c.deref.result.now ≡ n = ap length c.deref.ensures.value ∙ c.requires.many.states in
    ap (λ (ws : List ℕ). lane_state ws n 0) same
    ∙ taken_there lanes c.deref.result.now states n k whole c.deref.ensures.value c.take_lane.ensures.told
    ∙ sym (state_at (lane_state states n) m.count k (omega arith))

pub returns-clause-capacities : goal.returns-clause-capacities
returns-clause-capacities c =
    ap (λ (n : ℕ). vec_capacity c.args.out.now.lanes ∷ n ∷ all_capacities c.take_roles.new.roles.items) c.take_roles.ensures.capacity
    ∙ ap (λ (ns : List ℕ). vec_capacity c.args.out.now.lanes ∷ vec_capacity c.args.out.now.roles ∷ ns) c.take_roles.ensures.capacities
