use Rattle.std.proofs.Common.{◌≡◌, ◌<◌, ℕ, List, [], length, get_or, sym, subst, ◌∙◌, arith}
use Rattle.game.specs.Keys.{state_of_bits}
use Rattle.position.specs.NetState.{lane_state}
use Rattle.position.specs.NetLanes.{lane_states}
use Rattle.position.proofs.Lanes.{states_count, state_at}
use Rattle.position.proofs.net_game.NetGameGame.write_key_of.Goals as goal

pub write_lane_key-requires-clause-lane : goal.write_lane_key-requires-clause-lane
write_lane_key-requires-clause-lane c =
    let g = c.args.self.now.played in
    let m = c.args.many.now in
    let size : length (lane_states g m) ≡ m.count = states_count (lane_state m.states.items (length g.starts.items)) m.count in
    let few = c.requires.many.few in
    let lt : c.args.place < length (lane_states g m) = c.requires.place in
    omega arith

pub returns : goal.returns
returns c =
    let g = c.args.self.now.played in
    let m = c.args.many.now in
    let n = length g.starts.items in
    let k = c.args.place in
    let key = c.write_lane_key.new.key in
    let size : length (lane_states g m) ≡ m.count = states_count (lane_state m.states.items n) m.count in
    let lt : k < length (lane_states g m) = c.requires.place in
    let kept : get_or (lane_states g m) k [] ≡ lane_state m.states.items n k = state_at (lane_state m.states.items n) m.count k (omega arith) in
    let lent = subst (λ (ws : List ℕ). state_of_bits (length ws) key ≡ lane_state ws (length ws) k) c.deref.ensures.value c.write_lane_key.ensures in
    let here = subst (λ (i : ℕ). state_of_bits i key ≡ lane_state m.states.items i k) c.requires.many.states lent in
    record { keyed = here ∙ sym kept }
