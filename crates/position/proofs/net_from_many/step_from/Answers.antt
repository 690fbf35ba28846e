use Rattle.std.proofs.Common.{◌≡◌, ◌<◌, ◌≤◌, ◌∷◌, [], ℕ, List, length, get_or, vec_capacity, sym, subst, ap, ◌∙◌, arith}
use Rattle.std.specs.Prelude.{All}
use Rattle.std.proofs.Math.Logic.{∥∥₁_elim}
use Rattle.std.proofs.Props.{props}
use Rattle.std.proofs.lemmas.List.FromFn.{length-map-range_with_len}
use Rattle.propnet.specs.Values.{lane}
use Rattle.propnet_tape.specs.Tapes.{kept_in, slots_in, IsTurnWordOf}
use Rattle.position.specs.NetLanes.{lane_states}
use Rattle.position.specs.NetState.{lane_state}
use Rattle.position.proofs.Lanes.{states_count, tells_next_from}
use Rattle.position.proofs.NetFacts.{base_count}
use Rattle.position.proofs.Words.{written_over}
use Rattle.position.proofs.net_from_many.step_from.Goals as goal

pub write_from-requires-clause-from : goal.write_from-requires-clause-from
write_from-requires-clause-from c =
    let game = c.args.game.now in
    ap (λ (ws : List ℕ). length ws) c.deref.ensures.value ∙ c.requires.many.states ∙ sym (base_count game.played game.net game.compiled)

pub write_from-requires-clause-few : goal.write_from-requires-clause-few
write_from-requires-clause-few c =
    let few = c.requires.placed.turns.few in
    let count = c.requires.placed.count in
    omega arith

pub write_from-requires-clause-places : goal.write_from-requires-clause-places
write_from-requires-clause-places c = λ k d below.
    let many = c.args.many.now in
    let count = states_count (lane_state many.states.items (length c.args.game.now.played.starts.items)) many.count in
    let few = c.requires.many.few in
    let inside = c.requires.placed.within k d below in
    omega arith

pub run_kept-requires-clause-kept : goal.run_kept-requires-clause-kept
run_kept-requires-clause-kept c =
    let game = c.args.game.now in
    let n = length game.played.starts.items in
    let many : kept_in game.lane_plan.next ≡ n = ∥∥₁_elim game.laned.next (Prim.hlevel props)
    (λ of. of.size ∙ length-map-range_with_len (λ p. get_or game.net.transitions.items p 0) 0 n) in
    c.requires.to ∙ sym many

pub returns-clause-turn : goal.returns-clause-turn
returns-clause-turn c =
    let old = c.args.turn.now.words in
    let size = c.write_from.auto.words ∙ ap length c.deref_mut.ensures.value in
    let same = written_over c.write_from.new.words old.items old.len old.ok.0 size in
    let room = c.run_kept.ensures.capacity in
    record {
      room = record {
        words = ap length same ∙ size ∙ c.requires.turn.words;
        next = subst (λ (n : ℕ). slots_in c.args.game.now.lane_plan.next ≤ n) (sym room) c.requires.turn.next;
      };
      capacities = ap (λ (n : ℕ). vec_capacity old ∷ n ∷ []) room;
    }

pub returns-clause-after : goal.returns-clause-after
returns-clause-after c =
    let game = c.args.game.now in
    let many = c.args.many.now in
    let from = many.states.items in
    let count : length (lane_states game.played many) ≡ many.count = states_count (lane_state from (length game.played.starts.items)) many.count in
    let old = c.args.turn.now.words in
    let words = c.write_from.new.words in
    let same = written_over words old.items old.len old.ok.0 (c.write_from.auto.words ∙ ap length c.deref_mut.ensures.value) in
    let states = c.run_kept.new.out in
    let places = c.args.places.now in
    let placed = c.requires.placed in
    let size = c.run_kept.auto.out in
    tells_next_from game.played game.net game.compiled game.lane_plan game.laned from words states many.count places c.args.joints.now
    placed.turns.few placed.count (subst (λ (n : ℕ). All (λ (k : ℕ). k < n) places) count placed.within) placed.turns.each
    (size ∙ c.requires.to)
    (λ l p lane_below below. c.write_from.ensures.base l p lane_below below
    ∙ ap (λ (ws : List ℕ). lane ws (get_or places l 0) p) c.deref.ensures.value)
    c.write_from.ensures.given
    (λ net kept i of lt. subst (λ (ws : List ℕ). IsTurnWordOf net ws (get_or kept i 0) (get_or states i 0)) (c.deref-2.ensures.value ∙ same)
    (c.run_kept.ensures.told net kept i of (omega arith)))
