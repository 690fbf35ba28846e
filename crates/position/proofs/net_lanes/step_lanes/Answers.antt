use Rattle.std.proofs.Common.{◌≡◌, ◌≤◌, ◌∷◌, [], ℕ, List, length, get_or, vec_capacity, ap, sym, subst, ◌∙◌, arith}
use Rattle.std.proofs.Math.Logic.{∥∥₁_elim}
use Rattle.std.proofs.Props.{props}
use Rattle.std.proofs.lemmas.List.FromFn.{length-map-range_with_len}
use Rattle.propnet_tape.specs.Tapes.{kept_in, slots_in, IsTurnWordOf}
use Rattle.position.proofs.Lanes.{tells_next_states}
use Rattle.position.proofs.NetFacts.{base_count}
use Rattle.position.proofs.Words.{written_over}
use Rattle.position.proofs.net_lanes.step_lanes.Goals as goal

pub write_sources-requires-clause-from : goal.write_sources-requires-clause-from
write_sources-requires-clause-from c = let game = c.args.game.now in c.requires.from ∙ sym (base_count game.played game.net game.compiled)

pub run_kept-requires-clause-kept : goal.run_kept-requires-clause-kept
run_kept-requires-clause-kept c =
    let game = c.args.game.now in
    let n = length game.played.starts.items in
    let many : kept_in game.lane_plan.next ≡ n = ∥∥₁_elim game.laned.next (Prim.hlevel props)
    (λ of. of.size ∙ length-map-range_with_len (λ p. get_or game.net.transitions.items p 0) 0 n) in
    c.requires.to ∙ sym many

pub returns-clause-turn : goal.returns-clause-turn
returns-clause-turn c =
    let old = c.args.turn.now.words in
    let size = c.write_sources.auto.words ∙ ap length c.deref_mut.ensures.value in
    let same = written_over c.write_sources.new.words old.items old.len old.ok.0 size in
    let room = c.run_kept.ensures.capacity in
    record {
      room = record {
        words = ap length same ∙ size ∙ c.requires.turn.words;
        next = subst (λ (n : ℕ). slots_in c.args.game.now.lane_plan.next ≤ n) (sym room) c.requires.turn.next;
      };
      capacities = ap (λ (n : ℕ). vec_capacity old ∷ n ∷ []) room;
    }

pub returns-clause-after : goal.returns-clause-after
returns-clause-after c =
    let game = c.args.game.now in
    let old = c.args.turn.now.words in
    let words = c.write_sources.new.words in
    let same = written_over words old.items old.len old.ok.0 (c.write_sources.auto.words ∙ ap length c.deref_mut.ensures.value) in
    let states = c.run_kept.new.out in
    let size = c.run_kept.auto.out in
    tells_next_states game.played game.net game.compiled game.lane_plan game.laned c.args.from.now words states c.args.joints.now
    c.requires.turns.few c.requires.turns.each c.requires.spread (size ∙ c.requires.to) c.write_sources.ensures.base c.write_sources.ensures.given
    (λ net kept i of lt. subst (λ (ws : List ℕ). IsTurnWordOf net ws (get_or kept i 0) (get_or states i 0)) (c.deref.ensures.value ∙ same)
    (c.run_kept.ensures.told net kept i of (omega arith)))
