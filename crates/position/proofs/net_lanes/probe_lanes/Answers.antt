use Rattle.std.proofs.Common.{◌<◌, ◌≤◌, ℕ, Bool, List, ap, subst, sym, ◌∙◌, arith}
use Rattle.std.specs.Prelude.{All}
use Rattle.std.specs.List.{list_any}
use Rattle.ground_instances.specs.GroundView.{kinds_of}
use Rattle.propnet_tape.specs.Tapes.{kept_in, slots_in, HasRun}
use Rattle.position.specs.LanePlans.{asked_at, places_of, ends_of}
use Rattle.position.specs.NetLanes.{holds_lane}
use Rattle.position.proofs.Lanes.{kept_count, tells_asked}
use Rattle.position.proofs.ReaderLemmas.{told_ends, ends_within}
use Rattle.position.proofs.net_lanes.probe_lanes.Goals as goal

pub holding_at-out-requires-clause-places : goal.holding_at-out-requires-clause-places
holding_at-out-requires-clause-places c =
    let game = c.args.game.now in
    let kinds = kinds_of game.played in
    let t = c.args.probe.now in
    let told = c.requires.probe in
    subst (λ (ps : List ℕ). All (λ (p : ℕ). p < kept_in t.tape) ps) (sym (c.deref-3.ensures.value ∙ told.ends))
    (subst (λ (n : ℕ). All (λ (p : ℕ). p < n) (ends_of (places_of t.scope kinds) kinds)) (sym (kept_count game.played game.net t told))
    (ends_within t.scope kinds))

pub returns-clause-many : goal.returns-clause-many
returns-clause-many c =
    let game = c.args.game.now in
    let g = game.played in
    let t = c.args.probe.now in
    let told = c.requires.probe in
    let kinds = kinds_of g in
    let states = c.args.out.now.states.items in
    let room = c.run.new.room.items in
    let few = c.requires.few in
    let ran : HasRun t.tape states room = subst (λ (ws : List ℕ). HasRun t.tape ws room) c.deref.ensures.value c.run.ensures.run in
    let lent : HasRun t.tape states c.deref-2.result.now = subst (λ (ws : List ℕ). HasRun t.tape states ws) (sym c.deref-2.ensures.value) ran
    in
    record {
      states = c.requires.states;
      room = subst (λ (n : ℕ). slots_in t.tape ≤ n) (sym c.run.ensures.capacity) c.requires.room;
      few = few;
      ran = λ some. ran;
      ended = λ k lt.
          let on : ℕ → Bool = λ p. holds_lane g states k (asked_at t.scope kinds p) in
          c.holding_at-out.ensures k on (tells_asked g game.net game.compiled t told states c.deref-2.result.now k c.requires.states lent
          (omega arith))
          ∙ ap (list_any on) (c.deref-3.ensures.value ∙ told.ends)
          ∙ told_ends t.scope kinds (holds_lane g states k);
    }
