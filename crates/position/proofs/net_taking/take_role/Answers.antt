use Rattle.std.proofs.Common.{◌≡◌, ◌<◌, ◌≤◌, ℕ, Bool, List, length, take, ap, subst, sym, ◌∙◌, arith}
use Rattle.std.specs.Prelude.{All}
use Rattle.ground_instances.specs.Grounds.{texts_at}
use Rattle.ground_instances.specs.GroundView.{inputs_of, kinds_of}
use Rattle.propnet_tape.specs.Tapes.{kept_in, HasRun}
use Rattle.position.specs.declared.lane_plan.RoleLegals.{RoleLegals}
use Rattle.position.specs.LanePlans.{asked_at, places_of, legals_below}
use Rattle.position.specs.NetLanes.{holds_lane, Tells, moves_on}
use Rattle.position.proofs.Lanes.{kept_count, tells_asked}
use Rattle.position.proofs.ReaderLemmas.{told_legals, legals_within, legals_few}
use Rattle.position.proofs.Words.{written_over}
use Rattle.position.proofs.net_taking.take_role.Goals as goal

pub read_moves-out-requires-clause-places : goal.read_moves-out-requires-clause-places
read_moves-out-requires-clause-places c =
    let game = c.args.game.now in
    let kinds = kinds_of game.played in
    let plan = game.lane_plan in
    let t = plan.probe in
    let role = c.args.role in
    let n = length (texts_at (inputs_of game.played) role) in
    let here : c.index.result.now.legals.items ≡ legals_below (places_of t.scope kinds) kinds role n =
    ap (λ (d : RoleLegals). d.legals.items) c.index.ensures ∙ game.laned.legals role c.index.result.now c.requires.role in
    subst (λ (ls : List (ℕ × ℕ)). All (λ (l : ℕ × ℕ). l.0 < kept_in t.tape) ls) (sym (c.deref-2.ensures.value ∙ here))
    (subst (λ (m : ℕ). All (λ (l : ℕ × ℕ). l.0 < m) (legals_below (places_of t.scope kinds) kinds role n))
    (sym (kept_count game.played game.net t game.laned.probe)) (legals_within t.scope kinds game.laned.moves role n))

pub read_moves-out-requires-clause-many : goal.read_moves-out-requires-clause-many
read_moves-out-requires-clause-many c =
    let game = c.args.game.now in
    let kinds = kinds_of game.played in
    let role = c.args.role in
    let places = places_of game.lane_plan.probe.scope kinds in
    let n = length (texts_at (inputs_of game.played) role) in
    let here : c.index.result.now.legals.items ≡ legals_below places kinds role n =
    ap (λ (d : RoleLegals). d.legals.items) c.index.ensures ∙ game.laned.legals role c.index.result.now c.requires.role in
    let size : length c.deref-2.result.now ≡ length (legals_below places kinds role n) = ap (λ (ls : List (ℕ × ℕ)). length ls)
    (c.deref-2.ensures.value ∙ here) in
    let few = legals_few places kinds role n in
    let room = c.requires.room in
    omega arith

pub returns-clause-read : goal.returns-clause-read
returns-clause-read c =
    let game = c.args.game.now in
    let g = game.played in
    let kinds = kinds_of g in
    let plan = game.lane_plan in
    let t = plan.probe in
    let role = c.args.role in
    let k = c.args.k in
    let m = c.args.many.now in
    let states = m.states.items in
    let n = length (texts_at (inputs_of g) role) in
    let here : c.index.result.now.legals.items ≡ legals_below (places_of t.scope kinds) kinds role n =
    ap (λ (d : RoleLegals). d.legals.items) c.index.ensures ∙ game.laned.legals role c.index.result.now c.requires.role in
    let lane = c.requires.lane in
    let few = c.requires.many.few in
    let on : ℕ → Bool = λ p. holds_lane g states k (asked_at t.scope kinds p) in
    let ran : HasRun t.tape states c.deref.result.now = subst (λ (ws : List ℕ). HasRun t.tape states ws) (sym c.deref.ensures.value)
    (c.requires.many.ran (omega arith)) in
    let tells : Tells t.tape c.deref.result.now k on =
    tells_asked g game.net game.compiled t game.laned.probe states c.deref.result.now k c.requires.many.states ran (omega arith) in
    let old = c.args.out.now.moves in
    let size = c.read_moves-out.auto.numbers ∙ ap length c.deref_mut.ensures.value in
    let same = written_over c.read_moves-out.new.numbers old.items old.len old.ok.0 size in
    record {
      goal = c.goal_in-out.ensures;
      count = subst (λ (ns : List ℕ). c.read_moves-out.result ≤ length ns) (sym same) c.read_moves-out.ensures.count;
      legal = ap (λ (ns : List ℕ). take c.read_moves-out.result ns) same
          ∙ c.read_moves-out.ensures.listed on tells
          ∙ ap (moves_on on) (c.deref-2.ensures.value ∙ here)
          ∙ told_legals t.scope game.laned.moves g (holds_lane g states k) role n;
    }

pub returns-clause-room : goal.returns-clause-room
returns-clause-room c =
    let old = c.args.out.now.moves in
    let size = c.read_moves-out.auto.numbers ∙ ap length c.deref_mut.ensures.value in
    ap length (written_over c.read_moves-out.new.numbers old.items old.len old.ok.0 size) ∙ size ∙ c.requires.room
