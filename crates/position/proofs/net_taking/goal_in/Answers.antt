use Rattle.std.proofs.Common.{◌≡◌, ◌<◌, ℕ, Bool, List, ap, subst, sym, ◌∙◌, arith}
use Rattle.std.specs.Prelude.{All}
use Rattle.ground_instances.specs.GroundView.{kinds_of}
use Rattle.propnet_tape.specs.Tapes.{kept_in, HasRun}
use Rattle.position.specs.declared.lane_plan.RoleGoals.{RoleGoals}
use Rattle.position.specs.LanePlans.{asked_at, places_of, goals_of}
use Rattle.position.specs.NetLanes.{holds_lane, goal_on}
use Rattle.position.proofs.Lanes.{kept_count, tells_asked}
use Rattle.position.proofs.ReaderLemmas.{told_goals, goals_within}
use Rattle.position.proofs.net_taking.goal_in.Goals as goal

pub read_goal-requires-clause-lane : goal.read_goal-requires-clause-lane
read_goal-requires-clause-lane c =
    let few = c.requires.many.few in
    let lane = c.requires.lane in
    omega arith

pub read_goal-requires-clause-places : goal.read_goal-requires-clause-places
read_goal-requires-clause-places c =
    let game = c.args.game.now in
    let kinds = kinds_of game.played in
    let t = c.args.probe.now in
    let role = c.args.role in
    let here : c.index.result.now.goals.items ≡ goals_of (places_of t.scope kinds) kinds role =
    ap (λ (d : RoleGoals). d.goals.items) c.index.ensures ∙ c.requires.probe.goals role c.index.result.now c.requires.role in
    subst (λ (ls : List (ℕ × ℕ)). All (λ (l : ℕ × ℕ). l.0 < kept_in t.tape) ls) (sym (c.deref-2.ensures.value ∙ here))
    (subst (λ (m : ℕ). All (λ (l : ℕ × ℕ). l.0 < m) (goals_of (places_of t.scope kinds) kinds role))
    (sym (kept_count game.played game.net t c.requires.probe)) (goals_within t.scope kinds role))

pub returns : goal.returns
returns c =
    let game = c.args.game.now in
    let g = game.played in
    let kinds = kinds_of g in
    let t = c.args.probe.now in
    let told = c.requires.probe in
    let role = c.args.role in
    let k = c.args.k in
    let m = c.args.many.now in
    let states = m.states.items in
    let here : c.index.result.now.goals.items ≡ goals_of (places_of t.scope kinds) kinds role =
    ap (λ (d : RoleGoals). d.goals.items) c.index.ensures ∙ told.goals role c.index.result.now c.requires.role in
    let lane = c.requires.lane in
    let few = c.requires.many.few in
    let on : ℕ → Bool = λ p. holds_lane g states k (asked_at t.scope kinds p) in
    let ran : HasRun t.tape states c.deref.result.now = subst (λ (ws : List ℕ). HasRun t.tape states ws) (sym c.deref.ensures.value)
    (c.requires.many.ran (omega arith)) in
    c.read_goal.ensures on (tells_asked g game.net game.compiled t told states c.deref.result.now k c.requires.many.states ran (omega arith))
    ∙ ap (goal_on on) (c.deref-2.ensures.value ∙ here)
    ∙ told_goals t.scope kinds (holds_lane g states k) role
