use Rattle.std.proofs.Common.{◌≡◌, ◌-◌, ◌<◌, ◌≤◌, ℕ, List, [], None, length, get_or, refl, ap, subst, sym, arith, rules as facts}
use Rattle.std.specs.Prelude.{IfSome}
use Rattle.statement.specs.Rules.{State}
use Rattle.statement.specs.Value.{value}
use Rattle.maximin.specs.Pack.{IsPartOf}
use Rattle.maximin.proofs.Packs.{packed_count, note_more}
use Rattle.maximin.proofs.ahead.note_worths.Goals as goal

pub noted-requires-clause-few : goal.noted-requires-clause-few
noted-requires-clause-few g c κs within =
    let rules = g.G.Game.rules c.args.game.now in
    let states = g.G.Game.states c.args.game.now c.args.children.now.many in
    let pack = c.args.pack.now in
    let run = c.args.run.now in
    let few = c.requires.run.run.few in
    let room : run.count ≤ length pack.places = search facts in
    let count = packed_count rules states rules.roles pack.places run c.requires.run.run room in
    let size = ap (λ (ss : List State). length ss) (c.judge_pack-tools.ensures.after c.if-not-tools.false) in
    omega arith

pub loop-place-preserved : goal.loop-place-preserved
loop-place-preserved g c =
    let rules = g.G.Game.rules c.args.game.now in
    let states = g.G.Game.states c.args.game.now c.args.children.now.many in
    let worth : State → ℕ = λ s. value rules c.args.asked.role c.args.asked.depth c.args.asked.at s in
    let worths : State → ℕ → ℕ = λ s d. value rules c.args.asked.role d c.args.asked.at s in
    let depth = c.args.asked.depth in
    let next : State → ℕ = λ s. value rules c.args.asked.role (c.args.asked.depth - 1) c.args.asked.at s in
    let place = c.loop-place.place in
    let pack = c.args.pack.now in
    let children = c.loop-place.children in
    let is = c.loop-place.invariant in
    let same : children.many ≡ c.args.children.now.many = is.same.many in
    let known = rw same at is.known.ahead in
    let inside : place < length states = omega (arith, c.loop-place-test.true, c.requires.children.ahead.count) in
    let room : place < length children.ahead.bounds = search facts in
    let part = subst
    (λ (ss : List State). IfSome (get_or pack.parts place None) (IsPartOf next ss (worth (get_or states place []))))
    (sym (c.judge_pack-tools.ensures.after c.if-not-tools.false)) (c.requires.pack.parts place inside) in
    record {
      known = record {
        many = is.known.many;
        position = is.known.position;
        ahead = rw same (note_more states worths depth children.ahead _ place c.noted.result room refl refl
            (c.noted.ensures (worths (get_or states place [])) depth part (known.bounds place _ inside)) known);
      };
      same = record { position = is.same.position; capacities = is.same.capacities; many = is.same.many };
      count = is.count;
    }
