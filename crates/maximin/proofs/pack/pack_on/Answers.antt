use Rattle.std.proofs.Common.{◌≡◌, ◌-◌, ◌≤◌, ℕ, length, map, drop, refl, subst, rules as facts}
use Rattle.statement.specs.Rules.{State, Turn}
use Rattle.statement.specs.Value.{value}
use Rattle.maximin.specs.Pack.{IsPickedBy, picked}
use Rattle.maximin.specs.Run.{turns_in}
use Rattle.maximin.proofs.Packs.{pack_more, some_is}
use Rattle.maximin.proofs.pack.pack_on.Goals as goal

pub returns-clause-pack : goal.returns-clause-pack
returns-clause-pack g c =
    let rules = g.G.Game.rules c.args.game.now in
    let states = g.G.Game.states c.args.game.now c.args.many.now in
    let worth : State → ℕ = λ s. value rules c.args.asked.role c.args.asked.depth c.args.asked.at s in
    let next : State → ℕ = λ s. value rules c.args.asked.role (c.args.asked.depth - 1) c.args.asked.at s in
    let old = c.args.pack.now in
    let run = c.args.level.now.moves.run in
    let grown = c.add_state.ensures.moves in
    let more = c.add_state.new.moves.run in
    let place = c.args.place in
    let pick = c.in-Some.pick in
    let turns = drop run.count (turns_in more) in
    let count : length states ≤ length old.parts = search facts in
    let room : run.count ≤ length old.places = search facts in
    let here = g.G.Game.state c.args.game.now c.take.new.q in
    let tells = some_is (IsPickedBy rules c.args.asked here run more) c.add_state.result pick c.in-Some.is c.add_state.ensures.worth in
    record {
      level = record {
        moves = grown.moves;
        children = record { many = c.requires.pack.level.children.many; position = c.take.ensures.fits };
      };
      pack = pack_more rules states worth next rules.roles old _ run more place _ c.requires.place count room c.requires.pack.level.moves.run
          grown.moves.run c.requires.pack.pack c.name_state.ensures refl grown.front tells.some grown.known refl refl
          (subst (λ (s : State). worth s ≡ picked pick (map (λ (j : Turn). next (rules.after s j)) turns)) c.take.ensures.taken tells.worth);
    }
