use Rattle.std.proofs.Common.{◌≡◌, ℕ, List, [], ◌∷◌, ◌++◌, map, take, sym, ap, subst, ◌∙◌, arith, append_assoc}
use Rattle.std.proofs.Math.ListN.{set}
use Rattle.std.proofs.lemmas.List.{map_more, take_all}
use Rattle.game.proofs.Facts.{legal_known, legal_place, none_past}
use Rattle.statement.specs.Rules.{Turn, IsTurn}
use Rattle.maximin.specs.Cursor.{IsCursorOf, cursor_capacities}
use Rattle.maximin.specs.Run.{turns_in}
use Rattle.maximin.proofs.Kept.{moves_kept}
use Rattle.maximin.proofs.OwnTurns.{own_turn}
use Rattle.maximin.proofs.Packs.{front_of}
use Rattle.maximin.proofs.Runs.{turn_added}
use Rattle.maximin.proofs.pack.add_own_turns.Goals as goal

pub moves-preserved : goal.moves-preserved
moves-preserved g c =
    let rules = g.G.Game.rules c.args.game.now in
    let state = g.G.Game.state c.args.game.now c.args.from.now in
    let law = g.met.G.Game g.world.𝓛 g.world.𝓜 g.world.𝓡 ((λ _ x. x), (λ x. x), (λ x. x), λ x. x) in
    let legal = rules.legal state c.args.role in
    let start = c.args.moves.now in
    let joint = start.cursor.joint.items in
    let same : c.moves.moves.cursor ≡ start.cursor = c.moves.invariant.cursor in
    let place = c.moves.place in
    let own = c.in-Some.own in
    let turn : ℕ → Turn = λ m. set joint c.args.role m in
    let old = turns_in start.run in
    let next = legal_place rules state c.args.role place own c.legal.result c.legal.ensures c.in-Some.is in
    let known = legal_known rules state c.args.role place own c.legal.result (law.legal_within c.args.game.now state c.args.role c.requires.role)
    c.legal.ensures c.in-Some.is in
    let here : IsTurn rules (turn own) = own_turn rules joint c.args.role own c.requires.role known c.requires.joint in
    let added = rw same at c.add_own.ensures.turns in
    record {
      cursor = same;
      run = rw (same, c.requires.joint.of_each_role) at c.add_own.ensures.run;
      capacities = c.add_own.ensures.capacities ∙ c.moves.invariant.capacities;
      known = turn_added (IsTurn rules) (turns_in c.moves.moves.run) (turns_in c.add_own.new.run) (turn own) added c.moves.invariant.known here;
      in_list = omega (arith, next.0);
      count = omega (arith, c.add_own.ensures.count, c.moves.invariant.count);
      turns = added ∙ ap (λ (ts : List Turn). ts ++ turn own ∷ []) c.moves.invariant.turns
          ∙ append_assoc old (map turn (take place legal)) (turn own ∷ [])
          ∙ ap (λ (ts : List Turn). old ++ ts)
          (sym (map_more turn legal place 0 next.0 ∙ ap (λ (m : ℕ). map turn (take place legal) ++ turn m ∷ []) next.1));
    }

pub returns-then-moves-end-clause-moves : goal.returns-then-moves-end-clause-moves
returns-then-moves-end-clause-moves g c =
    let rules = g.G.Game.rules c.args.game.now in
    let start = c.args.moves.now in
    let is = c.moves.invariant in
    record {
      moves = record {
        cursor = subst (IsCursorOf rules.roles) (sym is.cursor) c.requires.moves.moves.cursor;
        run = is.run;
      };
      capacities = moves_kept start c.moves.moves.cursor c.moves.moves.run (ap cursor_capacities is.cursor) is.capacities;
      known = is.known;
      count = is.count;
      front = front_of rules.roles start.run c.moves.moves.run _ c.requires.moves.moves.run is.turns;
    }

pub returns-clause-moves : goal.returns-clause-moves
returns-clause-moves g c =
    let rules = g.G.Game.rules c.args.game.now in
    let start = c.args.moves.now in
    let is = c.moves.invariant in
    record {
      moves = record {
        cursor = subst (IsCursorOf rules.roles) (sym is.cursor) c.requires.moves.moves.cursor;
        run = is.run;
      };
      capacities = moves_kept start c.moves.moves.cursor c.moves.moves.run (ap cursor_capacities is.cursor) is.capacities;
      known = is.known;
      count = is.count;
      front = front_of rules.roles start.run c.moves.moves.run _ c.requires.moves.moves.run is.turns;
    }

pub returns-clause-turns : goal.returns-clause-turns
returns-clause-turns g c =
    let rules = g.G.Game.rules c.args.game.now in
    let state = g.G.Game.state c.args.game.now c.args.from.now in
    let legal = rules.legal state c.args.role in
    let turn : ℕ → Turn = λ m. set c.args.moves.now.cursor.joint.items c.args.role m in
    c.moves.invariant.turns
    ∙ ap (λ (ms : List ℕ). turns_in c.args.moves.now.run ++ map turn ms)
    (take_all c.moves.place legal (none_past legal c.moves.place c.legal.result c.legal.ensures c.in_default.is))
