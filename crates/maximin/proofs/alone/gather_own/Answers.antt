use Rattle.std.proofs.Common.{◌+◌, ◌∷◌, [], ◌∙◌, arith}
use Rattle.std.proofs.Math.ListN.{set}
use Rattle.std.proofs.lemmas.List.Elements.{All-nil, All-cons, All-append}
use Rattle.game.proofs.Facts.{legal_known, legal_place, legal_count, none_past}
use Rattle.statement.specs.Rules.{IsTurn}
use Rattle.maximin.specs.Run.{turns_in}
use Rattle.maximin.proofs.OwnTurns.{own_turn, own_more}
use Rattle.maximin.proofs.alone.gather_own.Goals as goal

pub overflow_add-place : goal.overflow_add-place
overflow_add-place g c =
    let rules = g.G.Game.rules c.args.game.now in
    let state = g.G.Game.state c.args.game.now c.args.from.now in
    let law = g.met.G.Game g.world.𝓛 g.world.𝓜 g.world.𝓡 ((λ _ x. x), (λ x. x), (λ x. x), λ x. x) in
    let few = legal_count rules state c.args.role (law.legal_ascending c.args.game.now state c.args.role c.requires.role)
    (law.legal_within c.args.game.now state c.args.role c.requires.role)
    (law.moves_within c.args.game.now c.args.role c.requires.role) in
    omega (arith, c.moves.invariant.within)

pub returns-in_default-clause-own : goal.returns-in_default-clause-own
returns-in_default-clause-own g c =
    let rules = g.G.Game.rules c.args.game.now in
    let state = g.G.Game.state c.args.game.now c.args.from.now in
    let is = c.moves.invariant in
    record {
      run = is.run;
      few = is.few;
      within = is.within;
      all = λ _. none_past (rules.legal state c.args.role) (c.args.place + c.moves.run.count) c.legal.result c.legal.ensures c.in_default.is;
      known = is.known;
      turns = is.turns;
    }

pub returns-clause-own : goal.returns-clause-own
returns-clause-own g c =
    let is = c.moves.invariant in
    let full = c.moves-test.false in
    record {
      run = is.run;
      few = is.few;
      within = is.within;
      all = λ less. absurd (omega arith);
      known = is.known;
      turns = is.turns;
    }

pub moves-preserved : goal.moves-preserved
moves-preserved g c =
    let rules = g.G.Game.rules c.args.game.now in
    let state = g.G.Game.state c.args.game.now c.args.from.now in
    let legal = rules.legal state c.args.role in
    let joint = c.args.joint.now.items in
    let law = g.met.G.Game g.world.𝓛 g.world.𝓜 g.world.𝓡 ((λ _ x. x), (λ x. x), (λ x. x), λ x. x) in
    let next = legal_place rules state c.args.role (c.args.place + c.moves.run.count) c.in-Some.own c.legal.result c.legal.ensures c.in-Some.is in
    let known = legal_known rules state c.args.role (c.args.place + c.moves.run.count) c.in-Some.own c.legal.result
    (law.legal_within c.args.game.now state c.args.role c.requires.role) c.legal.ensures c.in-Some.is in
    let turn : IsTurn rules (set joint c.args.role c.in-Some.own) = own_turn rules joint c.args.role c.in-Some.own c.requires.role known
    c.requires.joint in
    let more = c.add_own.ensures.count in
    let test = c.moves-test.true in
    record {
      run = rw c.requires.joint.of_each_role at c.add_own.ensures.run;
      capacities = c.add_own.ensures.capacities ∙ c.moves.invariant.capacities;
      few = omega arith;
      within = omega (arith, next.0);
      known = rw c.add_own.ensures.turns
          (All-append (IsTurn rules) (turns_in c.moves.run) (set joint c.args.role c.in-Some.own ∷ []) c.moves.invariant.known
          (All-cons (IsTurn rules) (set joint c.args.role c.in-Some.own) [] turn (All-nil (IsTurn rules))));
      turns = own_more (λ m. set joint c.args.role m) legal c.args.place c.moves.run.count c.add_own.new.run.count c.in-Some.own
          (turns_in c.moves.run) (turns_in c.add_own.new.run)
          next.0 next.1 more c.moves.invariant.turns c.add_own.ensures.turns;
    }
