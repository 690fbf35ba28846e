use Rattle.std.proofs.Common.{◌≡◌, ◌+◌, ◌∙◌, ap, ℕ, List, [], length, get_or, take, drop, refl, sym, arith}
use Rattle.std.proofs.Math.ListN.{set}
use Rattle.std.proofs.lemmas.List.{get_or-drop, get_or-take, get_or-map, length-drop, length-take-le}
use Rattle.statement.specs.Rules.{Turn}
use Rattle.statement.specs.Value.{value}
use Rattle.maximin.specs.declared.level.Level.{Level}
use Rattle.maximin.specs.Best.{own_worth}
use Rattle.maximin.specs.Level.{level_capacities}
use Rattle.maximin.specs.Run.{turns_in}
use Rattle.maximin.proofs.Best.{best_none}
use Rattle.maximin.proofs.Choices.{legal_some}
use Rattle.maximin.proofs.OwnTurns.{alone_worst}
use Rattle.maximin.proofs.Packs.{turns_count}
use Rattle.maximin.proofs.Kept.{kept_then, all_levels_kept, level_kept, moves_kept}
use Rattle.maximin.proofs.Values.{turn_known}
use Rattle.maximin.proofs.choosing.best_alone.Goals as goal

pub runs-init : goal.runs-init
runs-init g c =
    let rules = g.G.Game.rules c.args.game.now in
    let state = g.G.Game.state c.args.game.now c.args.from.now in
    let first = c.requires.fit.levels 0 c.index-first-0.result (omega arith) in
    let there = c.split_at_mut-first.ensures.by_index.0 0 c.index-first-0.result (omega arith) in
    record {
      level = record {
        moves = record { cursor = c.start_turns.ensures.cursor; run = rw there first.moves.run };
        children = rw there first.children;
      };
      capacities = refl;
      kept = record {
        wide = c.requires.fit.wide;
        memory = c.requires.fit.memory;
        levels = λ k d below. rw (c.split_at_mut-first.ensures.by_index.1 k d) (c.requires.fit.levels (1 + k) d (omega arith));
        of_tools = refl;
        of_levels = refl;
      };
      deep = omega arith;
      stands = c.start_turns.ensures.stands;
      in_list = omega (arith, c.no_best-best.ensures.seen);
      is_best = rw (c.no_best-best.ensures.seen, c.no_best-best.ensures.worth, c.no_best-best.ensures.place)
          (best_none (own_worth rules c.args.asked.role c.args.asked.depth c.args.asked.at state));
    }

pub gather_own-requires-clause-joint : goal.gather_own-requires-clause-joint
gather_own-requires-clause-joint g c κs within =
    let rules = g.G.Game.rules c.args.game.now in
    let state = g.G.Game.state c.args.game.now c.args.from.now in
    let law = g.met.G.Game g.world.𝓛 g.world.𝓜 g.world.𝓡 ((λ _ x. x), (λ x. x), (λ x. x), λ x. x) in
    let some = legal_some rules state c.args.asked.role c.requires.«open» c.requires.fit.role in
    let first = law.legal_within c.args.game.now state c.args.asked.role c.requires.fit.role 0 0 some in
    turn_known rules state c.args.asked.role 0 c.runs.level.moves.cursor.places.items c.runs.level.moves.cursor.joint.items c.runs.invariant.stands (omega arith)
    (λ q below. law.legal_within c.args.game.now state q below)

pub best_after-requires-clause-level : goal.best_after-requires-clause-level
best_after-requires-clause-level g c κs within =
    let kept = c.runs.invariant.level in
    let taken = c.gather_own.ensures.own in
    let some = c.if-level-eq0.false in
    record {
      level = record { moves = record { cursor = kept.moves.cursor; run = taken.run }; children = kept.children };
      some = omega arith;
      known = taken.known;
    }

pub best_after-requires-clause-moves : goal.best_after-requires-clause-moves
best_after-requires-clause-moves g c κs within =
    let rules = g.G.Game.rules c.args.game.now in
    let state = g.G.Game.state c.args.game.now c.args.from.now in
    let legal = rules.legal state c.args.asked.role in
    let joint = c.runs.level.moves.cursor.joint.items in
    let run = c.gather_own.new.run in
    let place = c.runs.best.seen in
    let part = take run.count (drop place legal) in
    let rest = length-drop place legal in
    let count = turns_count rules.roles run c.gather_own.ensures.own.run in
    let size = length-take-le run.count (drop place legal) (omega (arith, c.gather_own.ensures.own.within)) in
    record {
      few = omega (arith, c.gather_own.ensures.own.within);
      worths = λ k lt.
          let own : get_or part k 0 ≡ get_or legal (place + k) 0 =
          get_or-take run.count (drop place legal) k 0 (omega arith) ∙ get_or-drop place legal k 0 in
          let turn : get_or (turns_in run) k [] ≡ set joint c.args.asked.role (get_or legal (place + k) 0) =
          ap (λ (ts : List Turn). get_or ts k []) c.gather_own.ensures.own.turns
          ∙ get_or-map (λ m. set joint c.args.asked.role m) part k 0 [] (omega arith)
          ∙ ap (λ (m : ℕ). set joint c.args.asked.role m) own in
          let each = alone_worst rules c.args.asked.role c.args.asked.depth c.args.asked.at state 0 c.runs.level.moves.cursor.places.items joint
          c.requires.fit.role c.requires.alone c.runs.invariant.stands (get_or legal (place + k) 0) in
          ap (λ (t : Turn). value rules c.args.asked.role c.args.asked.depth c.args.asked.at (rules.after state t)) turn ∙ sym each;
    }

pub returns-then-level-eq0-clause-best : goal.returns-then-level-eq0-clause-best
returns-then-level-eq0-clause-best g c =
    let rules = g.G.Game.rules c.args.game.now in
    let state = g.G.Game.state c.args.game.now c.args.from.now in
    let legal = rules.legal state c.args.asked.role in
    let none = c.if-level-eq0.true in
    let past = c.gather_own.ensures.own.all (omega arith) in
    let all : c.runs.best.seen ≡ length legal = omega arith in
    rw all at c.runs.invariant.is_best

pub returns-then-level-eq0-clause-kept : goal.returns-then-level-eq0-clause-kept
returns-then-level-eq0-clause-kept g c =
    let split = c.split_at_mut-first.ensures in
    let old = get_or c.split_at_mut-first.result.0.now 0 c.index-first-0.result in
    let now = c.runs.level in
    let begun : level_capacities g.G.Game c.args.game.now now ≡ level_capacities g.G.Game c.args.game.now old =
    c.runs.invariant.capacities
    ∙ level_kept g.G.Game c.args.game.now old record { cursor = c.start_turns.new.cursor; run = old.moves.run } old.children
    (moves_kept old.moves c.start_turns.new.cursor old.moves.run c.start_turns.ensures.capacities refl) refl in
    let level : Level g.row.G-Pos.Denot g.row.G-Many.Denot = record {
      moves = record { cursor = now.moves.cursor; run = c.gather_own.new.run };
      children = now.children;
    } in
    let turned : level_capacities g.G.Game c.args.game.now level ≡ level_capacities g.G.Game c.args.game.now now =
    level_kept g.G.Game c.args.game.now now level.moves now.children
    (moves_kept now.moves now.moves.cursor c.gather_own.new.run refl c.gather_own.ensures.capacities) refl in
    let is = c.runs.invariant.level in
    all_levels_kept c.args.levels.now c.split_at_mut-first.result.0.now c.split_at_mut-first.result.1.now
    c.runs.rest level c.index-first-0.result split.value split.front_len
    (record { moves = record { cursor = is.moves.cursor; run = c.gather_own.ensures.own.run }; children = is.children })
    (turned ∙ begun) (c.runs.invariant.kept)

pub runs-preserved : goal.runs-preserved
runs-preserved g c =
    let now = c.runs.level in
    let count = c.in_ok-best.ensures.best.seen in
    record {
      level = c.best_after.ensures.level.level;
      capacities = c.best_after.ensures.level.capacities
          ∙ level_kept g.G.Game c.args.game.now now record { cursor = now.moves.cursor; run = c.gather_own.new.run } now.children
          (moves_kept now.moves now.moves.cursor c.gather_own.new.run refl c.gather_own.ensures.capacities) refl
          ∙ c.runs.invariant.capacities;
      kept = kept_then c.runs.invariant.kept c.best_after.ensures.kept;
      deep = omega arith;
      stands = rw c.best_after.ensures.level.moves c.runs.invariant.stands;
      in_list = omega (arith, count, c.gather_own.ensures.own.within);
      is_best = rw count c.in_ok-best.ensures.best.best;
    }

pub runs-smaller : goal.runs-smaller
runs-smaller g c =
    let count = c.in_ok-best.ensures.best.seen in
    let some = c.if-level-eq0.false in
    omega (arith, count, c.gather_own.ensures.own.within)

pub returns-in_err-best-clause-kept : goal.returns-in_err-best-clause-kept
returns-in_err-best-clause-kept g c =
    let split = c.split_at_mut-first.ensures in
    let old = get_or c.split_at_mut-first.result.0.now 0 c.index-first-0.result in
    let now = c.runs.level in
    let begun : level_capacities g.G.Game c.args.game.now now ≡ level_capacities g.G.Game c.args.game.now old =
    c.runs.invariant.capacities
    ∙ level_kept g.G.Game c.args.game.now old record { cursor = c.start_turns.new.cursor; run = old.moves.run } old.children
    (moves_kept old.moves c.start_turns.new.cursor old.moves.run c.start_turns.ensures.capacities refl) refl in
    let turned = level_kept g.G.Game c.args.game.now now record { cursor = now.moves.cursor; run = c.gather_own.new.run } now.children
    (moves_kept now.moves now.moves.cursor c.gather_own.new.run refl c.gather_own.ensures.capacities) refl in
    all_levels_kept c.args.levels.now c.split_at_mut-first.result.0.now c.split_at_mut-first.result.1.now
    c.best_after.new.levels c.best_after.new.level c.index-first-0.result split.value split.front_len
    c.best_after.ensures.level.level (c.best_after.ensures.level.capacities ∙ turned ∙ begun)
    (kept_then c.runs.invariant.kept c.best_after.ensures.kept)
