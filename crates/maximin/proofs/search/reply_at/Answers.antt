use Rattle.std.proofs.Common.{◌≡◌, ℕ, ◌+◌, ◌∷◌, List, get_or, arith, refl, ◌∙◌, w16, rules as facts}
use Rattle.std.proofs.lemmas.Int.{to_z-of_z}
use mir.Val.{SFits, to_z}
use Rattle.std.specs.Prelude.{negsuc}
use Rattle.statement.specs.Rules.{choices, turns_with}
use Rattle.game.specs.Value.{Answers}
use Rattle.statement.specs.Value.{value, worst}
use Rattle.maximin.specs.declared.level.Level.{Level}
use Rattle.maximin.specs.Turns.{later}
use Rattle.maximin.specs.Level.{level_capacities}
use Rattle.maximin.proofs.Values.{turn_known}
use Rattle.maximin.proofs.Bounds.{worst_at_most}
use Rattle.maximin.proofs.Windows.{lt_z_true, lt_z_false}
use Rattle.maximin.proofs.Kept.{kept_then, all_levels_kept, children_kept, level_kept, moves_kept}
use Rattle.maximin.proofs.Reply.{IsFirstAt, first_start, first_lowered, first_kept, first_next, first_end}
use Rattle.maximin.proofs.search.reply_at.Goals as goal
use Rattle.maximin.proofs.search.reply_at.Goals.{then-worth-upper, else-worth-upper}

pub loop-upper-init : goal.loop-upper-init
loop-upper-init g c =
    let rules = g.G.Game.rules c.args.game.now in
    let state = g.G.Game.state c.args.game.now c.args.from.now in
    let lists = choices rules state c.args.asked.role c.args.own in
    let worth : List ℕ → ℕ = λ j. value rules c.args.asked.role c.args.asked.depth c.args.asked.at (rules.after state j) in
    let all = worst rules c.args.asked.role c.args.asked.depth c.args.asked.at state c.args.own in
    let turns = turns_with rules state c.args.asked.role c.args.own in
    let law = g.met.G.Game g.world.𝓛 g.world.𝓜 g.world.𝓡 ((λ _ x. x), (λ x. x), (λ x. x), λ x. x) in
    let first = c.requires.fit.levels 0 c.index-first-0.result (omega arith) in
    let there = c.split_at_mut-first.ensures.by_index.0 0 c.index-first-0.result (omega arith) in
    record {
      level = record {
        moves = record { cursor = c.start_turns.ensures.cursor; run = rw there first.moves.run };
        children = rw there first.children;
      };
      capacities = refl;
      kept = record {
        wide = c.requires.fit.wide;
        memory = c.requires.fit.memory;
        levels = λ k d below. rw (c.split_at_mut-first.ensures.by_index.1 k d) (c.requires.fit.levels (1 + k) d (omega arith));
        of_tools = refl;
        of_levels = refl;
      };
      deep = omega arith;
      capacity = refl;
      stands = c.start_turns.ensures.stands;
      is_first = first_start worth turns all (c.start_turns.new.cursor.joint.items ∷ later lists c.start_turns.new.cursor.places.items)
          c.args.out.now.items c.start_turns.ensures.first refl
          (worst_at_most rules c.args.asked.role (λ s r. law.goal_within c.args.game.now s r) c.args.asked.depth c.args.asked.at state c.args.own);
    }

pub step-requires-clause-joint : goal.step-requires-clause-joint
step-requires-clause-joint g c =
    let rules = g.G.Game.rules c.args.game.now in
    let state = g.G.Game.state c.args.game.now c.args.from.now in
    let law = g.met.G.Game g.world.𝓛 g.world.𝓜 g.world.𝓡 ((λ _ x. x), (λ x. x), (λ x. x), λ x. x) in
    turn_known rules state c.args.asked.role c.args.own c.loop-upper.level.moves.cursor.places.items c.loop-upper.level.moves.cursor.joint.items
    c.loop-upper.invariant.stands c.requires.own
    (λ q below. law.legal_within c.args.game.now state q below)

pub returns-then-not-next_turn-clause-reply : goal.returns-then-not-next_turn-clause-reply
returns-then-not-next_turn-clause-reply g c =
    let rules = g.G.Game.rules c.args.game.now in
    let state = g.G.Game.state c.args.game.now c.args.from.now in
    let lists = choices rules state c.args.asked.role c.args.own in
    let worth : List ℕ → ℕ = λ j. value rules c.args.asked.role c.args.asked.depth c.args.asked.at (rules.after state j) in
    let all = worst rules c.args.asked.role c.args.asked.depth c.args.asked.at state c.args.own in
    let turns = turns_with rules state c.args.asked.role c.args.own in
    let joint = c.loop-upper.level.moves.cursor.joint.items in
    let behind = later lists c.loop-upper.level.moves.cursor.places.items in
    let upper = to_z w16 c.loop-upper.upper-bits in
    let r = c.known_at-worth.result in
    let fits : SFits w16 r = search facts in
    let same = to_z-of_z w16 r fits in
    let answers : Answers (worth joint) (negsuc 0) upper r = rw c.step.ensures.after at c.known_at-worth.ensures.answers in
    let at : IsFirstAt worth turns all joint behind (to_z w16 c.if-worth-upper.upper-bits) c.if-worth-upper.out.items =
    elim c.if-worth-upper.branch [
      | then-worth-upper w ↦
          rw (w.upper-is, same, w.out-is, w.write_joint.ensures.items)
          (first_lowered worth turns all joint behind upper r c.loop-upper.out.items answers (rw same at (lt_z_true _ upper w.if-worth-upper.true))
          c.loop-upper.invariant.is_first)
      | else-worth-upper w ↦
          rw (w.upper-is, w.out-is)
          (first_kept worth turns all joint behind upper r c.loop-upper.out.items answers (rw same at (lt_z_false _ upper w.if-worth-upper.false))
          c.loop-upper.invariant.is_first)
    ] in
    record {
      turn = first_end worth turns all joint behind (to_z w16 c.if-worth-upper.upper-bits) c.if-worth-upper.out.items c.if-not-next_turn.ensures.next.none at;
      capacity = elim c.if-worth-upper.branch [
        | then-worth-upper w ↦ rw w.out-is (w.write_joint.ensures.capacity ∙ c.loop-upper.invariant.capacity)
        | else-worth-upper w ↦ rw w.out-is c.loop-upper.invariant.capacity
      ];
    }

pub loop-upper-preserved : goal.loop-upper-preserved
loop-upper-preserved g c =
    let rules = g.G.Game.rules c.args.game.now in
    let state = g.G.Game.state c.args.game.now c.args.from.now in
    let lists = choices rules state c.args.asked.role c.args.own in
    let worth : List ℕ → ℕ = λ j. value rules c.args.asked.role c.args.asked.depth c.args.asked.at (rules.after state j) in
    let all = worst rules c.args.asked.role c.args.asked.depth c.args.asked.at state c.args.own in
    let turns = turns_with rules state c.args.asked.role c.args.own in
    let joint = c.loop-upper.level.moves.cursor.joint.items in
    let behind = later lists c.loop-upper.level.moves.cursor.places.items in
    let upper = to_z w16 c.loop-upper.upper-bits in
    let r = c.known_at-worth.result in
    let fits : SFits w16 r = search facts in
    let same = to_z-of_z w16 r fits in
    let answers : Answers (worth joint) (negsuc 0) upper r = rw c.step.ensures.after at c.known_at-worth.ensures.answers in
    let at : IsFirstAt worth turns all joint behind (to_z w16 c.if-worth-upper.upper-bits) c.if-worth-upper.out.items =
    elim c.if-worth-upper.branch [
      | then-worth-upper w ↦
          rw (w.upper-is, same, w.out-is, w.write_joint.ensures.items)
          (first_lowered worth turns all joint behind upper r c.loop-upper.out.items answers (rw same at (lt_z_true _ upper w.if-worth-upper.true))
          c.loop-upper.invariant.is_first)
      | else-worth-upper w ↦
          rw (w.upper-is, w.out-is)
          (first_kept worth turns all joint behind upper r c.loop-upper.out.items answers (rw same at (lt_z_false _ upper w.if-worth-upper.false))
          c.loop-upper.invariant.is_first)
    ] in
    let now = c.loop-upper.level in
    record {
      level = record {
        moves = record { cursor = c.next_turn.ensures.cursor; run = c.loop-upper.invariant.level.moves.run };
        children = record { many = c.loop-upper.invariant.level.children.many; position = c.step.ensures.fits };
      };
      capacities = level_kept g.G.Game c.args.game.now now record { cursor = c.next_turn.new.cursor; run = now.moves.run }
          record { many = now.children.many; position = c.step.new.q; ahead = now.children.ahead; hashes = now.children.hashes }
          (moves_kept now.moves c.next_turn.new.cursor now.moves.run c.next_turn.ensures.capacities refl)
          (children_kept g.G.Game c.args.game.now c.step.new.q now.children.position now.children.many now.children.many
          c.step.ensures.capacities refl)
          ∙ c.loop-upper.invariant.capacities;
      kept = kept_then c.loop-upper.invariant.kept c.known_at-worth.ensures.kept;
      deep = omega arith;
      capacity = elim c.if-worth-upper.branch [
        | then-worth-upper w ↦ rw w.out-is (w.write_joint.ensures.capacity ∙ c.loop-upper.invariant.capacity)
        | else-worth-upper w ↦ rw w.out-is c.loop-upper.invariant.capacity
      ];
      stands = c.if-not-next_turn.ensures.next.stands;
      is_first = first_next worth turns all joint behind (to_z w16 c.if-worth-upper.upper-bits) c.if-worth-upper.out.items
          c.next_turn.new.cursor.joint.items (later lists c.next_turn.new.cursor.places.items) c.if-not-next_turn.ensures.next.next at;
    }

pub returns-then-not-next_turn-clause-kept : goal.returns-then-not-next_turn-clause-kept
returns-then-not-next_turn-clause-kept g c =
    let split = c.split_at_mut-first.ensures in
    let old = get_or c.split_at_mut-first.result.0.now 0 c.index-first-0.result in
    let now = c.loop-upper.level in
    let begun : level_capacities g.G.Game c.args.game.now now ≡ level_capacities g.G.Game c.args.game.now old =
    c.loop-upper.invariant.capacities
    ∙ level_kept g.G.Game c.args.game.now old record { cursor = c.start_turns.new.cursor; run = old.moves.run } old.children
    (moves_kept old.moves c.start_turns.new.cursor old.moves.run c.start_turns.ensures.capacities refl) refl in
    let level : Level g.row.G-Pos.Denot g.row.G-Many.Denot = record {
      moves = record { cursor = c.next_turn.new.cursor; run = now.moves.run };
      children = record { many = now.children.many; position = c.step.new.q; ahead = now.children.ahead; hashes = now.children.hashes };
    } in
    let turned : level_capacities g.G.Game c.args.game.now level ≡ level_capacities g.G.Game c.args.game.now now =
    level_kept g.G.Game c.args.game.now now level.moves level.children
    (moves_kept now.moves c.next_turn.new.cursor now.moves.run c.next_turn.ensures.capacities refl)
    (children_kept g.G.Game c.args.game.now c.step.new.q now.children.position now.children.many now.children.many
    c.step.ensures.capacities refl) in
    let is = c.loop-upper.invariant.level in
    all_levels_kept c.args.levels.now c.split_at_mut-first.result.0.now c.split_at_mut-first.result.1.now
    c.known_at-worth.new.levels level c.index-first-0.result split.value split.front_len
    record {
      moves = record { cursor = c.next_turn.ensures.cursor; run = is.moves.run };
      children = record { many = is.children.many; position = c.step.ensures.fits };
    }
    (turned ∙ begun) (kept_then c.loop-upper.invariant.kept c.known_at-worth.ensures.kept)
