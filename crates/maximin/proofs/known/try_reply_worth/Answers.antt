use Rattle.std.proofs.Common.{◌≡◌, ℕ, ◌+◌, ◌<◌, ◌≤◌, List, arith, refl, sym, ap, get_or, ◌∙◌, w16, rules as facts}
use Rattle.std.proofs.lemmas.Int.{to_z-of_z}
use mir.Val.{SFits, of_z, to_z}
use Rattle.std.specs.Prelude.{pos, ◌<ℤ◌, ◌≤ℤ◌}
use Rattle.statement.specs.Rules.{choices, turns_with}
use Rattle.statement.specs.Value.{value, worst}
use Rattle.maximin.specs.declared.level.Level.{Level}
use Rattle.maximin.specs.Turns.{later}
use Rattle.maximin.specs.Level.{level_capacities}
use Rattle.maximin.proofs.Values.{turn_known}
use Rattle.maximin.proofs.Bounds.{worst_at_most}
use Rattle.maximin.proofs.Windows.{le_z_true, le_z_false}
use Rattle.maximin.proofs.Kept.{kept_then, all_levels_kept, children_kept, level_kept, moves_kept}
use Rattle.maximin.proofs.Beside.{fits_above, more_above, kept_to, passed, ahead_next, ahead_found}
use Rattle.maximin.proofs.Reply.{least_worth, first_least}
use Rattle.maximin.proofs.known.try_reply_worth.Goals as goal

pub turns-init : goal.turns-init
turns-init g c =
    let rules = g.G.Game.rules c.args.game.now in
    let state = g.G.Game.state c.args.game.now c.args.from.now in
    let worth : List ℕ → ℕ = λ j. value rules c.args.asked.role c.args.asked.depth c.args.asked.at (rules.after state j) in
    let all = worst rules c.args.asked.role c.args.asked.depth c.args.asked.at state c.args.known.own in
    let first = c.requires.fit.levels 0 c.index-first-0.result (omega arith) in
    let there = c.split_at_mut-first.ensures.by_index.0 0 c.index-first-0.result (omega arith) in
    record {
      level = record {
        moves = record { cursor = c.start_turns.ensures.cursor; run = rw there first.moves.run };
        children = rw there first.children;
      };
      capacities = refl;
      kept = record {
        wide = c.requires.fit.wide;
        memory = c.requires.fit.memory;
        levels = λ k d below. rw (c.split_at_mut-first.ensures.by_index.1 k d) (c.requires.fit.levels (1 + k) d (omega arith));
        of_tools = refl;
        of_levels = refl;
      };
      deep = omega arith;
      capacity = refl;
      stands = c.start_turns.ensures.stands;
      is_ahead = record {
        reached = sym (ap (least_worth worth) c.start_turns.ensures.first);
        ahead = ap (first_least worth all) c.start_turns.ensures.first;
      };
    }

pub step-requires-clause-joint : goal.step-requires-clause-joint
step-requires-clause-joint g c =
    let rules = g.G.Game.rules c.args.game.now in
    let state = g.G.Game.state c.args.game.now c.args.from.now in
    let law = g.met.G.Game g.world.𝓛 g.world.𝓜 g.world.𝓡 ((λ _ x. x), (λ x. x), (λ x. x), λ x. x) in
    rw c.write_joint.ensures.items (turn_known rules state c.args.asked.role c.args.known.own c.turns.level.moves.cursor.places.items
    c.turns.level.moves.cursor.joint.items c.turns.invariant.stands c.requires.own
    (λ q below. law.legal_within c.args.game.now state q below))

pub overflow_add-window : goal.overflow_add-window
overflow_add-window g c =
    let rules = g.G.Game.rules c.args.game.now in
    let state = g.G.Game.state c.args.game.now c.args.from.now in
    let law = g.met.G.Game g.world.𝓛 g.world.𝓜 g.world.𝓡 ((λ _ x. x), (λ x. x), (λ x. x), λ x. x) in
    let few = worst_at_most rules c.args.asked.role (λ s r. law.goal_within c.args.game.now s r) c.args.asked.depth c.args.asked.at state c.args.known.own
    in
    let known = to_z-of_z w16 c.args.known.worth (search facts) ∙ c.requires.worth in
    fits_above (worst rules c.args.asked.role c.args.asked.depth c.args.asked.at state c.args.known.own) (to_z w16 (of_z w16 c.args.known.worth)) few known

pub try_value_within-requires-clause-order : goal.try_value_within-requires-clause-order
try_value_within-requires-clause-order g c κs within =
    let rules = g.G.Game.rules c.args.game.now in
    let state = g.G.Game.state c.args.game.now c.args.from.now in
    let law = g.met.G.Game g.world.𝓛 g.world.𝓜 g.world.𝓡 ((λ _ x. x), (λ x. x), (λ x. x), λ x. x) in
    let few = worst_at_most rules c.args.asked.role (λ s r. law.goal_within c.args.game.now s r) c.args.asked.depth c.args.asked.at state c.args.known.own
    in
    let known = to_z-of_z w16 c.args.known.worth (search facts) ∙ c.requires.worth in
    more_above (worst rules c.args.asked.role c.args.asked.depth c.args.asked.at state c.args.known.own) (to_z w16 (of_z w16 c.args.known.worth)) few known

pub returns-then-value-known-clause-reply : goal.returns-then-value-known-clause-reply
returns-then-value-known-clause-reply g c =
    let rules = g.G.Game.rules c.args.game.now in
    let state = g.G.Game.state c.args.game.now c.args.from.now in
    let lists = choices rules state c.args.asked.role c.args.known.own in
    let worth : List ℕ → ℕ = λ j. value rules c.args.asked.role c.args.asked.depth c.args.asked.at (rules.after state j) in
    let all = worst rules c.args.asked.role c.args.asked.depth c.args.asked.at state c.args.known.own in
    let joint = c.turns.level.moves.cursor.joint.items in
    let behind = later lists c.turns.level.moves.cursor.places.items in
    let known : to_z w16 (of_z w16 c.args.known.worth) ≡ pos all = to_z-of_z w16 c.args.known.worth (search facts) ∙ c.requires.worth in
    let fits : SFits w16 c.in_ok-value.value = search facts in
    let answers = rw (c.step.ensures.after, c.write_joint.ensures.items) at c.in_ok-value.ensures.answers in
    let below : c.in_ok-value.value ≤ℤ to_z w16 (of_z w16 c.args.known.worth) = rw (← to_z-of_z w16 c.in_ok-value.value fits)
    (le_z_true _ _ c.if-value-known.true) in
    let law = g.met.G.Game g.world.𝓛 g.world.𝓜 g.world.𝓡 ((λ _ x. x), (λ x. x), (λ x. x), λ x. x) in
    let few = worst_at_most rules c.args.asked.role (λ s r. law.goal_within c.args.game.now s r) c.args.asked.depth c.args.asked.at state c.args.known.own
    in
    let less : worth joint ≤ all = kept_to all (worth joint) (to_z w16 (of_z w16 c.args.known.worth)) _ c.in_ok-value.value
    (more_above all (to_z w16 (of_z w16 c.args.known.worth)) few known) known answers below in
    record {
      turn = rw c.write_joint.ensures.items (ahead_found worth (turns_with rules state c.args.asked.role c.args.known.own) all joint behind less
          c.turns.invariant.is_ahead);
      capacity = c.write_joint.ensures.capacity ∙ c.turns.invariant.capacity;
    }

pub turns-preserved : goal.turns-preserved
turns-preserved g c =
    let rules = g.G.Game.rules c.args.game.now in
    let state = g.G.Game.state c.args.game.now c.args.from.now in
    let lists = choices rules state c.args.asked.role c.args.known.own in
    let worth : List ℕ → ℕ = λ j. value rules c.args.asked.role c.args.asked.depth c.args.asked.at (rules.after state j) in
    let all = worst rules c.args.asked.role c.args.asked.depth c.args.asked.at state c.args.known.own in
    let joint = c.turns.level.moves.cursor.joint.items in
    let behind = later lists c.turns.level.moves.cursor.places.items in
    let known : to_z w16 (of_z w16 c.args.known.worth) ≡ pos all = to_z-of_z w16 c.args.known.worth (search facts) ∙ c.requires.worth in
    let fits : SFits w16 c.in_ok-value.value = search facts in
    let answers = rw (c.step.ensures.after, c.write_joint.ensures.items) at c.in_ok-value.ensures.answers in
    let above : to_z w16 (of_z w16 c.args.known.worth) <ℤ c.in_ok-value.value = rw (← to_z-of_z w16 c.in_ok-value.value fits)
    (le_z_false _ _ c.if-value-known.false) in
    let more : all < worth joint = passed all (worth joint) (to_z w16 (of_z w16 c.args.known.worth)) _ c.in_ok-value.value known answers above in
    let now = c.turns.level in
    record {
      level = record {
        moves = record { cursor = c.next_turn.ensures.cursor; run = c.turns.invariant.level.moves.run };
        children = record { many = c.turns.invariant.level.children.many; position = c.step.ensures.fits };
      };
      capacities = level_kept g.G.Game c.args.game.now now record { cursor = c.next_turn.new.cursor; run = now.moves.run }
          record { many = now.children.many; position = c.step.new.q; ahead = now.children.ahead; hashes = now.children.hashes }
          (moves_kept now.moves c.next_turn.new.cursor now.moves.run c.next_turn.ensures.capacities refl)
          (children_kept g.G.Game c.args.game.now c.step.new.q now.children.position now.children.many now.children.many
          c.step.ensures.capacities refl)
          ∙ c.turns.invariant.capacities;
      kept = kept_then c.turns.invariant.kept c.try_value_within.ensures.kept;
      deep = omega arith;
      capacity = c.write_joint.ensures.capacity ∙ c.turns.invariant.capacity;
      stands = c.if-not-next_turn.ensures.next.stands;
      is_ahead = ahead_next worth (turns_with rules state c.args.asked.role c.args.known.own) all joint c.next_turn.new.cursor.joint.items behind
          (later lists c.next_turn.new.cursor.places.items) c.if-not-next_turn.ensures.next.next more c.turns.invariant.is_ahead;
    }

pub returns-then-not-next_turn-clause-kept : goal.returns-then-not-next_turn-clause-kept
returns-then-not-next_turn-clause-kept g c =
    let split = c.split_at_mut-first.ensures in
    let old = get_or c.split_at_mut-first.result.0.now 0 c.index-first-0.result in
    let now = c.turns.level in
    let begun : level_capacities g.G.Game c.args.game.now now ≡ level_capacities g.G.Game c.args.game.now old =
    c.turns.invariant.capacities
    ∙ level_kept g.G.Game c.args.game.now old record { cursor = c.start_turns.new.cursor; run = old.moves.run } old.children
    (moves_kept old.moves c.start_turns.new.cursor old.moves.run c.start_turns.ensures.capacities refl) refl in
    let level : Level g.row.G-Pos.Denot g.row.G-Many.Denot = record {
      moves = record { cursor = c.next_turn.new.cursor; run = now.moves.run };
      children = now.children;
    } in
    let turned : level_capacities g.G.Game c.args.game.now level ≡ level_capacities g.G.Game c.args.game.now now =
    level_kept g.G.Game c.args.game.now now level.moves now.children
    (moves_kept now.moves c.next_turn.new.cursor now.moves.run c.next_turn.ensures.capacities refl) refl in
    let is = c.turns.invariant.level in
    all_levels_kept c.args.levels.now c.split_at_mut-first.result.0.now c.split_at_mut-first.result.1.now
    c.turns.rest level c.index-first-0.result split.value split.front_len
    (record { moves = record { cursor = c.next_turn.ensures.cursor; run = is.moves.run }; children = is.children })
    (turned ∙ begun) (c.turns.invariant.kept)

pub returns-then-value-known-clause-kept : goal.returns-then-value-known-clause-kept
returns-then-value-known-clause-kept g c =
    let split = c.split_at_mut-first.ensures in
    let old = get_or c.split_at_mut-first.result.0.now 0 c.index-first-0.result in
    let now = c.turns.level in
    let begun : level_capacities g.G.Game c.args.game.now now ≡ level_capacities g.G.Game c.args.game.now old =
    c.turns.invariant.capacities
    ∙ level_kept g.G.Game c.args.game.now old record { cursor = c.start_turns.new.cursor; run = old.moves.run } old.children
    (moves_kept old.moves c.start_turns.new.cursor old.moves.run c.start_turns.ensures.capacities refl) refl in
    let level : Level g.row.G-Pos.Denot g.row.G-Many.Denot = record {
      moves = record { cursor = c.next_turn.new.cursor; run = now.moves.run };
      children = record { many = now.children.many; position = c.step.new.q; ahead = now.children.ahead; hashes = now.children.hashes };
    } in
    let turned : level_capacities g.G.Game c.args.game.now level ≡ level_capacities g.G.Game c.args.game.now now =
    level_kept g.G.Game c.args.game.now now level.moves level.children
    (moves_kept now.moves c.next_turn.new.cursor now.moves.run c.next_turn.ensures.capacities refl)
    (children_kept g.G.Game c.args.game.now c.step.new.q now.children.position now.children.many now.children.many
    c.step.ensures.capacities refl) in
    let is = c.turns.invariant.level in
    all_levels_kept c.args.levels.now c.split_at_mut-first.result.0.now c.split_at_mut-first.result.1.now
    c.try_value_within.new.levels level c.index-first-0.result split.value split.front_len
    record {
      moves = record { cursor = c.next_turn.ensures.cursor; run = is.moves.run };
      children = record { many = is.children.many; position = c.step.ensures.fits };
    }
    (turned ∙ begun) (kept_then c.turns.invariant.kept c.try_value_within.ensures.kept)

pub returns-in_err-value-clause-kept : goal.returns-in_err-value-clause-kept
returns-in_err-value-clause-kept g c =
    let split = c.split_at_mut-first.ensures in
    let old = get_or c.split_at_mut-first.result.0.now 0 c.index-first-0.result in
    let now = c.turns.level in
    let begun : level_capacities g.G.Game c.args.game.now now ≡ level_capacities g.G.Game c.args.game.now old =
    c.turns.invariant.capacities
    ∙ level_kept g.G.Game c.args.game.now old record { cursor = c.start_turns.new.cursor; run = old.moves.run } old.children
    (moves_kept old.moves c.start_turns.new.cursor old.moves.run c.start_turns.ensures.capacities refl) refl in
    let level : Level g.row.G-Pos.Denot g.row.G-Many.Denot = record {
      moves = record { cursor = c.next_turn.new.cursor; run = now.moves.run };
      children = record { many = now.children.many; position = c.step.new.q; ahead = now.children.ahead; hashes = now.children.hashes };
    } in
    let turned : level_capacities g.G.Game c.args.game.now level ≡ level_capacities g.G.Game c.args.game.now now =
    level_kept g.G.Game c.args.game.now now level.moves level.children
    (moves_kept now.moves c.next_turn.new.cursor now.moves.run c.next_turn.ensures.capacities refl)
    (children_kept g.G.Game c.args.game.now c.step.new.q now.children.position now.children.many now.children.many
    c.step.ensures.capacities refl) in
    let is = c.turns.invariant.level in
    all_levels_kept c.args.levels.now c.split_at_mut-first.result.0.now c.split_at_mut-first.result.1.now
    c.try_value_within.new.levels level c.index-first-0.result split.value split.front_len
    record {
      moves = record { cursor = c.next_turn.ensures.cursor; run = is.moves.run };
      children = record { many = is.children.many; position = c.step.ensures.fits };
    }
    (turned ∙ begun) (kept_then c.turns.invariant.kept c.try_value_within.ensures.kept)

pub returns-then-not-next_turn-clause-capacity : goal.returns-then-not-next_turn-clause-capacity
returns-then-not-next_turn-clause-capacity g c = c.write_joint.ensures.capacity ∙ c.turns.invariant.capacity

pub returns-then-value-known-clause-capacity : goal.returns-then-value-known-clause-capacity
returns-then-value-known-clause-capacity g c = c.write_joint.ensures.capacity ∙ c.turns.invariant.capacity

pub returns-in_err-value-clause-capacity : goal.returns-in_err-value-clause-capacity
returns-in_err-value-clause-capacity g c = c.write_joint.ensures.capacity ∙ c.turns.invariant.capacity
