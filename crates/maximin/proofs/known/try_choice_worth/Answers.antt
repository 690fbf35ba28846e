use Rattle.std.proofs.Common.{◌≡◌, ◌+◌, ◌-◌, ◌<◌, ◌≤◌, length, arith, refl, sym, ◌∙◌, ap, w16, below_more, rules as facts}
use Rattle.std.proofs.lemmas.Int.{ints, to_z-of_z}
use Rattle.std.proofs.lemmas.Option.{slice_get-get_or}
use Rattle.std.proofs.lemmas.List.Elements.{All-get_or}
use mir.Val.{SFits, of_z, to_z}
use Rattle.std.specs.Prelude.{pos, ◌<ℤ◌, ◌≤ℤ◌, Some}
use Rattle.statement.specs.Value.{value, worst}
use Rattle.maximin.proofs.Windows.{le_z_true, le_z_false}
use Rattle.maximin.proofs.Bounds.{value_at_most}
use Rattle.maximin.proofs.Best.{choice_here, choice_last}
use Rattle.maximin.proofs.Beside.{attained, missed, less_below, low_below}
use Rattle.maximin.proofs.Choices.{legal_some}
use Rattle.maximin.specs.Open.{IsOpen}
use Rattle.maximin.proofs.Values.{worst_le_value}
use Rattle.game.proofs.Facts.{legal_place, legal_count, none_past}
use Rattle.maximin.proofs.Kept.{kept_at_first, kept_then}
use Rattle.maximin.proofs.known.try_choice_worth.Goals as goal

pub returns-then-worth-eq0-clause-choice : goal.returns-then-worth-eq0-clause-choice
returns-then-worth-eq0-clause-choice g c =
    let rules = g.G.Game.rules c.args.game.now in
    let state = g.G.Game.state c.args.game.now c.args.from.now in
    let free : IsOpen rules c.args.asked.depth state = record {
      turn = c.if-asked-eq0.false;
      going = sym c.ended.ensures ∙ c.if-ended.false;
      free = sym c.is_stuck.ensures ∙ c.if-is_stuck.false;
    } in
    let some : 0 < length (rules.legal state c.args.asked.role) = legal_some rules state c.args.asked.role free.free c.requires.fit.role in
    let part = worst_le_value rules c.args.asked.role c.args.asked.depth c.args.asked.at state 0 free some in
    let nothing = c.if-worth-eq0.true in
    let known = c.requires.worth in
    sym c.in-Some.is ∙ c.legal.ensures
    ∙ sym (choice_here rules c.args.asked.role c.args.asked.depth c.args.asked.at state 0 free some (omega (arith, ints))
    (λ k lt. absurd (omega arith)))

pub returns-in_default-clause-choice : goal.returns-in_default-clause-choice
returns-in_default-clause-choice g c =
    let rules = g.G.Game.rules c.args.game.now in
    let state = g.G.Game.state c.args.game.now c.args.from.now in
    let some = legal_some rules state c.args.asked.role (sym c.is_stuck.ensures ∙ c.if-is_stuck.false) c.requires.fit.role in
    let past : length (rules.legal state c.args.asked.role) ≤ 0 = none_past (rules.legal state c.args.asked.role) 0 c.legal.result
    c.legal.ensures c.in_default.is in
    absurd (omega arith)

pub loop-further-init : goal.loop-further-init
loop-further-init g c =
    let rules = g.G.Game.rules c.args.game.now in
    let state = g.G.Game.state c.args.game.now c.args.from.now in
    let here = legal_place rules state c.args.asked.role 0 c.in-Some.first c.legal.result c.legal.ensures c.in-Some.is in
    record {
      kept = kept_at_first c.requires.fit;
      deep = refl;
      in_list = here.0;
      here = here.1;
      before = λ k lt. absurd (omega arith);
    }

pub overflow_add-place : goal.overflow_add-place
overflow_add-place g c =
    let rules = g.G.Game.rules c.args.game.now in
    let state = g.G.Game.state c.args.game.now c.args.from.now in
    let law = g.met.G.Game g.world.𝓛 g.world.𝓜 g.world.𝓡 ((λ _ x. x), (λ x. x), (λ x. x), λ x. x) in
    let few = legal_count rules state c.args.asked.role (law.legal_ascending c.args.game.now state c.args.asked.role c.requires.fit.role)
    (law.legal_within c.args.game.now state c.args.asked.role c.requires.fit.role)
    (law.moves_within c.args.game.now c.args.asked.role c.requires.fit.role) in
    omega (arith, c.loop-further.invariant.in_list)

pub overflow_add-place-in-Some-legal : goal.overflow_add-place-in-Some-legal
overflow_add-place-in-Some-legal g c =
    let rules = g.G.Game.rules c.args.game.now in
    let state = g.G.Game.state c.args.game.now c.args.from.now in
    let law = g.met.G.Game g.world.𝓛 g.world.𝓜 g.world.𝓡 ((λ _ x. x), (λ x. x), (λ x. x), λ x. x) in
    let few = legal_count rules state c.args.asked.role (law.legal_ascending c.args.game.now state c.args.asked.role c.requires.fit.role)
    (law.legal_within c.args.game.now state c.args.asked.role c.requires.fit.role)
    (law.moves_within c.args.game.now c.args.asked.role c.requires.fit.role) in
    omega (arith, c.loop-further.invariant.in_list)

pub try_worst_at-requires-clause-window : goal.try_worst_at-requires-clause-window
try_worst_at-requires-clause-window g c κs within =
    let rules = g.G.Game.rules c.args.game.now in
    let state = g.G.Game.state c.args.game.now c.args.from.now in
    let law = g.met.G.Game g.world.𝓛 g.world.𝓜 g.world.𝓡 ((λ _ x. x), (λ x. x), (λ x. x), λ x. x) in
    let few = value_at_most rules c.args.asked.role (λ s r. law.goal_within c.args.game.now s r) c.args.asked.depth c.args.asked.at state in
    let known = c.requires.worth in
    let same = to_z-of_z w16 c.args.worth c.ranges.worth in
    let whole = value rules c.args.asked.role c.args.asked.depth c.args.asked.at state in
    let is : to_z w16 (of_z w16 c.args.worth) ≡ pos whole = same ∙ known in
    record { low = low_below whole _ few is; order = less_below whole _ few is; high = omega (arith, ints) }

pub returns-then-least-worth-clause-choice : goal.returns-then-least-worth-clause-choice
returns-then-least-worth-clause-choice g c =
    let rules = g.G.Game.rules c.args.game.now in
    let state = g.G.Game.state c.args.game.now c.args.from.now in
    let legal = rules.legal state c.args.asked.role in
    let place = c.loop-further.place in
    let free : IsOpen rules c.args.asked.depth state = record {
      turn = c.if-asked-eq0.false;
      going = sym c.ended.ensures ∙ c.if-ended.false;
      free = sym c.is_stuck.ensures ∙ c.if-is_stuck.false;
    } in
    let whole = value rules c.args.asked.role c.args.asked.depth c.args.asked.at state in
    let here = worst rules c.args.asked.role (c.args.asked.depth - 1) c.args.asked.at state c.loop-further.own in
    let part : here ≤ whole = rw c.loop-further.invariant.here at
    (worst_le_value rules c.args.asked.role c.args.asked.depth c.args.asked.at state place free c.loop-further.invariant.in_list) in
    let known : to_z w16 (of_z w16 c.args.worth) ≡ pos whole = to_z-of_z w16 c.args.worth c.ranges.worth ∙ c.requires.worth in
    let fits : SFits w16 c.in_ok-least.least.worth = search facts in
    let above : to_z w16 (of_z w16 c.args.worth) ≤ℤ c.in_ok-least.least.worth = rw (← to_z-of_z w16 c.in_ok-least.least.worth fits)
    (le_z_true _ _ c.if-least-worth.true) in
    let law = g.met.G.Game g.world.𝓛 g.world.𝓜 g.world.𝓡 ((λ _ x. x), (λ x. x), (λ x. x), λ x. x) in
    let few = value_at_most rules c.args.asked.role (λ s r. law.goal_within c.args.game.now s r) c.args.asked.depth c.args.asked.at state in
    let same : here ≡ whole = attained whole here _ (to_z w16 (of_z w16 c.args.worth)) c.in_ok-least.least.worth part
    (less_below whole (to_z w16 (of_z w16 c.args.worth)) few known) known
    c.in_ok-least.ensures.answers.now above in
    sym (slice_get-get_or legal place 0 c.loop-further.invariant.in_list ∙ ap Some c.loop-further.invariant.here)
    ∙ sym (choice_here rules c.args.asked.role c.args.asked.depth c.args.asked.at state place free c.loop-further.invariant.in_list
    (rw c.loop-further.invariant.here same) c.loop-further.invariant.before)

pub loop-further-preserved : goal.loop-further-preserved
loop-further-preserved g c =
    let rules = g.G.Game.rules c.args.game.now in
    let state = g.G.Game.state c.args.game.now c.args.from.now in
    let whole = value rules c.args.asked.role c.args.asked.depth c.args.asked.at state in
    let here = worst rules c.args.asked.role (c.args.asked.depth - 1) c.args.asked.at state c.loop-further.own in
    let next = legal_place rules state c.args.asked.role (c.loop-further.place + 1) c.in-Some-legal.further c.legal-in-loop-further.result c.legal-in-loop-further.ensures c.in-Some-legal.is in
    let known : to_z w16 (of_z w16 c.args.worth) ≡ pos whole = to_z-of_z w16 c.args.worth c.ranges.worth ∙ c.requires.worth in
    let fits : SFits w16 c.in_ok-least.least.worth = search facts in
    let below : c.in_ok-least.least.worth <ℤ to_z w16 (of_z w16 c.args.worth) = rw (← to_z-of_z w16 c.in_ok-least.least.worth fits)
    (le_z_false _ _ c.if-least-worth.false) in
    let less : here < whole = missed whole here _ (to_z w16 (of_z w16 c.args.worth)) c.in_ok-least.least.worth known
    c.in_ok-least.ensures.answers.now below in
    record {
      kept = kept_then c.loop-further.invariant.kept c.try_worst_at.ensures.kept;
      deep = omega arith;
      in_list = next.0;
      here = next.1;
      before = below_more _ _ c.loop-further.invariant.before (rw c.loop-further.invariant.here less);
    }

pub returns-clause-choice : goal.returns-clause-choice
returns-clause-choice g c =
    let rules = g.G.Game.rules c.args.game.now in
    let state = g.G.Game.state c.args.game.now c.args.from.now in
    let legal = rules.legal state c.args.asked.role in
    let place = c.loop-further.place in
    let free : IsOpen rules c.args.asked.depth state = record {
      turn = c.if-asked-eq0.false;
      going = sym c.ended.ensures ∙ c.if-ended.false;
      free = sym c.is_stuck.ensures ∙ c.if-is_stuck.false;
    } in
    let last : length legal ≤ place + 1 = none_past legal (place + 1) c.legal-in-loop-further.result c.legal-in-loop-further.ensures c.in_default-legal.is in
    sym (slice_get-get_or legal place 0 c.loop-further.invariant.in_list ∙ ap Some c.loop-further.invariant.here)
    ∙ sym (choice_last rules c.args.asked.role c.args.asked.depth c.args.asked.at state place free c.requires.fit.role c.loop-further.invariant.in_list
    last c.loop-further.invariant.before)

pub returns-then-least-worth-clause-kept : goal.returns-then-least-worth-clause-kept
returns-then-least-worth-clause-kept g c = kept_then c.loop-further.invariant.kept c.try_worst_at.ensures.kept

pub returns-in_err-least-clause-kept : goal.returns-in_err-least-clause-kept
returns-in_err-least-clause-kept g c = kept_then c.loop-further.invariant.kept c.try_worst_at.ensures.kept

pub try_worst_at-requires-clause-own : goal.try_worst_at-requires-clause-own
try_worst_at-requires-clause-own g c κs within =
    let rules = g.G.Game.rules c.args.game.now in
    let state = g.G.Game.state c.args.game.now c.args.from.now in
    let law = g.met.G.Game g.world.𝓛 g.world.𝓜 g.world.𝓡 ((λ _ x. x), (λ x. x), (λ x. x), λ x. x) in
    rw c.loop-further.invariant.here at (All-get_or (λ m. m < rules.moves c.args.asked.role) (rules.legal state c.args.asked.role) c.loop-further.place 0
    c.loop-further.invariant.in_list (law.legal_within c.args.game.now state c.args.asked.role c.requires.fit.role))
