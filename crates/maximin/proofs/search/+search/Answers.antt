use Rattle.std.proofs.Common.{
  ◌≡◌,
  true,
  ℕ,
  ◌+◌,
  ◌-◌,
  ◌<◌,
  ◌≤◌,
  length,
  [],
  ◌∷◌,
  List,
  take,
  drop,
  get_or,
  arith,
  sym,
  ◌∙◌,
  ap,
  subst,
  w16,
  min,
  refl,
  rules as facts,
  below_more,
}
use Rattle.std.proofs.Math.ListN.{set}
use Rattle.std.proofs.lemmas.List.Sorted.{IsPermutation-trans}
use Rattle.std.specs.List.{range_with_len}
use Rattle.std.specs.List.Sorted.{IsPermutation}
use Rattle.std.proofs.lemmas.Int.{ints, clamps, to_z-of_z}
use Rattle.std.proofs.lemmas.List.{length-map}
use Rattle.std.proofs.lemmas.Result.{IfOk-weaker}
use mir.Val.{SFits, of_z, to_z}
use Rattle.std.specs.Prelude.{ℤ, pos, ◌≤ℤ◌, map}
use Rattle.std.specs.Int.{int_min, int_max}
use Rattle.smallvec.specs.SmallVec.{SmallVec}
use Rattle.statement.specs.Rules.{State, Turn, choices, IsTurn}
use Rattle.game.specs.Value.{Answers}
use Rattle.statement.specs.Value.{value, worst, least, greatest}
use Rattle.maximin.specs.declared.level.Level.{Level}
use Rattle.maximin.specs.Turns.{later}
use Rattle.maximin.specs.Run.{turns_in}
use Rattle.maximin.specs.Level.{level_capacities}
use Rattle.maximin.proofs.Windows.{
  raised_most,
  raised_seen,
  raised_now,
  raised_above,
  cut_above,
  lowered_least,
  lowered_most,
  lowered_end,
  lowered_seen,
  lowered_now,
  exact,
  cut_below,
  start_least,
  start_most,
  lowered_below,
  le_z_true,
  le_z_false,
}
use Rattle.maximin.proofs.Orders.{place_within, all_places}
use Rattle.maximin.proofs.Choices.{legal_some}
use Rattle.maximin.proofs.OwnTurns.{alone_worst, own_worths, run_seen, run_most, run_end, greatest_worth_above, greatest_worth_reached, map_part}
use Rattle.maximin.specs.Open.{IsOpen}
use Rattle.maximin.proofs.Values.{turn_known, worst_le_value, value_reached, value_ended, value_stuck, value_at_bound}
use Rattle.maximin.proofs.Bounds.{value_at_most}
use Rattle.maximin.proofs.Kept.{kept_at_first, kept_then, memory_kept, all_levels_kept, level_kept, moves_kept, same_states_then}
use Rattle.maximin.proofs.LeftWindows.{narrow_window, higher_yet}
use Rattle.maximin.specs.Answer.{IsUpperBound}
use Rattle.maximin.proofs.Lasting.{lesser_later, both_true, cut_later, raised_later, exact_later, always, open_answer, upper_answer, settled_answer, widened_answer}
use Rattle.maximin.proofs.Runs.{
  known_each,
  steps_of,
  some_taken,
  worths_after,
  least_worth_below,
  least_worth_reached,
  least_behind,
  least_of_run,
  fewer_behind,
}
use Rattle.game.proofs.Facts.{legal_known, legal_place, legal_count, none_past}
use Rattle.maximin.proofs.search.+search.Goals as goal
use Rattle.maximin.proofs.search.+search.Goals.{try_worst_at-then-upper-window-via-then-upper-window, try_worst_at-then-upper-window-via-else-upper-window+then-not-more}

pub value_at-try_worst_at-requires-clause-own : goal.value_at-try_worst_at-requires-clause-own
value_at-try_worst_at-requires-clause-own g t c κs within =
    let rules = g.G.Game.rules c.args.game.now in
    let state = g.G.Game.state c.args.game.now c.args.from.now in
    let legal = rules.legal state c.args.asked.role in
    let law = g.met.G.Game g.world.𝓛 g.world.𝓜 g.world.𝓡 ((λ _ x. x), (λ x. x), (λ x. x), λ x. x) in
    legal_known rules state c.args.asked.role c.loop-own.place c.in-Some.own c.legal.result
    (law.legal_within c.args.game.now state c.args.asked.role c.requires.fit.role) c.legal.ensures c.in-Some.is

pub value_at-returns-then-best-window-clause-answers : goal.value_at-returns-then-best-window-clause-answers
value_at-returns-then-best-window-clause-answers g t c =
    let rules = g.G.Game.rules c.args.game.now in
    let state = g.G.Game.state c.args.game.now c.args.from.now in
    let legal = rules.legal state c.args.asked.role in
    let free : IsOpen rules c.args.asked.depth state = record {
      turn = c.if-asked-eq0.false;
      going = sym c.ended.ensures ∙ c.if-ended.false;
      free = sym c.is_stuck.ensures ∙ c.if-is_stuck.false;
    } in
    let here = legal_place rules state c.args.asked.role c.loop-own.place c.in-Some.own c.legal.result c.legal.ensures c.in-Some.is in
    let a = c.args.window.low in
    let ea : to_z w16 (of_z w16 a) ≡ a = to_z-of_z w16 a (search facts) in
    let b = c.args.window.high in
    let eb : to_z w16 (of_z w16 b) ≡ b = to_z-of_z w16 b (search facts) in
    let r = c.in_ok-worst.worst.worth in
    let best = to_z w16 c.loop-own.best-bits in
    let fits_r : SFits w16 r = search facts in
    let fits_m : SFits w16 c.max-best.result = search facts in
    let raised : to_z w16 (of_z w16 c.max-best.result) ≡ int_max best r =
    to_z-of_z w16 c.max-best.result fits_m ∙ c.max-best.ensures.value ∙ ap (λ z. int_max best z) (to_z-of_z w16 r fits_r) in
    let most : int_max best r ≤ℤ int_max (pos (value rules c.args.asked.role c.args.asked.depth c.args.asked.at state)) a =
    raised_most (value rules c.args.asked.role c.args.asked.depth c.args.asked.at state)
    (worst rules c.args.asked.role (c.args.asked.depth - 1) c.args.asked.at state c.in-Some.own) a b best r
    (rw here.1 at (worst_le_value rules c.args.asked.role c.args.asked.depth c.args.asked.at state c.loop-own.place free here.0))
    c.loop-own.invariant.at_most (rw eb at c.in_ok-worst.ensures.answers.now) in
    let cut : b ≤ℤ int_max best r = rw (raised, eb) at (le_z_true (to_z w16 (of_z w16 b)) (to_z w16 (of_z w16 c.max-best.result)) c.if-best-window.true) in
    rw raised record {
      now = cut_above (value rules c.args.asked.role c.args.asked.depth c.args.asked.at state) a b (int_max best r) cut most;
      later = λ lasts d more. cut_later (value rules c.args.asked.role d c.args.asked.at state) b (int_max best r) cut;
    }

pub value_at-overflow_add-place : goal.value_at-overflow_add-place
value_at-overflow_add-place g t c =
    let rules = g.G.Game.rules c.args.game.now in
    let state = g.G.Game.state c.args.game.now c.args.from.now in
    let legal = rules.legal state c.args.asked.role in
    let here = legal_place rules state c.args.asked.role c.loop-own.place c.in-Some.own c.legal.result c.legal.ensures c.in-Some.is in
    let law = g.met.G.Game g.world.𝓛 g.world.𝓜 g.world.𝓡 ((λ _ x. x), (λ x. x), (λ x. x), λ x. x) in
    let few = legal_count rules state c.args.asked.role (law.legal_ascending c.args.game.now state c.args.asked.role c.requires.fit.role)
    (law.legal_within c.args.game.now state c.args.asked.role c.requires.fit.role)
    (law.moves_within c.args.game.now c.args.asked.role c.requires.fit.role) in
    omega (arith, here.0)

pub value_at-loop-own-smaller : goal.value_at-loop-own-smaller
value_at-loop-own-smaller g t c =
    let rules = g.G.Game.rules c.args.game.now in
    let state = g.G.Game.state c.args.game.now c.args.from.now in
    let legal = rules.legal state c.args.asked.role in
    let here = legal_place rules state c.args.asked.role c.loop-own.place c.in-Some.own c.legal.result c.legal.ensures c.in-Some.is in
    let inside : c.loop-own.place < length legal = here.0 in
    omega arith

pub value_at-loop-own-preserved : goal.value_at-loop-own-preserved
value_at-loop-own-preserved g t c =
    let rules = g.G.Game.rules c.args.game.now in
    let state = g.G.Game.state c.args.game.now c.args.from.now in
    let legal = rules.legal state c.args.asked.role in
    let free : IsOpen rules c.args.asked.depth state = record {
      turn = c.if-asked-eq0.false;
      going = sym c.ended.ensures ∙ c.if-ended.false;
      free = sym c.is_stuck.ensures ∙ c.if-is_stuck.false;
    } in
    let here = legal_place rules state c.args.asked.role c.loop-own.place c.in-Some.own c.legal.result c.legal.ensures c.in-Some.is in
    let a = c.args.window.low in
    let ea : to_z w16 (of_z w16 a) ≡ a = to_z-of_z w16 a (search facts) in
    let b = c.args.window.high in
    let eb : to_z w16 (of_z w16 b) ≡ b = to_z-of_z w16 b (search facts) in
    let r = c.in_ok-worst.worst.worth in
    let best = to_z w16 c.loop-own.best-bits in
    let fits_r : SFits w16 r = search facts in
    let fits_m : SFits w16 c.max-best.result = search facts in
    let raised : to_z w16 (of_z w16 c.max-best.result) ≡ int_max best r =
    to_z-of_z w16 c.max-best.result fits_m ∙ c.max-best.ensures.value ∙ ap (λ z. int_max best z) (to_z-of_z w16 r fits_r) in
    let most : int_max best r ≤ℤ int_max (pos (value rules c.args.asked.role c.args.asked.depth c.args.asked.at state)) a =
    raised_most (value rules c.args.asked.role c.args.asked.depth c.args.asked.at state)
    (worst rules c.args.asked.role (c.args.asked.depth - 1) c.args.asked.at state c.in-Some.own) a b best r
    (rw here.1 at (worst_le_value rules c.args.asked.role c.args.asked.depth c.args.asked.at state c.loop-own.place free here.0))
    c.loop-own.invariant.at_most (rw eb at c.in_ok-worst.ensures.answers.now) in
    record {
      kept = kept_then c.loop-own.invariant.kept c.try_worst_at.ensures.kept;
      deep = omega arith;
      in_list = omega (arith, here.0);
      above = rw raised (raised_above a best r c.loop-own.invariant.above);
      below = rw eb at (le_z_false (to_z w16 (of_z w16 b)) (to_z w16 (of_z w16 c.max-best.result)) c.if-best-window.false);
      at_most = rw raised most;
      seen = below_more _ _
          (λ k lt. rw raised (raised_seen (worst rules c.args.asked.role (c.args.asked.depth - 1) c.args.asked.at state (get_or legal k 0)) b best r
          (c.loop-own.invariant.seen k lt)))
          (rw (raised, here.1) (raised_now (worst rules c.args.asked.role (c.args.asked.depth - 1) c.args.asked.at state c.in-Some.own) b best r
          (rw eb at c.in_ok-worst.ensures.answers.now)));
      later = λ lasts d more.
          let both = both_true c.loop-own.lasts c.in_ok-worst.worst.lasts c.both_last-lasts.result c.both_last-lasts.ensures lasts in
          let deep : c.args.asked.depth - 1 ≤ d - 1 = omega arith in
          below_more _ _
          (λ k lt. rw raised (raised_seen (worst rules c.args.asked.role (d - 1) c.args.asked.at state (get_or legal k 0)) b best r
          (c.loop-own.invariant.later both.0 d more k lt)))
          (rw (raised, here.1) (raised_later (worst rules c.args.asked.role (d - 1) c.args.asked.at state c.in-Some.own) b best r
          (rw eb at (c.in_ok-worst.ensures.answers.later both.1 (d - 1) deep))));
    }

pub value_at-returns-clause-answers : goal.value_at-returns-clause-answers
value_at-returns-clause-answers g t c =
    let rules = g.G.Game.rules c.args.game.now in
    let state = g.G.Game.state c.args.game.now c.args.from.now in
    let legal = rules.legal state c.args.asked.role in
    let free : IsOpen rules c.args.asked.depth state = record {
      turn = c.if-asked-eq0.false;
      going = sym c.ended.ensures ∙ c.if-ended.false;
      free = sym c.is_stuck.ensures ∙ c.if-is_stuck.false;
    } in
    let past : length legal ≤ c.loop-own.place = none_past legal c.loop-own.place c.legal.result c.legal.ensures c.in_default.is in
    let top = value_reached rules c.args.asked.role c.args.asked.depth c.args.asked.at state free c.requires.fit.role in
    let a = c.args.window.low in
    let ea : to_z w16 (of_z w16 a) ≡ a = to_z-of_z w16 a (search facts) in
    let b = c.args.window.high in
    let eb : to_z w16 (of_z w16 b) ≡ b = to_z-of_z w16 b (search facts) in
    record {
      now = record {
        at_least = rw top.2 at (c.loop-own.invariant.seen top.0 (omega (arith, top.1)));
        at_most = c.loop-own.invariant.at_most;
      };
      later = λ lasts d more.
          let open_yet : IsOpen rules d state = record { turn = λ none. free.turn (omega arith); going = free.going; free = free.free } in
          let best = value_reached rules c.args.asked.role d c.args.asked.at state open_yet c.requires.fit.role in
          rw best.2 at (c.loop-own.invariant.later lasts d more best.0 (omega (arith, best.1)));
    }

pub value_at-returns-then-ended-clause-answers : goal.value_at-returns-then-ended-clause-answers
value_at-returns-then-ended-clause-answers g t c =
    let rules = g.G.Game.rules c.args.game.now in
    let state = g.G.Game.state c.args.game.now c.args.from.now in
    let fits : SFits w16 c.from.result = search facts in
    let same = to_z-of_z w16 c.from.result fits in
    let worth : (d : ℕ) → to_z w16 (of_z w16 c.from.result) ≡ pos (value rules c.args.asked.role d c.args.asked.at state) =
    λ d. same ∙ c.from.ensures ∙ ap pos (c.goal.ensures
    ∙ sym (value_ended rules c.args.asked.role d c.args.asked.at state (sym c.ended.ensures ∙ c.if-ended.true))) in
    always (λ d. value rules c.args.asked.role d c.args.asked.at state) c.args.asked.depth c.args.window.low c.args.window.high
    (to_z w16 (of_z w16 c.from.result)) worth

pub value_at-returns-then-is_stuck-clause-answers : goal.value_at-returns-then-is_stuck-clause-answers
value_at-returns-then-is_stuck-clause-answers g t c =
    let rules = g.G.Game.rules c.args.game.now in
    let state = g.G.Game.state c.args.game.now c.args.from.now in
    always (λ d. value rules c.args.asked.role d c.args.asked.at state) c.args.asked.depth c.args.window.low c.args.window.high (pos 0)
    (λ d. ap pos (sym (value_stuck rules c.args.asked.role d c.args.asked.at state (sym c.ended.ensures ∙ c.if-ended.false)
    (sym c.is_stuck.ensures ∙ c.if-is_stuck.true))))

pub least_at-loop-place-preserved : goal.least_at-loop-place-preserved
least_at-loop-place-preserved g t c =
    let rules = g.G.Game.rules c.args.game.now in
    let states = g.G.Game.states c.args.game.now c.args.children.now.many in
    let worth_at : ℕ → List ℕ → ℕ = λ d s. value rules c.args.asked.role d c.args.asked.at s in
    let worth = worth_at c.args.asked.depth in
    let all = least (map worth states) in
    let count = length c.args.joints.now in
    let order = c.put_off.new.order in
    let ordered : IsPermutation (range_with_len 0 count) (take count order) =
    IsPermutation-trans (range_with_len 0 count) (take count c.loop-place.order) (take count order) c.loop-place.invariant.order c.put_off.ensures.order in
    let child = get_or order c.loop-place.place 0 in
    let inside : child < count = place_within count order c.loop-place.place 0 ordered (omega (arith, c.loop-place-test.true)) in
    let here = worth (get_or states child []) in
    let a = c.args.window.low in
    let ea : to_z w16 (of_z w16 a) ≡ a = to_z-of_z w16 a (search facts) in
    let b = c.args.window.high in
    let eb : to_z w16 (of_z w16 b) ≡ b = to_z-of_z w16 b (search facts) in
    let same : c.loop-place.children.many ≡ c.args.children.now.many = c.loop-place.invariant.same.many in
    let r = c.in_ok-answer.answer.worth in
    let upper = to_z w16 c.loop-place.upper-bits in
    let fits_r : SFits w16 r = search facts in
    let fits_m : SFits w16 c.min-upper.result = search facts in
    let lowered : to_z w16 (of_z w16 c.min-upper.result) ≡ int_min upper r =
    to_z-of_z w16 c.min-upper.result fits_m ∙ c.min-upper.ensures.value ∙ ap (λ z. int_min upper z) (to_z-of_z w16 r fits_r) in
    let answers : Answers here a upper r = rw (same, ea) at c.in_ok-answer.ensures.answers.now in
    let part : all ≤ here = least_worth_below worth states child (omega (arith, c.requires.joints.count)) in
    record {
      kept = kept_then c.loop-place.invariant.kept c.try_child_at.ensures.kept;
      deep = omega arith;
      known = c.try_child_at.ensures.children;
      same = same_states_then c.loop-place.invariant.same c.try_child_at.ensures.same;
      size = c.put_off.ensures.size ∙ c.loop-place.invariant.size;
      order = ordered;
      above = rw ea at (le_z_false (to_z w16 (of_z w16 c.min-upper.result)) (to_z w16 (of_z w16 a)) c.if-upper-window.false);
      below = rw lowered (lowered_below b upper r c.loop-place.invariant.below);
      at_least = rw lowered (lowered_least all here a b upper r part c.loop-place.invariant.at_least c.loop-place.invariant.below answers);
      later = λ lasts d more. rw lowered (lesser_later (least (map (worth_at d) states)) (worth_at d (get_or states child [])) b upper r c.loop-place.lasts
          c.in_ok-answer.answer.lasts c.lesser_lasts-lasts.result c.lesser_lasts-lasts.ensures
          (λ e. c.loop-place.invariant.later e d more) (λ e. rw same at (c.in_ok-answer.ensures.answers.later e d more))
          (least_worth_below (worth_at d) states child (omega (arith, c.requires.joints.count))) c.loop-place.invariant.below lasts);
      seen = below_more _ _
          (λ k lt. rw lowered (lowered_seen (worth (get_or states (get_or order k 0) [])) a upper r
          (rw (c.put_off.ensures.before k lt) (c.loop-place.invariant.seen k lt))))
          (rw lowered (lowered_now here a upper r answers));
    }

pub least_at-returns-then-told-window-clause-answers : goal.least_at-returns-then-told-window-clause-answers
least_at-returns-then-told-window-clause-answers g t c =
    let rules = g.G.Game.rules c.args.game.now in
    let states = g.G.Game.states c.args.game.now c.args.children.now.many in
    let all : ℕ → ℕ = λ d. least (map (λ s. value rules c.args.asked.role d c.args.asked.at s) states) in
    let a = c.args.window.low in
    let ea : to_z w16 (of_z w16 a) ≡ a = to_z-of_z w16 a (search facts) in
    let b = c.args.window.high in
    let eb : to_z w16 (of_z w16 b) ≡ b = to_z-of_z w16 b (search facts) in
    let told = c.least_told-told.result in
    let et : to_z w16 (of_z w16 told.worth) ≡ told.worth = to_z-of_z w16 told.worth (search facts) in
    let upper : IsUpperBound all c.args.asked.depth b told = subst (λ (z : ℤ). IsUpperBound all c.args.asked.depth z told) eb c.least_told-told.ensures.upper in
    let cut : told.worth ≤ℤ a = rw (et, ea) at (le_z_true (to_z w16 (of_z w16 told.worth)) (to_z w16 (of_z w16 a)) c.if-told-window.true) in
    upper_answer all c.args.asked.depth a b told cut upper

pub least_at-returns-then-upper-window-clause-answers : goal.least_at-returns-then-upper-window-clause-answers
least_at-returns-then-upper-window-clause-answers g t c =
    let rules = g.G.Game.rules c.args.game.now in
    let states = g.G.Game.states c.args.game.now c.args.children.now.many in
    let worth_at : ℕ → List ℕ → ℕ = λ d s. value rules c.args.asked.role d c.args.asked.at s in
    let worth = worth_at c.args.asked.depth in
    let all = least (map worth states) in
    let count = length c.args.joints.now in
    let order = c.put_off.new.order in
    let ordered : IsPermutation (range_with_len 0 count) (take count order) =
    IsPermutation-trans (range_with_len 0 count) (take count c.loop-place.order) (take count order) c.loop-place.invariant.order c.put_off.ensures.order in
    let child = get_or order c.loop-place.place 0 in
    let inside : child < count = place_within count order c.loop-place.place 0 ordered (omega (arith, c.loop-place-test.true)) in
    let here = worth (get_or states child []) in
    let a = c.args.window.low in
    let ea : to_z w16 (of_z w16 a) ≡ a = to_z-of_z w16 a (search facts) in
    let b = c.args.window.high in
    let eb : to_z w16 (of_z w16 b) ≡ b = to_z-of_z w16 b (search facts) in
    let same : c.loop-place.children.many ≡ c.args.children.now.many = c.loop-place.invariant.same.many in
    let r = c.in_ok-answer.answer.worth in
    let upper = to_z w16 c.loop-place.upper-bits in
    let fits_r : SFits w16 r = search facts in
    let fits_m : SFits w16 c.min-upper.result = search facts in
    let lowered : to_z w16 (of_z w16 c.min-upper.result) ≡ int_min upper r =
    to_z-of_z w16 c.min-upper.result fits_m ∙ c.min-upper.ensures.value ∙ ap (λ z. int_min upper z) (to_z-of_z w16 r fits_r) in
    let answers : Answers here a upper r = rw (same, ea) at c.in_ok-answer.ensures.answers.now in
    let part : all ≤ here = least_worth_below worth states child (omega (arith, c.requires.joints.count)) in
    let low : int_min (pos all) b ≤ℤ int_min upper r = lowered_least all here a b upper r part c.loop-place.invariant.at_least
    c.loop-place.invariant.below answers in
    rw lowered record {
      now = cut_below all a b (int_min upper r)
          (rw (lowered, ea) at (le_z_true (to_z w16 (of_z w16 c.min-upper.result)) (to_z w16 (of_z w16 a)) c.if-upper-window.true)) low;
      later = λ lasts d more. lesser_later (least (map (worth_at d) states)) (worth_at d (get_or states child [])) b upper r c.loop-place.lasts
          c.in_ok-answer.answer.lasts c.lesser_lasts-lasts.result c.lesser_lasts-lasts.ensures
          (λ e. c.loop-place.invariant.later e d more) (λ e. rw same at (c.in_ok-answer.ensures.answers.later e d more))
          (least_worth_below (worth_at d) states child (omega (arith, c.requires.joints.count))) c.loop-place.invariant.below lasts;
    }

pub least_at-returns-clause-answers : goal.least_at-returns-clause-answers
least_at-returns-clause-answers g t c =
    let rules = g.G.Game.rules c.args.game.now in
    let states = g.G.Game.states c.args.game.now c.args.children.now.many in
    let worth : List ℕ → ℕ = λ s. value rules c.args.asked.role c.args.asked.depth c.args.asked.at s in
    let a = c.args.window.low in
    let ea : to_z w16 (of_z w16 a) ≡ a = to_z-of_z w16 a (search facts) in
    let b = c.args.window.high in
    let eb : to_z w16 (of_z w16 b) ≡ b = to_z-of_z w16 b (search facts) in
    let bottom = least_worth_reached worth states (omega (arith, c.requires.joints.count, c.requires.joints.some)) in
    let upper = to_z w16 c.loop-place.upper-bits in
    let each = all_places (λ k. upper ≤ℤ int_max (pos (worth (get_or states k []))) a) (length c.args.joints.now) c.loop-place.order
    c.loop-place.invariant.order (λ k lt. c.loop-place.invariant.seen k (omega (arith, c.loop-place-test.false))) in
    record {
      now = record {
        at_least = c.loop-place.invariant.at_least;
        at_most = rw bottom.2 at (each bottom.0 (omega (arith, bottom.1, c.requires.joints.count)));
      };
      later = c.loop-place.invariant.later;
    }

pub try_worst_at-runs-init : goal.try_worst_at-runs-init
try_worst_at-runs-init g t c =
    let rules = g.G.Game.rules c.args.game.now in
    let state = g.G.Game.state c.args.game.now c.args.from.now in
    let lists = choices rules state c.args.asked.role c.args.own in
    let worth : ℕ → List ℕ → ℕ = λ d j. value rules c.args.asked.role d c.args.asked.at (rules.after state j) in
    let all : ℕ → ℕ = λ d. worst rules c.args.asked.role d c.args.asked.at state c.args.own in
    let depth = c.args.asked.depth in
    let a = c.args.window.low in
    let ea : to_z w16 (of_z w16 a) ≡ a = to_z-of_z w16 a (search facts) in
    let b = c.args.window.high in
    let eb : to_z w16 (of_z w16 b) ≡ b = to_z-of_z w16 b (search facts) in
    let left : ℕ → ℕ = λ d. least (map (worth d) (c.start_turns.new.cursor.joint.items ∷ later lists c.start_turns.new.cursor.places.items)) in
    let same : (d : ℕ) → all d ≡ left d = λ d. ap (λ (turns : List (List ℕ)). least (map (worth d) turns)) c.start_turns.ensures.first in
    let first = c.requires.fit.levels 0 c.index-first-0.result (omega arith) in
    let there = c.split_at_mut-first.ensures.by_index.0 0 c.index-first-0.result (omega arith) in
    record {
      level = record {
        moves = record { cursor = c.start_turns.ensures.cursor; run = rw there first.moves.run };
        children = rw there first.children;
      };
      capacities = refl;
      kept = record {
        wide = c.requires.fit.wide;
        memory = c.requires.fit.memory;
        levels = λ k d below. rw (c.split_at_mut-first.ensures.by_index.1 k d) (c.requires.fit.levels (1 + k) d (omega arith));
        of_tools = refl;
        of_levels = refl;
      };
      deep = omega arith;
      some = omega arith;
      few = omega arith;
      stands = c.start_turns.ensures.stands;
      above = omega (arith, ints);
      below = omega (arith, ints);
      at_least = subst (λ (z : ℤ). int_min (pos (all depth)) b ≤ℤ z) (sym eb) (start_least (all depth) b);
      part = λ d. omega (arith, same d);
      at_most = subst (λ (z : ℤ). int_min z (pos (left depth)) ≤ℤ int_max (pos (all depth)) a) (sym eb) (start_most (all depth) (left depth) a b (same depth));
      later = λ lasts d more. subst (λ (z : ℤ). int_min (pos (all d)) b ≤ℤ z) (sym eb) (start_least (all d) b);
    }

pub try_worst_at-least_after-requires-clause-level : goal.try_worst_at-least_after-requires-clause-level
try_worst_at-least_after-requires-clause-level g t c κs within =
    let taken = c.gather-more.ensures.taken in
    record {
      level = record { moves = taken.moves; children = c.runs.invariant.level.children };
      some = taken.some;
      known = taken.known;
    }

pub try_worst_at-returns-then-upper-window-clause-answers : goal.try_worst_at-returns-then-upper-window-clause-answers
try_worst_at-returns-then-upper-window-clause-answers g t c =
    let rules = g.G.Game.rules c.args.game.now in
    let state = g.G.Game.state c.args.game.now c.args.from.now in
    let lists = choices rules state c.args.asked.role c.args.own in
    let worth_at : ℕ → List ℕ → ℕ = λ d j. value rules c.args.asked.role d c.args.asked.at (rules.after state j) in
    let worth = worth_at c.args.asked.depth in
    let all_at : ℕ → ℕ = λ d. worst rules c.args.asked.role d c.args.asked.at state c.args.own in
    let all = all_at c.args.asked.depth in
    let run = c.gather-more.new.moves.run in
    let here = least (map worth (turns_in run)) in
    let left = c.runs.level.moves.cursor.joint.items ∷ later lists c.runs.level.moves.cursor.places.items in
    let a = c.args.window.low in
    let ea : to_z w16 (of_z w16 a) ≡ a = to_z-of_z w16 a (search facts) in
    let b = c.args.window.high in
    let eb : to_z w16 (of_z w16 b) ≡ b = to_z-of_z w16 b (search facts) in
    let r = c.in_ok-least.least.worth in
    let upper = to_z w16 c.runs.upper-bits in
    let fits_r : SFits w16 r = search facts in
    let fits_m : SFits w16 c.min-upper.result = search facts in
    let lowered : to_z w16 (of_z w16 c.min-upper.result) ≡ int_min upper r =
    to_z-of_z w16 c.min-upper.result fits_m ∙ c.min-upper.ensures.value ∙ ap (λ z. int_min upper z) (to_z-of_z w16 r fits_r) in
    let answers : Answers here a upper r = rw ea at c.in_ok-least.ensures.answers.now in
    let some : 0 < length (turns_in run) = some_taken run.joints.items run.count c.gather-more.ensures.taken.some
    (omega (arith, c.gather-more.ensures.taken.moves.run.size)) in
    let part_at : (d : ℕ) → all_at d ≤ least (map (worth_at d) (turns_in run)) = λ d.
    omega (
      arith,
      c.runs.invariant.part d,
      least_of_run (worth_at d) left (turns_in run) c.gather-more.new.moves.cursor.joint.items (later lists c.gather-more.new.moves.cursor.places.items)
          c.gather-more.result c.gather-more.ensures.left.more c.gather-more.ensures.left.all some,
    ) in
    let part : all ≤ here = part_at c.args.asked.depth in
    let low : int_min (pos all) b ≤ℤ int_min upper r = lowered_least all here a b upper r part c.runs.invariant.at_least c.runs.invariant.below
    answers in
    let later_low : c.lesser_lasts-lasts.result ≡ true → (d : ℕ) → c.args.asked.depth ≤ d → int_min (pos (all_at d)) b ≤ℤ int_min upper r = λ lasts d more.
    lesser_later (all_at d) (least (map (worth_at d) (turns_in run))) b upper r c.runs.lasts c.in_ok-least.least.lasts
    c.lesser_lasts-lasts.result c.lesser_lasts-lasts.ensures (λ e. c.runs.invariant.later e d more)
    (λ e. c.in_ok-least.ensures.answers.later e d more) (part_at d) c.runs.invariant.below lasts in
    rw lowered (elim c.then-upper-window.branch [
      | try_worst_at-then-upper-window-via-then-upper-window w ↦ record {
        now = cut_below all a b (int_min upper r)
            (rw (lowered, ea) at (le_z_true (to_z w16 (of_z w16 c.min-upper.result)) (to_z w16 (of_z w16 a)) w.if-upper-window.true)) low;
        later = later_low;
      }
      | try_worst_at-then-upper-window-via-else-upper-window+then-not-more w ↦
          let end : int_min upper (pos here) ≤ℤ int_max (pos all) a =
          subst (λ (turns : List Turn). int_min upper (pos (least (map worth turns))) ≤ℤ int_max (pos all) a) w.if-not-more.ensures.left.all
          c.runs.invariant.at_most in
          record { now = record { at_least = low; at_most = lowered_end all here a upper r end answers }; later = later_low }
    ])

pub try_worst_at-returns-then-upper-window-clause-kept : goal.try_worst_at-returns-then-upper-window-clause-kept
try_worst_at-returns-then-upper-window-clause-kept g t c =
    let split = c.split_at_mut-first.ensures in
    let old = get_or c.split_at_mut-first.result.0.now 0 c.index-first-0.result in
    let now = c.runs.level in
    let begun : level_capacities g.G.Game c.args.game.now now ≡ level_capacities g.G.Game c.args.game.now old =
    c.runs.invariant.capacities
    ∙ level_kept g.G.Game c.args.game.now old record { cursor = c.start_turns.new.cursor; run = old.moves.run } old.children
    (moves_kept old.moves c.start_turns.new.cursor old.moves.run c.start_turns.ensures.capacities refl) refl in
    let turned : level_capacities g.G.Game c.args.game.now c.least_after.new.level ≡ level_capacities g.G.Game c.args.game.now now =
    c.least_after.ensures.level.capacities
    ∙ level_kept g.G.Game c.args.game.now now c.gather-more.new.moves now.children c.gather-more.ensures.taken.capacities refl in
    let kept =
    all_levels_kept c.args.levels.now c.split_at_mut-first.result.0.now c.split_at_mut-first.result.1.now
    c.least_after.new.levels c.least_after.new.level c.index-first-0.result split.value split.front_len c.least_after.ensures.level.level
    (turned ∙ begun) (kept_then c.runs.invariant.kept c.least_after.ensures.kept) in
    elim c.then-upper-window.branch [
      | try_worst_at-then-upper-window-via-then-upper-window w ↦ rw w.levels-is kept
      | try_worst_at-then-upper-window-via-else-upper-window+then-not-more w ↦ rw w.levels-is kept
    ]

pub try_worst_at-runs-smaller : goal.try_worst_at-runs-smaller
try_worst_at-runs-smaller g t c =
    let rules = g.G.Game.rules c.args.game.now in
    let state = g.G.Game.state c.args.game.now c.args.from.now in
    let lists = choices rules state c.args.asked.role c.args.own in
    let run = c.gather-more.new.moves.run in
    let some : 0 < length (turns_in run) = some_taken run.joints.items run.count c.gather-more.ensures.taken.some
    (omega (arith, c.gather-more.ensures.taken.moves.run.size)) in
    rw c.least_after.ensures.level.moves (fewer_behind c.runs.level.moves.cursor.joint.items c.gather-more.new.moves.cursor.joint.items (later lists
    c.runs.level.moves.cursor.places.items) (turns_in run)
    (later lists c.gather-more.new.moves.cursor.places.items) c.if-not-more.ensures.left.more some)

pub try_worst_at-runs-preserved : goal.try_worst_at-runs-preserved
try_worst_at-runs-preserved g t c =
    let rules = g.G.Game.rules c.args.game.now in
    let state = g.G.Game.state c.args.game.now c.args.from.now in
    let lists = choices rules state c.args.asked.role c.args.own in
    let worth_at : ℕ → List ℕ → ℕ = λ d j. value rules c.args.asked.role d c.args.asked.at (rules.after state j) in
    let worth = worth_at c.args.asked.depth in
    let all_at : ℕ → ℕ = λ d. worst rules c.args.asked.role d c.args.asked.at state c.args.own in
    let all = all_at c.args.asked.depth in
    let run = c.gather-more.new.moves.run in
    let here = least (map worth (turns_in run)) in
    let before = c.runs.level.moves.cursor.joint.items ∷ later lists c.runs.level.moves.cursor.places.items in
    let left_at : ℕ → ℕ = λ d. least (map (worth_at d) (c.gather-more.new.moves.cursor.joint.items ∷ later lists c.gather-more.new.moves.cursor.places.items)) in
    let left = left_at c.args.asked.depth in
    let a = c.args.window.low in
    let ea : to_z w16 (of_z w16 a) ≡ a = to_z-of_z w16 a (search facts) in
    let b = c.args.window.high in
    let eb : to_z w16 (of_z w16 b) ≡ b = to_z-of_z w16 b (search facts) in
    let r = c.in_ok-least.least.worth in
    let upper = to_z w16 c.runs.upper-bits in
    let fits_r : SFits w16 r = search facts in
    let fits_m : SFits w16 c.min-upper.result = search facts in
    let lowered : to_z w16 (of_z w16 c.min-upper.result) ≡ int_min upper r =
    to_z-of_z w16 c.min-upper.result fits_m ∙ c.min-upper.ensures.value ∙ ap (λ z. int_min upper z) (to_z-of_z w16 r fits_r) in
    let answers : Answers here a upper r = rw ea at c.in_ok-least.ensures.answers.now in
    let some : 0 < length (turns_in run) = some_taken run.joints.items run.count c.gather-more.ensures.taken.some
    (omega (arith, c.gather-more.ensures.taken.moves.run.size)) in
    let next_at : (d : ℕ) → least (map (worth_at d) before) ≡ min (least (map (worth_at d) (turns_in run))) (left_at d) = λ d.
    least_behind (worth_at d) before (turns_in run) c.gather-more.new.moves.cursor.joint.items (later lists c.gather-more.new.moves.cursor.places.items)
    c.if-not-more.ensures.left.more some in
    let part_at : (d : ℕ) → all_at d ≤ least (map (worth_at d) (turns_in run)) = λ d. omega (arith, next_at d, c.runs.invariant.part d) in
    let next = next_at c.args.asked.depth in
    let part : all ≤ here = part_at c.args.asked.depth in
    let low : int_min (pos all) b ≤ℤ int_min upper r = lowered_least all here a b upper r part c.runs.invariant.at_least c.runs.invariant.below
    answers in
    let now = c.runs.level in
    record {
      level = c.least_after.ensures.level.level;
      capacities = c.least_after.ensures.level.capacities
          ∙ level_kept g.G.Game c.args.game.now now c.gather-more.new.moves now.children c.gather-more.ensures.taken.capacities refl
          ∙ c.runs.invariant.capacities;
      kept = kept_then c.runs.invariant.kept c.least_after.ensures.kept;
      deep = omega arith;
      some = omega (arith, c.min-most.ensures, c.runs.invariant.some);
      few = omega (arith, c.min-most.ensures);
      stands = rw c.least_after.ensures.level.moves c.if-not-more.ensures.left.stands;
      above = rw ea at (le_z_false (to_z w16 (of_z w16 c.min-upper.result)) (to_z w16 (of_z w16 a)) c.if-upper-window.false);
      below = rw lowered (lowered_below b upper r c.runs.invariant.below);
      at_least = rw lowered low;
      part = λ d. rw c.least_after.ensures.level.moves (omega (arith, next_at d, c.runs.invariant.part d));
      at_most = rw (lowered, c.least_after.ensures.level.moves) (lowered_most all here left a upper r (rw next at c.runs.invariant.at_most) answers);
      later = λ lasts d more. rw lowered (lesser_later (all_at d) (least (map (worth_at d) (turns_in run))) b upper r c.runs.lasts c.in_ok-least.least.lasts
          c.lesser_lasts-lasts.result c.lesser_lasts-lasts.ensures (λ e. c.runs.invariant.later e d more)
          (λ e. c.in_ok-least.ensures.answers.later e d more) (part_at d) c.runs.invariant.below lasts);
    }

pub greatest_at-loop-place-preserved : goal.greatest_at-loop-place-preserved
greatest_at-loop-place-preserved g t c =
    let rules = g.G.Game.rules c.args.game.now in
    let states = g.G.Game.states c.args.game.now c.args.children.now.many in
    let worth_at : ℕ → List ℕ → ℕ = λ d s. value rules c.args.asked.role d c.args.asked.at s in
    let worth = worth_at c.args.asked.depth in
    let all = greatest (map worth states) in
    let count = length c.args.joints.now in
    let order = c.put_off.new.order in
    let ordered : IsPermutation (range_with_len 0 count) (take count order) =
    IsPermutation-trans (range_with_len 0 count) (take count c.loop-place.order) (take count order) c.loop-place.invariant.order c.put_off.ensures.order in
    let child = get_or order c.loop-place.place 0 in
    let inside : child < count = place_within count order c.loop-place.place 0 ordered (omega (arith, c.loop-place-test.true)) in
    let here = worth (get_or states child []) in
    let a = c.args.window.low in
    let ea : to_z w16 (of_z w16 a) ≡ a = to_z-of_z w16 a (search facts) in
    let b = c.args.window.high in
    let eb : to_z w16 (of_z w16 b) ≡ b = to_z-of_z w16 b (search facts) in
    let same : c.loop-place.children.many ≡ c.args.children.now.many = c.loop-place.invariant.same.many in
    let r = c.in_ok-answer.answer.worth in
    let lower = to_z w16 c.loop-place.lower-bits in
    let fits_r : SFits w16 r = search facts in
    let fits_m : SFits w16 c.max-lower.result = search facts in
    let raised : to_z w16 (of_z w16 c.max-lower.result) ≡ int_max lower r =
    to_z-of_z w16 c.max-lower.result fits_m ∙ c.max-lower.ensures.value ∙ ap (λ z. int_max lower z) (to_z-of_z w16 r fits_r) in
    let answers : Answers here lower b r = rw (same, eb) at c.in_ok-answer.ensures.answers.now in
    let part : here ≤ all = greatest_worth_above worth states child (omega (arith, c.requires.joints.count)) in
    record {
      kept = kept_then c.loop-place.invariant.kept c.try_child_at.ensures.kept;
      deep = omega arith;
      known = c.try_child_at.ensures.children;
      same = same_states_then c.loop-place.invariant.same c.try_child_at.ensures.same;
      size = c.put_off.ensures.size ∙ c.loop-place.invariant.size;
      order = ordered;
      above = rw raised (raised_above a lower r c.loop-place.invariant.above);
      below = rw eb at (le_z_false (to_z w16 (of_z w16 b)) (to_z w16 (of_z w16 c.max-lower.result)) c.if-lower-window-3.false);
      at_most = rw raised (raised_most all here a b lower r part c.loop-place.invariant.at_most answers);
      seen = below_more _ _
          (λ k lt. rw raised (raised_seen (worth (get_or states (get_or order k 0) [])) b lower r
          (rw (c.put_off.ensures.before k lt) (c.loop-place.invariant.seen k lt))))
          (rw raised (raised_now here b lower r answers));
      later = λ lasts d more.
          let both = both_true c.loop-place.lasts c.in_ok-answer.answer.lasts c.both_last-lasts.result c.both_last-lasts.ensures lasts in
          below_more _ _
          (λ k lt. rw raised (raised_seen (worth_at d (get_or states (get_or order k 0) [])) b lower r
          (rw (c.put_off.ensures.before k lt) (c.loop-place.invariant.later both.0 d more k lt))))
          (rw raised (raised_later (worth_at d (get_or states child [])) b lower r (rw (same, eb) at (c.in_ok-answer.ensures.answers.later both.1 d more))));
    }

pub greatest_at-returns-then-lower-window-clause-answers : goal.greatest_at-returns-then-lower-window-clause-answers
greatest_at-returns-then-lower-window-clause-answers g t c =
    let rules = g.G.Game.rules c.args.game.now in
    let states = g.G.Game.states c.args.game.now c.args.children.now.many in
    let worth : List ℕ → ℕ = λ s. value rules c.args.asked.role c.args.asked.depth c.args.asked.at s in
    let a = c.args.window.low in
    let ea : to_z w16 (of_z w16 a) ≡ a = to_z-of_z w16 a (search facts) in
    let b = c.args.window.high in
    let eb : to_z w16 (of_z w16 b) ≡ b = to_z-of_z w16 b (search facts) in
    let lower = c.greatest_told-lower.result in
    let fits : SFits w16 lower = search facts in
    let el : to_z w16 (of_z w16 lower) ≡ lower = to_z-of_z w16 lower fits in
    let cut : b ≤ℤ lower = rw (el, eb) at (le_z_true (to_z w16 (of_z w16 b)) (to_z w16 (of_z w16 lower)) c.if-lower-window.true) in
    rw el record {
      now = cut_above (greatest (map worth states)) a b lower cut
          (subst (λ (z : ℤ). lower ≤ℤ int_max (pos (greatest (map worth states))) z) ea c.greatest_told-lower.ensures.at_most);
      later = λ lasts d more. cut_later (greatest (map (λ s. value rules c.args.asked.role d c.args.asked.at s) states)) b lower cut;
    }

pub greatest_at-returns-then-lower-window-3-clause-answers : goal.greatest_at-returns-then-lower-window-3-clause-answers
greatest_at-returns-then-lower-window-3-clause-answers g t c =
    let rules = g.G.Game.rules c.args.game.now in
    let states = g.G.Game.states c.args.game.now c.args.children.now.many in
    let worth : List ℕ → ℕ = λ s. value rules c.args.asked.role c.args.asked.depth c.args.asked.at s in
    let all = greatest (map worth states) in
    let count = length c.args.joints.now in
    let order = c.put_off.new.order in
    let ordered : IsPermutation (range_with_len 0 count) (take count order) =
    IsPermutation-trans (range_with_len 0 count) (take count c.loop-place.order) (take count order) c.loop-place.invariant.order c.put_off.ensures.order in
    let child = get_or order c.loop-place.place 0 in
    let inside : child < count = place_within count order c.loop-place.place 0 ordered (omega (arith, c.loop-place-test.true)) in
    let here = worth (get_or states child []) in
    let a = c.args.window.low in
    let ea : to_z w16 (of_z w16 a) ≡ a = to_z-of_z w16 a (search facts) in
    let b = c.args.window.high in
    let eb : to_z w16 (of_z w16 b) ≡ b = to_z-of_z w16 b (search facts) in
    let same : c.loop-place.children.many ≡ c.args.children.now.many = c.loop-place.invariant.same.many in
    let r = c.in_ok-answer.answer.worth in
    let lower = to_z w16 c.loop-place.lower-bits in
    let fits_r : SFits w16 r = search facts in
    let fits_m : SFits w16 c.max-lower.result = search facts in
    let raised : to_z w16 (of_z w16 c.max-lower.result) ≡ int_max lower r =
    to_z-of_z w16 c.max-lower.result fits_m ∙ c.max-lower.ensures.value ∙ ap (λ z. int_max lower z) (to_z-of_z w16 r fits_r) in
    let answers : Answers here lower b r = rw (same, eb) at c.in_ok-answer.ensures.answers.now in
    let part : here ≤ all = greatest_worth_above worth states child (omega (arith, c.requires.joints.count)) in
    let most : int_max lower r ≤ℤ int_max (pos all) a = raised_most all here a b lower r part c.loop-place.invariant.at_most answers in
    let cut : b ≤ℤ int_max lower r =
    rw (raised, eb) at (le_z_true (to_z w16 (of_z w16 b)) (to_z w16 (of_z w16 c.max-lower.result)) c.if-lower-window-3.true) in
    rw raised record {
      now = cut_above all a b (int_max lower r) cut most;
      later = λ lasts d more. cut_later (greatest (map (λ s. value rules c.args.asked.role d c.args.asked.at s) states)) b (int_max lower r) cut;
    }

pub greatest_at-returns-clause-answers : goal.greatest_at-returns-clause-answers
greatest_at-returns-clause-answers g t c =
    let rules = g.G.Game.rules c.args.game.now in
    let states = g.G.Game.states c.args.game.now c.args.children.now.many in
    let worth : List ℕ → ℕ = λ s. value rules c.args.asked.role c.args.asked.depth c.args.asked.at s in
    let a = c.args.window.low in
    let ea : to_z w16 (of_z w16 a) ≡ a = to_z-of_z w16 a (search facts) in
    let b = c.args.window.high in
    let eb : to_z w16 (of_z w16 b) ≡ b = to_z-of_z w16 b (search facts) in
    let top = greatest_worth_reached worth states (omega (arith, c.requires.joints.count, c.requires.joints.some)) in
    let lower = to_z w16 c.loop-place.lower-bits in
    let each = all_places (λ k. int_min (pos (worth (get_or states k []))) b ≤ℤ lower) (length c.args.joints.now) c.loop-place.order
    c.loop-place.invariant.order (λ k lt. c.loop-place.invariant.seen k (omega (arith, c.loop-place-test.false))) in
    record {
      now = record {
        at_least = rw top.2 at (each top.0 (omega (arith, top.1, c.requires.joints.count)));
        at_most = c.loop-place.invariant.at_most;
      };
      later = λ lasts d more.
          let worth_at : List ℕ → ℕ = λ s. value rules c.args.asked.role d c.args.asked.at s in
          let best = greatest_worth_reached worth_at states (omega (arith, c.requires.joints.count, c.requires.joints.some)) in
          let every = all_places (λ k. int_min (pos (worth_at (get_or states k []))) b ≤ℤ lower) (length c.args.joints.now) c.loop-place.order
          c.loop-place.invariant.order (λ k lt. c.loop-place.invariant.later lasts d more k (omega (arith, c.loop-place-test.false))) in
          rw best.2 at (every best.0 (omega (arith, best.1, c.requires.joints.count)));
    }

pub value_at-returns-then-is_alone-clause-answers : goal.value_at-returns-then-is_alone-clause-answers
value_at-returns-then-is_alone-clause-answers g t c =
    let rules = g.G.Game.rules c.args.game.now in
    let state = g.G.Game.state c.args.game.now c.args.from.now in
    let free : IsOpen rules c.args.asked.depth state = record {
      turn = c.if-asked-eq0.false;
      going = sym c.ended.ensures ∙ c.if-ended.false;
      free = sym c.is_stuck.ensures ∙ c.if-is_stuck.false;
    } in
    IfOk-weaker c.best_at.result _ _ (λ x h. open_answer rules c.args.asked.role c.args.asked.depth c.args.asked.at state free c.args.window.low c.args.window.high x h)
    c.best_at.ensures.answers

pub best_at-runs-init : goal.best_at-runs-init
best_at-runs-init g t c =
    let a = c.args.window.low in
    let ea : to_z w16 (of_z w16 a) ≡ a = to_z-of_z w16 a (search facts) in
    let first = c.requires.fit.levels 0 c.index-first-0.result (omega arith) in
    let there = c.split_at_mut-first.ensures.by_index.0 0 c.index-first-0.result (omega arith) in
    record {
      level = record {
        moves = record { cursor = c.start_turns.ensures.cursor; run = rw there first.moves.run };
        children = rw there first.children;
      };
      capacities = refl;
      kept = record {
        wide = c.requires.fit.wide;
        memory = c.requires.fit.memory;
        levels = λ k d below. rw (c.split_at_mut-first.ensures.by_index.1 k d) (c.requires.fit.levels (1 + k) d (omega arith));
        of_tools = refl;
        of_levels = refl;
      };
      deep = omega arith;
      some = omega arith;
      few = omega arith;
      stands = c.start_turns.ensures.stands;
      in_list = omega arith;
      above = omega (arith, ints);
      below = omega (arith, ints);
      at_most = omega (arith, ints, clamps);
      seen = λ k lt. absurd (omega arith);
      later = λ lasts d more k lt. absurd (omega arith);
    }

pub best_at-gather_own-requires-clause-joint : goal.best_at-gather_own-requires-clause-joint
best_at-gather_own-requires-clause-joint g t c κs within =
    let rules = g.G.Game.rules c.args.game.now in
    let state = g.G.Game.state c.args.game.now c.args.from.now in
    let law = g.met.G.Game g.world.𝓛 g.world.𝓜 g.world.𝓡 ((λ _ x. x), (λ x. x), (λ x. x), λ x. x) in
    let some = legal_some rules state c.args.asked.role c.requires.«open» c.requires.fit.role in
    let first = law.legal_within c.args.game.now state c.args.asked.role c.requires.fit.role 0 0 some in
    turn_known rules state c.args.asked.role 0 c.runs.level.moves.cursor.places.items c.runs.level.moves.cursor.joint.items c.runs.invariant.stands (omega arith)
    (λ q below. law.legal_within c.args.game.now state q below)

pub best_at-greatest_after-requires-clause-level : goal.best_at-greatest_after-requires-clause-level
best_at-greatest_after-requires-clause-level g t c κs within =
    let kept = c.runs.invariant.level in
    let taken = c.gather_own.ensures.own in
    let some = c.if-count-eq0.false in
    record {
      level = record { moves = record { cursor = kept.moves.cursor; run = taken.run }; children = kept.children };
      some = omega arith;
      known = taken.known;
    }

pub best_at-returns-then-count-eq0-clause-answers : goal.best_at-returns-then-count-eq0-clause-answers
best_at-returns-then-count-eq0-clause-answers g t c =
    let rules = g.G.Game.rules c.args.game.now in
    let state = g.G.Game.state c.args.game.now c.args.from.now in
    let worths : ℕ → List ℕ = λ d. map (worst rules c.args.asked.role d c.args.asked.at state) (rules.legal state c.args.asked.role) in
    let size : (d : ℕ) → length (worths d) ≡ length (rules.legal state c.args.asked.role) = λ d. length-map (rules.legal state c.args.asked.role)
    (worst rules c.args.asked.role d c.args.asked.at state) in
    let some = legal_some rules state c.args.asked.role c.requires.«open» c.requires.fit.role in
    let none = c.if-count-eq0.true in
    let past = c.gather_own.ensures.own.all (omega (arith, c.runs.invariant.some)) in
    let a = c.args.window.low in
    let ea : to_z w16 (of_z w16 a) ≡ a = to_z-of_z w16 a (search facts) in
    let b = c.args.window.high in
    let eb : to_z w16 (of_z w16 b) ≡ b = to_z-of_z w16 b (search facts) in
    let best = to_z w16 c.runs.best-bits in
    let depth = c.args.asked.depth in
    record {
      now = record {
        at_least = run_end (worths depth) c.runs.place b best (omega (arith, size depth)) (omega (arith, size depth)) c.runs.invariant.seen;
        at_most = c.runs.invariant.at_most;
      };
      later = λ lasts d more. run_end (worths d) c.runs.place b best (omega (arith, size d)) (omega (arith, size d)) (c.runs.invariant.later lasts d more);
    }

pub best_at-returns-then-count-eq0-clause-kept : goal.best_at-returns-then-count-eq0-clause-kept
best_at-returns-then-count-eq0-clause-kept g t c =
    let split = c.split_at_mut-first.ensures in
    let old = get_or c.split_at_mut-first.result.0.now 0 c.index-first-0.result in
    let now = c.runs.level in
    let begun : level_capacities g.G.Game c.args.game.now now ≡ level_capacities g.G.Game c.args.game.now old =
    c.runs.invariant.capacities
    ∙ level_kept g.G.Game c.args.game.now old record { cursor = c.start_turns.new.cursor; run = old.moves.run } old.children
    (moves_kept old.moves c.start_turns.new.cursor old.moves.run c.start_turns.ensures.capacities refl) refl in
    let level : Level g.row.G-Pos.Denot g.row.G-Many.Denot = record {
      moves = record { cursor = now.moves.cursor; run = c.gather_own.new.run };
      children = now.children;
    } in
    let turned : level_capacities g.G.Game c.args.game.now level ≡ level_capacities g.G.Game c.args.game.now now =
    level_kept g.G.Game c.args.game.now now level.moves now.children
    (moves_kept now.moves now.moves.cursor c.gather_own.new.run refl c.gather_own.ensures.capacities) refl in
    let is = c.runs.invariant.level in
    all_levels_kept c.args.levels.now c.split_at_mut-first.result.0.now c.split_at_mut-first.result.1.now
    c.runs.rest level c.index-first-0.result split.value split.front_len (record { moves = record { cursor = is.moves.cursor; run = c.gather_own.ensures.own.run }; children = is.children })
    (turned ∙ begun) (c.runs.invariant.kept)

pub best_at-returns-then-best-window-clause-answers : goal.best_at-returns-then-best-window-clause-answers
best_at-returns-then-best-window-clause-answers g t c =
    let rules = g.G.Game.rules c.args.game.now in
    let state = g.G.Game.state c.args.game.now c.args.from.now in
    let legal = rules.legal state c.args.asked.role in
    let own_worth = worst rules c.args.asked.role c.args.asked.depth c.args.asked.at state in
    let worths = map own_worth legal in
    let value_of : List ℕ → ℕ = λ s. value rules c.args.asked.role c.args.asked.depth c.args.asked.at s in
    let joint = c.runs.level.moves.cursor.joint.items in
    let run = c.gather_own.new.run in
    let a = c.args.window.low in
    let ea : to_z w16 (of_z w16 a) ≡ a = to_z-of_z w16 a (search facts) in
    let b = c.args.window.high in
    let eb : to_z w16 (of_z w16 b) ≡ b = to_z-of_z w16 b (search facts) in
    let best = to_z w16 c.runs.best-bits in
    let r = c.in_ok-greatest.greatest.worth in
    let fits_r : SFits w16 r = search facts in
    let fits_m : SFits w16 c.max-best.result = search facts in
    let raised : to_z w16 (of_z w16 c.max-best.result) ≡ int_max best r =
    to_z-of_z w16 c.max-best.result fits_m ∙ c.max-best.ensures.value ∙ ap (λ z. int_max best z) (to_z-of_z w16 r fits_r) in
    let each = alone_worst rules c.args.asked.role c.args.asked.depth c.args.asked.at state 0 c.runs.level.moves.cursor.places.items joint c.requires.fit.role
    c.requires.alone c.runs.invariant.stands in
    let found : map (λ j. value_of (rules.after state j)) (turns_in run) ≡ take run.count (drop c.runs.place worths) =
    ap (λ (ts : List Turn). map (λ t. value_of (rules.after state t)) ts) c.gather_own.ensures.own.turns
    ∙ own_worths (λ t. value_of (rules.after state t)) (λ m. set joint c.args.asked.role m) own_worth each (take run.count (drop c.runs.place legal))
    ∙ map_part own_worth c.runs.place run.count legal in
    let answers : Answers (greatest (take run.count (drop c.runs.place worths))) best b r = subst (λ (ws : List ℕ). Answers (greatest ws) best b r)
    found (rw eb at c.in_ok-greatest.ensures.answers.now) in
    let size : length worths ≡ length legal = length-map legal own_worth in
    let some = c.if-count-eq0.false in
    let most = run_most worths c.runs.place run.count a b best r (omega arith) (omega (arith, c.gather_own.ensures.own.within)) c.runs.invariant.at_most
    answers in
    let cut : b ≤ℤ int_max best r = rw (raised, eb) at (le_z_true (to_z w16 (of_z w16 b)) (to_z w16 (of_z w16 c.max-best.result)) c.if-best-window.true) in
    rw raised record {
      now = cut_above (greatest worths) a b (int_max best r) cut most;
      later = λ lasts d more. cut_later (greatest (map (worst rules c.args.asked.role d c.args.asked.at state) legal)) b (int_max best r) cut;
    }

pub best_at-returns-then-best-window-clause-kept : goal.best_at-returns-then-best-window-clause-kept
best_at-returns-then-best-window-clause-kept g t c =
    let split = c.split_at_mut-first.ensures in
    let old = get_or c.split_at_mut-first.result.0.now 0 c.index-first-0.result in
    let now = c.runs.level in
    let begun : level_capacities g.G.Game c.args.game.now now ≡ level_capacities g.G.Game c.args.game.now old =
    c.runs.invariant.capacities
    ∙ level_kept g.G.Game c.args.game.now old record { cursor = c.start_turns.new.cursor; run = old.moves.run } old.children
    (moves_kept old.moves c.start_turns.new.cursor old.moves.run c.start_turns.ensures.capacities refl) refl in
    let turned : level_capacities g.G.Game c.args.game.now c.greatest_after.new.level ≡ level_capacities g.G.Game c.args.game.now now =
    c.greatest_after.ensures.level.capacities
    ∙ level_kept g.G.Game c.args.game.now now record { cursor = now.moves.cursor; run = c.gather_own.new.run } now.children
    (moves_kept now.moves now.moves.cursor c.gather_own.new.run refl c.gather_own.ensures.capacities) refl in
    all_levels_kept c.args.levels.now c.split_at_mut-first.result.0.now c.split_at_mut-first.result.1.now
    c.greatest_after.new.levels c.greatest_after.new.level c.index-first-0.result split.value split.front_len c.greatest_after.ensures.level.level
    (turned ∙ begun) (kept_then c.runs.invariant.kept c.greatest_after.ensures.kept)

pub best_at-runs-preserved : goal.best_at-runs-preserved
best_at-runs-preserved g t c =
    let rules = g.G.Game.rules c.args.game.now in
    let state = g.G.Game.state c.args.game.now c.args.from.now in
    let legal = rules.legal state c.args.asked.role in
    let own_worth = worst rules c.args.asked.role c.args.asked.depth c.args.asked.at state in
    let worths = map own_worth legal in
    let value_of : List ℕ → ℕ = λ s. value rules c.args.asked.role c.args.asked.depth c.args.asked.at s in
    let joint = c.runs.level.moves.cursor.joint.items in
    let run = c.gather_own.new.run in
    let a = c.args.window.low in
    let ea : to_z w16 (of_z w16 a) ≡ a = to_z-of_z w16 a (search facts) in
    let b = c.args.window.high in
    let eb : to_z w16 (of_z w16 b) ≡ b = to_z-of_z w16 b (search facts) in
    let best = to_z w16 c.runs.best-bits in
    let r = c.in_ok-greatest.greatest.worth in
    let fits_r : SFits w16 r = search facts in
    let fits_m : SFits w16 c.max-best.result = search facts in
    let raised : to_z w16 (of_z w16 c.max-best.result) ≡ int_max best r =
    to_z-of_z w16 c.max-best.result fits_m ∙ c.max-best.ensures.value ∙ ap (λ z. int_max best z) (to_z-of_z w16 r fits_r) in
    let own_at : ℕ → ℕ → ℕ = λ d. worst rules c.args.asked.role d c.args.asked.at state in
    let after_at : ℕ → Turn → ℕ = λ d j. value rules c.args.asked.role d c.args.asked.at (rules.after state j) in
    let found_at : (d : ℕ) → map (after_at d) (turns_in run) ≡ take run.count (drop c.runs.place (map (own_at d) legal)) = λ d.
    let each = alone_worst rules c.args.asked.role d c.args.asked.at state 0 c.runs.level.moves.cursor.places.items joint c.requires.fit.role
    c.requires.alone c.runs.invariant.stands in
    ap (λ (ts : List Turn). map (after_at d) ts) c.gather_own.ensures.own.turns
    ∙ own_worths (after_at d) (λ m. set joint c.args.asked.role m) (own_at d) each (take run.count (drop c.runs.place legal))
    ∙ map_part (own_at d) c.runs.place run.count legal in
    let found = found_at c.args.asked.depth in
    let answers : Answers (greatest (take run.count (drop c.runs.place worths))) best b r = subst (λ (ws : List ℕ). Answers (greatest ws) best b r)
    found (rw eb at c.in_ok-greatest.ensures.answers.now) in
    let size : length worths ≡ length legal = length-map legal own_worth in
    let some = c.if-count-eq0.false in
    let inside : c.runs.place + run.count ≤ length worths = omega (arith, c.gather_own.ensures.own.within) in
    let now = c.runs.level in
    record {
      level = c.greatest_after.ensures.level.level;
      capacities = c.greatest_after.ensures.level.capacities
          ∙ level_kept g.G.Game c.args.game.now now record { cursor = now.moves.cursor; run = c.gather_own.new.run } now.children
          (moves_kept now.moves now.moves.cursor c.gather_own.new.run refl c.gather_own.ensures.capacities) refl
          ∙ c.runs.invariant.capacities;
      kept = kept_then c.runs.invariant.kept c.greatest_after.ensures.kept;
      deep = omega arith;
      some = omega (arith, c.min-most.ensures, c.runs.invariant.some);
      few = omega (arith, c.min-most.ensures);
      stands = rw c.greatest_after.ensures.level.moves c.runs.invariant.stands;
      in_list = omega (arith, c.gather_own.ensures.own.within);
      above = rw raised (raised_above a best r c.runs.invariant.above);
      below = rw eb at (le_z_false (to_z w16 (of_z w16 b)) (to_z w16 (of_z w16 c.max-best.result)) c.if-best-window.false);
      at_most = rw raised (run_most worths c.runs.place run.count a b best r (omega arith) inside c.runs.invariant.at_most answers);
      seen = λ k lt. rw raised (run_seen worths c.runs.place run.count b best r inside c.runs.invariant.seen answers.at_least k lt);
      later = λ lasts d more k lt.
          let both = both_true c.runs.lasts c.in_ok-greatest.greatest.lasts c.both_last-lasts.result c.both_last-lasts.ensures lasts in
          let size_at : length (map (own_at d) legal) ≡ length legal = length-map legal (own_at d) in
          let part : int_min (pos (greatest (take run.count (drop c.runs.place (map (own_at d) legal))))) b ≤ℤ r =
          subst (λ (ws : List ℕ). int_min (pos (greatest ws)) b ≤ℤ r) (found_at d) (rw eb at (c.in_ok-greatest.ensures.answers.later both.1 d more)) in
          rw raised (run_seen (map (own_at d) legal) c.runs.place run.count b best r (omega (arith, c.gather_own.ensures.own.within))
          (c.runs.invariant.later both.0 d more) part k lt);
    }

pub best_at-overflow_add-place : goal.best_at-overflow_add-place
best_at-overflow_add-place g t c =
    let rules = g.G.Game.rules c.args.game.now in
    let state = g.G.Game.state c.args.game.now c.args.from.now in
    let law = g.met.G.Game g.world.𝓛 g.world.𝓜 g.world.𝓡 ((λ _ x. x), (λ x. x), (λ x. x), λ x. x) in
    let few = legal_count rules state c.args.asked.role (law.legal_ascending c.args.game.now state c.args.asked.role c.requires.fit.role)
    (law.legal_within c.args.game.now state c.args.asked.role c.requires.fit.role)
    (law.moves_within c.args.game.now c.args.asked.role c.requires.fit.role) in
    omega (arith, c.gather_own.ensures.own.within)

pub least_after-judge_last-requires-clause-joints : goal.least_after-judge_last-requires-clause-joints
least_after-judge_last-requires-clause-joints g t c κs within =
    steps_of (g.G.Game.rules c.args.game.now) c.args.level.now.moves.run _ c.deref.ensures.value c.requires.level.level.moves.run
    c.requires.level.some c.requires.level.known

pub least_after-steps-requires-clause-joints : goal.least_after-steps-requires-clause-joints
least_after-steps-requires-clause-joints g t c =
    let rules = g.G.Game.rules c.args.game.now in
    known_each (λ j. IsTurn rules j) (take c.args.level.now.moves.run.count c.deref.result.now) (rw c.deref.ensures.value c.requires.level.known)

pub least_after-returns-then-judge_last-clause-answers : goal.least_after-returns-then-judge_last-clause-answers
least_after-returns-then-judge_last-clause-answers g t c =
    let rules = g.G.Game.rules c.args.game.now in
    let state = g.G.Game.state c.args.game.now c.args.from.now in
    let value_of : List ℕ → ℕ = λ s. value rules c.args.asked.role c.args.asked.depth c.args.asked.at s in
    let worth : List ℕ → ℕ = λ j. value_of (rules.after state j) in
    let run = c.args.level.now.moves.run in
    let a = c.args.window.low in
    let ea : to_z w16 (of_z w16 a) ≡ a = to_z-of_z w16 a (search facts) in
    let b = c.args.window.high in
    let eb : to_z w16 (of_z w16 b) ≡ b = to_z-of_z w16 b (search facts) in
    let r = c.least_judged.result in
    let fits_r : SFits w16 r = search facts in
    let worths : map value_of (g.G.Game.judged c.args.game.now c.judge_last.new.wide) ≡ map worth (turns_in run) =
    ap (map value_of) ((c.judge_last.ensures.judged c.if-judge_last.true).after
    ∙ ap (λ (js : List (SmallVec ℕ)). map (λ (j : SmallVec ℕ). rules.after state j.items) (take run.count js)) c.deref.ensures.value)
    ∙ worths_after value_of (rules.after state) (take run.count run.joints.items) in
    rw (to_z-of_z w16 r fits_r) record {
      now = subst (λ (ws : List ℕ). Answers (least ws) c.args.window.low c.args.window.high r) worths c.least_judged.ensures;
      later = λ lasts. absurd cc;
    }

pub least_after-returns-clause-answers : goal.least_after-returns-clause-answers
least_after-returns-clause-answers g t c =
    let rules = g.G.Game.rules c.args.game.now in
    let state = g.G.Game.state c.args.game.now c.args.from.now in
    let value_of : ℕ → List ℕ → ℕ = λ d s. value rules c.args.asked.role d c.args.asked.at s in
    let worth : ℕ → List ℕ → ℕ = λ d j. value_of d (rules.after state j) in
    let run = c.args.level.now.moves.run in
    let a = c.args.window.low in
    let ea : to_z w16 (of_z w16 a) ≡ a = to_z-of_z w16 a (search facts) in
    let b = c.args.window.high in
    let eb : to_z w16 (of_z w16 b) ≡ b = to_z-of_z w16 b (search facts) in
    let worths : (d : ℕ) → map (value_of d) (g.G.Game.states c.args.game.now c.steps.new.out) ≡ map (worth d) (turns_in run) = λ d.
    ap (map (value_of d)) (c.steps.ensures.after
    ∙ ap (λ (js : List (SmallVec ℕ)). map (λ (j : SmallVec ℕ). rules.after state j.items) (take run.count js)) c.deref.ensures.value)
    ∙ worths_after (value_of d) (rules.after state) (take run.count run.joints.items) in
    IfOk-weaker c.least_at.result _ _ (λ x h. record {
      now = subst (λ (ws : List ℕ). Answers (least ws) c.args.window.low c.args.window.high x.worth) (worths c.args.asked.depth) h.now;
      later = λ lasts d more. subst (λ (ws : List ℕ). int_min (pos (least ws)) c.args.window.high ≤ℤ x.worth) (worths d) (h.later lasts d more);
    })
    c.least_at.ensures.answers

pub greatest_after-judge_last-requires-clause-joints : goal.greatest_after-judge_last-requires-clause-joints
greatest_after-judge_last-requires-clause-joints g t c κs within =
    steps_of (g.G.Game.rules c.args.game.now) c.args.level.now.moves.run _ c.deref.ensures.value c.requires.level.level.moves.run
    c.requires.level.some c.requires.level.known

pub greatest_after-steps-requires-clause-joints : goal.greatest_after-steps-requires-clause-joints
greatest_after-steps-requires-clause-joints g t c =
    let rules = g.G.Game.rules c.args.game.now in
    known_each (λ j. IsTurn rules j) (take c.args.level.now.moves.run.count c.deref.result.now) (rw c.deref.ensures.value c.requires.level.known)

pub greatest_after-returns-then-judge_last-clause-answers : goal.greatest_after-returns-then-judge_last-clause-answers
greatest_after-returns-then-judge_last-clause-answers g t c =
    let rules = g.G.Game.rules c.args.game.now in
    let state = g.G.Game.state c.args.game.now c.args.from.now in
    let value_of : List ℕ → ℕ = λ s. value rules c.args.asked.role c.args.asked.depth c.args.asked.at s in
    let worth : List ℕ → ℕ = λ j. value_of (rules.after state j) in
    let run = c.args.level.now.moves.run in
    let a = c.args.window.low in
    let ea : to_z w16 (of_z w16 a) ≡ a = to_z-of_z w16 a (search facts) in
    let b = c.args.window.high in
    let eb : to_z w16 (of_z w16 b) ≡ b = to_z-of_z w16 b (search facts) in
    let r = c.greatest_judged.result in
    let fits_r : SFits w16 r = search facts in
    let worths : map value_of (g.G.Game.judged c.args.game.now c.judge_last.new.wide) ≡ map worth (turns_in run) =
    ap (map value_of) ((c.judge_last.ensures.judged c.if-judge_last.true).after
    ∙ ap (λ (js : List (SmallVec ℕ)). map (λ (j : SmallVec ℕ). rules.after state j.items) (take run.count js)) c.deref.ensures.value)
    ∙ worths_after value_of (rules.after state) (take run.count run.joints.items) in
    rw (to_z-of_z w16 r fits_r) record {
      now = subst (λ (ws : List ℕ). Answers (greatest ws) c.args.window.low c.args.window.high r) worths c.greatest_judged.ensures;
      later = λ lasts. absurd cc;
    }

pub greatest_after-returns-clause-answers : goal.greatest_after-returns-clause-answers
greatest_after-returns-clause-answers g t c =
    let rules = g.G.Game.rules c.args.game.now in
    let state = g.G.Game.state c.args.game.now c.args.from.now in
    let value_of : ℕ → List ℕ → ℕ = λ d s. value rules c.args.asked.role d c.args.asked.at s in
    let worth : ℕ → List ℕ → ℕ = λ d j. value_of d (rules.after state j) in
    let run = c.args.level.now.moves.run in
    let a = c.args.window.low in
    let ea : to_z w16 (of_z w16 a) ≡ a = to_z-of_z w16 a (search facts) in
    let b = c.args.window.high in
    let eb : to_z w16 (of_z w16 b) ≡ b = to_z-of_z w16 b (search facts) in
    let worths : (d : ℕ) → map (value_of d) (g.G.Game.states c.args.game.now c.steps.new.out) ≡ map (worth d) (turns_in run) = λ d.
    ap (map (value_of d)) (c.steps.ensures.after
    ∙ ap (λ (js : List (SmallVec ℕ)). map (λ (j : SmallVec ℕ). rules.after state j.items) (take run.count js)) c.deref.ensures.value)
    ∙ worths_after (value_of d) (rules.after state) (take run.count run.joints.items) in
    IfOk-weaker c.greatest_at.result _ _ (λ x h. record {
      now = subst (λ (ws : List ℕ). Answers (greatest ws) c.args.window.low c.args.window.high x.worth) (worths c.args.asked.depth) h.now;
      later = λ lasts d more. subst (λ (ws : List ℕ). int_min (pos (greatest ws)) c.args.window.high ≤ℤ x.worth) (worths d) (h.later lasts d more);
    })
    c.greatest_at.ensures.answers

pub least_at-try_child_at-requires-clause-place : goal.least_at-try_child_at-requires-clause-place
least_at-try_child_at-requires-clause-place g t c κs within =
    let inside = place_within (length c.args.joints.now) c.put_off.new.order c.loop-place.place 0
    (IsPermutation-trans (range_with_len 0 (length c.args.joints.now)) (take (length c.args.joints.now) c.loop-place.order)
    (take (length c.args.joints.now) c.put_off.new.order) c.loop-place.invariant.order c.put_off.ensures.order)
    (omega (arith, c.loop-place-test.true)) in
    let same : c.loop-place.children.many ≡ c.args.children.now.many = c.loop-place.invariant.same.many in
    rw same (omega (arith, c.requires.joints.count))

pub least_at-bounds-joints-child : goal.least_at-bounds-joints-child
least_at-bounds-joints-child g t c =
    place_within (length c.args.joints.now) c.put_off.new.order c.loop-place.place 0
    (IsPermutation-trans (range_with_len 0 (length c.args.joints.now)) (take (length c.args.joints.now) c.loop-place.order)
    (take (length c.args.joints.now) c.put_off.new.order) c.loop-place.invariant.order c.put_off.ensures.order)
    (omega (arith, c.loop-place-test.true))

pub least_at-offset_bounds-joints-child : goal.least_at-offset_bounds-joints-child
least_at-offset_bounds-joints-child g t c =
    let inside = place_within (length c.args.joints.now) c.put_off.new.order c.loop-place.place 0
    (IsPermutation-trans (range_with_len 0 (length c.args.joints.now)) (take (length c.args.joints.now) c.loop-place.order)
    (take (length c.args.joints.now) c.put_off.new.order) c.loop-place.invariant.order c.put_off.ensures.order)
    (omega (arith, c.loop-place-test.true)) in
    omega (arith, c.requires.joints.few)

pub greatest_at-try_child_at-requires-clause-place : goal.greatest_at-try_child_at-requires-clause-place
greatest_at-try_child_at-requires-clause-place g t c κs within =
    let inside = place_within (length c.args.joints.now) c.put_off.new.order c.loop-place.place 0
    (IsPermutation-trans (range_with_len 0 (length c.args.joints.now)) (take (length c.args.joints.now) c.loop-place.order)
    (take (length c.args.joints.now) c.put_off.new.order) c.loop-place.invariant.order c.put_off.ensures.order)
    (omega (arith, c.loop-place-test.true)) in
    let same : c.loop-place.children.many ≡ c.args.children.now.many = c.loop-place.invariant.same.many in
    rw same (omega (arith, c.requires.joints.count))

pub greatest_at-bounds-joints-child : goal.greatest_at-bounds-joints-child
greatest_at-bounds-joints-child g t c =
    place_within (length c.args.joints.now) c.put_off.new.order c.loop-place.place 0
    (IsPermutation-trans (range_with_len 0 (length c.args.joints.now)) (take (length c.args.joints.now) c.loop-place.order)
    (take (length c.args.joints.now) c.put_off.new.order) c.loop-place.invariant.order c.put_off.ensures.order)
    (omega (arith, c.loop-place-test.true))

pub greatest_at-offset_bounds-joints-child : goal.greatest_at-offset_bounds-joints-child
greatest_at-offset_bounds-joints-child g t c =
    let inside = place_within (length c.args.joints.now) c.put_off.new.order c.loop-place.place 0
    (IsPermutation-trans (range_with_len 0 (length c.args.joints.now)) (take (length c.args.joints.now) c.loop-place.order)
    (take (length c.args.joints.now) c.put_off.new.order) c.loop-place.invariant.order c.put_off.ensures.order)
    (omega (arith, c.loop-place-test.true)) in
    omega (arith, c.requires.joints.few)

pub least_at-loop-place-init : goal.least_at-loop-place-init
least_at-loop-place-init g t c =
    let rules = g.G.Game.rules c.args.game.now in
    let states = g.G.Game.states c.args.game.now c.args.children.now.many in
    let worth : State → ℕ → ℕ = λ s d. value rules c.args.asked.role d c.args.asked.at s in
    let all : ℕ → ℕ = λ d. least (map (λ s. worth s d) states) in
    let a = c.args.window.low in
    let ea : to_z w16 (of_z w16 a) ≡ a = to_z-of_z w16 a (search facts) in
    let b = c.args.window.high in
    let eb : to_z w16 (of_z w16 b) ≡ b = to_z-of_z w16 b (search facts) in
    let told = c.least_told-told.result in
    let upper = c.least_bound-known.result in
    let eu : to_z w16 (of_z w16 upper.worth) ≡ upper.worth = to_z-of_z w16 upper.worth (search facts) in
    let same : c.look_back.new.children.many ≡ c.args.children.now.many = c.look_back.ensures.same.many in
    let known = rw same at c.look_back.ensures.children.ahead in
    let most_told : told.worth ≤ℤ b = subst (λ (z : ℤ). told.worth ≤ℤ z) eb c.least_told-told.ensures.at_most in
    let is_told : IsUpperBound all c.args.asked.depth b told = subst (λ (z : ℤ). IsUpperBound all c.args.asked.depth z told) eb c.least_told-told.ensures.upper in
    let found : IsUpperBound all c.args.asked.depth b upper = c.least_bound-known.ensures.upper states worth c.args.asked.depth b known most_told is_told in
    let most_known = c.least_bound-known.ensures.at_most in
    record {
      kept = record {
        wide = c.look_back.ensures.tools.wide;
        memory = c.look_back.ensures.tools.memory;
        levels = c.requires.fit.levels;
        of_tools = c.look_back.ensures.tools.capacities;
        of_levels = refl;
      };
      deep = refl;
      known = c.look_back.ensures.children;
      same = record { position = c.look_back.ensures.same.position; capacities = c.look_back.ensures.same.capacities; many = same };
      above = rw ea at (le_z_false (to_z w16 (of_z w16 upper.worth)) (to_z w16 (of_z w16 a)) c.if-known-window.false);
      below = rw eu (omega (arith, ints));
      at_least = rw eu found.now;
      later = rw eu found.later;
      size = search facts;
      order = c.order_of-order.ensures;
      seen = λ k lt. absurd (omega arith);
    }

pub least_at-returns-then-known-window-clause-answers : goal.least_at-returns-then-known-window-clause-answers
least_at-returns-then-known-window-clause-answers g t c =
    let rules = g.G.Game.rules c.args.game.now in
    let states = g.G.Game.states c.args.game.now c.args.children.now.many in
    let worth : State → ℕ → ℕ = λ s d. value rules c.args.asked.role d c.args.asked.at s in
    let all : ℕ → ℕ = λ d. least (map (λ s. worth s d) states) in
    let a = c.args.window.low in
    let ea : to_z w16 (of_z w16 a) ≡ a = to_z-of_z w16 a (search facts) in
    let b = c.args.window.high in
    let eb : to_z w16 (of_z w16 b) ≡ b = to_z-of_z w16 b (search facts) in
    let told = c.least_told-told.result in
    let upper = c.least_bound-known.result in
    let eu : to_z w16 (of_z w16 upper.worth) ≡ upper.worth = to_z-of_z w16 upper.worth (search facts) in
    let same : c.look_back.new.children.many ≡ c.args.children.now.many = c.look_back.ensures.same.many in
    let known = rw same at c.look_back.ensures.children.ahead in
    let most_told : told.worth ≤ℤ b = subst (λ (z : ℤ). told.worth ≤ℤ z) eb c.least_told-told.ensures.at_most in
    let is_told : IsUpperBound all c.args.asked.depth b told = subst (λ (z : ℤ). IsUpperBound all c.args.asked.depth z told) eb c.least_told-told.ensures.upper in
    let found : IsUpperBound all c.args.asked.depth b upper = c.least_bound-known.ensures.upper states worth c.args.asked.depth b known most_told is_told in
    let cut : upper.worth ≤ℤ a = rw (eu, ea) at (le_z_true (to_z w16 (of_z w16 upper.worth)) (to_z w16 (of_z w16 a)) c.if-known-window.true) in
    upper_answer all c.args.asked.depth a b upper cut found

pub least_at-returns-then-known-window-clause-kept : goal.least_at-returns-then-known-window-clause-kept
least_at-returns-then-known-window-clause-kept g t c = record {
  wide = c.look_back.ensures.tools.wide;
  memory = c.look_back.ensures.tools.memory;
  levels = c.requires.fit.levels;
  of_tools = c.look_back.ensures.tools.capacities;
  of_levels = refl;
}

pub least_at-look_back-requires-clause-children : goal.least_at-look_back-requires-clause-children
least_at-look_back-requires-clause-children g t c κs within =
    let rules = g.G.Game.rules c.args.game.now in
    let states = g.G.Game.states c.args.game.now c.args.children.now.many in
    let worth : State → ℕ → ℕ = λ s d. value rules c.args.asked.role d c.args.asked.at s in
    let law = g.met.G.Game g.world.𝓛 g.world.𝓜 g.world.𝓡 ((λ _ x. x), (λ x. x), (λ x. x), λ x. x) in
    record {
      many = c.requires.children.many;
      position = c.requires.children.position;
      ahead = c.new_ahead-children.ensures states worth c.args.asked.depth (sym c.requires.joints.count)
          (λ s d. value_at_most rules c.args.asked.role (λ q r. law.goal_within c.args.game.now q r) d c.args.asked.at s);
    }

pub greatest_at-loop-place-init : goal.greatest_at-loop-place-init
greatest_at-loop-place-init g t c =
    let rules = g.G.Game.rules c.args.game.now in
    let states = g.G.Game.states c.args.game.now c.args.children.now.many in
    let worth : List ℕ → ℕ = λ s. value rules c.args.asked.role c.args.asked.depth c.args.asked.at s in
    let all = greatest (map worth states) in
    let a = c.args.window.low in
    let ea : to_z w16 (of_z w16 a) ≡ a = to_z-of_z w16 a (search facts) in
    let b = c.args.window.high in
    let eb : to_z w16 (of_z w16 b) ≡ b = to_z-of_z w16 b (search facts) in
    let first = c.greatest_told-lower.result in
    let fits_first : SFits w16 first = search facts in
    let ef : to_z w16 (of_z w16 first) ≡ first = to_z-of_z w16 first fits_first in
    let lower = c.greatest_bound-lower.result in
    let fits : SFits w16 lower = search facts in
    let eu : to_z w16 (of_z w16 lower) ≡ lower = to_z-of_z w16 lower fits in
    let same : c.look_back.new.children.many ≡ c.args.children.now.many = c.look_back.ensures.same.many in
    let known = rw same at c.look_back.ensures.children.ahead in
    let told : first ≤ℤ int_max (pos all) a = subst (λ (z : ℤ). first ≤ℤ int_max (pos all) z) ea c.greatest_told-lower.ensures.at_most in
    let found : lower ≤ℤ int_max (pos all) first = subst (λ (z : ℤ). lower ≤ℤ int_max (pos all) z) ef (c.greatest_bound-lower.ensures.at_most states (λ s d. value rules c.args.asked.role d c.args.asked.at s) c.args.asked.depth known) in
    let most_known : lower ≤ℤ int_max (pos all) a = higher_yet all a first lower told found in
    let least_told : a ≤ℤ first = subst (λ (z : ℤ). z ≤ℤ first) ea c.greatest_told-lower.ensures.at_least in
    let least_known : first ≤ℤ lower = subst (λ (z : ℤ). z ≤ℤ lower) ef c.greatest_bound-lower.ensures.at_least in
    record {
      kept = record {
        wide = c.look_back.ensures.tools.wide;
        memory = c.look_back.ensures.tools.memory;
        levels = c.requires.fit.levels;
        of_tools = c.look_back.ensures.tools.capacities;
        of_levels = refl;
      };
      deep = refl;
      known = c.look_back.ensures.children;
      same = record { position = c.look_back.ensures.same.position; capacities = c.look_back.ensures.same.capacities; many = same };
      above = rw eu (omega (arith, ints));
      below = rw eb at (le_z_false (to_z w16 (of_z w16 b)) (to_z w16 (of_z w16 lower)) c.if-lower-window-2.false);
      at_most = rw eu most_known;
      size = search facts;
      order = c.order_of-order.ensures;
      seen = λ k lt. absurd (omega arith);
      later = λ lasts d more k lt. absurd (omega arith);
    }

pub greatest_at-returns-then-lower-window-2-clause-answers : goal.greatest_at-returns-then-lower-window-2-clause-answers
greatest_at-returns-then-lower-window-2-clause-answers g t c =
    let rules = g.G.Game.rules c.args.game.now in
    let states = g.G.Game.states c.args.game.now c.args.children.now.many in
    let worth : List ℕ → ℕ = λ s. value rules c.args.asked.role c.args.asked.depth c.args.asked.at s in
    let all = greatest (map worth states) in
    let a = c.args.window.low in
    let ea : to_z w16 (of_z w16 a) ≡ a = to_z-of_z w16 a (search facts) in
    let b = c.args.window.high in
    let eb : to_z w16 (of_z w16 b) ≡ b = to_z-of_z w16 b (search facts) in
    let first = c.greatest_told-lower.result in
    let fits_first : SFits w16 first = search facts in
    let ef : to_z w16 (of_z w16 first) ≡ first = to_z-of_z w16 first fits_first in
    let lower = c.greatest_bound-lower.result in
    let fits : SFits w16 lower = search facts in
    let eu : to_z w16 (of_z w16 lower) ≡ lower = to_z-of_z w16 lower fits in
    let same : c.look_back.new.children.many ≡ c.args.children.now.many = c.look_back.ensures.same.many in
    let known = rw same at c.look_back.ensures.children.ahead in
    let told : first ≤ℤ int_max (pos all) a = subst (λ (z : ℤ). first ≤ℤ int_max (pos all) z) ea c.greatest_told-lower.ensures.at_most in
    let found : lower ≤ℤ int_max (pos all) first = subst (λ (z : ℤ). lower ≤ℤ int_max (pos all) z) ef (c.greatest_bound-lower.ensures.at_most states (λ s d. value rules c.args.asked.role d c.args.asked.at s) c.args.asked.depth known) in
    let most_known : lower ≤ℤ int_max (pos all) a = higher_yet all a first lower told found in
    let least_told : a ≤ℤ first = subst (λ (z : ℤ). z ≤ℤ first) ea c.greatest_told-lower.ensures.at_least in
    let least_known : first ≤ℤ lower = subst (λ (z : ℤ). z ≤ℤ lower) ef c.greatest_bound-lower.ensures.at_least in
    let cut : b ≤ℤ lower = rw (eb, eu) at (le_z_true (to_z w16 (of_z w16 b)) (to_z w16 (of_z w16 lower)) c.if-lower-window-2.true) in
    rw eu record {
      now = cut_above all a b lower cut most_known;
      later = λ lasts d more. cut_later (greatest (map (λ s. value rules c.args.asked.role d c.args.asked.at s) states)) b lower cut;
    }

pub greatest_at-returns-then-lower-window-2-clause-kept : goal.greatest_at-returns-then-lower-window-2-clause-kept
greatest_at-returns-then-lower-window-2-clause-kept g t c = record {
  wide = c.look_back.ensures.tools.wide;
  memory = c.look_back.ensures.tools.memory;
  levels = c.requires.fit.levels;
  of_tools = c.look_back.ensures.tools.capacities;
  of_levels = refl;
}

pub greatest_at-look_back-requires-clause-children : goal.greatest_at-look_back-requires-clause-children
greatest_at-look_back-requires-clause-children g t c κs within =
    let rules = g.G.Game.rules c.args.game.now in
    let states = g.G.Game.states c.args.game.now c.args.children.now.many in
    let worth : State → ℕ → ℕ = λ s d. value rules c.args.asked.role d c.args.asked.at s in
    let law = g.met.G.Game g.world.𝓛 g.world.𝓜 g.world.𝓡 ((λ _ x. x), (λ x. x), (λ x. x), λ x. x) in
    record {
      many = c.requires.children.many;
      position = c.requires.children.position;
      ahead = c.new_ahead-children.ensures states worth c.args.asked.depth (sym c.requires.joints.count)
          (λ s d. value_at_most rules c.args.asked.role (λ q r. law.goal_within c.args.game.now q r) d c.args.asked.at s);
    }

pub try_child_at-returns-in-Some-clause-answers : goal.try_child_at-returns-in-Some-clause-answers
try_child_at-returns-in-Some-clause-answers g t c =
    let worth : ℕ → ℕ = λ d. value (g.G.Game.rules c.args.game.now) c.args.asked.role d c.args.asked.at
    (get_or (g.G.Game.states c.args.game.now c.args.children.now.many) c.args.place []) in
    let told = c.in-Some.told in
    record {
      now = exact (worth c.args.asked.depth) c.args.window.low c.args.window.high told.worth c.in-Some.ensures.worth;
      later = λ lasts d more. exact_later (worth d) c.args.window.high told.worth (c.in-Some.ensures.lasts lasts d);
    }

pub try_child_at-returns-then-left-clause-answers : goal.try_child_at-returns-then-left-clause-answers
try_child_at-returns-then-left-clause-answers g t c =
    let states = g.G.Game.states c.args.game.now c.args.children.now.many in
    let worth : ℕ → ℕ = λ d. value (g.G.Game.rules c.args.game.now) c.args.asked.role d c.args.asked.at (get_or states c.args.place []) in
    let same : c.look_ahead.new.children.many ≡ c.args.children.now.many = c.look_ahead.ensures.same.many in
    let known = c.bounds_of-known.result in
    let inside = c.bounds_of-known.ensures states (λ s d. value (g.G.Game.rules c.args.game.now) c.args.asked.role d c.args.asked.at s) c.args.asked.depth
    (rw same at c.look_ahead.ensures.children.ahead) c.requires.place in
    let low = c.narrowed-left.result.low in
    let high = c.narrowed-left.result.high in
    let el : to_z w16 (of_z w16 low) ≡ low = to_z-of_z w16 low (search facts) in
    let eh : to_z w16 (of_z w16 high) ≡ high = to_z-of_z w16 high (search facts) in
    settled_answer worth c.args.asked.depth known c.args.window.low c.args.window.high low high c.settled.result inside c.requires.window.order
    c.narrowed-left.ensures.low c.narrowed-left.ensures.high
    (rw (eh, el) at (le_z_true (to_z w16 (of_z w16 high)) (to_z w16 (of_z w16 low)) c.if-left.true)) (rw eh at c.settled.ensures.worth) c.settled.ensures.lasts

pub try_child_at-try_known_at-requires-clause-window : goal.try_child_at-try_known_at-requires-clause-window
try_child_at-try_known_at-requires-clause-window g t c κs within =
    let low = c.narrowed-left.result.low in
    let high = c.narrowed-left.result.high in
    let el : to_z w16 (of_z w16 low) ≡ low = to_z-of_z w16 low (search facts) in
    let eh : to_z w16 (of_z w16 high) ≡ high = to_z-of_z w16 high (search facts) in
    narrow_window c.bounds_of-known.result c.args.window.low c.args.window.high low high c.requires.window c.narrowed-left.ensures.low
    c.narrowed-left.ensures.high (rw (eh, el) at (le_z_false (to_z w16 (of_z w16 high)) (to_z w16 (of_z w16 low)) c.if-left.false))

pub try_child_at-returns-clause-answers : goal.try_child_at-returns-clause-answers
try_child_at-returns-clause-answers g t c =
    let states = g.G.Game.states c.args.game.now c.args.children.now.many in
    let worth : ℕ → ℕ = λ d. value (g.G.Game.rules c.args.game.now) c.args.asked.role d c.args.asked.at (get_or states c.args.place []) in
    let same : c.look_ahead.new.children.many ≡ c.args.children.now.many = c.look_ahead.ensures.same.many in
    let known = c.bounds_of-known.result in
    let inside = c.bounds_of-known.ensures states (λ s d. value (g.G.Game.rules c.args.game.now) c.args.asked.role d c.args.asked.at s) c.args.asked.depth
    (rw same at c.look_ahead.ensures.children.ahead) c.requires.place in
    let low = c.narrowed-left.result.low in
    let high = c.narrowed-left.result.high in
    let taken : g.G.Game.state c.args.game.now c.take.new.q ≡ get_or states c.args.place [] = c.take.ensures.taken
    ∙ ap (λ m. get_or (g.G.Game.states c.args.game.now m) c.args.place []) same in
    let eh : to_z w16 (of_z w16 high) ≡ high = to_z-of_z w16 high (search facts) in
    widened_answer worth c.args.asked.depth known c.args.window.low c.args.window.high low high c.in_ok-answer.answer c.widened.result inside
    c.narrowed-left.ensures.low c.narrowed-left.ensures.high (rw taken at c.in_ok-answer.ensures.answers) c.widened.ensures.worth
    (rw eh at c.widened.ensures.lasts)

pub try_child_at-returns-clause-kept : goal.try_child_at-returns-clause-kept
try_child_at-returns-clause-kept g t c = kept_then c.look_ahead.ensures.kept c.try_known_at.ensures.kept

pub try_known_at-returns-then-left-clause-answers : goal.try_known_at-returns-then-left-clause-answers
try_known_at-returns-then-left-clause-answers g t c =
    let worth : ℕ → ℕ = λ d. value (g.G.Game.rules c.args.game.now) c.args.asked.role d c.args.asked.at (g.G.Game.state c.args.game.now c.args.from.now) in
    let low = c.narrowed-left.result.low in
    let high = c.narrowed-left.result.high in
    let el : to_z w16 (of_z w16 low) ≡ low = to_z-of_z w16 low (search facts) in
    let eh : to_z w16 (of_z w16 high) ≡ high = to_z-of_z w16 high (search facts) in
    settled_answer worth c.args.asked.depth c.recall-known.result c.args.window.low c.args.window.high low high c.settled.result
    c.recall-known.ensures.within c.requires.window.order c.narrowed-left.ensures.low c.narrowed-left.ensures.high
    (rw (eh, el) at (le_z_true (to_z w16 (of_z w16 high)) (to_z w16 (of_z w16 low)) c.if-left.true)) (rw eh at c.settled.ensures.worth) c.settled.ensures.lasts

pub try_known_at-value_at-requires-clause-window : goal.try_known_at-value_at-requires-clause-window
try_known_at-value_at-requires-clause-window g t c κs within =
    let low = c.narrowed-left.result.low in
    let high = c.narrowed-left.result.high in
    let el : to_z w16 (of_z w16 low) ≡ low = to_z-of_z w16 low (search facts) in
    let eh : to_z w16 (of_z w16 high) ≡ high = to_z-of_z w16 high (search facts) in
    narrow_window c.recall-known.result c.args.window.low c.args.window.high low high c.requires.window c.narrowed-left.ensures.low
    c.narrowed-left.ensures.high (rw (eh, el) at (le_z_false (to_z w16 (of_z w16 high)) (to_z w16 (of_z w16 low)) c.if-left.false))

pub try_known_at-keep-requires-clause-found : goal.try_known_at-keep-requires-clause-found
try_known_at-keep-requires-clause-found g t c κs within =
    let worth : ℕ → ℕ = λ d. value (g.G.Game.rules c.args.game.now) c.args.asked.role d c.args.asked.at (g.G.Game.state c.args.game.now c.args.from.now) in
    let low = c.narrowed-left.result.low in
    let high = c.narrowed-left.result.high in
    let eh : to_z w16 (of_z w16 high) ≡ high = to_z-of_z w16 high (search facts) in
    let law = g.met.G.Game g.world.𝓛 g.world.𝓜 g.world.𝓡 ((λ _ x. x), (λ x. x), (λ x. x), λ x. x) in
    let few : (d : ℕ) → worth d ≤ 100 = λ d.
    value_at_most (g.G.Game.rules c.args.game.now) c.args.asked.role (λ s r. law.goal_within c.args.game.now s r) d c.args.asked.at
    (g.G.Game.state c.args.game.now c.args.from.now) in
    c.bounds_by-found.ensures worth c.args.asked.depth few
    (widened_answer worth c.args.asked.depth c.recall-known.result c.args.window.low c.args.window.high low high c.in_ok-answer.answer
    c.widened-answer.result c.recall-known.ensures.within c.narrowed-left.ensures.low c.narrowed-left.ensures.high c.in_ok-answer.ensures.answers
    c.widened-answer.ensures.worth (rw eh at c.widened-answer.ensures.lasts))

pub try_known_at-returns-clause-answers : goal.try_known_at-returns-clause-answers
try_known_at-returns-clause-answers g t c =
    let worth : ℕ → ℕ = λ d. value (g.G.Game.rules c.args.game.now) c.args.asked.role d c.args.asked.at (g.G.Game.state c.args.game.now c.args.from.now) in
    let low = c.narrowed-left.result.low in
    let high = c.narrowed-left.result.high in
    let eh : to_z w16 (of_z w16 high) ≡ high = to_z-of_z w16 high (search facts) in
    widened_answer worth c.args.asked.depth c.recall-known.result c.args.window.low c.args.window.high low high c.in_ok-answer.answer
    c.widened-answer.result c.recall-known.ensures.within c.narrowed-left.ensures.low c.narrowed-left.ensures.high c.in_ok-answer.ensures.answers
    c.widened-answer.ensures.worth (rw eh at c.widened-answer.ensures.lasts)

pub try_known_at-returns-clause-kept : goal.try_known_at-returns-clause-kept
try_known_at-returns-clause-kept g t c = memory_kept c.args.tools.now c.value_at.new.tools c.recall-known.new.memory c.keep.new.memory c.args.levels.now
    c.value_at.new.levels c.recall-known.ensures.capacities c.keep.ensures.capacities c.keep.ensures.memory c.value_at.ensures.kept

pub value_at-returns-then-asked-eq0-clause-answers : goal.value_at-returns-then-asked-eq0-clause-answers
value_at-returns-then-asked-eq0-clause-answers g t c =
    let rules = g.G.Game.rules c.args.game.now in
    let state = g.G.Game.state c.args.game.now c.args.from.now in
    let r = c.bound_at.result in
    let fits_r : SFits w16 r = search facts in
    record {
      now = exact (value rules c.args.asked.role c.args.asked.depth c.args.asked.at state) c.args.window.low c.args.window.high (to_z w16 (of_z w16 r))
          (to_z-of_z w16 r fits_r ∙ c.bound_at.ensures
          ∙ ap pos (sym (value_at_bound rules c.args.asked.role c.args.asked.depth c.args.asked.at state c.if-asked-eq0.true
          (sym c.ended.ensures ∙ c.if-ended.false))));
      later = λ lasts. absurd cc;
    }

pub value_at-loop-own-init : goal.value_at-loop-own-init
value_at-loop-own-init g t c =
    let worth = value (g.G.Game.rules c.args.game.now) c.args.asked.role c.args.asked.depth c.args.asked.at (g.G.Game.state c.args.game.now c.args.from.now) in
    let a = c.args.window.low in
    let ea : to_z w16 (of_z w16 a) ≡ a = to_z-of_z w16 a (search facts) in
    record {
      kept = kept_at_first c.requires.fit;
      deep = refl;
      in_list = omega arith;
      above = rw ea (omega (arith, ints));
      below = rw ea c.requires.window.order;
      at_most = rw ea (omega (arith, ints, clamps));
      seen = λ k lt. absurd (omega arith);
      later = λ lasts d more k lt. absurd (omega arith);
    }

pub value_at-returns-then-best-window-clause-kept : goal.value_at-returns-then-best-window-clause-kept
value_at-returns-then-best-window-clause-kept g t c = kept_then c.loop-own.invariant.kept c.try_worst_at.ensures.kept

pub least_at-returns-then-upper-window-clause-kept : goal.least_at-returns-then-upper-window-clause-kept
least_at-returns-then-upper-window-clause-kept g t c = kept_then c.loop-place.invariant.kept c.try_child_at.ensures.kept

pub least_at-try_child_at-requires-clause-window : goal.least_at-try_child_at-requires-clause-window
least_at-try_child_at-requires-clause-window g t c κs within =
    let a = c.args.window.low in
    let ea : to_z w16 (of_z w16 a) ≡ a = to_z-of_z w16 a (search facts) in
    let top = c.requires.window.high in
    let below = c.loop-place.invariant.below in
    rw ea record { low = c.requires.window.low; order = c.loop-place.invariant.above; high = omega (arith, ints) }

pub greatest_at-returns-then-lower-window-3-clause-kept : goal.greatest_at-returns-then-lower-window-3-clause-kept
greatest_at-returns-then-lower-window-3-clause-kept g t c = kept_then c.loop-place.invariant.kept c.try_child_at.ensures.kept

pub greatest_at-try_child_at-requires-clause-window : goal.greatest_at-try_child_at-requires-clause-window
greatest_at-try_child_at-requires-clause-window g t c κs within =
    let b = c.args.window.high in
    let eb : to_z w16 (of_z w16 b) ≡ b = to_z-of_z w16 b (search facts) in
    let bottom = c.requires.window.low in
    let above = c.loop-place.invariant.above in
    rw eb record { low = omega (arith, ints); order = c.loop-place.invariant.below; high = c.requires.window.high }

pub least_at-look_back-requires-clause-tools : goal.least_at-look_back-requires-clause-tools
least_at-look_back-requires-clause-tools g t c κs within = record { wide = c.requires.fit.wide; memory = c.requires.fit.memory }

pub greatest_at-look_back-requires-clause-tools : goal.greatest_at-look_back-requires-clause-tools
greatest_at-look_back-requires-clause-tools g t c κs within = record { wide = c.requires.fit.wide; memory = c.requires.fit.memory }

pub least_at-returns-in_err-answer-clause-kept : goal.least_at-returns-in_err-answer-clause-kept
least_at-returns-in_err-answer-clause-kept g t c = kept_then c.loop-place.invariant.kept c.try_child_at.ensures.kept

pub greatest_at-returns-in_err-answer-clause-kept : goal.greatest_at-returns-in_err-answer-clause-kept
greatest_at-returns-in_err-answer-clause-kept g t c = kept_then c.loop-place.invariant.kept c.try_child_at.ensures.kept

pub try_worst_at-returns-in_err-least-clause-kept : goal.try_worst_at-returns-in_err-least-clause-kept
try_worst_at-returns-in_err-least-clause-kept g t c =
    let split = c.split_at_mut-first.ensures in
    let old = get_or c.split_at_mut-first.result.0.now 0 c.index-first-0.result in
    let now = c.runs.level in
    let begun : level_capacities g.G.Game c.args.game.now now ≡ level_capacities g.G.Game c.args.game.now old =
    c.runs.invariant.capacities
    ∙ level_kept g.G.Game c.args.game.now old record { cursor = c.start_turns.new.cursor; run = old.moves.run } old.children
    (moves_kept old.moves c.start_turns.new.cursor old.moves.run c.start_turns.ensures.capacities refl) refl in
    let turned : level_capacities g.G.Game c.args.game.now c.least_after.new.level ≡ level_capacities g.G.Game c.args.game.now now =
    c.least_after.ensures.level.capacities
    ∙ level_kept g.G.Game c.args.game.now now c.gather-more.new.moves now.children c.gather-more.ensures.taken.capacities refl in
    all_levels_kept c.args.levels.now c.split_at_mut-first.result.0.now c.split_at_mut-first.result.1.now
    c.least_after.new.levels c.least_after.new.level c.index-first-0.result split.value split.front_len c.least_after.ensures.level.level
    (turned ∙ begun) (kept_then c.runs.invariant.kept c.least_after.ensures.kept)

pub best_at-returns-in_err-greatest-clause-kept : goal.best_at-returns-in_err-greatest-clause-kept
best_at-returns-in_err-greatest-clause-kept g t c =
    let split = c.split_at_mut-first.ensures in
    let old = get_or c.split_at_mut-first.result.0.now 0 c.index-first-0.result in
    let now = c.runs.level in
    let begun : level_capacities g.G.Game c.args.game.now now ≡ level_capacities g.G.Game c.args.game.now old =
    c.runs.invariant.capacities
    ∙ level_kept g.G.Game c.args.game.now old record { cursor = c.start_turns.new.cursor; run = old.moves.run } old.children
    (moves_kept old.moves c.start_turns.new.cursor old.moves.run c.start_turns.ensures.capacities refl) refl in
    let turned : level_capacities g.G.Game c.args.game.now c.greatest_after.new.level ≡ level_capacities g.G.Game c.args.game.now now =
    c.greatest_after.ensures.level.capacities
    ∙ level_kept g.G.Game c.args.game.now now record { cursor = now.moves.cursor; run = c.gather_own.new.run } now.children
    (moves_kept now.moves now.moves.cursor c.gather_own.new.run refl c.gather_own.ensures.capacities) refl in
    all_levels_kept c.args.levels.now c.split_at_mut-first.result.0.now c.split_at_mut-first.result.1.now
    c.greatest_after.new.levels c.greatest_after.new.level c.index-first-0.result split.value split.front_len c.greatest_after.ensures.level.level
    (turned ∙ begun) (kept_then c.runs.invariant.kept c.greatest_after.ensures.kept)

pub try_worst_at-least_after-requires-clause-window : goal.try_worst_at-least_after-requires-clause-window
try_worst_at-least_after-requires-clause-window g t c κs within =
    let a = c.args.window.low in
    let ea : to_z w16 (of_z w16 a) ≡ a = to_z-of_z w16 a (search facts) in
    let top = c.requires.window.high in
    let below = c.runs.invariant.below in
    rw ea record { low = c.requires.window.low; order = c.runs.invariant.above; high = omega (arith, ints) }

pub best_at-greatest_after-requires-clause-window : goal.best_at-greatest_after-requires-clause-window
best_at-greatest_after-requires-clause-window g t c κs within =
    let b = c.args.window.high in
    let eb : to_z w16 (of_z w16 b) ≡ b = to_z-of_z w16 b (search facts) in
    let bottom = c.requires.window.low in
    let above = c.runs.invariant.above in
    rw eb record { low = omega (arith, ints); order = c.runs.invariant.below; high = c.requires.window.high }

pub value_at-try_worst_at-requires-clause-window : goal.value_at-try_worst_at-requires-clause-window
value_at-try_worst_at-requires-clause-window g t c κs within =
    let b = c.args.window.high in
    let eb : to_z w16 (of_z w16 b) ≡ b = to_z-of_z w16 b (search facts) in
    let bottom = c.requires.window.low in
    let above = c.loop-own.invariant.above in
    rw eb record { low = omega (arith, ints); order = c.loop-own.invariant.below; high = c.requires.window.high }

pub value_at-returns-in_err-worst-clause-kept : goal.value_at-returns-in_err-worst-clause-kept
value_at-returns-in_err-worst-clause-kept g t c = kept_then c.loop-own.invariant.kept c.try_worst_at.ensures.kept

pub try_known_at-returns-in_err-check-clause-kept : goal.try_known_at-returns-in_err-check-clause-kept
try_known_at-returns-in_err-check-clause-kept g t c = kept_at_first c.requires.fit

pub try_known_at-returns-in_err-answer-clause-kept : goal.try_known_at-returns-in_err-answer-clause-kept
try_known_at-returns-in_err-answer-clause-kept g t c = memory_kept c.args.tools.now c.value_at.new.tools c.recall-known.new.memory
    c.value_at.new.tools.memory c.args.levels.now c.value_at.new.levels c.recall-known.ensures.capacities refl c.value_at.ensures.kept.memory
    c.value_at.ensures.kept
