use Rattle.std.proofs.Common.{rules, ℕ, ◌≡◌, ◌<◌, List, length, get_or, arith, ap, sym, ◌∙◌}
use Rattle.kif.proofs.LineStates.{shown_begun, shown-opening, shown-closing, shown-space, shown-comment, shown-name}
use Rattle.kif.proofs.LineStates.{deep_shown, unopened_shown, stray_shown, name_shown, unclosed_shown, all_shown}
use Rattle.kif.proofs.lines.canonical_lines.Goals as goal

pub loop-at-init : goal.loop-at-init
loop-at-init c =
    let e = c.new-lines.ensures in record { within = omega arith; state = shown_begun c.args.text.now _ _ _ e.opened e.first e.output }

pub loop-at-preserved-in-Opening : goal.loop-at-preserved-in-Opening
loop-at-preserved-in-Opening c =
    let count : c.len.result ≡ length c.loop-at.lines.opened.items = search rules in
    let e = c.in_ok-open_list-in-Opening.ensures in
    record {
      within = omega arith;
      state = shown-opening c.args.text.now c.loop-at.at _ _ _ _ _ _ c.loop-at.invariant.state c.loop-at-test.true c.in-Opening.ensures
          (λ full. c.if-len-eq-OPEN_LIMIT.false (count ∙ full)) e.opened e.first e.output;
    }

pub loop-at-preserved-in-Closing : goal.loop-at-preserved-in-Closing
loop-at-preserved-in-Closing c =
    let e = c.in_ok-close_list-in-Closing.ensures in
    record {
      within = omega arith;
      state = shown-closing c.args.text.now c.loop-at.at _ _ _ _ _ _ _ _ c.loop-at.invariant.state c.loop-at-test.true c.in-Closing.ensures
          c.in-Some.ensures.items e.opened e.first e.output;
    }

pub loop-at-preserved-in-Comment : goal.loop-at-preserved-in-Comment
loop-at-preserved-in-Comment c =
    let e = c.comment_end-at.ensures in
    record {
      within = e.within;
      state = shown-comment c.args.text.now c.loop-at.at _ _ _ _ c.loop-at.invariant.state e.further e.within c.in-Comment.ensures e.inside e.stops;
    }

pub loop-at-preserved-in-Space : goal.loop-at-preserved-in-Space
loop-at-preserved-in-Space c = record {
  within = omega arith;
  state = shown-space c.args.text.now c.loop-at.at _ _ _ c.loop-at.invariant.state c.loop-at-test.true c.in-Space.ensures;
}

pub loop-at-preserved : goal.loop-at-preserved
loop-at-preserved c =
    let e = c.name_end-end.ensures in
    let f = c.in_ok-add_name-in-Name.ensures in
    record {
      within = e.within;
      state = shown-name c.args.text.now c.loop-at.at c.name_end-end.result _ _ _ _ _ _ c.loop-at.invariant.state e.further e.within e.names e.stops
          c.if-end-at-gt-NAME_LIMIT.false f.opened f.first f.output;
    }

pub returns-then-len-eq-OPEN_LIMIT-clause-refuses :
    goal.returns-then-len-eq-OPEN_LIMIT-clause-refuses
returns-then-len-eq-OPEN_LIMIT-clause-refuses c =
    let count : length c.loop-at.lines.opened.items ≡ 100 = search rules in
    deep_shown c.args.text.now c.loop-at.at _ _ _ c.loop-at.invariant.state c.if-text-gt-TEXT_LIMIT.false c.loop-at-test.true c.in-Opening.ensures count

pub returns-in_default-clause-refuses : goal.returns-in_default-clause-refuses
returns-in_default-clause-refuses c =
    let none : length c.loop-at.lines.opened.items ≡ 0 = search rules in
    unopened_shown c.args.text.now c.loop-at.at _ _ _ c.loop-at.invariant.state c.if-text-gt-TEXT_LIMIT.false c.loop-at-test.true c.in-Closing.ensures
    none

pub returns-then-end-at-gt-NAME_LIMIT-clause-refuses :
    goal.returns-then-end-at-gt-NAME_LIMIT-clause-refuses
returns-then-end-at-gt-NAME_LIMIT-clause-refuses c =
    let e = c.name_end-end.ensures in
    name_shown c.args.text.now c.loop-at.at c.name_end-end.result _ _ _ c.loop-at.invariant.state c.if-text-gt-TEXT_LIMIT.false e.further e.within
    e.names e.stops
    c.if-end-at-gt-NAME_LIMIT.true

pub returns-in-Stray-clause-refuses : goal.returns-in-Stray-clause-refuses
returns-in-Stray-clause-refuses c =
    stray_shown c.args.text.now c.loop-at.at _ _ _ c.loop-at.invariant.state c.if-text-gt-TEXT_LIMIT.false c.loop-at-test.true c.in-Stray.ensures

pub returns-in-Some-first-clause-refuses : goal.returns-in-Some-first-clause-refuses
returns-in-Some-first-clause-refuses c =
    let d = c.deref.ensures.value in
    let i = c.in-Some-first.ensures.item in
    let p = c.in-Some-first.outermost.now in
    let size = ap length d in
    let some : 0 < length c.loop-at.lines.opened.items = omega (arith, i.3.0) in
    unclosed_shown c.args.text.now c.loop-at.at c.loop-at.lines.opened.items p _ _ c.loop-at.invariant.state c.if-text-gt-TEXT_LIMIT.false
    c.loop-at.invariant.within c.loop-at-test.false some (ap (λ (l : List ℕ). get_or l 0 p) (sym d) ∙ sym (i.3.1 p))

pub returns-clause-lines : goal.returns-clause-lines
returns-clause-lines c =
    let b = c.in_default-first.ensures.item in
    let d = c.deref.ensures.value in
    let size = ap length d in
    let empty : length c.loop-at.lines.opened.items ≡ 0 = omega (arith, b.3) in
    all_shown c.args.text.now c.loop-at.at _ _ _ c.loop-at.invariant.state c.if-text-gt-TEXT_LIMIT.false c.loop-at.invariant.within c.loop-at-test.false
    empty
