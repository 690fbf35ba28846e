use Rattle.std.proofs.Common.{ℕ, List, ◌++◌, ◌+◌, ◌-◌, ◌∙◌, sym, ap}
use Rattle.std.specs.List.{range_with_len}
use Rattle.rules_clauses.proofs.SpreadLemmas.{one_number, no_number}
use Rattle.rules_clauses.proofs.spread.add_numbers.Goals as goal

pub loop-number-preserved : goal.loop-number-preserved
loop-number-preserved c =
    let n = c.loop-number.number in
    let to = c.args.span.to in
    ap (λ (ns : List ℕ). ns ++ range_with_len (n + 1) (to - (n + 1))) c.in_ok-push.ensures.items
    ∙ one_number c.loop-number.numbers.items n to c.loop-number-test.true ∙ c.loop-number.invariant

pub returns : goal.returns
returns c = sym (no_number c.loop-number.numbers.items c.loop-number.number c.args.span.to c.loop-number-test.false) ∙ c.loop-number.invariant
