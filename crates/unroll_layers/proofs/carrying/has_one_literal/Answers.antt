use Rattle.std.proofs.Common.{List, ◌<◌, get_or, length, sym, ap, ◌∙◌, arith, eqb-true}
use Rattle.rules_clauses.specs.declared.numbered.Alternative as memory
use Rattle.rules.specs.RuleSetView.{lists_of_set, rules_in}
use Rattle.unroll_layers.specs.Carried.{HasOneLiteral}
use Rattle.unroll_layers.proofs.Carried.{body_length, on_true}
use Rattle.unroll_layers.proofs.carrying.has_one_literal.Goals as goal

pub returns-then-place-alternatives : goal.returns-then-place-alternatives
returns-then-place-alternatives c =
    let set = c.args.rules.now in
    let place = c.args.alternative in
    let found = c.index-alternatives-place.result in
    let inside : place < length set.alternatives.items = omega (arith, c.if-place-alternatives.true, ap length c.alternatives.ensures) in
    on_true _ (HasOneLiteral (rules_in set) place) (λ e rule at. body_length (lists_of_set set) set.alternatives.items place found inside rule at
    ∙ ap (λ (as' : List memory.Alternative). length (get_or as' place found).body.items) (sym c.alternatives-then-place-alternatives.ensures)
    ∙ sym (get_or c.alternatives-then-place-alternatives.result.now place found).body.ok.0 ∙ sym c.len.ensures ∙ eqb-true c.len.result 1 e)
