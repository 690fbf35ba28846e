use Rattle.std.proofs.Common.{ℕ, Bool, not, cond, List, [], ◌∷◌, ◌++◌, take, get_or, sym, ap, ◌∙◌}
use Rattle.std.proofs.lemmas.List.{append-nil}
use Rattle.std.proofs.lemmas.List.Elements.{filter_more}
use Rattle.rules.specs.RuleSetView.{lists_of_set, rules_in}
use Rattle.ground_rows.specs.Matchers.{passes_always}
use Rattle.ground_rows.specs.Sharing.{failing}
use Rattle.ground_listing.proofs.sharing.failing_literals.Goals as goal

pub loop-number-preserved-then-passes_always : goal.loop-number-preserved-then-passes_always
loop-number-preserved-then-passes_always c =
    let r = rules_in c.args.set.now in
    let d = lists_of_set c.args.set.now in
    let ns = c.args.numbers.now in
    let i = c.loop-number.number-index in
    let no = ap (λ (b : Bool). not b) (sym c.passes_always.ensures ∙ c.if-passes_always.true) in
    c.loop-number.invariant
    ∙ sym (filter_more (λ (n : ℕ). not (passes_always r d n)) ns i 0 c.loop-number-test.true
    ∙ ap (λ (b : Bool). failing r d (take i ns) ++ cond b (get_or ns i 0 ∷ []) []) no ∙ append-nil (failing r d (take i ns)))

pub loop-number-preserved : goal.loop-number-preserved
loop-number-preserved c =
    let r = rules_in c.args.set.now in
    let d = lists_of_set c.args.set.now in
    let ns = c.args.numbers.now in
    let i = c.loop-number.number-index in
    let yes = ap (λ (b : Bool). not b) (sym c.passes_always.ensures ∙ c.if-passes_always.false) in
    c.in_ok-push.ensures.items ∙ ap (λ (l : List ℕ). l ++ get_or ns i 0 ∷ []) c.loop-number.invariant
    ∙ sym (filter_more (λ (n : ℕ). not (passes_always r d n)) ns i 0 c.loop-number-test.true
    ∙ ap (λ (b : Bool). failing r d (take i ns) ++ cond b (get_or ns i 0 ∷ []) []) yes)
