use Rattle.std.proofs.Common.{ℕ, ◌≡◌, ◌++◌, ◌∷◌, [], List, None, ap, ◌∙◌, rules}
use Rattle.ground_matching.proofs.FindingLemmas.{put_none, put_found, none_of, some_of}
use Rattle.ground_matching.proofs.finding.put_list.Goals as goal

pub returns-in_default : goal.returns-in_default
returns-in_default c =
    let none : c.in_ok-number.field-0 ≡ None = search rules in
    put_none c.args.terms.now c.args.symbol c.args.many c.args.stack.now.items c.find_top.new.stack.items
    (none_of _ _ c.in_ok-number.field-0 c.in_ok-number.ensures.found none)

pub returns : goal.returns
returns c =
    let k = some_of _ _ c.in_ok-number.field-0 c.in-Some.number c.in_ok-number.ensures.found c.in-Some.is in
    put_found c.args.terms.now c.args.symbol c.args.many c.args.stack.now.items c.push.new.self.items c.in-Some.number k.0 k.1
    (c.in_ok-push.ensures.items ∙ ap (λ (n : ℕ). c.find_top.new.stack.items ++ n ∷ []) c.in_ok-number-2.ensures
    ∙ ap (λ (xs : List ℕ). xs ++ c.in-Some.number ∷ []) c.in_ok-number.ensures.stack)
