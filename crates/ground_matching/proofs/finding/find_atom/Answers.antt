use Rattle.std.proofs.Common.{ℕ, suc, ◌≡◌, ◌-◌, ◌<◌, length, drop, subst, ◌∙◌, arith, false, get_or, rules}
use Rattle.std.proofs.Math.Seq.{drop-cons}
use Rattle.rules_clauses.specs.declared.numbered.Part.TheVariants as parts
use Rattle.ground_matching.proofs.FindingLemmas.{IsOnly, constant_at, said_none, said_found, ok_each}
use Rattle.ground_matching.proofs.finding.find_atom.Goals as goal

pub put_number-requires : goal.put_number-requires
put_number-requires c =
    constant_at c.args.parts.now (c.parts.left - 1) (parts.Variable 0) c.requires
    (let t = c.parts-test.true in let v = c.parts.invariant.0 in omega (arith, t, v))

pub returns-then-not-branch : goal.returns-then-not-branch
returns-then-not-branch c =
    let less : c.parts.left - 1 < length c.args.parts.now = (let t = c.parts-test.true in let v = c.parts.invariant.0 in omega (arith, t, v)) in
    let next : c.parts.left ≡ suc (c.parts.left - 1) = (let t = c.parts-test.true in omega (arith, t)) in
    let failed : c.in_ok-put_number.field-0 ≡ false = search rules in
    said_none c.args.terms.now c.args.word c.args.parts.now (c.parts.left - 1) (get_or c.args.parts.now (c.parts.left - 1) (parts.Variable 0))
    c.parts.stack.items c.put_number.new.stack.items c.in_ok-put_number.field-0 failed
    (drop-cons c.args.parts.now (c.parts.left - 1) (parts.Variable 0) less) c.in_ok-put_number.ensures
    (subst (λ (n : ℕ). IsOnly c.args.terms.now (drop n c.args.parts.now) c.parts.stack.items) next c.parts.invariant.1)

pub returns : goal.returns
returns c =
    ok_each c.find_top.result c.find_top.ensures.found (λ found m. said_found c.args.terms.now c.args.word c.args.parts.now c.parts.stack.items c.len.result
    c.parts.left found (let t = c.parts-test.false in omega (arith, t)) (c.len.ensures ∙ c.parts.stack.ok.0) m c.parts.invariant.1)
