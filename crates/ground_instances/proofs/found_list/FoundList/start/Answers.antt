use Rattle.std.proofs.Common.{ℕ, suc, ◌≡◌, ◌<◌, ◌-◌, length, get_or, sym, ◌∙◌, ap, arith, rules}
use Rattle.ground_instances.specs.Lists.{start_at}
use Rattle.ground_instances.proofs.Lists.{starts_first, starts_next}
use Rattle.ground_instances.proofs.found_list.FoundList.start.Goals as goal

pub returns-then-number-eq0 : goal.returns-then-number-eq0
returns-then-number-eq0 c =
    sym (ap (λ (n : ℕ). start_at 0 c.args.self.now.ends.items n) c.if-number-eq0.true ∙ starts_first 0 c.args.self.now.ends.items)

pub returns : goal.returns
returns c =
    let es = c.args.self.now.ends.items in
    let p = c.args.number in
    let some = c.if-number-eq0.false in
    let less = c.requires in
    let next : p ≡ suc (p - 1) = omega (arith, some) in
    let there : p - 1 < length es = omega (arith, less, some) in
    let x = c.index.result.now in
    let here : x ≡ get_or es (p - 1) x = search rules in
    here ∙ sym (ap (start_at 0 es) next ∙ starts_next 0 es (p - 1) x there)
