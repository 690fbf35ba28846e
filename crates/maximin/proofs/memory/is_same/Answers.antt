use Rattle.std.proofs.Common.{◌≡◌, ◌≤◌, ℕ, ap, subst, sym, ◌∙◌}
use Rattle.std.proofs.Math.Bridge.{le_prop}
use Rattle.std.proofs.lemmas.Bool.{eqb-true}
use Rattle.statement.specs.declared.at_bound.AtBound.TheVariants.{Unfinished}
use Rattle.statement.specs.declared.at_bound.Worth.{Worth}
use Rattle.maximin.proofs.memory.is_same.Goals as goal

abbrev worth_of : (n : ℕ) → n ≤ 100 → Worth
worth_of n h = record { value = n; in_range = h }

worth_same : (m n : ℕ) (h : m ≤ 100) (k : n ≤ 100) → m ≡ n → worth_of m h ≡ worth_of n k
worth_same m n h k e = subst (λ (x : ℕ). (l : x ≤ 100) → worth_of m h ≡ worth_of x l) e (λ l. ap (worth_of m) (le_prop h l)) k

pub returns-in-Unfinished-Unfinished : goal.returns-in-Unfinished-Unfinished
returns-in-Unfinished-Unfinished c = λ same.
    let x = c.in-Unfinished-Unfinished.x in
    let y = c.in-Unfinished-Unfinished.y in
    c.in-Unfinished-Unfinished.is-0
    ∙ ap (λ (w : Worth). Unfinished w) (worth_same x.value y.value x.in_range y.in_range (eqb-true x.value y.value same))
    ∙ sym c.in-Unfinished-Unfinished.is-1
