-- A worth is its number.
use Rattle.std.proofs.Common.{◌≡◌, ◌≤◌, ℕ, ap, subst, lit≤}
use Rattle.std.proofs.Math.Bridge.{le_prop}
use Rattle.statement.specs.declared.at_bound.Worth.{Worth}
use Rattle.statement.specs.Deepening.{greatest_worth}

abbrev worth_of : (n : ℕ) → n ≤ 100 → Worth
worth_of n h = record { value = n; in_range = h }

worth_same : (m n : ℕ) (h : m ≤ 100) (k : n ≤ 100) → m ≡ n → worth_of m h ≡ worth_of n k
worth_same m n h k e = subst (λ (x : ℕ). (l : x ≤ 100) → worth_of m h ≡ worth_of x l) e (λ l. ap (worth_of m) (le_prop h l)) k

pub is_greatest : (worth : Worth) → worth.value ≡ 100 → worth ≡ greatest_worth
is_greatest worth e = worth_same worth.value 100 worth.in_range (lit≤ tt) e
