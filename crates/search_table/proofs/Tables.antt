-- What holds of a table holds with the role and the bound that it has itself.
use Rattle.std.proofs.Common.{◌≡◌, ℕ, ◌≤◌, List, ap, subst, sym}
use Rattle.std.proofs.Math.Bridge.{le_prop}
use Rattle.statement.specs.Rules.{Rules, State}
use Rattle.statement.specs.declared.at_bound.AtBound.{AtBound}
use Rattle.statement.specs.declared.at_bound.Worth.{Worth}
use Rattle.search_table.specs.Tables.{IsTableOf}
use Rattle.search_table.specs.declared.position_table.PositionTable.{PositionTable}

-- worths of the same number are the same
pub same_worth : (a b : Worth) → a.value ≡ b.value → a ≡ b
same_worth a b e = subst (λ (n : ℕ). (h : n ≤ 100) → a ≡ record { value = n; in_range = h }) e
    (λ h. ap (λ (k : a.value ≤ 100). record { value = a.value; in_range = k }) (le_prop a.in_range h)) b.in_range

module _ (g : Rules) (keyed : List ℕ → State) where
  pub of_its_own : (role : ℕ) (at : AtBound) (t : PositionTable) → IsTableOf g keyed role at t → IsTableOf g keyed t.role t.at t
  of_its_own role at t is = subst (λ (r : ℕ). IsTableOf g keyed r t.at t) (sym is.of_role)
      (subst (λ (b : AtBound). IsTableOf g keyed role b t) (sym is.of_bound) is)
