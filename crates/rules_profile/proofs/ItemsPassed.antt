-- Where no item has a bad form, each tree is an item.
use Rattle.std.proofs.Common.{ℕ, suc, zero, ◌≡◌, Bool, true, false, not, cond, List, [], ◌∷◌, refl, arith, Option, Some, None}
use Rattle.std.specs.Prelude.{All}
use Rattle.statement.specs.Tree.{Tree}
use Rattle.statement.specs.Items.{is_item}
use Rattle.statement.specs.Profile.{ItemFault, bad_form, first_failing}

passed : (b : Bool) (f : ItemFault) (o : Option ItemFault) → cond (not b) (Some f) o ≡ None → (b ≡ true) × (o ≡ None)
passed true f o e = (refl, e)
passed false f o e = absurd cc

items_from : (n : ℕ) (ts : List Tree) → first_failing bad_form (λ t. not (is_item t)) n ts ≡ None → All (λ t. is_item t ≡ true) ts
items_from n [] e k d h = absurd (let bad : ⊥ = omega (arith, h) in bad)
items_from n (t ∷ ts) e zero d h = (passed (is_item t) (bad_form n) (first_failing bad_form (λ u. not (is_item u)) (suc n) ts) e).0
items_from n (t ∷ ts) e (suc k) d h =
    items_from (suc n) ts (passed (is_item t) (bad_form n) (first_failing bad_form (λ u. not (is_item u)) (suc n) ts) e).1 k d (omega (arith, h))

pub are_items : (ts : List Tree) → first_failing bad_form (λ t. not (is_item t)) 1 ts ≡ None → All (λ t. is_item t ≡ true) ts
are_items ts e = items_from 1 ts e
