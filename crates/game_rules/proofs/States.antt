-- What is told of a state, by marks that agree with what holds.
use Rattle.std.proofs.Common.{◌≡◌, ℕ, ◌<◌, Bool, cond, ◌&&◌, List, length, ◌∙◌, ap}
use Rattle.statement.specs.declared.kind.Kind.{Kind}
use Rattle.ground_instances.specs.Grounds.{texts_at}
use Rattle.game_rules.specs.declared.naming.Naming.{Naming}
use Rattle.game_rules.specs.declared.naming.Naming.TheVariants.{ByLegal}
use Rattle.game_rules.specs.declared.role_state.RoleState.{RoleState}
use Rattle.game_rules.specs.RulePlay.{kind_at, is_terminal, goal_value, names, ends, best_goal, is_named, named_below}
use Rattle.game_rules.specs.RuleState.{AreRead}
use Rattle.game_rules.proofs.Facts.{below_agree, greatest_agree, filters_agree}

pub ends_same : (kinds : List Kind) (f g : ℕ → Bool) → ((k : ℕ) → k < length kinds → f k ≡ g k) → ends kinds f ≡ ends kinds g
ends_same kinds f g h =
    below_agree (λ a. f a && is_terminal (kind_at kinds a)) (λ a. g a && is_terminal (kind_at kinds a)) (length kinds)
    (λ k lt. ap (λ (b : Bool). b && is_terminal (kind_at kinds k)) (h k lt))

pub goals_same : (kinds : List Kind) (f g : ℕ → Bool) (r : ℕ) → ((k : ℕ) → k < length kinds → f k ≡ g k) → best_goal kinds f r ≡ best_goal kinds g r
goals_same kinds f g r h =
    greatest_agree (λ a. cond (f a) (goal_value r (kind_at kinds a)) 0) (λ a. cond (g a) (goal_value r (kind_at kinds a)) 0) (length kinds)
    (λ k lt. ap (λ (b : Bool). cond b (goal_value r (kind_at kinds k)) 0) (h k lt))

pub is_named_same : (kinds : List Kind) (f g : ℕ → Bool) (w : Naming) (n : ℕ) → ((k : ℕ) → k < length kinds → f k ≡ g k)
    → is_named kinds f w n ≡ is_named kinds g w n
is_named_same kinds f g w n h =
    below_agree (λ a. f a && names w (kind_at kinds a) n) (λ a. g a && names w (kind_at kinds a) n) (length kinds)
    (λ k lt. ap (λ (b : Bool). b && names w (kind_at kinds k) n) (h k lt))

pub named_same : (kinds : List Kind) (f g : ℕ → Bool) (w : Naming) (n : ℕ) → ((k : ℕ) → k < length kinds → f k ≡ g k)
    → named_below kinds f w n ≡ named_below kinds g w n
named_same kinds f g w n h = filters_agree (is_named kinds f w) (is_named kinds g w) 0 n (λ k from to. is_named_same kinds f g w k h)

pub reads_same : (kinds : List Kind) (f g : ℕ → Bool) (inputs : List (List (List ℕ))) (fs : List RoleState) → ((k : ℕ) → k < length kinds → f k ≡ g k)
    → AreRead kinds f inputs fs → AreRead kinds g inputs fs
reads_same kinds f g inputs fs h all r d lt =
    let one = all r d lt in
    record {
      goal = one.goal ∙ goals_same kinds f g r h;
      count = one.count;
      legal = one.legal ∙ named_same kinds f g (ByLegal r) (length (texts_at inputs r)) h;
    }
