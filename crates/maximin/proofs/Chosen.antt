-- What is known of a state in which a role has a choice.
use Rattle.std.proofs.Common.{◌≡◌, ℕ, zero, suc, Bool, true, false, cond, List, [], ◌∷◌, refl}
use Rattle.std.proofs.Common.{arith, Some, None}
use Rattle.std.specs.Prelude.{find, Contains, ◌==◌, ◌||◌}
use Rattle.statement.specs.declared.at_bound.AtBound.{AtBound}
use Rattle.statement.specs.Rules.{Rules, State, is_stuck}
use Rattle.statement.specs.Value.{value, worst, choice_of}
use Rattle.maximin.specs.Open.{IsOpen}

found_among : (p : ℕ → Bool) (xs : List ℕ) (x : ℕ) → find p xs ≡ Some x → Contains xs x
found_among p [] x h = absurd cc
found_among p (y ∷ ys) x h = either (p y) h (found_among p ys x)
  where
    either : (b : Bool) → cond b (Some y) (find p ys) ≡ Some x → (find p ys ≡ Some x → Contains ys x) → Contains (y ∷ ys) x
    either true h later = (0, omega arith, cc)
    either false h later = let rest = later h in (suc rest.0, omega (arith, rest.1), rest.2)

-- a choice is a legal move
pub choice_legal : (g : Rules) (role depth : ℕ) (at : AtBound) (s : State) (own : ℕ) → choice_of g role depth at s ≡ Some own
    → Contains (g.legal s role) own
choice_legal g role zero at s own h = absurd cc
choice_legal g role (suc depth) at s own h = either (g.ended s || is_stuck g s) h
  where
    either : (b : Bool) → cond b None (find (λ m. worst g role depth at s m == value g role (suc depth) at s) (g.legal s role)) ≡ Some own
        → Contains (g.legal s role) own
    either true h = absurd cc
    either false h = found_among _ (g.legal s role) own h

-- a state with a choice has a turn to come
pub chosen_open : (g : Rules) (role depth : ℕ) (at : AtBound) (s : State) (own : ℕ) → choice_of g role depth at s ≡ Some own → IsOpen g depth s
chosen_open g role zero at s own e = absurd cc
chosen_open g role (suc depth) at s own e =
    either (g.ended s) (is_stuck g s) refl refl e
  where
    either : (b c : Bool) → g.ended s ≡ b → is_stuck g s ≡ c
        → cond (b || c) None (find (λ m. worst g role depth at s m == value g role (suc depth) at s) (g.legal s role)) ≡ Some own
        → IsOpen g (suc depth) s
    either true c going free h = absurd cc
    either false true going free h = absurd cc
    either false false going free h = record { turn = λ zero_is. omega (arith, zero_is); going = going; free = free }
