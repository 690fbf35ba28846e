-- When a game by numbers is that of the rules: each number stands for a tree, and what the game says of
-- numbers is what holds of the trees by substitution.
use Rattle.std.specs.Prelude.{ℕ, ◌≡◌, ◌<◌, true, ◌↔◌, List, length}
use Rattle.std.specs.List.{All}
use Rattle.statement.specs.Tree.{Tree, text}
use Rattle.statement.specs.Clause.{Alternative}
use Rattle.statement.specs.Meaning.{IsInStart, IsInAfter, IsLegal, IsEnded}
use Rattle.statement.specs.Listing.{role_list, base_list, input_list}
use Rattle.statement.specs.GoalsAndMoves.{IsListOf, IsGoal}
use Rattle.statement.specs.NamedRules.{NamedRules}
use Rattle.statement.specs.Played.{nth_tree}
use Rattle.statement.specs.GameNumbers.{state_of, joint_of, trees_at}
use Rattle.statement.specs.Rules.{IsTurn}

-- the role of a number, and its inputs in printed order
abbrev pub role_at : List Alternative → ℕ → Tree
role_at rules r = nth_tree (role_list rules) r

abbrev pub inputs_at : List Alternative → ℕ → List Tree
inputs_at rules r = input_list rules (role_at rules r)

-- the numbers are places in a list, and stand for all trees with a property, in printed order
pub record AreNumbersOf (trees : List Tree) (P : Tree → Type 0) (numbers : List ℕ) : Type 0 where
  pub within : All (λ n. n < length trees) numbers
  pub are : IsListOf P (trees_at trees numbers)

-- roles, moves and base propositions have the numbers of their places; the start, the end, the goals, the
-- legal moves and the state after a turn are those of the rules
pub record IsGameOf (rules : List Alternative) (g : NamedRules) : Type 0 where
  pub roles_are : g.rules.roles ≡ length (role_list rules)
  pub moves_are : (r : ℕ) → r < g.rules.roles → g.rules.moves r ≡ length (inputs_at rules r)
  pub role_names : (r : ℕ) → r < g.rules.roles → g.role_name r ≡ text (role_at rules r)
  pub move_names : (r m : ℕ) → r < g.rules.roles → m < g.rules.moves r → g.move_name r m ≡ text (nth_tree (inputs_at rules r) m)
  pub starts : AreNumbersOf (base_list rules) (IsInStart rules) g.rules.start
  pub ends : (s : List ℕ) → (g.rules.ended s ≡ true) ↔ IsEnded rules (state_of rules s)
  pub goals : (s : List ℕ) (r : ℕ) → r < g.rules.roles → IsGoal rules (state_of rules s) (role_at rules r) (g.rules.goal s r)
  pub legals : (s : List ℕ) (r : ℕ) → r < g.rules.roles → AreNumbersOf (inputs_at rules r) (IsLegal rules (state_of rules s) (role_at rules r))
      (g.rules.legal s r)
  pub follows : (s j : List ℕ) → IsTurn g.rules j
      → AreNumbersOf (base_list rules) (IsInAfter rules (state_of rules s) (joint_of rules j)) (g.rules.after s j)
