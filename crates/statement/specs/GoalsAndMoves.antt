-- Goals and legal moves in a state, and the heads that have no effect.
use Rattle.std.specs.Prelude.{ℕ, Bool, false, not, ◌&&◌, ◌||◌, ◌≡◌, ◌<◌, ◌≤◌, ◌⊎◌, ◌↔◌, List, length, decimal, filter}
use Rattle.std.specs.declared.cmp.Ordering.TheVariants.{Less}
use Rattle.statement.specs.Tree.{Tree, name, Trees, no_trees, tree, printed_cmp}
use Rattle.statement.specs.Words.{w_init, w_next, w_legal, w_goal}
use Rattle.statement.specs.Clause.{Atom, Alternative, relation_of, is_word}
use Rattle.statement.specs.Dependence.{IsAmong}
use Rattle.statement.specs.Profile.{is_tree_in}
use Rattle.statement.specs.Printed.{AreInOrder}
use Rattle.statement.specs.Meaning.{StateOfTerms, Joint, Holds, nobody, atom1, atom2, IsInStart, IsInAfter, IsLegal}
use Rattle.statement.specs.Listing.{is_atom_in, fixed_listing, listing, role_list, base_list, input_list}

-- the goal value that a state gives a role, in decimal without a leading zero
abbrev pub HasGoal : List Alternative → StateOfTerms → Tree → ℕ → Type 0
HasGoal rules S r v = Holds rules S nobody (atom2 w_goal r (name (decimal v)))

-- v is the greatest goal from 0 to 100, or 0 where there is none
abbrev pub IsGoal : List Alternative → StateOfTerms → Tree → ℕ → Type 0
IsGoal rules S r v =
    ((v ≤ 100) × HasGoal rules S r v × ((u : ℕ) → v < u → u ≤ 100 → HasGoal rules S r u → ⊥))
    ⊎ ((v ≡ 0) × ((u : ℕ) → u ≤ 100 → HasGoal rules S r u → ⊥))

-- each tree stands before all later ones
abbrev pub AreInPrintedOrder : List Tree → Type 0
AreInPrintedOrder ts = AreInOrder (λ t u. printed_cmp t u ≡ Less) ts

-- all trees with a property, in printed order
pub record IsListOf (P : Tree → Type 0) (ts : List Tree) : Type 0 where
  pub order : AreInPrintedOrder ts
  pub members : (t : Tree) → IsAmong t ts ↔ P t

-- the start state, the state after a turn, and the legal moves of a role, as lists
abbrev pub AreStart : List Alternative → List Tree → Type 0
AreStart rules ps = IsListOf (IsInStart rules) ps

abbrev pub AreAfter : List Alternative → StateOfTerms → Joint → List Tree → Type 0
AreAfter rules S J ps = IsListOf (IsInAfter rules S J) ps

abbrev pub AreLegal : List Alternative → StateOfTerms → Tree → List Tree → Type 0
AreLegal rules S r ms = IsListOf (IsLegal rules S r) ms

-- the base proposition holds at the start
abbrev pub starts : List Alternative → Tree → Bool
starts rules p = is_atom_in (atom1 w_init p) (fixed_listing rules).atoms

abbrev pub start_list : List Alternative → List Tree
start_list rules = filter (starts rules) (base_list rules)

abbrev pub misses_base : List Alternative → Trees → Bool
misses_base rules no_trees = false
misses_base rules (tree p no_trees) = not (is_tree_in p (base_list rules))
misses_base rules (tree p (tree t ts)) = false

abbrev pub misses_input : List Alternative → Trees → Bool
misses_input rules no_trees = false
misses_input rules (tree r no_trees) = false
misses_input rules (tree r (tree m no_trees)) = not (is_tree_in r (role_list rules) && is_tree_in m (input_list rules r))
misses_input rules (tree r (tree m (tree t ts))) = false

-- an `init` or `next` outside `Base`, or a `legal` of no role or outside its inputs
abbrev pub is_dropped : List Alternative → Atom → Bool
is_dropped rules x =
    ((is_word w_init 1 (relation_of x) || is_word w_next 1 (relation_of x)) && misses_base rules x.terms)
    || (is_word w_legal 2 (relation_of x) && misses_input rules x.terms)

-- how many different possible atoms have no effect on play
abbrev pub dropped : List Alternative → ℕ
dropped rules = length (filter (is_dropped rules) (listing rules).atoms)
