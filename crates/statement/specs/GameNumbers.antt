-- States and joint moves by number, and the trees that the numbers stand for.
use Rattle.std.specs.Prelude.{ℕ, zero, suc, cond, Bool, ◌==◌, List, [], ◌∷◌, false, Option, Some, None, map, slice_index}
use Rattle.std.specs.List.{list_any}
use Rattle.std.specs.Option.{option_map}
use Rattle.statement.specs.Tree.{Tree, tree_eq}
use Rattle.statement.specs.Played.{nth_tree}
use Rattle.statement.specs.Clause.{Alternative}
use Rattle.statement.specs.Meaning.{StateOfTerms, Joint}
use Rattle.statement.specs.Listing.{role_list, base_list, input_list}
use Rattle.statement.specs.Rules.{Turn}

-- the place of a tree in a list, from 0
abbrev pub place_in : Tree → List Tree → Option ℕ
place_in t [] = None
place_in t (u ∷ us) = cond (tree_eq t u) (Some zero) (option_map suc (place_in t us))

abbrev pub stands_in : ℕ → List ℕ → Bool
stands_in n ns = list_any (λ m. m == n) ns

abbrev pub stands_at : List ℕ → Option ℕ → Bool
stands_at s None = false
stands_at s (Some n) = stands_in n s

-- the state with the base propositions of these numbers
abbrev pub state_of : List Alternative → List ℕ → StateOfTerms
state_of rules s p = stands_at s (place_in p (base_list rules))

abbrev pub chosen_at : List Tree → Turn → Option ℕ → Option Tree
chosen_at ms j None = None
chosen_at ms j (Some q) = Some (nth_tree ms (slice_index j q))

-- the joint move that gives each role its input of this number
abbrev pub joint_of : List Alternative → Turn → Joint
joint_of rules j r = chosen_at (input_list rules r) j (place_in r (role_list rules))

-- the trees of a list at these places
abbrev pub trees_at : List Tree → List ℕ → List Tree
trees_at ts ns = map (λ n. nth_tree ts n) ns
