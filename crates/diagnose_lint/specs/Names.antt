-- This crate's own: what `run` promises does not rest on it.
-- Names of the language and of another, and goal values.
use Rattle.std.specs.Prelude.{ℕ, Bool, true, false, not, nat_le, ◌==◌, ◌&&◌, ◌||◌, List, [], ◌∷◌, codes}
use Rattle.statement.specs.Tree.{Tree, name, list, Trees, no_trees, tree, name_eq}
use Rattle.statement.specs.Clause.{is_variable}
use Rattle.statement.specs.Items.{item_head}
use Rattle.statement.specs.Words.{w_role, w_base, w_input, w_init, w_true, w_does, w_next, w_legal, w_goal, w_terminal, w_distinct}

abbrev pub is_one_of : List ℕ → List (List ℕ) → Bool
is_one_of w [] = false
is_one_of w (v ∷ vs) = name_eq w v || is_one_of w vs

-- the words that the language gives a meaning in play
abbrev pub language : List (List ℕ)
language = w_role ∷ w_base ∷ w_input ∷ w_init ∷ w_true ∷ w_does ∷ w_next ∷ w_legal ∷ w_goal ∷ w_terminal ∷ w_distinct ∷ []

-- what stands between head and body, or before a negation, in Prolog and in other notations
abbrev pub foreign : List (List ℕ)
foreign = codes ":-" ∷ codes "<-" ∷ codes "->" ∷ codes "=>" ∷ codes "\\+" ∷ []

abbrev pub is_digit : ℕ → Bool
is_digit b = nat_le 48 b && nat_le b 57

-- a number from 0 to 100 in decimal, without a leading zero
abbrev pub is_goal_number : List ℕ → Bool
is_goal_number [] = false
is_goal_number (a ∷ []) = is_digit a
is_goal_number (a ∷ b ∷ []) = (is_digit a && not (a == 48)) && is_digit b
is_goal_number (a ∷ b ∷ c ∷ ds) = name_eq (a ∷ b ∷ c ∷ ds) (codes "100")

-- such a number, or a variable, which may stand for one
abbrev pub is_goal_value : Tree → Bool
is_goal_value (name w) = is_variable w || is_goal_number w
is_goal_value (list ts) = false

-- of two terms, the second is neither
abbrev pub has_bad_value : Trees → Bool
has_bad_value no_trees = false
has_bad_value (tree r no_trees) = false
has_bad_value (tree r (tree v no_trees)) = not (is_goal_value v)
has_bad_value (tree r (tree v (tree w ws))) = false

-- the item states a goal whose value is neither
abbrev pub states_bad_goal : Tree → Bool
states_bad_goal t = name_eq (item_head t).word w_goal && has_bad_value (item_head t).terms
