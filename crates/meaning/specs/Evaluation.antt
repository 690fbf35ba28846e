-- This crate's own: what `run` promises does not rest on it.
-- What holds in a state and under a joint move, by going through the kept instances.
use Rattle.std.specs.Prelude.{ℕ, zero, suc, Bool, true, false, not, cond, ◌&&◌, ◌||◌, List, [], ◌∷◌, Option, Some, None, filter, decimal}
use Rattle.statement.specs.Tree.{Tree, name, tree_eq}
use Rattle.statement.specs.Words.{w_next, w_legal, w_goal, w_terminal}
use Rattle.statement.specs.Clause.{Atom, Literal, positive, negative, Alternative}
use Rattle.statement.specs.Meaning.{StateOfTerms, Joint, Source, now, does, distinct, ordinary, source_of, nobody, atom0, atom1, atom2}
use Rattle.statement.specs.Listing.{Instance, is_atom_in, listing, role_list, base_list, input_list}

abbrev pub gives : Option Tree → Tree → Bool
gives None m = false
gives (Some n) m = tree_eq n m

-- the test of a right atom, where `found` tells of the ordinary ones
abbrev pub is_right_as : StateOfTerms → Joint → Bool → Source → Bool
is_right_as S J found (now p) = S p
is_right_as S J found (does r m) = gives (J r) m
is_right_as S J found (distinct s t) = not (tree_eq s t)
is_right_as S J found ordinary = found

abbrev pub is_right : StateOfTerms → Joint → List Atom → Literal → Bool
is_right S J found (positive x) = is_right_as S J (is_atom_in x found) (source_of x)
is_right S J found (negative x) = not (is_right_as S J (is_atom_in x found) (source_of x))

abbrev pub all_right : StateOfTerms → Joint → List Atom → List Literal → Bool
all_right S J found [] = true
all_right S J found (l ∷ ls) = is_right S J found l && all_right S J found ls

-- with the heads of the instances whose bodies are right by what was found before them
abbrev pub found_by : StateOfTerms → Joint → List Atom → List Instance → List Atom
found_by S J found [] = found
found_by S J found (i ∷ is) = found_by S J (cond (all_right S J found i.body) (i.head ∷ found) found) is

-- the atoms that hold
abbrev pub holding : List Alternative → StateOfTerms → Joint → List Atom
holding rules S J = found_by S J [] (listing rules).kept

abbrev pub is_ended : List Alternative → StateOfTerms → Bool
is_ended rules S = is_atom_in (atom0 w_terminal) (holding rules S nobody)

-- the state after a turn, and the legal moves of a role
abbrev pub after_list : List Alternative → StateOfTerms → Joint → List Tree
after_list rules S J = filter (λ p. is_atom_in (atom1 w_next p) (holding rules S J)) (base_list rules)

abbrev pub legal_list : List Alternative → StateOfTerms → Tree → List Tree
legal_list rules S r = filter (λ m. is_atom_in (atom2 w_legal r m) (holding rules S nobody)) (input_list rules r)

abbrev pub has_none : List Tree → Bool
has_none [] = true
has_none (t ∷ ts) = false

-- some role has no legal move
abbrev pub some_stuck : List Alternative → StateOfTerms → List Tree → Bool
some_stuck rules S [] = false
some_stuck rules S (r ∷ rs) = has_none (legal_list rules S r) || some_stuck rules S rs

abbrev pub is_stuck : List Alternative → StateOfTerms → Bool
is_stuck rules S = not (is_ended rules S) && some_stuck rules S (role_list rules)

-- the greatest goal of at most n that holds, or 0
abbrev pub goal_up_to : List Atom → Tree → ℕ → ℕ
goal_up_to found r zero = 0
goal_up_to found r (suc n) = cond (is_atom_in (atom2 w_goal r (name (decimal (suc n)))) found) (suc n) (goal_up_to found r n)

abbrev pub goal_of : List Alternative → StateOfTerms → Tree → ℕ
goal_of rules S r = goal_up_to (holding rules S nobody) r 100
