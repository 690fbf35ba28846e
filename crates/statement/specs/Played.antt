-- What a history of turns leads to: a state, or the first fault.
use Rattle.std.specs.Prelude.{◌≡◌, ℕ, ◌+◌, ◌<◌, Bool, true, not, ◌&&◌, ◌==◌, List, [], ◌∷◌, ◌++◌, length, map, filter, fold, find, take, slice_index_or, unwrap_or, is_none, Option, Result, Ok, Err, if◌then◌else◌}
use Rattle.std.specs.List.{flat_map, range_with_len}
use Rattle.statement.specs.Tree.{Tree, list, no_trees, text, name_eq, is_name_tree, parts_of}
use Rattle.statement.specs.declared.history_fault.HistoryFault.{HistoryFault}
use Rattle.statement.specs.declared.history_fault.HistoryFault.TheVariants.{BadForm, NotLegal, Over, Stuck}
use Rattle.statement.specs.Rules.{Rules, State, Turn, all_roles, is_stuck}

-- the text of each move of each role
abbrev pub MoveNames : Type 0
MoveNames = ℕ → ℕ → List ℕ

-- the tree at a place of a list, which is not past its end
abbrev pub nth_tree : List Tree → ℕ → Tree
nth_tree ts k = slice_index_or ts k (list no_trees)

-- a tree that is a list with a part for each role
abbrev pub is_turn_list : ℕ → Tree → Bool
is_turn_list roles t = not (is_name_tree t) && (length (parts_of t) == roles)

-- every tree is a list with a part for each role
abbrev pub AreFormed : ℕ → List Tree → Type 0
AreFormed roles ts = (k : ℕ) → k < length ts → is_turn_list roles (nth_tree ts k) ≡ true

-- the legal move of a role whose text is that of the role's part of a turn
abbrev pub named_move : Rules → MoveNames → State → List Tree → ℕ → Option ℕ
named_move g names s parts role = find (λ m. name_eq (text (nth_tree parts role)) (names role m)) (g.legal s role)

-- the joint move that a turn names
abbrev pub named_turn : Rules → MoveNames → State → List Tree → Turn
named_turn g names s parts = map (λ q. unwrap_or (named_move g names s parts q) 0) (all_roles g)

-- the state after the turns
abbrev pub state_after : Rules → MoveNames → List Tree → State
state_after g names ts = fold (λ s t. g.after s (named_turn g names s (parts_of t))) g.start ts

-- the turns that are not lists with a part for each role
abbrev pub form_faults : ℕ → List Tree → List HistoryFault
form_faults roles ts =
    map (λ k. BadForm (k + 1)) (filter (λ k. not (is_turn_list roles (nth_tree ts k))) (range_with_len 0 (length ts)))

-- the roles whose part of a turn is none of their legal moves
abbrev pub illegal_faults : Rules → MoveNames → State → List Tree → ℕ → List HistoryFault
illegal_faults g names s parts number =
    map (λ q. NotLegal number q) (filter (λ q. is_none (named_move g names s parts q)) (all_roles g))

-- what keeps a turn with this number from being played in a state
abbrev pub turn_faults : Rules → MoveNames → State → List Tree → ℕ → List HistoryFault
turn_faults g names s parts number =
    if g.ended s then Over number ∷ []
    else if is_stuck g s then Stuck number ∷ []
    else illegal_faults g names s parts number

-- what keeps the turns from being played, each in the state after the turns before it
abbrev pub play_faults : Rules → MoveNames → List Tree → List HistoryFault
play_faults g names ts =
    flat_map
    (λ k. turn_faults g names (state_after g names (take k ts)) (parts_of (nth_tree ts k)) (k + 1))
    (range_with_len 0 (length ts))

-- the first fault, or this value where there is none
abbrev pub first_history_fault : {X : Type 0} → List HistoryFault → X → Result X HistoryFault
first_history_fault [] x = Ok x
first_history_fault (fault ∷ faults) x = Err fault

-- the state after the history, or its first fault: those of form stand before all others
abbrev pub played : Rules → MoveNames → List Tree → Result State HistoryFault
played g names ts = first_history_fault (form_faults g.roles ts ++ play_faults g names ts) (state_after g names ts)
