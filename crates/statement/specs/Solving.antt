-- What `solve` answers: the value of a state for a role, the move that makes sure of it, and the line of play.
use Rattle.std.specs.Prelude.{ℕ, ◌≡◌, ◌≢◌, ◌+◌, ◌⊎◌, Result, List, [], ◌∷◌, ◌++◌, map, find, codes, Option, Some, None, slice_index}
use Rattle.std.specs.Fmt.{decimal}
use Rattle.statement.specs.Tree.{Trees, no_trees, tree, text, name_eq}
use Rattle.statement.specs.Reading.{Reads}
use Rattle.statement.specs.declared.text_fault.KifFault.{KifFault}
use Rattle.statement.specs.declared.text_fault.KifFault.TheVariants.{NoMemory}
use Rattle.statement.specs.declared.at_bound.AtBound.{AtBound}
use Rattle.statement.specs.NamedRules.{NamedRules}
use Rattle.statement.specs.Rules.{State, Turn, all_roles}
use Rattle.statement.specs.Value.{value, choice_of, line_of}
use Rattle.statement.specs.declared.history_fault.HistoryFault.{HistoryFault}
use Rattle.statement.specs.Answers.{Reply, refusal}
use Rattle.statement.specs.Checking.{count_line, spaced}
use Rattle.statement.specs.Histories.{IsHistoryOf}
use Rattle.statement.specs.Moving.{history_reply}
use Rattle.statement.specs.TextFaults as kif

-- the role that a list of one tree names
abbrev pub role_named_in : NamedRules → Trees → Option ℕ
role_named_in g no_trees = None
role_named_in g (tree t no_trees) = find (λ r. name_eq (text t) (g.role_name r)) (all_roles g.rules)
role_named_in g (tree t (tree u us)) = None

-- the text has a fault and names no role, or it reads as trees and names the role that they name
abbrev pub IsRoleNamed : NamedRules → List ℕ → Option ℕ → Type 0
IsRoleNamed g bytes found =
    ((fault : KifFault) × (fault ≢ NoMemory) × kif.IsTextFault bytes fault × (found ≡ None))
    ⊎ ((ts : Trees) × Reads bytes ts × (found ≡ role_named_in g ts))

-- the text of a role's move, or `none`
abbrev pub choice_text : NamedRules → ℕ → Option ℕ → List ℕ
choice_text g role None = codes "none"
choice_text g role (Some own) = g.move_name role own

abbrev pub move_line : List ℕ → List ℕ
move_line words = codes "move " ++ words ++ 10 ∷ []

-- the texts of the moves of a joint move, in the order of the roles
abbrev pub move_texts : NamedRules → Turn → List (List ℕ)
move_texts g j = map (λ q. g.move_name q (slice_index j q)) (all_roles g.rules)

-- a turn with its number
abbrev pub turn_line : NamedRules → ℕ → Turn → List ℕ
turn_line g number j = codes "line " ++ decimal number ++ spaced (move_texts g j) ++ 10 ∷ []

-- turns, the first with this number
abbrev pub turn_lines : NamedRules → ℕ → List Turn → List ℕ
turn_lines g number [] = []
turn_lines g number (j ∷ js) = turn_line g number j ++ turn_lines g (number + 1) js

-- the value of a state for a role, the move and the line
abbrev pub solve_lines : NamedRules → ℕ → ℕ → AtBound → State → List ℕ
solve_lines g role depth at s =
    count_line (codes "value") (value g.rules role depth at s)
    ++ move_line (choice_text g role (choice_of g.rules role depth at s))
    ++ turn_lines g 1 (line_of g.rules role depth at s)

-- the text of the role names none
abbrev pub NamesNoRole : NamedRules → List ℕ → Reply → Type 0
NamesNoRole g role reply = IsRoleNamed g role None × (reply ≡ refusal (codes "S1 NoSuchRole"))

-- the text of the role names this one, and the reply is that over the state after the history
abbrev pub SolvesFor : NamedRules → List ℕ → ℕ → AtBound → List ℕ → ℕ → Reply → Type 0
SolvesFor g role depth at after r reply =
    IsRoleNamed g role (Some r)
    × (result : Result State HistoryFault) × IsHistoryOf g after result × (reply ≡ history_reply g (solve_lines g r depth at) result)

-- the reply for the role of this text, within so many turns and with what a state is worth behind them, after the history of this
-- text
abbrev pub IsSolveReply : NamedRules → List ℕ → ℕ → AtBound → List ℕ → Reply → Type 0
IsSolveReply g role depth at after reply = NamesNoRole g role reply ⊎ ((r : ℕ) × SolvesFor g role depth at after r reply)
