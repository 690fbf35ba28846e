-- The line that says why a history is refused.
use Rattle.std.specs.Prelude.{ℕ, ◌<◌, ⊤, List, [], ◌∷◌, ◌++◌, codes}
use Rattle.std.specs.Fmt.{decimal}
use Rattle.statement.specs.declared.history_fault.HistoryFault.{HistoryFault}
use Rattle.statement.specs.declared.history_fault.HistoryFault.TheVariants.{BadForm, NotLegal, Over, Stuck, NoMemory}

-- a fault's number and name, and the turn where it stands
abbrev pub history_fault_words : HistoryFault → List ℕ
history_fault_words (BadForm turn) = codes "H1 BadForm " ++ decimal turn
history_fault_words (NotLegal turn role) = codes "H2 NotLegal " ++ decimal turn
history_fault_words (Over turn) = codes "H3 Over " ++ decimal turn
history_fault_words (Stuck turn) = codes "H4 Stuck " ++ decimal turn
history_fault_words NoMemory = codes "H9 NoMemory"

-- what follows the turn: a space and the name of the role, where a role is at fault
abbrev pub role_part : (ℕ → List ℕ) → HistoryFault → List ℕ
role_part names (BadForm turn) = []
role_part names (NotLegal turn role) = 32 ∷ names role
role_part names (Over turn) = []
role_part names (Stuck turn) = []
role_part names NoMemory = []

-- the role at fault, if there is one, is a role of the game
abbrev pub IsRoleOf : ℕ → HistoryFault → Type 0
IsRoleOf roles (BadForm turn) = ⊤
IsRoleOf roles (NotLegal turn role) = role < roles
IsRoleOf roles (Over turn) = ⊤
IsRoleOf roles (Stuck turn) = ⊤
IsRoleOf roles NoMemory = ⊤
