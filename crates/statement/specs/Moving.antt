-- The reply to `moves`: the state after a history, with the goals of an ended game or the legal moves.
use Rattle.std.specs.Prelude.{ℕ, ◌≡◌, List, [], ◌∷◌, ◌++◌, Result, Ok, Err, codes, if◌then◌else◌}
use Rattle.std.specs.Fmt.{decimal}
use Rattle.std.specs.List.{flat_map}
use Rattle.statement.specs.NamedRules.{NamedRules}
use Rattle.statement.specs.HistoryTexts.{history_fault_words, role_part}
use Rattle.statement.specs.Rules.{State, all_roles, is_stuck}
use Rattle.statement.specs.declared.history_fault.HistoryFault.{HistoryFault}
use Rattle.statement.specs.Answers.{Reply, answer, refusal}
use Rattle.statement.specs.Histories.{IsHistoryOf}

-- the line of a role and its goal value
abbrev pub goal_line : NamedRules → State → ℕ → List ℕ
goal_line g s r = codes "goal " ++ g.role_name r ++ 32 ∷ decimal (g.rules.goal s r) ++ 10 ∷ []

-- the line of a role and a move
abbrev pub legal_line : NamedRules → ℕ → ℕ → List ℕ
legal_line g r m = codes "legal " ++ g.role_name r ++ 32 ∷ g.move_name r m ++ 10 ∷ []

-- the goal of each role
abbrev pub goal_lines : NamedRules → State → List ℕ
goal_lines g s = flat_map (goal_line g s) (all_roles g.rules)

-- the legal moves of each role
abbrev pub legal_lines : NamedRules → State → List ℕ
legal_lines g s = flat_map (λ r. flat_map (legal_line g r) (g.rules.legal s r)) (all_roles g.rules)

-- how play stands, and what each role has got, or may do
abbrev pub moves_lines : NamedRules → State → List ℕ
moves_lines g s =
    if g.rules.ended s then codes "state ended" ++ 10 ∷ goal_lines g s
    else if is_stuck g.rules s then codes "state stuck" ++ 10 ∷ legal_lines g s
    else codes "state open" ++ 10 ∷ legal_lines g s

-- the reply over the state after a history, or the refusal that names its fault
abbrev pub history_reply : NamedRules → (State → List ℕ) → Result State HistoryFault → Reply
history_reply g lines (Ok s) = answer (lines s)
history_reply g lines (Err fault) = refusal (history_fault_words fault ++ role_part g.role_name fault)

abbrev pub IsMovesReply : NamedRules → List ℕ → Reply → Type 0
IsMovesReply g after reply = (result : Result State HistoryFault) × IsHistoryOf g after result × (reply ≡ history_reply g (moves_lines g) result)
