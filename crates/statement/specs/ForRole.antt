-- The reply to what is asked for a role: what is told for it of the state after a history.
use Rattle.std.specs.Prelude.{ℕ, ◌≡◌, ◌⊎◌, List, Result, Some}
use Rattle.statement.specs.NamedRules.{NamedRules}
use Rattle.statement.specs.Rules.{State}
use Rattle.statement.specs.declared.history_fault.HistoryFault.{HistoryFault}
use Rattle.statement.specs.Answers.{Reply}
use Rattle.statement.specs.Histories.{IsHistoryOf}
use Rattle.statement.specs.Moving.{history_reply}
use Rattle.statement.specs.Solving.{IsRoleNamed, NamesNoRole}

-- the text of the role names this one, and the reply has these lines of the state after the history
abbrev pub TellsFor : NamedRules → List ℕ → (ℕ → State → List ℕ) → List ℕ → ℕ → Reply → Type 0
TellsFor g role lines after r reply =
    IsRoleNamed g role (Some r)
    × (result : Result State HistoryFault) × IsHistoryOf g after result × (reply ≡ history_reply g (lines r) result)

-- the reply for the role of this text, which has such lines, after the history of this text
abbrev pub IsRoleReply : NamedRules → List ℕ → (ℕ → State → List ℕ) → List ℕ → Reply → Type 0
IsRoleReply g role lines after reply = NamesNoRole g role reply ⊎ ((r : ℕ) × TellsFor g role lines after r reply)
