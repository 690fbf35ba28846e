-- What the text of a history leads to.
use Rattle.std.specs.Prelude.{ℕ, ◌≡◌, ◌≢◌, ◌⊎◌, List, Result, Err}
use Rattle.statement.specs.Tree.{Trees, list_of}
use Rattle.statement.specs.Reading.{Reads}
use Rattle.statement.specs.TextFaults.{IsTextFault}
use Rattle.statement.specs.declared.text_fault.KifFault.{KifFault}
use Rattle.statement.specs.NamedRules.{NamedRules}
use Rattle.statement.specs.Played.{played}
use Rattle.statement.specs.Rules.{State}
use Rattle.statement.specs.declared.history_fault.HistoryFault.{HistoryFault}
use Rattle.statement.specs.declared.history_fault.HistoryFault.TheVariants.{BadForm}
use Rattle.statement.specs.declared.text_fault.KifFault.TheVariants as faults

-- the bytes have a fault in their text, which is a bad form at turn 0
abbrev pub IsUnreadable : List ℕ → Result State HistoryFault → Type 0
IsUnreadable bytes result =
    (fault : KifFault) × (fault ≢ faults.NoMemory) × IsTextFault bytes fault × (result ≡ Err (BadForm 0))

-- the bytes read as trees, which are the turns
abbrev pub LeadsTo : NamedRules → List ℕ → Result State HistoryFault → Type 0
LeadsTo g bytes result = (ts : Trees) × Reads bytes ts × (result ≡ played g.rules g.move_name (list_of ts))

-- what the bytes of a history lead to: a state, or the first fault
abbrev pub IsHistoryOf : NamedRules → List ℕ → Result State HistoryFault → Type 0
IsHistoryOf g bytes result = IsUnreadable bytes result ⊎ LeadsTo g bytes result
