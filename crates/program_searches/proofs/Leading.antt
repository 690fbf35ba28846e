-- What turns that were read lead to is what their text leads to.
use Rattle.std.proofs.Common.{ℕ, ◌≡◌, ◌≢◌, List, inr, sym, ap, ◌∙◌}
use Rattle.std.specs.Prelude.{Result, Ok, Err, IfOk, IfErr}
use Rattle.statement.specs.Tree.{Tree, trees_of}
use Rattle.statement.specs.Reading.{Reads}
use Rattle.kif.proofs.Facts.{list_of-trees_of}
use Rattle.statement.specs.NamedRules.{NamedRules}
use Rattle.statement.specs.Played.{played}
use Rattle.statement.specs.Rules.{State}
use Rattle.statement.specs.declared.history_fault.HistoryFault.{HistoryFault}
use Rattle.statement.specs.declared.history_fault.HistoryFault.TheVariants.{NoMemory}
use Rattle.statement.specs.Histories.{IsHistoryOf}

-- the turns may be spelled as trees of values or as trees of a text
turns_lead : (g : NamedRules) (bytes : List ℕ) (turns : List Tree) (result : Result State HistoryFault)
    → Reads bytes (trees_of turns) → played g.rules g.move_name turns ≡ result → IsHistoryOf g bytes result
turns_lead g bytes turns result read h =
    inr (trees_of turns, read, sym h ∙ ap (played g.rules g.move_name) (sym (list_of-trees_of turns)))

pub text_leads_to : {P : Type 0} (g : NamedRules) (bytes : List ℕ) (turns : List Tree) (state : P → State) (r : Result P HistoryFault)
    → Reads bytes (trees_of turns) → IfOk r (λ p. played g.rules g.move_name turns ≡ Ok (state p))
    → IfOk r (λ p. IsHistoryOf g bytes (Ok (state p)))
text_leads_to g bytes turns state (Ok p) read h = turns_lead g bytes turns (Ok (state p)) read h
text_leads_to g bytes turns state (Err fault) read h = tt

pub text_is_refused : {P : Type 0} (g : NamedRules) (bytes : List ℕ) (turns : List Tree) (r : Result P HistoryFault)
    → Reads bytes (trees_of turns) → IfErr r (λ fault. fault ≢ NoMemory → played g.rules g.move_name turns ≡ Err fault)
    → IfErr r (λ fault. fault ≢ NoMemory → IsHistoryOf g bytes (Err fault))
text_is_refused g bytes turns (Ok p) read h = tt
text_is_refused g bytes turns (Err fault) read h = λ other. turns_lead g bytes turns (Err fault) read (h other)
