-- The reply to `state`: how play stands after a history, and what holds.
use Rattle.std.specs.Prelude.{ℕ, ◌≡◌, List, [], ◌∷◌, ◌++◌, Result, codes, if◌then◌else◌}
use Rattle.std.specs.List.{flat_map}
use Rattle.statement.specs.Tree.{Tree, text}
use Rattle.statement.specs.Clause.{Alternative}
use Rattle.statement.specs.Listing.{base_list}
use Rattle.statement.specs.NamedRules.{NamedRules}
use Rattle.statement.specs.Rules.{State, is_stuck}
use Rattle.statement.specs.GameNumbers.{trees_at}
use Rattle.statement.specs.declared.history_fault.HistoryFault.{HistoryFault}
use Rattle.statement.specs.Answers.{Reply}
use Rattle.statement.specs.Histories.{IsHistoryOf}
use Rattle.statement.specs.Moving.{history_reply}

-- the line of a base proposition that holds
abbrev pub true_line : Tree → List ℕ
true_line p = codes "true " ++ text p ++ 10 ∷ []

-- what holds in a state, in its order: that is printed order in each state that play of the rules leads to
abbrev pub true_lines : List Alternative → State → List ℕ
true_lines rules s = flat_map true_line (trees_at (base_list rules) s)

-- how play stands, and what holds
abbrev pub state_lines : List Alternative → NamedRules → State → List ℕ
state_lines rules g s =
    if g.rules.ended s then codes "state ended" ++ 10 ∷ true_lines rules s
    else if is_stuck g.rules s then codes "state stuck" ++ 10 ∷ true_lines rules s
    else codes "state open" ++ 10 ∷ true_lines rules s

-- the reply by the game of the rules
abbrev pub IsStateReply : List Alternative → NamedRules → List ℕ → Reply → Type 0
IsStateReply rules g after reply =
    (result : Result State HistoryFault) × IsHistoryOf g after result × (reply ≡ history_reply g (state_lines rules g) result)
