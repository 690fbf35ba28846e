-- What the program answers to what is asked of rules, as a relation between the bytes of its input and its reply.
use Rattle.std.specs.Prelude.{ℕ, ◌≡◌, ◌≢◌, ◌⊎◌, List, [], ◌∷◌, ◌++◌}
use Rattle.statement.specs.Tree.{Trees, no_trees, tree, text, list_of}
use Rattle.statement.specs.Reading.{Reads}
use Rattle.statement.specs.Items.{alternatives}
use Rattle.statement.specs.TextFaults.{IsTextFault, text_fault_words}
use Rattle.statement.specs.declared.text_fault.KifFault.{KifFault}
use Rattle.statement.specs.declared.width.Width.{Width}
use Rattle.statement.specs.declared.width.Width.TheVariants.{Plain, Wide}
use Rattle.statement.specs.Queries.{Query, show, check, net, moves, state, solve, solve_within, values, values_with_lines, deepen, widely}
use Rattle.statement.specs.Answers.{Reply, answer, refusal}
use Rattle.statement.specs.Checking.{IsCheckReply}
use Rattle.statement.specs.Moving.{IsMovesReply}
use Rattle.statement.specs.Games.{IsPlayReply}
use Rattle.statement.specs.Networks.{IsNetReply}
use Rattle.statement.specs.Solving.{IsSolveReply}
use Rattle.statement.specs.Within.{IsWindowReply}
use Rattle.statement.specs.MoveValues.{IsValuesReply}
use Rattle.statement.specs.MoveLines.{IsLinesReply}
use Rattle.statement.specs.Deepening.{IsDeepenReply}
use Rattle.statement.specs.Holding.{IsStateReply}
use Rattle.statement.specs.declared.text_fault.KifFault.TheVariants as faults

-- the canonical text of each tree, with a line end behind it
abbrev pub lines_of : Trees → List ℕ
lines_of no_trees = []
lines_of (tree t ts) = text t ++ 10 ∷ lines_of ts

-- the reply to a query over trees that were read, which are instantiated by these limits
abbrev pub IsReplyIn : Width → Query → Trees → Reply → Type 0
IsReplyIn width show ts reply = reply ≡ answer (lines_of ts)
IsReplyIn width check ts reply = IsCheckReply (list_of ts) reply
IsReplyIn width net ts reply = IsNetReply width (list_of ts) reply
IsReplyIn width (moves after) ts reply = IsPlayReply width (list_of ts) (λ g. IsMovesReply g after) reply
IsReplyIn width (state after) ts reply = IsPlayReply width (list_of ts) (λ g. IsStateReply (alternatives (list_of ts)) g after) reply
IsReplyIn width (solve role depth at after) ts reply = IsPlayReply width (list_of ts) (λ g. IsSolveReply g role depth at after) reply
IsReplyIn width (solve_within role depth at w after) ts reply = IsPlayReply width (list_of ts) (λ g. IsWindowReply g role depth at w after) reply
IsReplyIn width (values role depth at after) ts reply = IsPlayReply width (list_of ts) (λ g. IsValuesReply g role depth at after) reply
IsReplyIn width (values_with_lines role depth at after) ts reply = IsPlayReply width (list_of ts) (λ g. IsLinesReply g role depth at after) reply
IsReplyIn width (deepen role depth at after) ts reply = IsPlayReply width (list_of ts) (λ g. IsDeepenReply g role depth at after) reply
IsReplyIn width (widely query) ts reply = IsReplyIn Wide query ts reply

-- by those of every command, if no others are asked for
abbrev pub IsReplyTo : Query → Trees → Reply → Type 0
IsReplyTo query ts reply = IsReplyIn Plain query ts reply

-- the bytes have a fault in their text, and the reply names it
abbrev pub RefusesText : List ℕ → Reply → Type 0
RefusesText bytes reply =
    (fault : KifFault) × (fault ≢ faults.NoMemory) × IsTextFault bytes fault × (reply ≡ refusal (text_fault_words fault))

-- the bytes read as trees, and the reply is that to the trees
abbrev pub AnswersTrees : Query → List ℕ → Reply → Type 0
AnswersTrees query bytes reply = (ts : Trees) × Reads bytes ts × IsReplyTo query ts reply

-- the reply to a query over the bytes of the input
abbrev pub IsReply : Query → List ℕ → Reply → Type 0
IsReply query bytes reply = RefusesText bytes reply ⊎ AnswersTrees query bytes reply
