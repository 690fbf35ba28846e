-- The reply to `check`: the fault of the items, or what they have.
use Rattle.std.specs.Prelude.{ℕ, ◌≡◌, ◌≢◌, ◌⊎◌, List, [], ◌∷◌, ◌++◌, codes, length, map}
use Rattle.std.specs.Fmt.{decimal}
use Rattle.statement.specs.Tree.{Tree, text}
use Rattle.statement.specs.Items.{alternatives}
use Rattle.statement.specs.Order.{relations_in_order}
use Rattle.statement.specs.Profile.{HasNoFault, roles}
use Rattle.statement.specs.RuleFaultTexts.{rule_fault_words}
use Rattle.statement.specs.declared.rule_fault.RuleFault.{RuleFault}
use Rattle.statement.specs.Answers.{Reply, answer, refusal}
use Rattle.statement.specs.RuleFaults as rules
use Rattle.statement.specs.declared.rule_fault.RuleFault.TheVariants as faults

-- a line of a word and a count
abbrev pub count_line : List ℕ → ℕ → List ℕ
count_line word count = word ++ 32 ∷ decimal count ++ 10 ∷ []

-- each text, with a space before it
abbrev pub spaced : List (List ℕ) → List ℕ
spaced [] = []
spaced (t ∷ ts) = 32 ∷ t ++ spaced ts

-- the numbers of items, alternatives and relations that head an item, and the roles
abbrev pub check_lines : ℕ → ℕ → ℕ → List (List ℕ) → List ℕ
check_lines items alternatives relations roles =
    count_line (codes "items") items ++ count_line (codes "alternatives") alternatives ++ count_line (codes "relations") relations
    ++ codes "roles" ++ spaced roles ++ 10 ∷ []

-- the items have a fault, and the reply names it
abbrev pub RefusesItems : List Tree → Reply → Type 0
RefusesItems items reply =
    (fault : RuleFault) × (fault ≢ faults.NoMemory) × rules.IsRuleFault items fault × (reply ≡ refusal (rule_fault_words fault))

-- the items are a description, and the reply counts what it has
abbrev pub CountsItems : List Tree → Reply → Type 0
CountsItems items reply =
    HasNoFault items
    × (reply ≡ answer (check_lines (length items) (length (alternatives items)) (length (relations_in_order (alternatives items)))
    (map text (roles items))))

abbrev pub IsCheckReply : List Tree → Reply → Type 0
IsCheckReply items reply = RefusesItems items reply ⊎ CountsItems items reply
