-- This crate's own: what `run` promises does not rest on it.
-- What bytes are read as, what their rules instantiate to, and what is replied then.
use Rattle.std.specs.Prelude.{ℕ, ◌≡◌, ◌⊎◌, List, None, Result, IfOk, IfErr}
use Rattle.statement.specs.Tree.{Tree, Trees, list_of}
use Rattle.statement.specs.Reading.{Reads}
use Rattle.statement.specs.Clause.{Alternative}
use Rattle.statement.specs.Items.{alternatives}
use Rattle.statement.specs.Profile.{HasNoFault}
use Rattle.statement.specs.declared.width.Width.{Width}
use Rattle.statement.specs.Limits.{excess_in}
use Rattle.statement.specs.Queries.{Query}
use Rattle.statement.specs.Answers.{Reply}
use Rattle.statement.specs.Checking.{RefusesItems}
use Rattle.statement.specs.Replies.{IsReplyIn, RefusesText}
use Rattle.statement.specs.declared.ground_fault.GroundFault.{GroundFault}
use Rattle.ground_rows.specs.Progress.{IsFaultOf}
use Rattle.rules.specs.RuleSetView.{rules_in}
use Rattle.ground_instances.specs.declared.flat_ground.FlatGround.{FlatGround}
use Rattle.ground_instances.specs.GroundView.{IsGround}
use Rattle.program_replies.specs.declared.reading.Reading.{Reading}
use Rattle.program_replies.specs.declared.reading.Reading.TheVariants.{Rules, Refused}
use Rattle.program_searches.specs.Replies.{reply_of}

-- the items have no fault, and these are their rules
pub record AreRulesOf (items : List Tree) (rules : List Alternative) : Type 0 where
  pub lawful : HasNoFault items
  pub same : rules ≡ alternatives items

-- what items come to: their rules, or the reply that names their fault
abbrev pub IsReadingOfItems : List Tree → Reading → Type 0
IsReadingOfItems items (Rules rules) = AreRulesOf items (rules_in rules)
IsReadingOfItems items (Refused reply) = RefusesItems items (reply_of reply)

-- the bytes have a fault in their text, or read as items that have one, and the reply names it
abbrev pub RefusesBytes : List ℕ → Reply → Type 0
RefusesBytes bytes reply = RefusesText bytes reply ⊎ ((ts : Trees) × Reads bytes ts × RefusesItems (list_of ts) reply)

-- what bytes come to: the rules of the items as which they read, or the reply that names their fault
abbrev pub IsReadingOf : List ℕ → Reading → Type 0
IsReadingOf bytes (Rules rules) = (ts : Trees) × Reads bytes ts × AreRulesOf (list_of ts) (rules_in rules)
IsReadingOf bytes (Refused reply) = RefusesBytes bytes (reply_of reply)

-- the rules instantiate to this by the limits of a width: their ground, or the limit that they pass, or there was no memory
abbrev pub IsInstantiationOf : Width → List Alternative → Result FlatGround GroundFault → Type 0
IsInstantiationOf width rules r =
    IfOk r (λ g. IsGround rules g × (excess_in width rules ≡ None)) × IfErr r (IsFaultOf (excess_in width rules))

-- the reply to a query, by the limits of each width, over all trees that are items without a fault and instantiate to this by them
abbrev pub IsReplyOver : Query → Result FlatGround GroundFault → Reply → Type 0
IsReplyOver query r reply =
    (width : Width) (ts : Trees) → HasNoFault (list_of ts) → IsInstantiationOf width (alternatives (list_of ts)) r → IsReplyIn width query ts reply
