-- The reply to a command that plays the game of a description.
use Rattle.std.specs.Prelude.{◌≡◌, ◌⊎◌, List, Some, None}
use Rattle.statement.specs.Tree.{Tree}
use Rattle.statement.specs.Items.{alternatives}
use Rattle.statement.specs.Profile.{HasNoFault}
use Rattle.statement.specs.declared.excess.Excess.{Excess}
use Rattle.statement.specs.declared.ground_fault.GroundFault.TheVariants.{TooMany}
use Rattle.statement.specs.declared.width.Width.{Width}
use Rattle.statement.specs.Limits.{excess_in}
use Rattle.statement.specs.LimitTexts.{limit_fault_words}
use Rattle.statement.specs.NamedRules.{NamedRules}
use Rattle.statement.specs.GameOfRules.{IsGameOf}
use Rattle.statement.specs.Answers.{Reply, refusal}
use Rattle.statement.specs.Checking.{RefusesItems}

-- the items are a description that passes a limit of its instantiation, and the reply names the first
abbrev pub PassesLimit : Width → List Tree → Reply → Type 0
PassesLimit width items reply =
    HasNoFault items × (excess : Excess) × (excess_in width (alternatives items) ≡ Some excess) × (reply ≡ refusal (limit_fault_words (TooMany excess)))

-- the items have no game to play, and the reply says why
abbrev pub HasNoGame : Width → List Tree → Reply → Type 0
HasNoGame width items reply = RefusesItems items reply ⊎ PassesLimit width items reply

-- the items are a description within all limits, and this is its game
pub record IsItsGame (width : Width) (items : List Tree) (g : NamedRules) : Type 0 where
  pub lawful : HasNoFault items
  pub within : excess_in width (alternatives items) ≡ None
  pub same : IsGameOf (alternatives items) g

-- the reply is what is told of the game of the items
abbrev pub TellsGame : Width → List Tree → (NamedRules → Reply → Type 0) → Reply → Type 0
TellsGame width items told reply = (g : NamedRules) × IsItsGame width items g × told g reply

abbrev pub IsPlayReply : Width → List Tree → (NamedRules → Reply → Type 0) → Reply → Type 0
IsPlayReply width items told reply = HasNoGame width items reply ⊎ TellsGame width items told reply
