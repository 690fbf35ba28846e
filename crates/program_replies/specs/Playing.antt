-- This crate's own: what `run` promises does not rest on it.
-- The game of rules.
use Rattle.std.specs.Prelude.{ℕ, ◌≡◌, List, None}
use Rattle.statement.specs.Tree.{Trees, list_of}
use Rattle.statement.specs.Reading.{Reads}
use Rattle.statement.specs.Items.{alternatives}
use Rattle.statement.specs.Profile.{HasNoFault}
use Rattle.statement.specs.Rules.{Rules}
use Rattle.statement.specs.declared.width.Width.{Width}
use Rattle.statement.specs.Limits.{excess_in}
use Rattle.ground_instances.specs.declared.flat_ground.FlatGround.{FlatGround}
use Rattle.ground_instances.specs.GroundView.{IsGround}
use Rattle.game_rules.specs.RuleState.{IsGameOver}

-- the bytes read as items without a fault, this is their instantiation, which passes no limit of a width, and the game with these rules and
-- texts is made of it
abbrev pub PlaysText : Width → List ℕ → FlatGround → Rules → (ℕ → List ℕ) → (ℕ → ℕ → List ℕ) → Type 0
PlaysText width bytes source rules role_name move_name =
    (ts : Trees) × Reads bytes ts × HasNoFault (list_of ts) × IsGround (alternatives (list_of ts)) source
    × (excess_in width (alternatives (list_of ts)) ≡ None) × IsGameOver source rules role_name move_name
