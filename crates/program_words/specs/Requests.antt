-- This crate's own: what `run` promises does not rest on it.
-- By which limits a request asks, and which requests are made of rules that stand.
use Rattle.std.specs.Prelude.{◌≡◌, ⊤}
use Rattle.statement.specs.declared.width.Width.{Width}
use Rattle.statement.specs.declared.width.Width.TheVariants.{Wide}
use Rattle.program_words.specs.declared.command.Command.{Command}
use Rattle.program_words.specs.declared.command.Command.TheVariants.{Show, Check, Ask}
use Rattle.program_words.specs.declared.command.Language.{Language}
use Rattle.program_words.specs.declared.command.Language.TheVariants.{Profile, Whole, Tightened}
use Rattle.program_words.specs.declared.request.Request.{Request}
use Rattle.program_words.specs.declared.request.Request.TheVariants.{Run, Lint, Unroll, Serve, Help, Misuse}

-- a command asks the instantiation of rules by the limits of a width; it matters to no other
abbrev pub IsCommandIn : Width → Command → Type 0
IsCommandIn width Show = ⊤
IsCommandIn width Check = ⊤
IsCommandIn width (Ask inquiry asked) = asked ≡ width

-- rules as they are found may have more inputs where they are written out
abbrev pub width_of : Language → Width → Width
width_of Profile given = given
width_of Whole given = Wide
width_of Tightened given = Wide

-- a command asks by the limits for rules in its language, where those in the profile are by these
abbrev pub IsRequestIn : Width → Request → Type 0
IsRequestIn width (Run command language) = IsCommandIn (width_of language width) command
IsRequestIn width Lint = ⊤
IsRequestIn width (Unroll language) = ⊤
IsRequestIn width (Serve language) = ⊤
IsRequestIn width (Help text) = ⊤
IsRequestIn width (Misuse text) = ⊤

-- a request of rules that stand: a command over rules in the profile by the limits of a width, the findings in them, or a text
abbrev pub IsRequestOver : Width → Request → Type 0
IsRequestOver width (Run command Profile) = IsCommandIn width command
IsRequestOver width (Run command Whole) = ⊥
IsRequestOver width (Run command Tightened) = ⊥
IsRequestOver width Lint = ⊤
IsRequestOver width (Unroll language) = ⊥
IsRequestOver width (Serve language) = ⊥
IsRequestOver width (Help text) = ⊤
IsRequestOver width (Misuse text) = ⊤

-- a text is no command, so it is a request of every kind
pub record IsText (request : Request) : Type 0 where
  pub any : (width : Width) → IsRequestIn width request
  pub over : (width : Width) → IsRequestOver width request
