-- This crate's own: what `run` promises does not rest on it.
-- A search turn by turn that has its memory, and what it writes.
use Rattle.std.specs.Prelude.{ℕ, List}
use Rattle.statement.specs.Deepening.{deepen_lines}
use Rattle.game.specs.declared.game.Game.{Ghosts}
use Rattle.program_searches.specs.declared.deepening.Deepening.{Deepening}
use Rattle.program_searches.specs.Searching.{named_by}
use Rattle.program_searches.specs.Play.{IsPlayFor}
use Rattle.program_searches.specs.Settling.{IsSettlingFor}

-- it stands at a state of its game, and its memory serves to its depth
pub record IsReady {G P W M : Type 0} (of : Ghosts G P W M) (d : Deepening G P W M) : Type 0 where
  pub fits : of.fits d.game d.root
  pub ahead : IsPlayFor of d.game d.asked.role d.asked.depth d.play
  pub further : IsSettlingFor of d.game d.asked.role d.asked.depth d.asked.at d.settling

abbrev pub lines_to_write : {G P W M : Type 0} → Ghosts G P W M → Deepening G P W M → List ℕ
lines_to_write of d = deepen_lines (named_by of d.game) d.asked.role d.asked.depth d.asked.at (of.state d.game d.root)
