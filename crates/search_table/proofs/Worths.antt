-- The values of a game are worths.
use Rattle.std.proofs.Common.{◌≡◌, ℕ, ◌≤◌, Bool, true, List, ◌∙◌, sym, eqb-true}
use Rattle.statement.specs.declared.at_bound.AtBound.{AtBound}
use Rattle.statement.specs.declared.at_bound.AtBound.TheVariants.{Zero, Goal, Unfinished}
use Rattle.statement.specs.Rules.{Rules, State}
use Rattle.game.proofs.Facts.{value_rising, value_within, more_turns_rise}
use Rattle.search_table.specs.Worths.{AreWorths, is_rising}
use Rattle.search_table.specs.Tables.{worth_of}

pub worths : (g : Rules) (keyed : List ℕ → State) (role : ℕ) (at : AtBound) → ((s : State) → g.goal s role ≤ 100) → (rising : Bool)
    → rising ≡ is_rising at → (key : List ℕ) → AreWorths rising (worth_of g keyed role at key)
worths g keyed role Zero goals rising is key = record {
  few = λ d. value_within g role goals d Zero (keyed key);
  rise = λ e d f more. value_rising g role (keyed key) d f more;
}
worths g keyed role Goal goals rising is key = record {
  few = λ d. value_within g role goals d Goal (keyed key);
  rise = λ e d f more. absurd cc;
}
worths g keyed role (Unfinished worth) goals rising is key = record {
  few = λ d. value_within g role goals d (Unfinished worth) (keyed key);
  rise = λ e d f more.
      more_turns_rise g role (Unfinished worth) (λ goal. eqb-true worth.value 0 (sym is ∙ e)) d f more (Unfinished worth) (keyed key);
}
