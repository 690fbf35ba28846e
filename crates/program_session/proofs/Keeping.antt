-- What is kept of the rules.
use Rattle.std.proofs.Common.{ℕ, ◌≡◌, List, subst, sym}
use Rattle.std.specs.Prelude.{Option, None, Ok}
use Rattle.statement.specs.declared.width.Width.{Width}
use Rattle.program_searches.specs.declared.reply.Reply as made
use Rattle.program_requests.specs.declared.desk.Desk.{Desk}
use Rattle.program_requests.specs.declared.desk.Taken.{Taken}
use Rattle.program_requests.specs.declared.desk.Taken.TheVariants.{Line, Rules as Stated, Starved, LastLine, Cut, Nothing}
use Rattle.program_requests.specs.Desks.{IsTaken, rules_kept}
use Rattle.program_words.specs.declared.command.Language.{Language}
use Rattle.program_words.specs.declared.command.Language.TheVariants.{Profile, Whole, Tightened}
use Rattle.program_session.specs.Kept.{AreKept, kept_after}

-- nothing may be kept of any rules
module _ {X : Type 0} (Plays : Width → List ℕ → X → Type 0) where
  pub none_kept : (language : Language) (rules : List ℕ) → AreKept Plays language rules None None
  none_kept Profile rules = tt
  none_kept Whole rules = tt
  none_kept Tightened rules = tt

  -- what is kept of rules is kept of the same rules
  pub same_kept : (language : Language) (rules others : List ℕ) (written : Option made.Reply) (game : Option X) → rules ≡ others
      → AreKept Plays language rules written game → AreKept Plays language others written game
  same_kept language rules others written game same kept = subst (λ (l : List ℕ). AreKept Plays language l written game) same kept

  stays : (language : Language) (taken : Taken) (was now : Desk) (old new : Option (List ℕ)) (written : Option made.Reply) (game : Option X)
      → IsTaken (Ok taken) was now old new → AreKept Plays language (rules_kept was) written game
      → AreKept Plays language (rules_kept now) (kept_after taken written) (kept_after taken game)
  stays language Line was now old new written game h kept = same_kept language (rules_kept was) (rules_kept now) written game (sym h.3) kept
  stays language Stated was now old new written game h kept = none_kept language (rules_kept now)
  stays language Starved was now old new written game h kept = none_kept language (rules_kept now)
  stays language LastLine was now old new written game h kept = same_kept language (rules_kept was) (rules_kept now) written game (sym h.5) kept
  stays language Cut was now old new written game h kept = none_kept language (rules_kept now)
  stays language Nothing was now old new written game h kept = none_kept language (rules_kept now)

  -- the rules stay where anything is kept
  pub still_kept : (language : Language) (taken : Taken) (was now : Desk) (old new : Option (List ℕ)) (written written_then : Option made.Reply)
      (game game_then : Option X) → IsTaken (Ok taken) was now old new → AreKept Plays language (rules_kept was) written game
      → written_then ≡ kept_after taken written → game_then ≡ kept_after taken game → AreKept Plays language (rules_kept now) written_then game_then
  still_kept language taken was now old new written written_then game game_then h kept text played =
      let first = stays language taken was now old new written game h kept in
      let second = subst (λ (w : Option made.Reply). AreKept Plays language (rules_kept now) w (kept_after taken game)) (sym text) first in
      subst (λ (g : Option X). AreKept Plays language (rules_kept now) written_then g) (sym played) second
