-- What is asked, and the replies after a search.
use Rattle.std.proofs.Common.{◌≡◌, subst}
use Rattle.std.specs.Prelude.{Result, Ok, Err, IfOk}
use Rattle.statement.specs.Answers.{Reply}
use Rattle.statement.specs.Solving.{solve_lines}
use Rattle.statement.specs.Deepening.{deepen_lines}
use Rattle.game.specs.declared.game.Game.{Ghosts}
use Rattle.program_replies.specs.declared.asking.Asked.{Asked}
use Rattle.program_replies.specs.declared.asking.Asked.TheVariants.{Told, ToSearch, ToDeepen}
use Rattle.program_searches.specs.declared.reply.Reply as made
use Rattle.program_searches.specs.declared.search.Search.{Search}
use Rattle.program_searches.specs.Searching.{IsSearchFor}
use Rattle.program_replies.specs.Asking.{IsAsked}
use Rattle.program_searches.specs.Replies.{reply_of}
use Rattle.program_searches.proofs.Facts.{lift_search}

-- where each reply of one kind is of another, so is what is asked
module _ {G P W M : Type 0} (of : Ghosts G P W M) (is other : Reply → Type 0) (f : (reply : Reply) → is reply → other reply) where
  pub lift_asked : (a : Asked G P W M) → IsAsked of is a → IsAsked of other a
  lift_asked (Told reply) h = f _ h
  lift_asked (ToSearch s) h = lift_search of is other f solve_lines s h
  lift_asked (ToDeepen s) h = lift_search of is other f deepen_lines s h

  pub lift_asking : {E : Type 0} (r : Result (Asked G P W M) E) → IfOk r (IsAsked of is) → IfOk r (IsAsked of other)
  lift_asking (Ok a) h = lift_asked a h
  lift_asking (Err e) h = h

-- what is asked is a reply, or it is told after the search
module _ {G P W M : Type 0} (of : Ghosts G P W M) (is : Reply → Type 0) (a : Asked G P W M) where
  pub asked_reply : (reply : made.Reply) → IsAsked of is a → a ≡ Told reply → is (reply_of reply)
  asked_reply reply h same = subst (IsAsked of is) same h

  pub asked_search : (s : Search G P W M) → IsAsked of is a → a ≡ ToSearch s → IsSearchFor of solve_lines is s
  asked_search s h same = subst (IsAsked of is) same h

  pub asked_deepen : (s : Search G P W M) → IsAsked of is a → a ≡ ToDeepen s → IsSearchFor of deepen_lines is s
  asked_deepen s h same = subst (IsAsked of is) same h
