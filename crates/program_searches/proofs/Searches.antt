-- Searches that are asked for, and the replies after them.
use Rattle.std.proofs.Common.{◌≡◌, subst, sym}
use Rattle.std.specs.Prelude.{Result, Ok, Err, IfOk}
use Rattle.statement.specs.Answers.{Reply, answer}
use Rattle.game.specs.declared.game.Game.{Ghosts}
use Rattle.program_searches.specs.declared.reply.Reply as made
use Rattle.program_searches.specs.declared.search.Search.{Search}
use Rattle.program_searches.specs.declared.search.Start.{Start}
use Rattle.program_searches.specs.Searching.{LinesOf, IsSearchFor, IsSearchOrReply, IsStartFor, IsStartOrReply, named_by}
use Rattle.program_searches.specs.Replies.{reply_of}

-- where each reply of one kind is of another, so is a search after which there is one
module _ {G P W M : Type 0} (of : Ghosts G P W M) (is other : Reply → Type 0) (f : (reply : Reply) → is reply → other reply) where
  pub lift_search : (lines : LinesOf) (s : Search G P W M) → IsSearchFor of lines is s → IsSearchFor of lines other s
  lift_search lines s h = record { fits = h.fits; role = h.role; reply = f _ h.reply }

  pub still_search : (lines : LinesOf) (r : Result (Search G P W M) made.Reply) (s : Search G P W M) → IsSearchOrReply of lines is r → r ≡ Ok s
      → IsSearchFor of lines other s
  still_search lines r s h same = lift_search lines s (subst (IsSearchOrReply of lines is) same h)

  pub still_reply : (lines : LinesOf) (r : Result (Search G P W M) made.Reply) (reply : made.Reply) → IsSearchOrReply of lines is r → r ≡ Err reply
      → other (reply_of reply)
  still_reply lines r reply h same = f _ (subst (IsSearchOrReply of lines is) same h)

-- where each reply of one kind is of another, so it is where a search begins, whatever is told after the search
lift_start : {G P W M : Type 0} (of : Ghosts G P W M) (game : G) (is other : Reply → Type 0) → ((reply : Reply) → is reply → other reply)
    → (lines : LinesOf) (s : Start G P W M) → IsStartFor of game lines is s → IsStartFor of game lines other s
lift_start of game is other f lines s h = record { fits = h.fits; role = h.role; reply = f _ h.reply }

pub still_started : {G P W M E : Type 0} (of : Ghosts G P W M) (game : G) (is other : LinesOf → Reply → Type 0)
    → ((lines : LinesOf) (reply : Reply) → is lines reply → other lines reply) → (r : Result (Result (Start G P W M) made.Reply) E)
    → IfOk r (λ found. (lines : LinesOf) → IsStartOrReply of game lines (is lines) found)
    → IfOk r (λ found. (lines : LinesOf) → IsStartOrReply of game lines (other lines) found)
still_started of game is other f (Ok (Ok s)) h = λ lines. lift_start of game (is lines) (other lines) (f lines) lines s (h lines)
still_started of game is other f (Ok (Err reply)) h = λ lines. f lines _ (h lines)
still_started of game is other f (Err e) h = h

-- a search begins, or there is the reply
module _ {G P W M : Type 0} (of : Ghosts G P W M) (game : G) (lines : LinesOf) (is : Reply → Type 0) (r : Result (Start G P W M) made.Reply) (h : IsStartOrReply of game lines is r) where
  pub start_is : (s : Start G P W M) → r ≡ Ok s → IsStartFor of game lines is s
  start_is s same = subst (IsStartOrReply of game lines is) same h

  pub reply_is : (reply : made.Reply) → r ≡ Err reply → is (reply_of reply)
  reply_is reply same = subst (IsStartOrReply of game lines is) same h

-- what tells the lines of where a search begins is the reply
pub told_from : {G P W M E : Type 0} (of : Ghosts G P W M) (game : G) (lines : LinesOf) (is : Reply → Type 0) (s : Start G P W M)
    (r : Result made.Reply E) → IsStartFor of game lines is s
    → IfOk r (λ told. reply_of told ≡ answer (lines (named_by of game) s.asked.role s.asked.depth s.asked.at (of.state game s.here)))
    → IfOk r (λ told. is (reply_of told))
told_from of game lines is s (Ok told) h e = subst is (sym e) h.reply
told_from of game lines is s (Err e) h told = tt

-- what tells the lines of a search is the reply after it
pub told_after : {G P W M E : Type 0} (of : Ghosts G P W M) (lines : LinesOf) (is : Reply → Type 0) (s : Search G P W M) (r : Result made.Reply E)
    → IsSearchFor of lines is s
    → IfOk r (λ told. reply_of told ≡ answer (lines (named_by of s.game) s.asked.role s.asked.depth s.asked.at (of.state s.game s.here)))
    → IfOk r (λ told. is (reply_of told))
told_after of lines is s (Ok told) h e = subst is (sym e) h.reply
told_after of lines is s (Err e) h told = tt
