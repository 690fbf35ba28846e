-- What a command comes to, by its variants.
use Rattle.std.proofs.Common.{◌≡◌, sym, subst, ap}
use Rattle.std.specs.Prelude.{Result, Ok, Err, IfOk}
use Rattle.game.specs.declared.game.Game.{Ghosts}
use Rattle.statement.specs.Answers.{Reply, answer}
use Rattle.statement.specs.Deepening.{deepen_lines}
use Rattle.program_searches.specs.declared.deepening.Deepening.{Deepening}
use Rattle.program_searches.specs.declared.reply.Reply as made
use Rattle.program_searches.specs.declared.search.Search.{Search}
use Rattle.program_searches.specs.Searching.{IsSearchFor, named_by}
use Rattle.program_searches.specs.Ready.{IsReady, lines_to_write}
use Rattle.program_searches.specs.Replies.{reply_of}
use Rattle.program_run.specs.declared.working.Work.{Work}
use Rattle.program_run.specs.declared.working.Work.TheVariants.{Told, ToWrite}
use Rattle.program_run.specs.Work.{IsWork}

module _ {G P W M : Type 0} (of : Ghosts G P W M) (is : Reply → Type 0) where
  pub told : (reply : made.Reply) → is (reply_of reply) → IsWork of is (Told reply)
  told reply h = record { can = tt; reply = h }

  -- a search turn by turn that was made for a search writes the reply after that
  pub to_write : (s : Search G P W M) (d : Deepening G P W M) → IsSearchFor of deepen_lines is s → IsReady of d
      → lines_to_write of d ≡ deepen_lines (named_by of s.game) s.asked.role s.asked.depth s.asked.at (of.state s.game s.here)
      → IsWork of is (ToWrite d)
  to_write s d h ready lines = record { can = ready; reply = subst is (sym (ap answer lines)) h.reply }

  pub told_is : (work : Work G P W M) (reply : made.Reply) → IsWork of is work → work ≡ Told reply → is (reply_of reply)
  told_is work reply h same = (subst (IsWork of is) same h).reply

  pub ready_is : (work : Work G P W M) (d : Deepening G P W M) → IsWork of is work → work ≡ ToWrite d → IsReady of d
  ready_is work d h same = (subst (IsWork of is) same h).can

  pub written_is : (work : Work G P W M) (d : Deepening G P W M) → IsWork of is work → work ≡ ToWrite d → is (answer (lines_to_write of d))
  written_is work d h same = (subst (IsWork of is) same h).reply

  pub told_written : {E : Type 0} (d : Deepening G P W M) (r : Result made.Reply E) → is (answer (lines_to_write of d))
      → IfOk r (λ reply. reply_of reply ≡ answer (lines_to_write of d)) → IfOk r (λ reply. is (reply_of reply))
  told_written d (Ok reply) h e = subst is (sym e) h
  told_written d (Err e) h told = tt
