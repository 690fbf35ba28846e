-- What was taken and answered is a turn of a session.
use Rattle.std.proofs.Common.{ℕ, ◌≡◌, Bool, true, false, inl, inr, List, refl, sym}
use Rattle.std.specs.Prelude.{Option, Ok, Err}
use Rattle.std.specs.Io.KnownBytes.{Appends}
use Rattle.statement.specs.Output.{AppendsFront}
use Rattle.program_streams.specs.declared.fault.RunFault.TheVariants.{Write}
use Rattle.program_requests.specs.declared.desk.Desk.{Desk}
use Rattle.program_requests.specs.declared.desk.Taken.{Taken}
use Rattle.program_requests.specs.Desks.{IsTaken, IsFrameOf, goes_on, rules_kept}
use Rattle.program_session.proofs.Facts.{exchanged, ended}
use Rattle.program_words.specs.declared.command.Language.{Language}
use Rattle.program_session.specs.Telling.{IsToldIn}
use Rattle.program_session.specs.Turns.{IsTurn}

module _ (language : Language) (taken : Taken) (was now : Desk) (old new before after : Option (List ℕ)) (out : List ℕ) (h : IsTaken (Ok taken) was now old new)
    (f : IsFrameOf (IsToldIn language) taken now out) where
  pub turned : (on : Bool) → on ≡ goes_on taken → Appends before after out
      → IsTurn language (Ok on) (rules_kept was) (rules_kept now) old new before after
  turned true is written = λ rules stand.
      let e = exchanged (IsToldIn language) taken was now old new out rules h (sym is) f stand in (e.0, out, e.1, e.2, e.3, e.4, written)
  turned false is written = λ rules stand.
      let e = ended (IsToldIn language) taken was now old new out rules h (sym is) f stand in (e.0, out, e.1, e.2, e.3, written)

  broken_if : (on : Bool) → goes_on taken ≡ on → AppendsFront before after out
      → IsTurn language (Err Write) (rules_kept was) (rules_kept now) old new before after
  broken_if true is written = λ rules stand.
      let e = exchanged (IsToldIn language) taken was now old new out rules h is f stand in (e.0, out, inl (e.1, e.2), e.4, written)
  broken_if false is written = λ rules stand.
      let e = ended (IsToldIn language) taken was now old new out rules h is f stand in (e.0, out, inr e.1, e.2, written)

  pub broken : AppendsFront before after out → IsTurn language (Err Write) (rules_kept was) (rules_kept now) old new before after
  broken written = broken_if (goes_on taken) refl written
