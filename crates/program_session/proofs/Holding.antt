-- A session, turn by turn.
use Rattle.std.proofs.Common.{ℕ, ◌≡◌, true, false, inl, inr, List, [], ◌++◌, ap, subst, ◌∙◌, ◌⊎◌, append_assoc}
use Rattle.std.proofs.KnownBytes.{Consumes-trans, Appends-trans, Appends-kept, Appends-nil}
use Rattle.std.specs.Prelude.{Option, Ok, Err}
use Rattle.std.specs.Io.KnownBytes.{Appends, Consumes, prepend_known}
use Rattle.statement.specs.Output.{AppendsFront}
use Rattle.statement.specs.declared.status.Status.TheVariants.{Answer}
use Rattle.program_streams.specs.declared.fault.RunFault.{RunFault}
use Rattle.program_streams.specs.declared.fault.RunFault.TheVariants.{Memory, Read, Write}
use Rattle.program_requests.specs.Sessions.{IsSession, begun, further, IsWholeSession, IsExchange, IsLast}
use Rattle.program_requests.specs.Desks.{Stand}
use Rattle.program_session.proofs.Facts.{whole_with, whole_to_end, read_too, read_all}
use Rattle.program_words.specs.declared.command.Language.{Language}
use Rattle.program_session.specs.Telling.{IsToldIn}
use Rattle.program_session.specs.Turns.{IsTurn}
use Rattle.program_session.specs.Serving.{HasServed}

-- what was taken of the input and written to the output is a session, over the rules that are kept
abbrev pub IsHeld : Language → Option (List ℕ) → Option (List ℕ) → Option (List ℕ) → Option (List ℕ) → List ℕ → Type 0
IsHeld language input come before after kept =
    (taken : List ℕ) × (told : List ℕ) × (rules : List ℕ) × IsSession (IsToldIn language) taken told rules × Stand kept rules
    × Consumes input come taken × Appends before after told

pub held_at_first : (language : Language) (input come output : Option (List ℕ)) (kept : List ℕ) → kept ≡ [] → Consumes input come [] → IsHeld language input come output output kept
held_at_first language input come output kept none fresh = ([], [], [], begun, none, fresh, Appends-nil output)

pub held_further : (language : Language) (input come come_then before mid after : Option (List ℕ)) (kept kept_then : List ℕ) → IsHeld language input come before mid kept
    → IsTurn language (Ok true) kept kept_then come come_then mid after → IsHeld language input come_then before after kept_then
held_further language input come come_then before mid after kept kept_then h t =
    let e = t h.2 h.4 in (
      h.0 ++ e.0,
      h.1 ++ e.1,
      e.2,
      further h.0 h.1 h.2 e.0 e.1 e.2 h.3 e.3,
      e.4,
      Consumes-trans input come come_then h.0 e.0 h.5 e.5,
      Appends-trans before mid after h.1 e.1 h.6 e.6,
    )

front_behind : (before mid after : Option (List ℕ)) (told out : List ℕ) → Appends before mid told → AppendsFront mid after out
    → AppendsFront before after (told ++ out)
front_behind before mid after told out whole front = record {
  front = told ++ front.front;
  behind = front.behind;
  split = append_assoc told front.front front.behind ∙ ap (λ (l : List ℕ). told ++ l) front.split;
  appended = Appends-trans before mid after told front.front whole front.appended;
}

module _ (language : Language) (input come remaining before mid after : Option (List ℕ)) (kept kept_then left : List ℕ) (h : IsHeld language input come before mid kept) where
  pub held_to_end : IsTurn language (Ok false) kept kept_then come (prepend_known left remaining) mid after
      → HasServed language (Ok Answer) input remaining before after
  held_to_end t =
      let e = t h.2 h.4 in
      let all = read_all input remaining (h.0 ++ e.0) left (Consumes-trans input come (prepend_known left remaining) h.0 e.0 h.5 e.3) e.4 in (
        h.0 ++ e.0,
        h.1 ++ e.1,
        whole_to_end (IsToldIn language) h.0 h.1 h.2 e.0 e.1 h.3 e.2,
        all.0,
        all.1,
        Appends-trans before mid after h.1 e.1 h.6 e.5,
      )

  whole : (request out : List ℕ) → ((then : List ℕ) × IsExchange (IsToldIn language) h.2 request out then) ⊎ IsLast (IsToldIn language) h.2 request out
      → IsWholeSession (IsToldIn language) (h.0 ++ request) (h.1 ++ out)
  whole request out (inl e) = whole_with (IsToldIn language) h.0 h.1 h.2 request out e.0 h.3 e.1
  whole request out (inr e) = whole_to_end (IsToldIn language) h.0 h.1 h.2 request out h.3 e

  pub held_to_fault : (fault : RunFault) → IsTurn language (Err fault) kept kept_then come (prepend_known left remaining) mid after
      → HasServed language (Err fault) input remaining before after
  held_to_fault Memory t = absurd t
  held_to_fault Read t = (
    h.0,
    h.1,
    h.2,
    t.0 ++ left,
    h.3,
    subst (Consumes input remaining) (append_assoc h.0 t.0 left)
        (read_too input remaining (h.0 ++ t.0) left (Consumes-trans input come (prepend_known left remaining) h.0 t.0 h.5 t.1)),
    Appends-kept before mid after h.1 h.6 t.2,
  )
  held_to_fault Write t =
      let e = t h.2 h.4 in (
        h.0 ++ e.0,
        h.1 ++ e.1,
        left,
        whole e.0 e.1 e.2,
        read_too input remaining (h.0 ++ e.0) left (Consumes-trans input come (prepend_known left remaining) h.0 e.0 h.5 e.3),
        front_behind before mid after h.1 e.1 h.6 e.4,
      )

-- where no more requests are read, the rest is as where the reader fails
pub held_so_far : (language : Language) (input remaining before after : Option (List ℕ)) (kept left : List ℕ) → IsHeld language input (prepend_known left remaining) before after kept
    → HasServed language (Err Read) input remaining before after
held_so_far language input remaining before after kept left h = (h.0, h.1, h.2, left, h.3, read_too input remaining h.0 left h.5, h.6)
