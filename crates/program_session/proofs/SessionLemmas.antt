-- What is taken and answered is an exchange of a session, or its last.
use Rattle.std.proofs.Common.{ℕ, zero, suc, ◌≡◌, true, false, inl, inr, List, [], ◌∷◌, ◌++◌, take, refl, sym, ap, ◌∙◌, append-nil, append_assoc}
use Rattle.std.specs.Prelude.{Option, Some, None, Ok}
use Rattle.std.specs.Io.KnownBytes.{Consumes, IsAtEnd, prepend_known}
use Rattle.statement.specs.Input.{read_limit}
use Rattle.program_requests.specs.declared.desk.Desk.{Desk}
use Rattle.program_requests.specs.declared.desk.Taken.{Taken}
use Rattle.program_requests.specs.declared.desk.Taken.TheVariants.{Line, Rules, Starved, LastLine, Cut, Nothing}
use Rattle.program_requests.specs.Frames.{cut_frame}
use Rattle.program_requests.specs.Sessions.{IsExchange, asked, stated, IsLast, nothing, unended, bare, cut, IsSession, further, IsWholeSession}
use Rattle.program_requests.specs.Desks.{Stand, IsTaken, IsCutShort, IsFrameOf, goes_on}

take_nil : (n : ℕ) → ◌≡◌ {A = List ℕ} (take n []) []
take_nil zero = refl
take_nil (suc n) = refl

module _ (IsTold : List ℕ → ℕ → List ℕ → Type 0) where
  cut_short : (rules bytes out : List ℕ) → IsCutShort bytes → out ≡ cut_frame → IsLast IsTold rules bytes out
  cut_short rules bytes out (inl h) is = bare h.0 h.1 is
  cut_short rules bytes out (inr h) is = cut h.0 h.1 h.2 h.3 h.4 h.5 is

  pub exchanged : (taken : Taken) (was now : Desk) (old new : Option (List ℕ)) (out rules : List ℕ) → IsTaken (Ok taken) was now old new
      → goes_on taken ≡ true → IsFrameOf IsTold taken now out → Stand was.rules.items rules
      → (request : List ℕ) × (then : List ℕ) × IsExchange IsTold rules request out then × Stand now.rules.items then × Consumes old new request
  exchanged Line was now old new out rules h on answers stand =
      let stands : Stand now.rules.items rules = h.3 ∙ stand in
      (h.0 ++ 10 ∷ [], rules, asked h.0 h.1.0 refl (answers h.0 rules h.1 stands) refl, stands, h.2)
  exchanged Rules was now old new out rules h on is stand =
      (h.0 ++ 10 ∷ h.1, h.1, stated h.0 h.1 h.2 h.3 refl h.4 (inl (is, refl)), h.5, h.6)
  exchanged Starved was now old new out rules h on is stand =
      (h.0 ++ 10 ∷ h.1, [], stated h.0 h.1 h.2 h.3 refl h.4 (inr (is, refl)), h.5 ∙ sym (take_nil read_limit), h.6)
  exchanged LastLine was now old new out rules h on answers stand = absurd (cc on)
  exchanged Cut was now old new out rules h on is stand = absurd (cc on)
  exchanged Nothing was now old new out rules h on is stand = absurd (cc on)

  pub ended : (taken : Taken) (was now : Desk) (old new : Option (List ℕ)) (out rules : List ℕ) → IsTaken (Ok taken) was now old new
      → goes_on taken ≡ false → IsFrameOf IsTold taken now out → Stand was.rules.items rules
      → (request : List ℕ) × IsLast IsTold rules request out × Consumes old new request × IsAtEnd new
  ended Line was now old new out rules h off answers stand = absurd (cc off)
  ended Rules was now old new out rules h off is stand = absurd (cc off)
  ended Starved was now old new out rules h off is stand = absurd (cc off)
  ended LastLine was now old new out rules h off answers stand =
      let stands : Stand now.rules.items rules = h.5 ∙ stand in
      (h.0, unended h.1.0 h.2 (answers h.0 rules h.1 stands), h.3, h.4)
  ended Cut was now old new out rules h off is stand = (h.0, cut_short rules h.0 out h.1 is, h.2, h.3)
  ended Nothing was now old new out rules h off is stand = ([], nothing refl is, h.0, h.1)

  -- a session and an exchange behind it
  pub whole_with : (taken told rules request out then : List ℕ) → IsSession IsTold taken told rules → IsExchange IsTold rules request out then
      → IsWholeSession IsTold (taken ++ request) (told ++ out)
  whole_with taken told rules request out then before more = record {
    before = taken ++ request;
    told_before = told ++ out;
    rules = then;
    request = [];
    out = [];
    session = further taken told rules request out then before more;
    last = nothing refl refl;
    taken_is = sym (append-nil (taken ++ request));
    told_is = sym (append-nil (told ++ out));
  }

  pub whole_to_end : (taken told rules request out : List ℕ) → IsSession IsTold taken told rules → IsLast IsTold rules request out
      → IsWholeSession IsTold (taken ++ request) (told ++ out)
  whole_to_end taken told rules request out before last = record {
    before = taken;
    told_before = told;
    rules = rules;
    request = request;
    out = out;
    session = before;
    last = last;
    taken_is = refl;
    told_is = refl;
  }

-- what was read and not used stands behind what was used
pub read_too : (old remaining : Option (List ℕ)) (bytes left : List ℕ) → Consumes old (prepend_known left remaining) bytes
    → Consumes old remaining (bytes ++ left)
read_too None remaining bytes left h = tt
read_too (Some xs) None bytes left h = absurd h
read_too (Some xs) (Some ys) bytes left h = h ∙ sym (append_assoc bytes left ys)

no_left : (left ys : List ℕ) → left ++ ys ≡ [] → left ≡ []
no_left [] ys e = refl
no_left (b ∷ bs) ys e = absurd (cc e)

none_left : (left ys : List ℕ) → left ++ ys ≡ [] → ys ≡ []
none_left [] ys e = e
none_left (b ∷ bs) ys e = absurd (cc e)

-- where nothing is to come, nothing is left in the input
pub read_all : (old remaining : Option (List ℕ)) (bytes left : List ℕ) → Consumes old (prepend_known left remaining) bytes
    → IsAtEnd (prepend_known left remaining) → Consumes old remaining bytes × IsAtEnd remaining
read_all None None bytes left h end = (tt, tt)
read_all None (Some ys) bytes left h end = (tt, none_left left ys end)
read_all (Some xs) None bytes left h end = absurd h
read_all (Some xs) (Some ys) bytes left h end =
    (h ∙ ap (λ (l : List ℕ). bytes ++ (l ++ ys)) (no_left left ys end), none_left left ys end)

pub none_used : (remaining : Option (List ℕ)) (left : List ℕ) → left ≡ [] → Consumes remaining (prepend_known left remaining) []
none_used None left e = tt
none_used (Some ys) left e = sym (ap (λ (l : List ℕ). l ++ ys) e)
