-- The fault of a text is the first that stands in it.
use Rattle.std.proofs.Common.{ℕ, zero, suc, ◌≡◌, ◌<◌, ◌≤◌, ◌⊎◌, inl, inr, Bool, true, false, nat_lt, List, length, refl, sym, ap, subst, ◌∙◌, arith}
use Rattle.std.proofs.Common.{Option, Some, None}
use Rattle.std.proofs.lemmas.Bool.Decides.{nat_tests}
use Rattle.statement.specs.Lexical.{visible, opening, closing, stray, spots}
use Rattle.statement.specs.Tree.{Trees}
use Rattle.statement.specs.Reading.{text_limit, Reads, TextFault, too_long, bad_byte, too_deep, unclosed, unopened, name_too_long, or_text_fault, fault_where}
use Rattle.statement.specs.Reading.{first_fault, first_unclosed, text_fault_in}
use Rattle.kif.specs.Offsets.{stage, offset, FaultStands, Precedes, IsFirstFault}
use Rattle.kif.proofs.Visible.{length-visible}
use Rattle.kif.proofs.Here.{first_place}
use Rattle.kif.proofs.Tokens.{run_in, run_at, token_in, token_at}
use Rattle.kif.proofs.Counts.{opened, closed, open_of_difference, difference_of_open, same_of_difference, difference_of_same}
use Rattle.kif.proofs.FirstFault.{IsFaultIn, IsFirstIn, IsFoundFrom, walk_faults}
use Rattle.kif.proofs.LeftOpen.{IsLeftOpen, IsFirstLeft, IsLeftFrom, walk_left}
use Rattle.kif.proofs.Faults.{reads_if_no_fault, no_fault_if_reads}

-- the two ways to say which faults stand

left_in : (text : List ℕ) (o : ℕ) → FaultStands text (unclosed o) → IsLeftOpen (visible text) o
left_in text o s = record {
  it = token_in text o opening s.0;
  never = λ p l w same. s.1 p l (let size = length-visible text in omega arith)
      (difference_of_same (opened (visible text) p) (closed (visible text) p) (opened (visible text) o) (closed (visible text) o) same);
}

left_stands : (text : List ℕ) (o : ℕ) → IsLeftOpen (visible text) o → FaultStands text (unclosed o)
left_stands text o i = (
  token_at text o opening i.it,
  λ p l w e. i.never p l (let size = length-visible text in omega arith)
      (same_of_difference (opened (visible text) p) (closed (visible text) p) (opened (visible text) o) (closed (visible text) o) e),
)

fault_in_text : (text : List ℕ) (f : TextFault) → stage f ≡ 1 → FaultStands text f → IsFaultIn (visible text) f
fault_in_text text too_long e s = absurd (omega arith)
fault_in_text text (bad_byte o) e s = token_in text o stray s
fault_in_text text (too_deep o) e s = (token_in text o opening s.0, open_of_difference (opened (visible text) o) (closed (visible text) o) 100 s.1)
fault_in_text text (unopened o) e s = (token_in text o closing s.0, open_of_difference (opened (visible text) o) (closed (visible text) o) 0 s.1)
fault_in_text text (name_too_long o) e s = (s.0, run_in text o s.0 s.1, s.2)
fault_in_text text (unclosed o) e s = absurd (omega arith)

fault_stands : (text : List ℕ) (f : TextFault) → IsFaultIn (visible text) f → (stage f ≡ 1) × FaultStands text f
fault_stands text too_long i = absurd i
fault_stands text (bad_byte o) i = (refl, token_at text o stray i)
fault_stands text (too_deep o) i =
    (refl, (token_at text o opening i.0, difference_of_open (opened (visible text) o) (closed (visible text) o) 100 i.1))
fault_stands text (unopened o) i = (refl, (token_at text o closing i.0, difference_of_open (opened (visible text) o) (closed (visible text) o) 0 i.1))
fault_stands text (name_too_long o) i = (refl, (i.0, run_at text o i.0 i.1, i.2))
fault_stands text (unclosed o) i = absurd i

-- what each part of the walk says of the whole text

-- no fault of an earlier stage stands
record IsPast (text : List ℕ) (n : ℕ) : Type 0 where
  none_before : (g : TextFault) → FaultStands text g → stage g < n → ⊥

short_is_past : (text : List ℕ) → nat_lt text_limit (length text) ≡ false → IsPast text 1
short_is_past text e = record { none_before = go }
  where
    go : (g : TextFault) → FaultStands text g → stage g < 1 → ⊥
    go too_long s l = grind (arith, nat_tests)
    go (bad_byte o) s l = absurd (omega arith)
    go (too_deep o) s l = absurd (omega arith)
    go (unopened o) s l = absurd (omega arith)
    go (name_too_long o) s l = absurd (omega arith)
    go (unclosed o) s l = absurd (omega arith)

walked_is_past : (text : List ℕ) → IsPast text 1 → IsFoundFrom (visible text) 0 None → IsPast text 2
walked_is_past text p h = record { none_before = λ g s l. go g s (stage g) refl l }
  where
    go : (g : TextFault) → FaultStands text g → (n : ℕ) → stage g ≡ n → n < 2 → ⊥
    go g s zero e l = p.none_before g s (omega arith)
    go g s (suc zero) e l = h g (fault_in_text text g e s) (omega arith)
    go g s (suc (suc n)) e l = absurd (omega arith)

first_at_token : (text : List ℕ) (f : TextFault) → IsPast text 1 → IsFirstIn (visible text) 0 f → IsFirstFault text f
first_at_token text f p i =
    let s = fault_stands text f i.it in
    record { stands = s.1; first = λ g t b. go g t s.0 b }
  where
    go : (g : TextFault) → FaultStands text g → stage f ≡ 1 → Precedes g f → ⊥
    go g t e (inl l) = p.none_before g t (omega arith)
    go g t e (inr b) =
        let m = i.least g (fault_in_text text g (b.0 ∙ e) t) (omega arith) in
        let l = b.1 in
        absurd (omega arith)

left_last : (text : List ℕ) (g : TextFault) → FaultStands text g → stage g ≡ 2 → IsLeftOpen (visible text) (offset g)
left_last text too_long s e = absurd (omega arith)
left_last text (bad_byte o) s e = absurd (omega arith)
left_last text (too_deep o) s e = absurd (omega arith)
left_last text (unopened o) s e = absurd (omega arith)
left_last text (name_too_long o) s e = absurd (omega arith)
left_last text (unclosed o) s e = left_in text o s

first_left : (text : List ℕ) (f : TextFault) → IsPast text 2 → IsFirstLeft (visible text) 0 f → IsFirstFault text f
first_left text f p i = subst (IsFirstFault text) (sym i.same) (record { stands = left_stands text i.place i.it; first = go })
  where
    go : (g : TextFault) → FaultStands text g → Precedes g (unclosed i.place) → ⊥
    go g t (inl l) = p.none_before g t l
    go g t (inr b) =
        let m = i.least (offset g) (left_last text g t b.0) (omega arith) in
        let l = b.1 in
        absurd (omega arith)

none_left : (text : List ℕ) → IsPast text 2 → IsLeftFrom (visible text) 0 None → (g : TextFault) → FaultStands text g → ⊥
none_left text p h g s = go (stage g) refl
  where
    two : (f : TextFault) → stage f ≤ 2
    two too_long = omega arith
    two (bad_byte o) = omega arith
    two (too_deep o) = omega arith
    two (unopened o) = omega arith
    two (name_too_long o) = omega arith
    two (unclosed o) = omega arith

    go : (n : ℕ) → stage g ≡ n → ⊥
    go zero e = p.none_before g s (omega arith)
    go (suc zero) e = p.none_before g s (omega arith)
    go (suc (suc zero)) e = h (offset g) (left_last text g s e) (omega arith)
    go (suc (suc (suc n))) e = let l = two g in absurd (omega arith)

-- the walk's answer, and that no other fault stands at that offset
record IsNamedFault (text : List ℕ) (f : TextFault) : Type 0 where
  it : IsFirstFault text f
  only : (g : TextFault) → FaultStands text g → stage g ≡ stage f → offset g ≡ offset f → g ≡ f

abbrev IsNamed : List ℕ → Option TextFault → Type 0
IsNamed text None = (g : TextFault) → FaultStands text g → ⊥
IsNamed text (Some f) = IsNamedFault text f

same_length_fault : (g : TextFault) → stage g ≡ 0 → g ≡ too_long
same_length_fault too_long e = refl
same_length_fault (bad_byte o) e = absurd (omega arith)
same_length_fault (too_deep o) e = absurd (omega arith)
same_length_fault (unopened o) e = absurd (omega arith)
same_length_fault (name_too_long o) e = absurd (omega arith)
same_length_fault (unclosed o) e = absurd (omega arith)

same_left_fault : (g : TextFault) (p : ℕ) → stage g ≡ 2 → offset g ≡ p → g ≡ unclosed p
same_left_fault too_long p e f = absurd (omega arith)
same_left_fault (bad_byte o) p e f = absurd (omega arith)
same_left_fault (too_deep o) p e f = absurd (omega arith)
same_left_fault (unopened o) p e f = absurd (omega arith)
same_left_fault (name_too_long o) p e f = absurd (omega arith)
same_left_fault (unclosed o) p e f = ap unclosed f

named_long : (text : List ℕ) → nat_lt text_limit (length text) ≡ true → IsNamedFault text too_long
named_long text e = record {
  it = record { stands = far (length text) e; first = λ g s b. go g b };
  only = λ g s d f. same_length_fault g d;
}
  where
    far : (n : ℕ) → nat_lt 1048576 n ≡ true → 1048576 < n
    far n h = grind (arith, nat_tests)

    go : (g : TextFault) → Precedes g too_long → ⊥
    go g (inl l) = absurd (omega arith)
    go g (inr b) = let l = b.1 in absurd (omega arith)

named_left : (text : List ℕ) (r : Option TextFault) → IsPast text 2 → IsLeftFrom (visible text) 0 r → IsNamed text r
named_left text None p h = none_left text p h
named_left text (Some f) p h = record {
  it = first_left text f p h;
  only = λ g s d e. same_left_fault g h.place (d ∙ ap stage h.same) (e ∙ ap offset h.same) ∙ sym h.same;
}

named_token : (text : List ℕ) (r : Option TextFault) → IsPast text 1 → IsFoundFrom (visible text) 0 r
    → IsNamed text (or_text_fault r (first_unclosed (spots text)))
named_token text None p h =
    named_left text (first_unclosed (spots text)) (walked_is_past text p h)
    (walk_left (visible text) 0 false (visible text) (first_place (visible text)))
named_token text (Some f) p h = record {
  it = first_at_token text f p h;
  only = λ g s d e. h.only g (fault_in_text text g (d ∙ (fault_stands text f h.it).0) s) e;
}

named : (text : List ℕ) → IsNamed text (text_fault_in text)
named text = go (nat_lt text_limit (length text)) refl
  where
    go : (b : Bool) → nat_lt text_limit (length text) ≡ b
        → IsNamed text (or_text_fault (fault_where b too_long) (or_text_fault (first_fault 0 (spots text)) (first_unclosed (spots text))))
    go true e = named_long text e
    go false e =
        named_token text (first_fault 0 (spots text)) (short_is_past text e)
        (walk_faults (visible text) 0 false (visible text) 0 (first_place (visible text)) refl)

pub first_if_fault : (text : List ℕ) (f : TextFault) → text_fault_in text ≡ Some f → IsFirstFault text f
first_if_fault text f e = let n = subst (IsNamed text) e (named text) in n.it

pub none_stands : (text : List ℕ) (f : TextFault) → text_fault_in text ≡ None → FaultStands text f → ⊥
none_stands text f e = subst (IsNamed text) e (named text) f

neither_less : (a b : ℕ) → (a < b → ⊥) → (b < a → ⊥) → a ≡ b
neither_less zero zero h k = refl
neither_less zero (suc b) h k = absurd (h (omega arith))
neither_less (suc a) zero h k = absurd (k (omega arith))
neither_less (suc a) (suc b) h k = ap suc (neither_less a b (λ l. h (omega arith)) (λ l. k (omega arith)))

pub fault_if_first : (text : List ℕ) (f : TextFault) → IsFirstFault text f → text_fault_in text ≡ Some f
fault_if_first text f i = go (text_fault_in text) (named text)
  where
    go : (r : Option TextFault) → IsNamed text r → r ≡ Some f
    go None n = absurd (n f i.stands)
    go (Some g) n =
        let d : stage f ≡ stage g = neither_less (stage f) (stage g) (λ l. n.it.first f i.stands (inl l)) (λ l. i.first g n.it.stands (inl l)) in
        let e : offset f ≡ offset g = neither_less (offset f) (offset g) (λ l. n.it.first f i.stands (inr (d, l)))
        (λ l. i.first g n.it.stands (inr (sym d, l))) in
        ap Some (sym (n.only f i.stands d e))

pub one_fault : (text : List ℕ) (f g : TextFault) → IsFirstFault text f → IsFirstFault text g → f ≡ g
one_fault text f g i j = same f g (sym (fault_if_first text f i) ∙ fault_if_first text g j)
  where
    same : (x y : TextFault) → Some x ≡ Some y → x ≡ y
    same x y h = cc

pub one_of_two : (text : List ℕ) → ((ts : Trees) × Reads text ts) ⊎ ((f : TextFault) × IsFirstFault text f)
one_of_two text = go (text_fault_in text) refl
  where
    go : (r : Option TextFault) → text_fault_in text ≡ r → ((ts : Trees) × Reads text ts) ⊎ ((f : TextFault) × IsFirstFault text f)
    go None e = inl (reads_if_no_fault text e)
    go (Some f) e = inr (f, first_if_fault text f e)

pub not_both : (text : List ℕ) (ts : Trees) (f : TextFault) → Reads text ts → FaultStands text f → ⊥
not_both text ts f r = none_stands text f (no_fault_if_reads text ts r)
