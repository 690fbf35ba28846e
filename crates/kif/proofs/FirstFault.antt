-- Of the faults at single tokens, the walk over the tokens finds the one of least offset.
use Rattle.std.proofs.Common.{ℕ, zero, suc, ◌+◌, ◌-◌, ◌≡◌, ◌<◌, ◌≤◌, ◌⊎◌, inl, inr, Bool, true, false, nat_lt, List, [], ◌∷◌, map, take, drop, length}
use Rattle.std.proofs.Common.{refl, sym, ap, subst, ◌∙◌, arith, eqb-true, length-drop, length-take, Option, Some, None}
use Rattle.std.specs.Prelude.{◌==◌}
use Rattle.std.proofs.lemmas.Bool.Decides.{nat_tests}
use Rattle.std.proofs.lemmas.List.{length-map}
use Rattle.statement.specs.Lexical.{is_name_byte, lower, Token, opening, closing, word, stray, Spot, token_here, spots_at}
use Rattle.statement.specs.Reading.{open_limit, name_limit, TextFault, too_long, bad_byte, too_deep, unclosed, unopened, name_too_long, or_text_fault, is_zero}
use Rattle.statement.specs.Reading.{open_after, fault_where, fault_of, first_fault}
use Rattle.kif.specs.Offsets.{offset}
use Rattle.kif.proofs.Here.{IsRunIn, IsTokenIn, IsPlace, next_place, in_place, Here, none, one, here}
use Rattle.kif.proofs.Tokens.{within_if_seen, token_within, spots_by, le_or_same}
use Rattle.kif.proofs.Counts.{AreOpen, IsStep, opens, shuts, token_step, no_step}

-- the fault stands at a token
abbrev pub IsFaultIn : List ℕ → TextFault → Type 0
IsFaultIn v too_long = ⊥
IsFaultIn v (bad_byte o) = IsTokenIn v o stray
IsFaultIn v (too_deep o) = IsTokenIn v o opening × AreOpen v open_limit o
IsFaultIn v (unopened o) = IsTokenIn v o closing × AreOpen v 0 o
IsFaultIn v (name_too_long o) = (end : ℕ) × IsRunIn v o end × (o + name_limit < end)
IsFaultIn v (unclosed o) = ⊥

-- a token at which the fault stands, where n lists are open
record IsGiven (v : List ℕ) (n : ℕ) (f : TextFault) : Type 0 where
  token : Token
  stands : IsTokenIn v (offset f) token
  gives : fault_of n (offset f) token ≡ Some f

abbrev the_word : List ℕ → ℕ → ℕ → List ℕ
the_word v o end = map lower (take (end - o) (drop o v))

run_within : (v : List ℕ) (o end : ℕ) → IsRunIn v o end → end ≤ length v
run_within v o zero r = omega arith
run_within v o (suc e) r =
    let f = r.further in
    let h = within_if_seen is_name_byte v e refl (r.names e (omega arith) (omega arith)) in
    omega arith

word_size : (v : List ℕ) (o end : ℕ) → IsRunIn v o end → length (the_word v o end) ≡ end - o
word_size v o end r =
    let h = run_within v o end r in
    let f = r.further in
    let size = length-drop o v in
    length-map (take (end - o) (drop o v)) lower ∙ (let e : length (take (end - o) (drop o v)) ≡ end - o = omega (arith, length-take {A = ℕ}) in e)

long : (n : ℕ) → 255 < n → nat_lt 255 n ≡ true
long n h = grind (arith, nat_tests)

given : (v : List ℕ) (n : ℕ) (f : TextFault) → IsFaultIn v f → AreOpen v n (offset f) → IsGiven v n f
given v n too_long t a = absurd t
given v n (bad_byte o) t a = record { token = stray; stands = t; gives = refl }
given v n (too_deep o) t a =
    let e : n ≡ open_limit = (let b = t.1 in omega arith) in
    record { token = opening; stands = t.0; gives = ap (λ (m : ℕ). fault_of m o opening) e }
given v n (unopened o) t a =
    let e : n ≡ 0 = (let b = t.1 in omega arith) in
    record { token = closing; stands = t.0; gives = ap (λ (m : ℕ). fault_of m o closing) e }
given v n (name_too_long o) t a =
    let size = word_size v o t.0 t.1 in
    let beyond : 255 < length (the_word v o t.0) = (let l = t.2 in omega arith) in
    record {
      token = word (the_word v o t.0);
      stands = (t.0, t.1, refl);
      gives = ap (λ (b : Bool). fault_where b (name_too_long o)) (long (length (the_word v o t.0)) beyond);
    }
given v n (unclosed o) t a = absurd t

-- the fault that stands at the token at o
record IsTaken (v : List ℕ) (o : ℕ) (f : TextFault) : Type 0 where
  it : IsFaultIn v f
  place : offset f ≡ o

where_some : (b : Bool) (x f : TextFault) → fault_where b x ≡ Some f → (b ≡ true) × (x ≡ f)
where_some true x f e = (refl, cc)
where_some false x f e = absurd cc

taken : (v : List ℕ) (n o : ℕ) (k : Token) (f : TextFault) → IsTokenIn v o k → AreOpen v n o → fault_of n o k ≡ Some f → IsTaken v o f
taken v n o opening f t a e =
    let w = where_some (n == open_limit) (too_deep o) f e in
    let m : n ≡ open_limit = eqb-true n open_limit w.0 in
    subst (IsTaken v o) w.1 (record { it = (t, omega arith); place = refl })
taken v n o closing f t a e =
    let w = where_some (is_zero n) (unopened o) f e in
    subst (IsTaken v o) w.1 (record { it = (t, let m = none_open n w.0 in omega arith); place = refl })
  where
    none_open : (m : ℕ) → is_zero m ≡ true → m ≡ 0
    none_open zero h = refl
    none_open (suc m) h = absurd cc
taken v n o (word w) f t a e =
    let x = where_some (nat_lt name_limit (length w)) (name_too_long o) f e in
    let size = ap length t.2 ∙ word_size v o t.0 t.1 in
    let beyond = far (length w) x.0 in
    subst (IsTaken v o) x.1 (record { it = (t.0, t.1, omega arith); place = refl })
  where
    far : (m : ℕ) → nat_lt 255 m ≡ true → 255 < m
    far m h = grind (arith, nat_tests)
taken v n o stray f t a e = subst (IsTaken v o) (same (bad_byte o) f e) (record { it = t; place = refl })
  where
    same : (x y : TextFault) → Some x ≡ Some y → x ≡ y
    same x y h = cc

-- the fault that a walk from o on finds
pub record IsFirstIn (v : List ℕ) (o : ℕ) (f : TextFault) : Type 0 where
  pub it : IsFaultIn v f
  pub from_here : o ≤ offset f
  pub least : (g : TextFault) → IsFaultIn v g → o ≤ offset g → offset f ≤ offset g
  pub only : (g : TextFault) → IsFaultIn v g → offset g ≡ offset f → g ≡ f

abbrev pub IsFoundFrom : List ℕ → ℕ → Option TextFault → Type 0
IsFoundFrom v o None = (g : TextFault) → IsFaultIn v g → o ≤ offset g → ⊥
IsFoundFrom v o (Some f) = IsFirstIn v o f

fault_within : (v : List ℕ) (f : TextFault) → IsFaultIn v f → offset f < length v
fault_within v too_long t = absurd t
fault_within v (bad_byte o) t = token_within v o stray t
fault_within v (too_deep o) t = token_within v o opening t.0
fault_within v (unopened o) t = token_within v o closing t.0
fault_within v (name_too_long o) t = token_within v o (word (the_word v o t.0)) (t.0, t.1, refl)
fault_within v (unclosed o) t = absurd t

-- where no fault stands at o, a walk from there finds what one from behind it does
found_later : (v : List ℕ) (o : ℕ) (r : Option TextFault) → ((g : TextFault) → IsFaultIn v g → offset g ≡ o → ⊥) → IsFoundFrom v (suc o) r → IsFoundFrom v o r
found_later v o None clear h = λ g t l. go g t (le_or_same o (offset g) l)
  where
    go : (g : TextFault) → IsFaultIn v g → (offset g ≡ o) ⊎ (suc o ≤ offset g) → ⊥
    go g t (inl e) = clear g t e
    go g t (inr m) = h g t m
found_later v o (Some f) clear h = record {
  it = h.it;
  from_here = let l = h.from_here in omega arith;
  least = λ g t l. go g t (le_or_same o (offset g) l);
  only = h.only;
}
  where
    go : (g : TextFault) → IsFaultIn v g → (offset g ≡ o) ⊎ (suc o ≤ offset g) → offset f ≤ offset g
    go g t (inl e) = absurd (clear g t e)
    go g t (inr m) = h.least g t m

abbrev at_offset : (v : List ℕ) (o p : ℕ) → p ≡ o → (k : Token) → IsTokenIn v p k → IsTokenIn v o k
at_offset v o p e k t = subst (λ (q : ℕ). IsTokenIn v q k) e t

no_token_no_fault : (v : List ℕ) (o n : ℕ) → AreOpen v n o → ((k : Token) → IsTokenIn v o k → ⊥) → (g : TextFault) → IsFaultIn v g → offset g ≡ o → ⊥
no_token_no_fault v o n a u g t e =
    let i = given v n g t (subst (AreOpen v n) (sym e) a) in
    u i.token (at_offset v o (offset g) e i.token i.stands)

-- at the one token of o, all faults are what the walk says of it
given_here : (v : List ℕ) (o n : ℕ) (k : Token) → AreOpen v n o → ((j : Token) → IsTokenIn v o j → j ≡ k) → (g : TextFault) → IsFaultIn v g → offset g ≡ o
    → fault_of n o k ≡ Some g
given_here v o n k a u g t e =
    let i = given v n g t (subst (AreOpen v n) (sym e) a) in
    let j = u i.token (at_offset v o (offset g) e i.token i.stands) in
    ap (λ (p : ℕ). fault_of n p k) (sym e) ∙ ap (λ (x : Token). fault_of n (offset g) x) (sym j) ∙ i.gives

open_behind : (v : List ℕ) (o n : ℕ) (k : Token) → AreOpen v n o → IsStep v o (opens k) (shuts k) → fault_of n o k ≡ None
    → AreOpen v (open_after n k) (suc o)
open_behind v o n opening a s e = let x = s.opens_so_many in let y = s.closes_so_many in omega arith
open_behind v o zero closing a s e = absurd (let f : Some (unopened o) ≡ None = e in cc)
open_behind v o (suc n) closing a s e = let x = s.opens_so_many in let y = s.closes_so_many in omega arith
open_behind v o n (word w) a s e = let x = s.opens_so_many in let y = s.closes_so_many in omega arith
open_behind v o n stray a s e = let x = s.opens_so_many in let y = s.closes_so_many in omega arith

pub walk_faults : (v : List ℕ) (o : ℕ) (after : Bool) (bs : List ℕ) (n : ℕ) → IsPlace v o after bs → AreOpen v n o
    → IsFoundFrom v o (first_fault n (spots_at o after bs))
walk_faults v o after [] n p a = λ g t l.
    let w = fault_within v g t in
    let size = length-drop o v in
    let same = ap length p.rest in
    absurd (omega arith)
walk_faults v o after (b ∷ bs) n p a =
    go (here v o after b bs p) (λ m. walk_faults v (suc o) (is_name_byte b) bs m (next_place v o after b bs p))
  where
    nothing_here : (k : Token) → fault_of n o k ≡ None → ((j : Token) → IsTokenIn v o j → j ≡ k) → (g : TextFault) → IsFaultIn v g → offset g ≡ o → ⊥
    nothing_here k e u g t f = let h = given_here v o n k a u g t f in let bad : Some g ≡ None = sym h ∙ e in cc

    same : (x y : TextFault) → Some x ≡ Some y → x ≡ y
    same x y h = cc

    by_fault : (k : Token) (x : Option TextFault) → fault_of n o k ≡ x → IsTokenIn v o k → ((j : Token) → IsTokenIn v o j → j ≡ k)
        → ((m : ℕ) → AreOpen v m (suc o) → IsFoundFrom v (suc o) (first_fault m (spots_at (suc o) (is_name_byte b) bs)))
        → IsFoundFrom v o (or_text_fault x (first_fault (open_after n k) (spots_at (suc o) (is_name_byte b) bs)))
    by_fault k (Some f) e t u later =
        let w = taken v n o k f t a e in
        let place = w.place in
        record {
          it = w.it;
          from_here = omega arith;
          least = λ g i l. omega arith;
          only = λ g i f'. same g f (sym (given_here v o n k a u g i (f' ∙ place)) ∙ e);
        }
    by_fault k None e t u later =
        found_later v o _ (nothing_here k e u) (later (open_after n k) (open_behind v o n k a (token_step v o k t) e))

    go : Here v o (token_here after b bs)
        → ((m : ℕ) → AreOpen v m (suc o) → IsFoundFrom v (suc o) (first_fault m (spots_at (suc o) (is_name_byte b) bs)))
        → IsFoundFrom v o (first_fault n (spots_at o after (b ∷ bs)))
    go (none e u) later =
        let s = no_step v o (in_place v o after b bs p) u in
        let x = s.opens_so_many in
        let y = s.closes_so_many in
        subst (λ (ss : List Spot). IsFoundFrom v o (first_fault n ss)) (sym (spots_by o after b bs [] e))
        (found_later v o _ (no_token_no_fault v o n a u) (later n (omega arith)))
    go (one k e t u) later =
        subst (λ (ss : List Spot). IsFoundFrom v o (first_fault n ss)) (sym (spots_by o after b bs (k ∷ []) e))
        (by_fault k (fault_of n o k) refl t u later)
