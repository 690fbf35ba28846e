-- The walk over the tokens finds the first bracket that nothing closes.
use Rattle.std.proofs.Common.{ℕ, zero, suc, ◌+◌, ◌≡◌, ◌<◌, ◌≤◌, ◌⊎◌, inl, inr, Bool, true, false, List, [], ◌∷◌, length, refl, sym, ap, subst, arith}
use Rattle.std.proofs.Common.{length-drop, Option, Some, None}
use Rattle.statement.specs.Lexical.{is_name_byte, Token, opening, closing, word, stray, Spot, token_here, tokens_of, spots_at}
use Rattle.statement.specs.Reading.{TextFault, unclosed, or_text_fault, fault_where, never_closed, unclosed_at, first_unclosed}
use Rattle.kif.proofs.Here.{IsTokenIn, IsPlace, next_place, in_place, Here, none, one, here}
use Rattle.kif.proofs.Tokens.{token_within, spots_by, le_or_same}
use Rattle.kif.proofs.Counts.{opened, closed, AreSame, IsStep, opens, shuts, token_step, no_step}

-- a bracket opens a list at o, and past it never as few lists are open as before it
pub record IsLeftOpen (v : List ℕ) (o : ℕ) : Type 0 where
  pub it : IsTokenIn v o opening
  pub never : (p : ℕ) → o < p → p ≤ length v → AreSame v o p → ⊥

-- m lists more are open before p than behind the bracket at o
abbrev AreMore : List ℕ → ℕ → ℕ → ℕ → Type 0
AreMore v o m p = opened v p + closed v o ≡ suc m + opened v o + closed v p

-- from p on the list of o is never closed, or it is
abbrev IsAnswer : List ℕ → ℕ → ℕ → Bool → Type 0
IsAnswer v o p true = (q : ℕ) → p ≤ q → q ≤ length v → AreSame v o q → ⊥
IsAnswer v o p false = (q : ℕ) × (p ≤ q) × (q ≤ length v) × AreSame v o q

answer_later : (v : List ℕ) (o m p : ℕ) (r : Bool) → AreMore v o m p → IsAnswer v o (suc p) r → IsAnswer v o p r
answer_later v o m p true a h = λ q l w s. go q w s (le_or_same p q l)
  where
    go : (q : ℕ) → q ≤ length v → AreSame v o q → (q ≡ p) ⊎ (suc p ≤ q) → ⊥
    go q w s (inl e) = let t = subst (λ (x : ℕ). AreSame v o x) e s in absurd (omega arith)
    go q w s (inr l) = h q l w s
answer_later v o m p false a h = (h.0, let l = h.1 in omega arith, h.2, h.3)

walk_closing : (v : List ℕ) (o : ℕ) (p : ℕ) (after : Bool) (bs : List ℕ) (m : ℕ) → IsPlace v p after bs → AreMore v o m p
    → IsAnswer v o p (never_closed m (tokens_of (spots_at p after bs)))
walk_closing v o p after [] m i a = λ q l w s. go q w s (le_or_same p q l)
  where
    go : (q : ℕ) → q ≤ length v → AreSame v o q → (q ≡ p) ⊎ (suc p ≤ q) → ⊥
    go q w s (inl e) = let t = subst (λ (x : ℕ). AreSame v o x) e s in absurd (omega arith)
    go q w s (inr l) = let size = length-drop p v in let same = ap length i.rest in absurd (omega arith)
walk_closing v o p after (b ∷ bs) m i a =
    go (here v p after b bs i) (λ n. walk_closing v o (suc p) (is_name_byte b) bs n (next_place v p after b bs i))
  where
    by_token : (n : ℕ) (k : Token) → AreMore v o n p → IsTokenIn v p k → IsStep v p (opens k) (shuts k)
        → ((n : ℕ) → AreMore v o n (suc p) → IsAnswer v o (suc p) (never_closed n (tokens_of (spots_at (suc p) (is_name_byte b) bs))))
        → IsAnswer v o p (never_closed n (k ∷ tokens_of (spots_at (suc p) (is_name_byte b) bs)))
    by_token n opening c t s later =
        answer_later v o n p _ c (later (suc n) (let x = s.opens_so_many in let y = s.closes_so_many in omega arith))
    by_token zero closing c t s later =
        (suc p, omega arith, let w = s.within in omega arith, let x = s.opens_so_many in let y = s.closes_so_many in omega arith)
    by_token (suc n) closing c t s later =
        answer_later v o (suc n) p _ c (later n (let x = s.opens_so_many in let y = s.closes_so_many in omega arith))
    by_token n (word w) c t s later =
        answer_later v o n p _ c (later n (let x = s.opens_so_many in let y = s.closes_so_many in omega arith))
    by_token n stray c t s later =
        answer_later v o n p _ c (later n (let x = s.opens_so_many in let y = s.closes_so_many in omega arith))

    go : Here v p (token_here after b bs)
        → ((n : ℕ) → AreMore v o n (suc p) → IsAnswer v o (suc p) (never_closed n (tokens_of (spots_at (suc p) (is_name_byte b) bs))))
        → IsAnswer v o p (never_closed m (tokens_of (spots_at p after (b ∷ bs))))
    go (none e u) later =
        let s = no_step v p (in_place v p after b bs i) u in
        let x = s.opens_so_many in
        let y = s.closes_so_many in
        subst (λ (ss : List Spot). IsAnswer v o p (never_closed m (tokens_of ss))) (sym (spots_by p after b bs [] e))
        (answer_later v o m p _ a (later m (omega arith)))
    go (one k e t u) later =
        subst (λ (ss : List Spot). IsAnswer v o p (never_closed m (tokens_of ss))) (sym (spots_by p after b bs (k ∷ []) e))
        (by_token m k a t (token_step v p k t) later)

-- the first bracket from o on that nothing closes
pub record IsFirstLeft (v : List ℕ) (o : ℕ) (f : TextFault) : Type 0 where
  pub place : ℕ
  pub same : f ≡ unclosed place
  pub it : IsLeftOpen v place
  pub from_here : o ≤ place
  pub least : (q : ℕ) → IsLeftOpen v q → o ≤ q → place ≤ q

abbrev pub IsLeftFrom : List ℕ → ℕ → Option TextFault → Type 0
IsLeftFrom v o None = (q : ℕ) → IsLeftOpen v q → o ≤ q → ⊥
IsLeftFrom v o (Some f) = IsFirstLeft v o f

left_later : (v : List ℕ) (o : ℕ) (r : Option TextFault) → (IsLeftOpen v o → ⊥) → IsLeftFrom v (suc o) r → IsLeftFrom v o r
left_later v o None clear h = λ q t l. go q t (le_or_same o q l)
  where
    go : (q : ℕ) → IsLeftOpen v q → (q ≡ o) ⊎ (suc o ≤ q) → ⊥
    go q t (inl e) = clear (subst (IsLeftOpen v) e t)
    go q t (inr m) = h q t m
left_later v o (Some f) clear h = record {
  place = h.place;
  same = h.same;
  it = h.it;
  from_here = let l = h.from_here in omega arith;
  least = λ q t l. go q t (le_or_same o q l);
}
  where
    go : (q : ℕ) → IsLeftOpen v q → (q ≡ o) ⊎ (suc o ≤ q) → h.place ≤ q
    go q t (inl e) = absurd (clear (subst (IsLeftOpen v) e t))
    go q t (inr m) = h.least q t m

pub walk_left : (v : List ℕ) (o : ℕ) (after : Bool) (bs : List ℕ) → IsPlace v o after bs → IsLeftFrom v o (first_unclosed (spots_at o after bs))
walk_left v o after [] p = λ q t l.
    let w = token_within v q opening t.it in
    let size = length-drop o v in
    let same = ap length p.rest in
    absurd (omega arith)
walk_left v o after (b ∷ bs) p =
    go (here v o after b bs p)
    (λ a. walk_closing v o (suc o) (is_name_byte b) bs 0 (next_place v o after b bs p) a)
    (walk_left v (suc o) (is_name_byte b) bs (next_place v o after b bs p))
  where
    by_answer : (r : Bool) → IsTokenIn v o opening → IsAnswer v o (suc o) r
        → IsLeftFrom v (suc o) (first_unclosed (spots_at (suc o) (is_name_byte b) bs))
        → IsLeftFrom v o (or_text_fault (fault_where r (unclosed o)) (first_unclosed (spots_at (suc o) (is_name_byte b) bs)))
    by_answer true t h later = record {
      place = o;
      same = refl;
      it = record { it = t; never = λ q l w s. h q (omega arith) w s };
      from_here = omega arith;
      least = λ q i l. l;
    }
    by_answer false t h later = left_later v o _ (λ i. i.never h.0 (let l = h.1 in omega arith) h.2 h.3) later

    by_token : (k : Token) → IsTokenIn v o k → IsStep v o (opens k) (shuts k) → ((j : Token) → IsTokenIn v o j → j ≡ k)
        → (AreMore v o 0 (suc o) → IsAnswer v o (suc o) (never_closed 0 (tokens_of (spots_at (suc o) (is_name_byte b) bs))))
        → IsLeftFrom v (suc o) (first_unclosed (spots_at (suc o) (is_name_byte b) bs))
        → IsLeftFrom v o (or_text_fault (unclosed_at o k (tokens_of (spots_at (suc o) (is_name_byte b) bs)))
        (first_unclosed (spots_at (suc o) (is_name_byte b) bs)))
    by_token opening t s u answer later =
        by_answer _ t (answer (let x = s.opens_so_many in let y = s.closes_so_many in omega arith)) later
    by_token closing t s u answer later = left_later v o _ (λ i. let e = u opening i.it in absurd cc) later
    by_token (word w) t s u answer later = left_later v o _ (λ i. let e = u opening i.it in absurd cc) later
    by_token stray t s u answer later = left_later v o _ (λ i. let e = u opening i.it in absurd cc) later

    go : Here v o (token_here after b bs)
        → (AreMore v o 0 (suc o) → IsAnswer v o (suc o) (never_closed 0 (tokens_of (spots_at (suc o) (is_name_byte b) bs))))
        → IsLeftFrom v (suc o) (first_unclosed (spots_at (suc o) (is_name_byte b) bs))
        → IsLeftFrom v o (first_unclosed (spots_at o after (b ∷ bs)))
    go (none e u) answer later =
        subst (λ (ss : List Spot). IsLeftFrom v o (first_unclosed ss)) (sym (spots_by o after b bs [] e))
        (left_later v o _ (λ i. u opening i.it) later)
    go (one k e t u) answer later =
        subst (λ (ss : List Spot). IsLeftFrom v o (first_unclosed ss)) (sym (spots_by o after b bs (k ∷ []) e))
        (by_token k t (token_step v o k t) u answer later)
