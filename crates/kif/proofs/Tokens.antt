-- The tokens of a text are those that stand at its offsets.
use Rattle.std.proofs.Common.{ℕ, zero, suc, ◌+◌, ◌-◌, ◌≡◌, ◌<◌, ◌≤◌, ◌⊎◌, inl, inr, Bool, true, false, List, [], ◌∷◌, ◌++◌, map, take, drop, length}
use Rattle.std.proofs.Common.{get_or, refl, sym, ap, subst, ◌∙◌, arith, length-drop, Contains}
use Rattle.std.specs.Prelude.{⊤, slice_range}
use Rattle.std.specs.List.Sorted.{IsStrictlyIncreasing}
use Rattle.std.proofs.lemmas.List.{get_or-drop}
use Rattle.statement.specs.Lexical.{is_name_byte, lower, visible, Token, opening, closing, word, stray, Spot, token_here, spots_at, spots}
use Rattle.kif.specs.Offsets.{is_opening, is_closing, is_stray, IsByteAt, IsRun, IsTokenAt}
use Rattle.kif.proofs.Comments.{others_stay}
use Rattle.kif.proofs.Visible.{length-visible, seen_if_at, at_if_seen}
use Rattle.kif.proofs.Here.{IsRunIn, IsTokenIn, IsPlace, first_place, next_place, Here, none, one, here}

abbrev pub spot : ℕ → Token → Spot
spot o k = record { at = o; token = k }

-- a byte of a kind that 0 is not stands within the text
pub within_if_seen : (kind : ℕ → Bool) (v : List ℕ) (o : ℕ) → kind 0 ≡ false → kind (get_or v o 0) ≡ true → o < length v
within_if_seen kind [] o e h = absurd cc
within_if_seen kind (b ∷ bs) zero e h = omega arith
within_if_seen kind (b ∷ bs) (suc o) e h = let r = within_if_seen kind bs o e h in omega arith

pub token_within : (v : List ℕ) (o : ℕ) (k : Token) → IsTokenIn v o k → o < length v
token_within v o opening t = within_if_seen is_opening v o refl t
token_within v o closing t = within_if_seen is_closing v o refl t
token_within v o (word w) t = within_if_seen is_name_byte v o refl (t.1.names o (omega arith) t.1.further)
token_within v o stray t = t.0

-- the two ways to say where a run goes

within_text : (kind : ℕ → Bool) (text : List ℕ) (o : ℕ) → kind 0 ≡ false → kind (get_or (visible text) o 0) ≡ true → o < length text
within_text kind text o e h = let size = length-visible text in let r = within_if_seen kind (visible text) o e h in omega arith

not_seen : (text : List ℕ) (o : ℕ) → (IsByteAt is_name_byte text o → ⊥) → is_name_byte (get_or (visible text) o 0) ≡ false
not_seen text o h = go (is_name_byte (get_or (visible text) o 0)) refl
  where
    go : (t : Bool) → is_name_byte (get_or (visible text) o 0) ≡ t → t ≡ false
    go true e = absurd (h (at_if_seen is_name_byte text o refl (within_text is_name_byte text o refl e) e))
    go false e = refl

pub run_in : (text : List ℕ) (o end : ℕ) → IsRun text o end → IsRunIn (visible text) o end
run_in text o end r = record {
  further = r.further;
  names = λ k l m. seen_if_at is_name_byte text k (r.names k l m);
  begins = λ k e. not_seen text k (r.begins k e);
  ends = not_seen text end r.ends;
}

not_at : (text : List ℕ) (o : ℕ) → is_name_byte (get_or (visible text) o 0) ≡ false → IsByteAt is_name_byte text o → ⊥
not_at text o e h = let f = seen_if_at is_name_byte text o h in absurd cc

pub run_at : (text : List ℕ) (o end : ℕ) → IsRunIn (visible text) o end → IsRun text o end
run_at text o end r = record {
  further = r.further;
  names = λ k l m. at_if_seen is_name_byte text k refl (within_text is_name_byte text k refl (r.names k l m)) (r.names k l m);
  begins = λ k e. not_at text k (r.begins k e);
  ends = not_at text end r.ends;
}

same_take : (n : ℕ) (xs ys : List ℕ) → length xs ≡ length ys → ((k : ℕ) → k < n → get_or xs k 0 ≡ get_or ys k 0) → take n xs ≡ take n ys
same_take zero xs ys e h = refl
same_take (suc n) [] [] e h = refl
same_take (suc n) [] (y ∷ ys) e h = absurd (omega arith)
same_take (suc n) (x ∷ xs) [] e h = absurd (omega arith)
same_take (suc n) (x ∷ xs) (y ∷ ys) e h =
    let first : x ≡ y = h 0 (omega arith) in
    let rest = same_take n xs ys (omega arith) (λ k l. h (suc k) (omega arith)) in
    cc

-- a run has the bytes of the text, since none of them is a comment's
pub run_bytes : (text : List ℕ) (o end : ℕ) → IsRun text o end → take (end - o) (drop o (visible text)) ≡ slice_range text o end
run_bytes text o end r =
    let size = length-visible text in
    let a = length-drop o (visible text) in
    let b = length-drop o text in
    same_take (end - o) (drop o (visible text)) (drop o text) (omega arith)
    (λ k h. get_or-drop o (visible text) k 0
    ∙ sym (same (o + k) (r.names (o + k) (omega arith) (let f = r.further in omega arith)))
    ∙ sym (get_or-drop o text k 0))
  where
    same : (k : ℕ) → IsByteAt is_name_byte text k → get_or text k 0 ≡ get_or (visible text) k 0
    same k h = sym (others_stay text k h.outside)

pub token_in : (text : List ℕ) (o : ℕ) (k : Token) → IsTokenAt text o k → IsTokenIn (visible text) o k
token_in text o opening t = seen_if_at is_opening text o t
token_in text o closing t = seen_if_at is_closing text o t
token_in text o (word w) t = (t.0, run_in text o t.0 t.1, t.2 ∙ ap (map lower) (sym (run_bytes text o t.0 t.1)))
token_in text o stray t = (let size = length-visible text in let h = t.within in omega arith, seen_if_at is_stray text o t)

pub token_at : (text : List ℕ) (o : ℕ) (k : Token) → IsTokenIn (visible text) o k → IsTokenAt text o k
token_at text o opening t = at_if_seen is_opening text o refl (within_text is_opening text o refl t) t
token_at text o closing t = at_if_seen is_closing text o refl (within_text is_closing text o refl t) t
token_at text o (word w) t = let r = run_at text o t.0 t.1 in (t.0, r, t.2 ∙ ap (map lower) (run_bytes text o t.0 r))
token_at text o stray t = at_if_seen is_stray text o refl (let size = length-visible text in let h = t.0 in omega arith) t.1

-- the spots are the tokens

abbrev IsAmong : List Spot → Spot → Type 0
IsAmong [] s = ⊥
IsAmong (t ∷ ts) s = (t ≡ s) ⊎ IsAmong ts s

contains_if_among : (ts : List Spot) (s : Spot) → IsAmong ts s → Contains ts s
contains_if_among [] s h = absurd h
contains_if_among (t ∷ ts) s (inl e) = (0, omega arith, e)
contains_if_among (t ∷ ts) s (inr h) = let r = contains_if_among ts s h in (suc r.0, let l = r.1 in omega arith, r.2)

among_if_contains : (ts : List Spot) (s : Spot) (k : ℕ) → k < length ts → get_or ts k s ≡ s → IsAmong ts s
among_if_contains [] s k h e = absurd (omega arith)
among_if_contains (t ∷ ts) s zero h e = inl e
among_if_contains (t ∷ ts) s (suc k) h e = inr (among_if_contains ts s k (omega arith) e)

-- the spots at a byte and behind it, by the tokens that begin there
pub spots_by : (o : ℕ) (after : Bool) (b : ℕ) (bs : List ℕ) (ks : List Token) → token_here after b bs ≡ ks
    → spots_at o after (b ∷ bs) ≡ map (λ k. spot o k) ks ++ spots_at (suc o) (is_name_byte b) bs
spots_by o after b bs ks e = ap (λ (l : List Token). map (λ k. spot o k) l ++ spots_at (suc o) (is_name_byte b) bs) e

among_token : (v : List ℕ) (s : Spot) (o : ℕ) (after : Bool) (bs : List ℕ) → IsPlace v o after bs → IsAmong (spots_at o after bs) s
    → IsTokenIn v s.at s.token
among_token v s o after [] p h = absurd h
among_token v s o after (b ∷ bs) p h = go (here v o after b bs p) (among_token v s (suc o) (is_name_byte b) bs (next_place v o after b bs p))
  where
    first : (k : Token) → IsTokenIn v o k → (IsAmong (spots_at (suc o) (is_name_byte b) bs) s → IsTokenIn v s.at s.token)
        → (spot o k ≡ s) ⊎ IsAmong (spots_at (suc o) (is_name_byte b) bs) s → IsTokenIn v s.at s.token
    first k t later (inl e) = subst (λ (x : Spot). IsTokenIn v x.at x.token) e t
    first k t later (inr l) = later l

    go : Here v o (token_here after b bs) → (IsAmong (spots_at (suc o) (is_name_byte b) bs) s → IsTokenIn v s.at s.token) → IsTokenIn v s.at s.token
    go (none e u) later = later (subst (λ (l : List Spot). IsAmong l s) (spots_by o after b bs [] e) h)
    go (one k e t u) later = first k t later (subst (λ (l : List Spot). IsAmong l s) (spots_by o after b bs (k ∷ []) e) h)

pub le_or_same : (o p : ℕ) → o ≤ p → (p ≡ o) ⊎ (suc o ≤ p)
le_or_same zero zero h = inl refl
le_or_same zero (suc p) h = inr (omega arith)
le_or_same (suc o) zero h = absurd (omega arith)
le_or_same (suc o) (suc p) h = go (le_or_same o p (omega arith))
  where
    go : (p ≡ o) ⊎ (suc o ≤ p) → (suc p ≡ suc o) ⊎ (suc (suc o) ≤ suc p)
    go (inl e) = inl (ap suc e)
    go (inr l) = inr (omega arith)

token_among : (v : List ℕ) (q : ℕ) (k : Token) → IsTokenIn v q k → (o : ℕ) (after : Bool) (bs : List ℕ) → IsPlace v o after bs → o ≤ q
    → IsAmong (spots_at o after bs) (spot q k)
token_among v q k t o after [] p h =
    let a = token_within v q k t in
    let size = length-drop o v in
    let same = ap length p.rest in
    absurd (omega arith)
token_among v q k t o after (b ∷ bs) p h =
    go (here v o after b bs p) (le_or_same o q h) (token_among v q k t (suc o) (is_name_byte b) bs (next_place v o after b bs p))
  where
    here_it_is : q ≡ o → (j : Token) → ((i : Token) → IsTokenIn v o i → i ≡ j) → spot o j ≡ spot q k
    here_it_is e j u = let f = u k (subst (λ (x : ℕ). IsTokenIn v x k) e t) in cc

    go : Here v o (token_here after b bs) → (q ≡ o) ⊎ (suc o ≤ q) → (suc o ≤ q → IsAmong (spots_at (suc o) (is_name_byte b) bs) (spot q k))
        → IsAmong (spots_at o after (b ∷ bs)) (spot q k)
    go (none e u) (inl f) later = absurd (u k (subst (λ (x : ℕ). IsTokenIn v x k) f t))
    go (none e u) (inr l) later = subst (λ (x : List Spot). IsAmong x (spot q k)) (sym (spots_by o after b bs [] e)) (later l)
    go (one j e i u) (inl f) later = subst (λ (x : List Spot). IsAmong x (spot q k)) (sym (spots_by o after b bs (j ∷ []) e)) (inl (here_it_is f j u))
    go (one j e i u) (inr l) later = subst (λ (x : List Spot). IsAmong x (spot q k)) (sym (spots_by o after b bs (j ∷ []) e)) (inr (later l))

pub spot_stands : (text : List ℕ) (s : Spot) → Contains (spots text) s → IsTokenAt text s.at s.token
spot_stands text s h =
    token_at text s.at s.token (among_token (visible text) s 0 false (visible text) (first_place (visible text))
    (among_if_contains (spots text) s h.0 h.1 h.2))

pub token_is_a_spot : (text : List ℕ) (s : Spot) → IsTokenAt text s.at s.token → Contains (spots text) s
token_is_a_spot text s t =
    contains_if_among (spots text) s (token_among (visible text) s.at s.token (token_in text s.at s.token t) 0 false (visible text)
    (first_place (visible text)) (omega arith))

-- and they stand in order

abbrev IsRising : ℕ → List Spot → Type 0
IsRising o [] = ⊤
IsRising o (s ∷ ss) = (o ≤ s.at) × IsRising (suc s.at) ss

rising_from : (o : ℕ) (ss : List Spot) → IsRising (suc o) ss → IsRising o ss
rising_from o [] h = tt
rising_from o (s ∷ ss) h = (let l = h.0 in omega arith, h.1)

spots_rise : (v : List ℕ) (o : ℕ) (after : Bool) (bs : List ℕ) → IsPlace v o after bs → IsRising o (spots_at o after bs)
spots_rise v o after [] p = tt
spots_rise v o after (b ∷ bs) p = go (here v o after b bs p) (spots_rise v (suc o) (is_name_byte b) bs (next_place v o after b bs p))
  where
    go : Here v o (token_here after b bs) → IsRising (suc o) (spots_at (suc o) (is_name_byte b) bs) → IsRising o (spots_at o after (b ∷ bs))
    go (none e u) r = subst (IsRising o) (sym (spots_by o after b bs [] e)) (rising_from o _ r)
    go (one k e t u) r = subst (IsRising o) (sym (spots_by o after b bs (k ∷ []) e)) (omega arith, r)

abbrev offsets : List Spot → List ℕ
offsets ss = map (λ s. s.at) ss

rise_by_place : (o : ℕ) (ss : List Spot) → IsRising o ss → (k : ℕ) → suc k < length (offsets ss)
    → get_or (offsets ss) k 0 < get_or (offsets ss) (suc k) 0
rise_by_place o [] r k h = absurd (omega arith)
rise_by_place o (s ∷ []) r k h = absurd (omega arith)
rise_by_place o (s ∷ (t ∷ ss)) r zero h = r.1.0
rise_by_place o (s ∷ (t ∷ ss)) r (suc k) h = rise_by_place (suc s.at) (t ∷ ss) r.1 k (omega arith)

pub offsets_rise : (text : List ℕ) → IsStrictlyIncreasing (offsets (spots text))
offsets_rise text k h =
    let e : k + 1 ≡ suc k = omega arith in
    rw e (rise_by_place 0 (spots text) (spots_rise (visible text) 0 false (visible text) (first_place (visible text))) k (omega arith))
