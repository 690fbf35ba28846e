-- The tokens that are left of a text, one byte on.
use Rattle.std.proofs.Common.{ℕ, suc, ◌≡◌, ◌+◌, ◌<◌, Bool, true, false, cond, List, [], ◌∷◌, ◌++◌, map, drop, length, get_or, refl, ap, sym, ◌∙◌, arith, drop-cons, Option, Some, None}
use Rattle.std.specs.Prelude.{◌==◌, ◌&&◌, ◌||◌, not}
use Rattle.std.proofs.lemmas.Bool.Decides.{nat_tests}
use Rattle.statement.specs.Lexical.{Token, word, Spot, is_name_byte, is_space, lower, name_front, without_comments, spots_at, token_here}
use Rattle.diagnose_places.specs.declared.tokens.TokenKind.{TokenKind}
use Rattle.diagnose_places.specs.Unread.{kind_begun, token_at}

name_no_comment : (b : ℕ) → is_name_byte b ≡ true → (b == 59) ≡ false
name_no_comment b h = grind (arith, nat_tests)

-- a byte that is no name byte is not seen as one
unseen : (b : ℕ) (t : Bool) → is_name_byte b ≡ false → is_name_byte (cond t 32 b) ≡ false
unseen b true h = refl
unseen b false h = h

-- a byte that begins no comment is seen as it is
plain_byte : (b : ℕ) (bs : List ℕ) → (b == 59) ≡ false → without_comments false (b ∷ bs) ≡ b ∷ without_comments false bs
plain_byte b bs h = rw h

-- a front of name bytes has no comment
front_seen : (bs : List ℕ) → name_front (without_comments false bs) ≡ name_front bs
front_seen [] = refl
front_seen (b ∷ bs) = go (is_name_byte b) refl (front_seen bs)
  where
    go : (t : Bool) → is_name_byte b ≡ t → name_front (without_comments false bs) ≡ name_front bs
        → name_front (without_comments false (b ∷ bs)) ≡ name_front (b ∷ bs)
    go true h same =
        let tail = ap (λ (l : List ℕ). lower b ∷ l) same in
        ap name_front (plain_byte b bs (name_no_comment b h)) ∙ rw h tail
    go false h same =
        let e = unseen b ((b == 59) && not (b == 10)) h in
        rw (e, h)

abbrev pub spot : List ℕ → ℕ → TokenKind → Spot
spot text o kind = record { at = o; token = token_at text o kind }

-- the spots `old` begin with a token of the kind, if there is one, and go on with `new`
abbrev pub Shows : List ℕ → ℕ → Option TokenKind → List Spot → List Spot → Type 0
Shows text o None old new = old ≡ new
Shows text o (Some kind) old new = old ≡ spot text o kind ∷ new

abbrev found_here : ℕ → Bool → ℕ → List ℕ → List Spot
found_here o after seen W = map (λ (t : Token). record { at = o; token = t }) (token_here after seen W)

other_here : (text : List ℕ) (o : ℕ) (after : Bool) (seen : ℕ) (W : List ℕ) (new : List Spot) → is_name_byte seen ≡ false
    → Shows text o (kind_begun after seen) (found_here o after seen W ++ new) new
other_here text o after seen W new h = go (seen == 40) (seen == 41) (is_space seen) refl refl refl
  where
    go : (p q r : Bool) → (seen == 40) ≡ p → (seen == 41) ≡ q → is_space seen ≡ r
        → Shows text o (kind_begun after seen) (found_here o after seen W ++ new) new
    go true q r e f g = rw (h, e) refl
    go false true r e f g = rw (h, e, f) refl
    go false false true e f g = rw (h, e, f, g) refl
    go false false false e f g = rw (h, e, f, g) refl

word_here : (text : List ℕ) (o : ℕ) (after : Bool) (seen : ℕ) (W : List ℕ) (new : List Spot) → is_name_byte seen ≡ true
    → lower seen ∷ name_front W ≡ name_front (drop o text)
    → Shows text o (kind_begun after seen) (found_here o after seen W ++ new) new
word_here text o true seen W new h same = rw h refl
word_here text o false seen W new h same =
    let e = ap (λ (n : List ℕ). record { at = o; token = word n } ∷ new) same in
    rw h e

-- a byte that is seen as a name's stands outside comments
name_seen : (text : List ℕ) (o b : ℕ) (bs : List ℕ) (now : Bool) → drop o text ≡ b ∷ bs → is_name_byte (cond now 32 b) ≡ true
    → lower (cond now 32 b) ∷ name_front (without_comments now bs) ≡ name_front (drop o text)
name_seen text o b bs true e h = absurd cc
name_seen text o b bs false e h =
    let whole : name_front (b ∷ bs) ≡ lower b ∷ name_front bs = rw h refl in
    ap (λ (l : List ℕ). lower b ∷ l) (front_seen bs) ∙ sym whole ∙ sym (ap name_front e)

any_here : (text : List ℕ) (o b : ℕ) (bs : List ℕ) (now after : Bool) (new : List Spot) → drop o text ≡ b ∷ bs
    → Shows text o (kind_begun after (cond now 32 b)) (found_here o after (cond now 32 b) (without_comments now bs) ++ new) new
any_here text o b bs now after new e = go (is_name_byte (cond now 32 b)) refl
  where
    go : (t : Bool) → is_name_byte (cond now 32 b) ≡ t
        → Shows text o (kind_begun after (cond now 32 b)) (found_here o after (cond now 32 b) (without_comments now bs) ++ new) new
    go true h = word_here text o after (cond now 32 b) (without_comments now bs) new h (name_seen text o b bs now e h)
    go false h = other_here text o after (cond now 32 b) (without_comments now bs) new h

-- one byte on
pub byte_on : (text : List ℕ) (o : ℕ) (inside after : Bool) (b seen : ℕ) (now next : Bool) (kind : Option TokenKind)
    → o < length text → b ≡ get_or text o 0 → now ≡ ((inside || (b == 59)) && not (b == 10)) → seen ≡ cond now 32 b
    → kind ≡ kind_begun after seen → next ≡ is_name_byte seen
    → Shows text o kind (spots_at o after (without_comments inside (drop o text))) (spots_at (o + 1) next (without_comments now (drop (o + 1) text)))
byte_on text o inside after b seen now next kind within is_b is_now is_seen is_kind is_next =
    let far : suc o ≡ o + 1 = omega arith in
    let rest : drop o text ≡ b ∷ drop (suc o) text = drop-cons text o 0 within ∙ ap (λ (x : ℕ). x ∷ drop (suc o) text) (sym is_b) in
    let now' = (inside || (b == 59)) && not (b == 10) in
    let shown = any_here text o b (drop (suc o) text) now' after (spots_at (suc o) (is_name_byte (cond now' 32 b)) (without_comments now' (drop (suc o) text))) rest in
    rw (is_kind, is_next, is_seen, is_now, rest, sym far) shown
