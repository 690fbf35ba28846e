-- How many lists are open at an offset, from one byte to the next.
use Rattle.std.proofs.Common.{ℕ, suc, ◌+◌, ◌≡◌, ◌<◌, Bool, true, false, List, take, length, get_or, refl, ap, ◌∙◌, arith}
use Rattle.std.specs.Prelude.{count_by, pos, ◌-ℤ◌}
use Rattle.std.proofs.lemmas.Bool.Decides.{nat_tests}
use Rattle.std.proofs.lemmas.Int.{ints}
use Rattle.std.proofs.lemmas.List.Sums.{count_by_more_yes, count_by_more_no}
use Rattle.statement.specs.Lexical.{is_name_byte, Token, opening, closing, word, stray}
use Rattle.kif.specs.Offsets.{is_opening, is_closing, is_stray}
use Rattle.kif.proofs.Here.{IsTokenIn, token_byte}
use Rattle.kif.proofs.Tokens.{token_within}

abbrev pub opened : List ℕ → ℕ → ℕ
opened v o = count_by is_opening (take o v)

abbrev pub closed : List ℕ → ℕ → ℕ
closed v o = count_by is_closing (take o v)

-- n lists are open before o
abbrev pub AreOpen : List ℕ → ℕ → ℕ → Type 0
AreOpen v n o = opened v o ≡ n + closed v o

-- as many lists are open before o as before p
abbrev pub AreSame : List ℕ → ℕ → ℕ → Type 0
AreSame v o p = opened v p + closed v o ≡ opened v o + closed v p

-- what the byte at o opens and closes
pub record IsStep (v : List ℕ) (o opens closes : ℕ) : Type 0 where
  pub within : o < length v
  pub opens_so_many : opened v (suc o) ≡ opened v o + opens
  pub closes_so_many : closed v (suc o) ≡ closed v o + closes

counted : (kind : ℕ → Bool) (v : List ℕ) (o : ℕ) → o < length v → kind (get_or v o 0) ≡ true
    → count_by kind (take (suc o) v) ≡ count_by kind (take o v) + 1
counted kind v o h e = ap (λ (i : ℕ). count_by kind (take i v)) (let f : suc o ≡ o + 1 = omega arith in f) ∙ count_by_more_yes kind v o 0 h e

passed : (kind : ℕ → Bool) (v : List ℕ) (o : ℕ) → o < length v → kind (get_or v o 0) ≡ false
    → count_by kind (take (suc o) v) ≡ count_by kind (take o v) + 0
passed kind v o h e =
    ap (λ (i : ℕ). count_by kind (take i v)) (let f : suc o ≡ o + 1 = omega arith in f) ∙ count_by_more_no kind v o 0 h e
    ∙ (let f : count_by kind (take o v) ≡ count_by kind (take o v) + 0 = omega arith in f)

opening_no_closing : (b : ℕ) → is_opening b ≡ true → is_closing b ≡ false
opening_no_closing b h = grind (arith, nat_tests)

closing_no_opening : (b : ℕ) → is_closing b ≡ true → is_opening b ≡ false
closing_no_opening b h = grind (arith, nat_tests)

name_no_opening : (b : ℕ) → is_name_byte b ≡ true → is_opening b ≡ false
name_no_opening b h = grind (arith, nat_tests)

name_no_closing : (b : ℕ) → is_name_byte b ≡ true → is_closing b ≡ false
name_no_closing b h = grind (arith, nat_tests)

stray_no_opening : (b : ℕ) → is_stray b ≡ true → is_opening b ≡ false
stray_no_opening b h = grind (arith, nat_tests)

stray_no_closing : (b : ℕ) → is_stray b ≡ true → is_closing b ≡ false
stray_no_closing b h = grind (arith, nat_tests)

abbrev pub opens : Token → ℕ
opens opening = 1
opens closing = 0
opens (word w) = 0
opens stray = 0

abbrev pub shuts : Token → ℕ
shuts opening = 0
shuts closing = 1
shuts (word w) = 0
shuts stray = 0

pub token_step : (v : List ℕ) (o : ℕ) (k : Token) → IsTokenIn v o k → IsStep v o (opens k) (shuts k)
token_step v o opening t = let w = token_within v o opening t in
    record { within = w; opens_so_many = counted is_opening v o w t; closes_so_many = passed is_closing v o w (opening_no_closing _ t) }
token_step v o closing t = let w = token_within v o closing t in
    record { within = w; opens_so_many = passed is_opening v o w (closing_no_opening _ t); closes_so_many = counted is_closing v o w t }
token_step v o (word n) t = let w = token_within v o (word n) t in let h = token_byte v o (word n) t in
    record {
      within = w;
      opens_so_many = passed is_opening v o w (name_no_opening _ h);
      closes_so_many =
          passed is_closing v o w (name_no_closing _ h);
    }
token_step v o stray t =
    record {
      within = t.0;
      opens_so_many = passed is_opening v o t.0 (stray_no_opening _ t.1);
      closes_so_many =
          passed is_closing v o t.0 (stray_no_closing _ t.1);
    }

pub no_step : (v : List ℕ) (o : ℕ) → o < length v → ((k : Token) → IsTokenIn v o k → ⊥) → IsStep v o 0 0
no_step v o w none = record {
  within = w;
  opens_so_many = passed is_opening v o w (no_opening (is_opening (get_or v o 0)) refl);
  closes_so_many = passed is_closing v o w (no_closing (is_closing (get_or v o 0)) refl);
}
  where
    no_opening : (t : Bool) → is_opening (get_or v o 0) ≡ t → t ≡ false
    no_opening true e = absurd (none opening e)
    no_opening false e = refl

    no_closing : (t : Bool) → is_closing (get_or v o 0) ≡ t → t ≡ false
    no_closing true e = absurd (none closing e)
    no_closing false e = refl

-- the same by whole numbers, which may be negative

pub open_of_difference : (a b n : ℕ) → pos a -ℤ pos b ≡ pos n → a ≡ n + b
open_of_difference a b n h = omega (arith, ints)

pub difference_of_open : (a b n : ℕ) → a ≡ n + b → pos a -ℤ pos b ≡ pos n
difference_of_open a b n h = omega (arith, ints)

pub same_of_difference : (a b c d : ℕ) → pos a -ℤ pos b ≡ pos c -ℤ pos d → a + d ≡ c + b
same_of_difference a b c d h = omega (arith, ints)

pub difference_of_same : (a b c d : ℕ) → a + d ≡ c + b → pos a -ℤ pos b ≡ pos c -ℤ pos d
difference_of_same a b c d h = omega (arith, ints)
