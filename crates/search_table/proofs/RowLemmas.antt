-- Rows of words that keep entries.
use Rattle.std.proofs.Common.{◌≡◌, ◌≢◌, ℕ, zero, suc, ◌+◌, ◌-◌, ◌*◌, ◌<◌, ◌≤◌, false, List, [], ◌∷◌, ◌++◌, length, take, drop, get_or, refl, sym, subst, ap, ◌∙◌, arith, inl, inr}
use Rattle.std.specs.Prelude.{replicate, ◌==◌}
use Rattle.std.specs.List.{copy_within}
use Rattle.std.proofs.Math.ListN.{set}
use Rattle.std.proofs.Math.Nat.{mul-le-mul_right}
use Rattle.std.proofs.lemmas.Bool.{cases_eq, cases_lt}
use Rattle.std.proofs.lemmas.List.{take_all, take-append-le, get_or-append_right, drop_all, append-nil}
use Rattle.std.proofs.lemmas.List.Edits.{length-between, get_or-between}
use Rattle.std.proofs.lemmas.Slice.{between_is, put_mid-paste}
use Rattle.game.specs.Keys.{key_at}
use Rattle.game.proofs.Facts.{row_within}
use Rattle.search_table.specs.declared.entry.Entry.{Entry}
use Rattle.search_table.specs.Says.{Says, entry_in}
use Rattle.search_table.specs.Rows.{RowHolds, RowsHold}
use borrow.Rule.Slice.PartMut.{put_mid}

pub length-key_at : (words : List ℕ) (stride e : ℕ) → e * stride + stride ≤ length words → length (key_at words stride e) ≡ stride
length-key_at words stride e room =
    let size = length-between words (e * stride) (e * stride + stride) room in omega arith

-- a row with an entry in front of a key
pub row_holds : (worth : List ℕ → ℕ → ℕ) (entry : Entry) (word : ℕ) (key row : List ℕ) → row ≡ word ∷ key → entry_in word ≡ entry
    → Says entry (worth key) → RowHolds worth row
row_holds worth entry word key row is kept says w k same some =
    let both : word ∷ key ≡ w ∷ k = sym is ∙ same in
    let front : word ≡ w = cc in
    let behind : key ≡ k = cc in
    subst (λ (v : ℕ). Says (entry_in v) (worth k)) front
    (subst (λ (ks : List ℕ). Says (entry_in word) (worth ks)) behind (subst (λ (e : Entry). Says e (worth key)) (sym kept) says))

-- a row without one
pub row_empty : (worth : List ℕ → ℕ → ℕ) (row : List ℕ) → get_or row 0 0 ≡ 0 → RowHolds worth row
row_empty worth row none w k same some =
    let front : get_or row 0 0 ≡ w = ap (λ (ws : List ℕ). get_or ws 0 0) same in
    absurd (some (sym front ∙ none))

-- another row is written
pub rows_set : (worth : List ℕ → ℕ → ℕ) (old new : List ℕ) (stride n e : ℕ) → RowHolds worth (key_at new stride e)
    → ((f : ℕ) → f ≢ e → key_at new stride f ≡ key_at old stride f) → RowsHold worth old stride n → RowsHold worth new stride n
rows_set worth old new stride n e here others before f below = elim (cases_eq f e) [
  | inl same ↦ subst (λ (i : ℕ). RowHolds worth (key_at new stride i)) (sym same) here
  | inr apart ↦ subst (λ (row : List ℕ). RowHolds worth row) (sym (others f apart)) (before f below)
]

-- a row is copied, and emptied where it was
pub rows_moved : (worth : List ℕ → ℕ → ℕ) (old mid new : List ℕ) (stride n e to : ℕ) → e < n → to < n
    → key_at mid stride to ≡ key_at old stride e → ((f : ℕ) → f ≢ to → key_at mid stride f ≡ key_at old stride f)
    → get_or (key_at new stride e) 0 0 ≡ 0 → ((f : ℕ) → f ≢ e → key_at new stride f ≡ key_at mid stride f)
    → RowsHold worth old stride n → RowsHold worth new stride n
rows_moved worth old mid new stride n e to from within copied kept none others before =
    rows_set worth mid new stride n e (row_empty worth (key_at new stride e) none) others
    (rows_set worth old mid stride n to (subst (λ (row : List ℕ). RowHolds worth row) (sym copied) (before e from)) kept before)

none_there : (n k : ℕ) → ◌≡◌ {A = ℕ} (get_or (replicate n 0) k 0) 0
none_there zero k = refl
none_there (suc n) zero = refl
none_there (suc n) (suc k) = none_there n k

-- the first word of a row
front_of : (words : List ℕ) (stride e : ℕ) → 0 < stride → get_or (key_at words stride e) 0 0 ≡ get_or words (e * stride) 0
front_of words stride e some =
    let z : e * stride + 0 ≡ e * stride = omega arith in
    get_or-between words (e * stride) (e * stride + stride) 0 0 (omega arith) ∙ ap (λ (i : ℕ). get_or words i 0) z

-- rows of zeros behind others
pub rows_added : (worth : List ℕ → ℕ → ℕ) (old : List ℕ) (stride n more count : ℕ) → 0 < stride → n * stride ≡ length old
    → RowsHold worth old stride n → RowsHold worth (old ++ replicate more 0) stride count
rows_added worth old stride n more count some size before f below = elim (cases_lt f n) [
  | inl inside ↦
      let within = row_within f n stride inside in
      let same : key_at (old ++ replicate more 0) stride f ≡ key_at old stride f =
      between_is (old ++ replicate more 0) (f * stride) (f * stride + stride)
      ∙ ap (drop (f * stride)) (take-append-le (f * stride + stride) old (replicate more 0) (omega arith))
      ∙ sym (between_is old (f * stride) (f * stride + stride)) in
      subst (λ (row : List ℕ). RowHolds worth row) (sym same) (before f inside)
  | inr behind ↦
      let above : n * stride ≤ f * stride = mul-le-mul_right stride behind in
      row_empty worth (key_at (old ++ replicate more 0) stride f)
      (front_of (old ++ replicate more 0) stride f some
      ∙ get_or-append_right old (replicate more 0) (n * stride) (f * stride) 0 (sym size) above
      ∙ none_there more (f * stride - n * stride))
]

pub no_rows : (worth : List ℕ → ℕ → ℕ) (stride : ℕ) → RowsHold worth [] stride 0
no_rows worth stride f below = absurd (omega arith)

-- what a copy within words writes
pub copied_row : (words : List ℕ) (stride e to : ℕ) → e * stride + stride ≤ length words
    → copy_within words (e * stride) (e * stride + stride) (to * stride) ≡ put_mid (to * stride) stride words (key_at words stride e)
copied_row words stride e to room =
    let size = length-key_at words stride e room in
    let n : e * stride + stride - e * stride ≡ stride = omega arith in
    ap (λ (i : ℕ). take (to * stride) words ++ take i (drop (e * stride) words) ++ drop (to * stride + i) words) n
    ∙ ap (λ (ks : List ℕ). take (to * stride) words ++ ks ++ drop (to * stride + stride) words)
    (sym (take_all stride (key_at words stride e) (omega arith) ∙ ap (λ (i : ℕ). take i (drop (e * stride) words)) n))
    ∙ sym (put_mid-paste (to * stride) stride words (key_at words stride e) (key_at words stride e) stride refl refl (sym size))

pub twice_rows : (entries stride size : ℕ) → entries * stride ≡ size → 2 * entries * stride ≡ size + size
twice_rows entries stride size h = let e : 2 * entries * stride ≡ entries * stride + entries * stride = grind arith in omega arith

-- where rows of some words fit there are no more rows than words
pub few_rows : (entries stride size : ℕ) → 0 < stride → entries * stride ≤ size → entries ≤ size
few_rows entries zero size some h = absurd (omega arith)
few_rows entries (suc s) size some h = let e : entries * suc s ≡ entries + entries * s = grind arith in omega arith

pub bucket_fits : (first entries stride size : ℕ) → first + 4 ≤ entries → entries * stride ≡ size → (first + 4) * stride ≤ size
bucket_fits first entries stride size within whole = let less = mul-le-mul_right stride within in omega arith

-- a vector once all its items were written
pub written_over : (new items : List ℕ) (n : ℕ) → n ≡ length items → length new ≡ length items → take n (new ++ drop (length new) items) ≡ new
written_over new items n whole size =
    ap (λ (k : ℕ). take k (new ++ drop (length new) items)) (whole ∙ sym size)
    ∙ take-append-le (length new) new (drop (length new) items) (omega arith) ∙ take_all (length new) new (omega arith)

some_word : (row : List ℕ) → (length row == 0) ≡ false → 0 < length row
some_word [] h = absurd cc
some_word (x ∷ xs) h = omega arith

-- a row in front of which another word stands
pub row_split : (row key : List ℕ) → (length row == 0) ≡ false → take (length row - 1) (drop 1 row) ≡ key → row ≡ get_or row 0 0 ∷ key
row_split [] key some same = absurd cc
row_split (x ∷ xs) key some same =
    let e : length xs ≤ length (x ∷ xs) - 1 = omega arith in
    ap (λ (ks : List ℕ). x ∷ ks) (sym (take_all (length (x ∷ xs) - 1) xs e) ∙ same)

pub row_filled : (row new key : List ℕ) (word : ℕ) → length key + 1 ≡ length row → new ≡ key
    → put_mid 1 (length (set row 0 word) - 1) (set row 0 word) new ≡ word ∷ key
row_filled [] new key word size same = absurd (omega arith)
row_filled (x ∷ xs) new key word size same =
    let none : drop (length (word ∷ xs) - 1) xs ≡ [] = drop_all (length (word ∷ xs) - 1) xs (omega arith) in
    ap (λ (ks : List ℕ). word ∷ (new ++ ks)) none ∙ ap (λ (ks : List ℕ). word ∷ ks) (append-nil new ∙ same)
