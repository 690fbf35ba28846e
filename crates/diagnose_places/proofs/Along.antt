-- Lines and columns, one byte on.
use Rattle.std.proofs.Common.{ℕ, zero, suc, ◌≡◌, ◌≢◌, ◌≤◌, ◌<◌, ◌+◌, ◌-◌, ◌^◌, ◌⊎◌, inl, inr, Bool, true, false, cond, List, [], ◌∷◌, ◌++◌, take, drop, length, get_or, slice_index, refl, sym, ap, subst, ◌∙◌, arith, drop-cons}
use Rattle.std.specs.Prelude.{slice_range, ◌==◌}
use Rattle.std.specs.List.{count_by}
use Rattle.std.proofs.lemmas.Bool.{eqb-true, eq-eqb}
use Rattle.std.proofs.lemmas.List.{get_or-drop, length-drop, length-take}
use Rattle.std.proofs.lemmas.List.Sums.{count_by-le-length, count_by_more_yes, count_by_more_no}
use Rattle.diagnose_places.specs.Lines.{is_line_feed, begins_character, IsLineStart}
use Rattle.diagnose_places.specs.Places.{after, IsPlace}
use Rattle.diagnose_places.specs.declared.place.Place.{Place}

count_yes : (test : ℕ → Bool) (xs : List ℕ) (i b : ℕ) → i < length xs → b ≡ get_or xs i 0 → test b ≡ true → count_by test (take (i + 1) xs) ≡ suc (count_by test (take i xs))
count_yes test xs i b within is holds = count_by_more_yes test xs i 0 within (ap test (sym is) ∙ holds) ∙ omega arith

count_no : (test : ℕ → Bool) (xs : List ℕ) (i b : ℕ) → i < length xs → b ≡ get_or xs i 0 → test b ≡ false → count_by test (take (i + 1) xs) ≡ count_by test (take i xs)
count_no test xs i b within is fails = count_by_more_no test xs i 0 within (ap test (sym is) ∙ fails)

-- the same of a part that begins at `start`
part_count : (test : ℕ → Bool) (t : Bool) (text : List ℕ) (start i b : ℕ) → start ≤ i → i < length text → b ≡ get_or text i 0 → test b ≡ t
    → count_by test (slice_range text start (i + 1)) ≡ cond t (suc (count_by test (slice_range text start i))) (count_by test (slice_range text start i))
part_count test t text start i b order within is tested =
    let n = i - start in
    let size : i + 1 - start ≡ n + 1 = omega arith in
    let long = length-drop start text in
    let short : n < length (drop start text) = omega (arith, long) in
    let place : start + n ≡ i = omega arith in
    let here : b ≡ get_or (drop start text) n 0 = is ∙ sym (get_or-drop start text n 0 ∙ ap (λ (k : ℕ). get_or text k 0) place) in
    ap (λ (k : ℕ). count_by test (take k (drop start text))) size ∙ go t tested short here
  where
    go : (u : Bool) → test b ≡ u → i - start < length (drop start text) → b ≡ get_or (drop start text) (i - start) 0
        → count_by test (take (i - start + 1) (drop start text))
        ≡ cond u (suc (count_by test (take (i - start) (drop start text)))) (count_by test (take (i - start) (drop start text)))
    go true e short here = count_yes test (drop start text) (i - start) b short here e
    go false e short here = count_no test (drop start text) (i - start) b short here e

fresh_start : (text : List ℕ) (i b : ℕ) → b ≡ slice_index text i → b ≡ 10 → IsLineStart text (i + 1) (i + 1)
fresh_start text i b is feed = record {
  before = omega arith;
  behind = λ k e. ap (slice_index text) (omega (arith, e)) ∙ sym is ∙ feed;
  together = λ k from to. absurd (omega (arith, from, to));
}

same_start : (text : List ℕ) (i start b : ℕ) → b ≡ slice_index text i → b ≢ 10 → IsLineStart text i start → IsLineStart text (i + 1) start
same_start text i start b is other h = record {
  before = let e = h.before in omega (arith, e);
  behind = h.behind;
  together = λ k from to. go k from (split k to);
}
  where
    split : (k : ℕ) → k < i + 1 → (k < i) ⊎ (k ≡ i)
    split k to = grind arith

    go : (k : ℕ) → start ≤ k → (k < i) ⊎ (k ≡ i) → slice_index text k ≢ 10
    go k from (inl below) = h.together k from below
    go k from (inr here) = λ e. other (is ∙ ap (slice_index text) (sym here) ∙ e)

-- the place one byte on
pub placed_after : (text : List ℕ) (i b : ℕ) (place : Place) → i < length text → b ≡ get_or text i 0 → b ≡ slice_index text i → IsPlace text i place
    → IsPlace text (i + 1) (after place b)
placed_after text i b place within is at h = feeds (is_line_feed b) refl
  where
    begins : (t : Bool) → is_line_feed b ≡ false → begins_character b ≡ t → IsPlace text (i + 1) (after place b)
    begins true fails holds =
        let other : b ≢ 10 = λ e. let f : (b == 10) ≡ true = eq-eqb b 10 e in absurd cc in
        let size = part_count begins_character true text h.start i b h.in_line.before within is holds in
        subst (IsPlace text (i + 1)) (let e : record { line = place.line; column = suc place.column } ≡ after place b = rw (fails, holds) refl in e)
        (record {
          line = h.line ∙ ap suc (sym (count_no is_line_feed text i b within is fails));
          start = h.start;
          in_line = same_start text i h.start b at other h.in_line;
          column = ap suc (h.column ∙ sym size);
        })
    begins false fails goes =
        let other : b ≢ 10 = λ e. let f : (b == 10) ≡ true = eq-eqb b 10 e in absurd cc in
        let size = part_count begins_character false text h.start i b h.in_line.before within is goes in
        subst (IsPlace text (i + 1)) (let e : place ≡ after place b = rw (fails, goes) refl in e)
        (record {
          line = h.line ∙ ap suc (sym (count_no is_line_feed text i b within is fails));
          start = h.start;
          in_line = same_start text i h.start b at other h.in_line;
          column = h.column ∙ ap suc (sym size);
        })

    feeds : (t : Bool) → is_line_feed b ≡ t → IsPlace text (i + 1) (after place b)
    feeds true holds =
        subst (IsPlace text (i + 1)) (let e : record { line = suc place.line; column = 1 } ≡ after place b = rw holds refl in e)
        (record {
          line = ap suc (h.line ∙ sym (count_yes is_line_feed text i b within is holds));
          start = i + 1;
          in_line = fresh_start text i b at (eqb-true b 10 holds);
          column = let size : i + 1 - (i + 1) ≡ 0 = omega arith in ap (λ (n : ℕ). suc (count_by begins_character (take n (drop (i + 1) text)))) (sym size);
        })
    feeds false fails = begins (begins_character b) fails refl

-- lines and columns are fails more than the bytes before them
pub place_is_small : (text : List ℕ) (i : ℕ) (place : Place) → i < length text → IsPlace text i place → (place.line ≤ i + 1) × (place.column ≤ i + 1)
place_is_small text i place within h =
    let lines = count_by-le-length is_line_feed (take i text) in
    let first = length-take i text in
    let columns = count_by-le-length begins_character (take (i - h.start) (drop h.start text)) in
    let second = length-take (i - h.start) (drop h.start text) in
    let l = h.line in
    let c = h.column in
    (grind (arith, lines, first, l), grind (arith, columns, second, c))
