-- What is used of what was read.
use Rattle.std.proofs.Common.{ℕ, ◌+◌, ◌-◌, ◌≡◌, ◌≤◌, List, [], ◌++◌, length, take, drop, slice_range, sym, ap, subst, ◌∙◌, append_assoc, append-nil, take-append-drop, arith}
use Rattle.std.proofs.lemmas.List.{drop-take, drop-drop, length-take}
use Rattle.std.proofs.KnownBytes.{Consumes-trans}
use Rattle.std.specs.Prelude.{Option, Some, None}
use Rattle.std.specs.Io.KnownBytes.{Consumes, prepend_known}

pub used_up : (remaining : Option (List ℕ)) (left next : List ℕ) (count : ℕ) → next ≡ drop count left
    → Consumes (prepend_known left remaining) (prepend_known next remaining) (take count left)
used_up None left next count e = tt
used_up (Some more) left next count e =
    ap (λ (l : List ℕ). l ++ more) (sym (take-append-drop count left) ∙ ap (λ (l : List ℕ). take count left ++ l) (sym e))
    ∙ append_assoc (take count left) next more

-- what is left of a part behind its front
pub later_range : (xs : List ℕ) (from to count : ℕ) → count ≤ length (slice_range xs from to)
    → slice_range xs (from + count) to ≡ drop count (slice_range xs from to)
later_range xs from to count h =
    let few : count ≤ to - from = omega (arith, h, length-take (to - from) (drop from xs)) in
    let e : to - from ≡ count + (to - (from + count)) = omega (arith, few) in
    ap (λ (l : List ℕ). take (to - (from + count)) l) (sym (drop-drop count from xs))
    ∙ sym (drop-take count (to - (from + count)) (drop from xs))
    ∙ ap (λ n. drop count (take n (drop from xs))) (sym e)

-- nothing was used in between
pub used_then : (a b c : Option (List ℕ)) (bs : List ℕ) → Consumes a b [] → Consumes b c bs → Consumes a c bs
used_then a b c bs p q = Consumes-trans a b c [] bs p q

pub used_before : (a b c : Option (List ℕ)) (bs : List ℕ) → Consumes a b bs → Consumes b c [] → Consumes a c bs
used_before a b c bs p q = subst (Consumes a c) (append-nil bs) (Consumes-trans a b c bs [] p q)

-- a part behind what was used before, and what ends it
pub used_more : (a b c d : Option (List ℕ)) (before part end : List ℕ) → Consumes a b before → Consumes b c [] → Consumes c d (part ++ end)
    → Consumes a d ((before ++ part) ++ end)
used_more a b c d before part end p q r =
    subst (Consumes a d) (sym (append_assoc before part end))
    (Consumes-trans a c d before (part ++ end) (used_before a b c before p q) r)

pub used_on : (a b c d : Option (List ℕ)) (before part : List ℕ) → Consumes a b before → Consumes b c [] → Consumes c d (part ++ [])
    → Consumes a d (before ++ part)
used_on a b c d before part p q r = subst (Consumes a d) (append-nil (before ++ part)) (used_more a b c d before part [] p q r)
