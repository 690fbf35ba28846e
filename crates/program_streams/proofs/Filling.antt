-- What is in the room while the input is read.
use Rattle.std.proofs.Common.{ℕ, ◌+◌, ◌≡◌, List, ◌++◌, take, drop, sym, ap, subst, ◌∙◌, arith}
use Rattle.std.specs.Prelude.{Option}
use Rattle.std.specs.Io.KnownBytes.{Consumes}
use Rattle.std.proofs.KnownBytes.{Consumes-trans}
use Rattle.std.proofs.lemmas.List.{drop-take, take-append-drop}
use lib.Seq.{take-take}

take-plus : (f n : ℕ) (xs : List ℕ) → take (f + n) xs ≡ take f xs ++ take n (drop f xs)
take-plus f n xs =
    sym (take-append-drop f (take (f + n) xs))
    ∙ ap (λ (l : List ℕ). l ++ drop f (take (f + n) xs)) (take-take f (f + n) xs (omega arith))
    ∙ ap (λ (l : List ℕ). take f xs ++ l) (drop-take f n xs)

-- n bytes more behind the f bytes that were read before
pub read_more : (a b c : Option (List ℕ)) (before room : List ℕ) (f n : ℕ) → take f room ≡ take f before
    → Consumes a b (take f before) → Consumes b c (take n (drop f room)) → Consumes a c (take (f + n) room)
read_more a b c before room f n front first second =
    subst (Consumes a c) (ap (λ (l : List ℕ). l ++ take n (drop f room)) (sym front) ∙ sym (take-plus f n room))
    (Consumes-trans a b c (take f before) (take n (drop f room)) first second)
