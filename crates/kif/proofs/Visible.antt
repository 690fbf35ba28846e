-- The visible text, byte by byte.
use Rattle.std.proofs.Common.{ℕ, suc, ◌≡◌, ◌<◌, Bool, true, false, List, [], ◌∷◌, length, get_or, refl, sym, ap, ◌∙◌}
use Rattle.std.specs.Prelude.{not, ◌&&◌, ◌||◌, ◌==◌}
use Rattle.statement.specs.Lexical.{IsInComment, without_comments, visible}
use Rattle.kif.specs.Offsets.{IsByteAt}
use Rattle.kif.proofs.Comments.{comment_blank, others_stay}

length-without_comments : (inside : Bool) (bs : List ℕ) → length (without_comments inside bs) ≡ length bs
length-without_comments inside [] = refl
length-without_comments inside (b ∷ bs) = ap suc (length-without_comments ((inside || (b == 59)) && not (b == 10)) bs)

pub length-visible : (text : List ℕ) → length (visible text) ≡ length text
length-visible text = length-without_comments false text

pub seen_if_at : (kind : ℕ → Bool) (text : List ℕ) (o : ℕ) → IsByteAt kind text o → kind (get_or (visible text) o 0) ≡ true
seen_if_at kind text o h = ap kind (others_stay text o h.outside) ∙ h.byte

-- a byte that is seen as another than a space is no comment's
pub at_if_seen : (kind : ℕ → Bool) (text : List ℕ) (o : ℕ) → kind 32 ≡ false → o < length text → kind (get_or (visible text) o 0) ≡ true
    → IsByteAt kind text o
at_if_seen kind text o blank within h =
    let out : IsInComment text o → ⊥ = λ i. let e : kind (get_or (visible text) o 0) ≡ kind 32 = ap kind (comment_blank text o within i) in
    absurd cc in
    record { within = within; outside = out; byte = ap kind (sym (others_stay text o out)) ∙ h }
