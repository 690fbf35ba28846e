-- Words of bits, as lists.
use Rattle.std.proofs.Common.{◌≡◌, ℕ, ◌<◌, Bool, false, List, [], ◌∷◌, ◌++◌, length, take, drop, get_or, refl, sym, ◌∙◌, ap, arith}
use Rattle.game_rules.specs.RulePlay.{marked}
use Rattle.position.specs.NetState.{is_lane_on, lane_state}
use Rattle.game_rules.proofs.Facts.{filters_agree}

-- a vector once all its items were written
pub written_over : {A : Type 0} (ms items : List A) (n : ℕ) → n ≡ length items → length ms ≡ length items → take n (ms ++ drop (length ms) items) ≡ ms
written_over {A} ms items n e f =
    ap (λ (k : ℕ). take k (ms ++ drop (length ms) items)) (e ∙ sym f) ∙ take_front ms (drop (length ms) items)
  where
    take_front : (xs ys : List A) → take (length xs) (xs ++ ys) ≡ xs
    take_front [] ys = refl
    take_front (x ∷ xs) ys = ap (λ (zs : List A). x ∷ zs) (take_front xs ys)

-- words whose first lane has a bit for each mark
pub lane_marked : (words : List ℕ) (bs : List Bool) → ((p : ℕ) → p < length bs → is_lane_on words 0 p ≡ get_or bs p false)
    → lane_state words (length bs) 0 ≡ marked bs
lane_marked words bs h = filters_agree (is_lane_on words 0) (λ p. get_or bs p false) 0 (length bs) (λ k from to. h k (omega arith))
