-- Many states of a game of one turn.
use Rattle.std.proofs.Common.{◌≡◌, ℕ, zero, suc, ◌≤◌, List, [], ◌∷◌, length, map, get_or, refl, ap, ◌∙◌, arith}
use Rattle.std.specs.Prelude.{replicate}
use Rattle.smallvec.specs.SmallVec.{SmallVec}
use Rattle.statement.specs.Rules.{Rules, State, Turn}
use Rattle.game.specs.TurnsAfter.{turns_after}

pub zeros : (n k : ℕ) → get_or (replicate n 0) k 0 ≤ 8
zeros zero k = omega arith
zeros (suc n) zero = omega arith
zeros (suc n) (suc k) = zeros n k

-- where it makes no difference at which state a turn begins
pub turns_after_alike : (g : Rules) (states : List State) (s : State) (places : List ℕ) (joints : List (SmallVec ℕ))
    → ((t : State) (j : Turn) → g.after s j ≡ g.after t j) → length places ≡ length joints
    → map (λ (j : SmallVec ℕ). g.after s j.items) joints ≡ turns_after g states places (map (λ (j : SmallVec ℕ). j.items) joints)
turns_after_alike g states s [] [] same size = refl
turns_after_alike g states s [] (j ∷ js) same size = absurd (omega arith)
turns_after_alike g states s (p ∷ ps) [] same size = absurd (omega arith)
turns_after_alike g states s (p ∷ ps) (j ∷ js) same size =
    ap (λ (t : State). t ∷ map (λ (i : SmallVec ℕ). g.after s i.items) js) (same (get_or states p []) j.items)
    ∙ ap (λ (ts : List State). g.after (get_or states p []) j.items ∷ ts) (turns_after_alike g states s ps js same (omega arith))
