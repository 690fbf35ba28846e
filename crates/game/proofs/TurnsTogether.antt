-- Turns that each begin at one of many states.
use Rattle.std.proofs.Common.{
  ◌≡◌,
  ℕ,
  zero,
  suc,
  ◌+◌,
  ◌<◌,
  List,
  [],
  ◌∷◌,
  ◌++◌,
  length,
  map,
  get_or,
  refl,
  ap,
  ◌∙◌,
  arith,
}
use Rattle.std.specs.Prelude.{replicate}
use Rattle.std.specs.List.{range_with_len}
use Rattle.smallvec.specs.SmallVec.{SmallVec}
use Rattle.game.specs.Joints.{joint_at}
use Rattle.statement.specs.Rules.{Rules, State, Turn}
use Rattle.game.specs.TurnsAfter.{turns_after}

-- as many states as turns
pub turns_after_count : (g : Rules) (states : List State) (places : List ℕ) (turns : List Turn) → length places ≡ length turns
    → length (turns_after g states places turns) ≡ length turns
turns_after_count g states [] [] size = refl
turns_after_count g states [] (t ∷ ts) size = absurd (omega arith)
turns_after_count g states (p ∷ ps) [] size = absurd (omega arith)
turns_after_count g states (p ∷ ps) (t ∷ ts) size = let rest = turns_after_count g states ps ts (omega arith) in omega arith

-- the states by their numbers
pub turns_after_each : (g : Rules) (states : List State) (f : ℕ → State) (places : List ℕ) (joints : List (SmallVec ℕ)) (a n : ℕ)
    → length places ≡ length joints → n ≡ length joints
    → ((k : ℕ) → k < length joints → f (a + k) ≡ g.after (get_or states (get_or places k 0) []) (joint_at joints k))
    → map f (range_with_len a n) ≡ turns_after g states places (map (λ (j : SmallVec ℕ). j.items) joints)
turns_after_each g states f [] [] a zero size count each = refl
turns_after_each g states f [] [] a (suc n) size count each = absurd (omega arith)
turns_after_each g states f [] (j ∷ js) a n size count each = absurd (omega arith)
turns_after_each g states f (p ∷ ps) [] a n size count each = absurd (omega arith)
turns_after_each g states f (p ∷ ps) (j ∷ js) a zero size count each = absurd (omega arith)
turns_after_each g states f (p ∷ ps) (j ∷ js) a (suc n) size count each =
    let here : f a ≡ g.after (get_or states p []) j.items = ap f (omega arith) ∙ each 0 (omega arith) in
    let rest : map f (range_with_len (a + 1) n) ≡ turns_after g states ps (map (λ (i : SmallVec ℕ). i.items) js) =
    turns_after_each g states f ps js (a + 1) n (omega arith) (omega arith) (λ k lt. ap f (omega arith) ∙ each (suc k) (omega arith)) in
    ap (λ (t : State). t ∷ map f (range_with_len (a + 1) n)) here ∙ ap (λ (ts : List State). g.after (get_or states p []) j.items ∷ ts) rest

-- turns of one state more
turns_after_same : (g : Rules) (states : List State) (place n : ℕ) (turns : List Turn) → n ≡ length turns
    → turns_after g states (replicate n place) turns ≡ map (g.after (get_or states place [])) turns
turns_after_same g states place zero [] size = refl
turns_after_same g states place (suc n) [] size = absurd (omega arith)
turns_after_same g states place zero (t ∷ ts) size = absurd (omega arith)
turns_after_same g states place (suc n) (t ∷ ts) size =
    ap (λ (ss : List State). g.after (get_or states place []) t ∷ ss) (turns_after_same g states place n ts (omega arith))

pub turns_after_more : (g : Rules) (states : List State) (places : List ℕ) (turns : List Turn) (place n : ℕ) (more : List Turn)
    → length places ≡ length turns → n ≡ length more
    → turns_after g states (places ++ replicate n place) (turns ++ more)
    ≡ turns_after g states places turns ++ map (g.after (get_or states place [])) more
turns_after_more g states [] [] place n more size count = turns_after_same g states place n more count
turns_after_more g states [] (t ∷ ts) place n more size count = absurd (omega arith)
turns_after_more g states (p ∷ ps) [] place n more size count = absurd (omega arith)
turns_after_more g states (p ∷ ps) (t ∷ ts) place n more size count =
    ap (λ (ss : List State). g.after (get_or states p []) t ∷ ss) (turns_after_more g states ps ts place n more (omega arith) count)
