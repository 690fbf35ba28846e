use Rattle.std.proofs.Common.{◌≡◌, ◌≢◌, ℕ, ◌<◌, ◌≤◌, ◌^◌, Bool, true, false, List, [], ◌∷◌, length, refl, ◌∙◌, arith, get_or}
use Rattle.std.specs.Prelude.{◌==◌, if◌then◌else◌}
use Rattle.std.proofs.lemmas.Bool.Decides.{nat_tests}
use Rattle.std.proofs.lemmas.List.FromFn.{get_or-map-range_with_len, length-map-range_with_len}
use Rattle.statement.specs.Rules.{Rules, State, choices, is_stuck}
use Rattle.game.proofs.Facts.{list_any_range}

pub length-choices : (g : Rules) (s : State) (role own : ℕ) → length (choices g s role own) ≡ g.roles
length-choices g s role own = length-map-range_with_len _ 0 g.roles

pub get_or-choices : (g : Rules) (s : State) (role own q : ℕ) → q < g.roles
    → get_or (choices g s role own) q [] ≡ (if q == role then own ∷ [] else g.legal s q)
get_or-choices g s role own q below = get_or-map-range_with_len _ 0 g.roles q q [] below (omega arith)

-- the role itself plays its own move
pub choices_own : (g : Rules) (s : State) (role own q : ℕ) → q < g.roles → q ≡ role → get_or (choices g s role own) q [] ≡ own ∷ []
choices_own g s role own q below same =
    let e : (q == role) ≡ true = grind (arith, nat_tests) in
    get_or-choices g s role own q below ∙ rw e refl

-- any other role plays what is legal
pub choices_other : (g : Rules) (s : State) (role own q : ℕ) → q < g.roles → q ≢ role → get_or (choices g s role own) q [] ≡ g.legal s q
choices_other g s role own q below other =
    let e : (q == role) ≡ false = grind (arith, nat_tests) in
    get_or-choices g s role own q below ∙ rw e refl

some_if_not_empty : (xs : List ℕ) → (length xs == 0) ≡ false → 0 < length xs
some_if_not_empty xs h = grind (arith, nat_tests)

not_empty : (b : Bool) → (b ≡ true → ⊥) → b ≡ false
not_empty true h = absurd (h refl)
not_empty false h = refl

-- where no role is stuck, each has a legal move
pub legal_some : (g : Rules) (s : State) (q : ℕ) → is_stuck g s ≡ false → q < g.roles → 0 < length (g.legal s q)
legal_some g s q free below =
    some_if_not_empty (g.legal s q) (not_empty _
    (λ e. let stuck : is_stuck g s ≡ true = list_any_range (λ k. length (g.legal s k) == 0) 0 g.roles q (omega arith) (omega arith) e in cc))

-- where no role is stuck, each role has a move to play
pub choices_some : (g : Rules) (s : State) (role own q : ℕ) → is_stuck g s ≡ false → q < g.roles → 0 < length (get_or (choices g s role own) q [])
choices_some g s role own q free below =
    rw (get_or-choices g s role own q below) (either (q == role) (g.legal s q) own (legal_some g s q free below))
  where
    either : (b : Bool) (xs : List ℕ) (own : ℕ) → 0 < length xs → 0 < length (if b then own ∷ [] else xs)
    either true xs own h = omega arith
    either false xs own h = h

-- a role has no more moves to play than there are numbers for them
pub choices_count : (g : Rules) (s : State) (role own q : ℕ) → length (g.legal s q) ≤ 2 ^ 32 → q < g.roles
    → length (get_or (choices g s role own) q []) ≤ 2 ^ 32
choices_count g s role own q h below = rw (get_or-choices g s role own q below) (either (q == role))
  where
    either : (b : Bool) → length (if b then own ∷ [] else g.legal s q) ≤ 2 ^ 32
    either true = omega arith
    either false = h
