-- This crate's own: what `run` promises does not rest on it.
-- A tape in the making: what each literal stands for, and what a step keeps.
use Rattle.std.specs.Prelude.{ℕ, Bool, true, false, not, ◌&&◌, ◌||◌, ◌==◌, List, [], ◌∷◌, All, length, ◌≡◌, ◌+◌, ◌*◌, ◌<◌, ◌≤◌, ◌%◌, ◌/◌, slice_index}
use Rattle.propnet_tape.specs.Values.{slots, value, IsTape}
use Rattle.propnet_tape.specs.declared.builder.Builder.{Builder}
use Rattle.propnet_tape.specs.declared.builder.Group.{Group}

abbrev pub slots_of : Builder → ℕ
slots_of b = slots b.first b.gates.items

-- the value of a literal under given bits
abbrev pub signal_value : Builder → (ℕ → Bool) → ℕ → Bool
signal_value b given l = value b.first b.gates.items given l

-- of the given bits from one on to before another exactly one is 1
pub record IsOneOf (given : ℕ → Bool) (from to : ℕ) : Type 0 where
  pub on : ℕ
  pub low : from ≤ on
  pub high : on < to
  pub each : (k : ℕ) → from ≤ k → k < to → given k ≡ (k == on)

-- that is so of each group
abbrev pub AreOneOf : List Group → (ℕ → Bool) → Type 0
AreOneOf groups given = All (λ (g : Group). IsOneOf given g.from g.to) groups

pub record IsBuilt (b : Builder) : Type 0 where
  pub tape : IsTape b.first b.gates.items
  pub table : 0 < length b.table.items
  pub groups : All (λ (g : Group). 2 + 2 * g.to ≤ b.first) b.groups.items

-- a step that adds gates, and keeps the value of each literal that there is
pub record IsStep (old new : Builder) : Type 0 where
  pub built : IsBuilt new
  pub first : new.first ≡ old.first
  pub groups : new.groups.items ≡ old.groups.items
  pub more : slots_of old ≤ slots_of new
  pub keeps : (given : ℕ → Bool) (l : ℕ) → l < slots_of old → signal_value new given l ≡ signal_value old given l

-- values of literals: literal 0 is false, and each even literal has its negation behind it
pub record HaveNegations (w : ℕ → Bool) : Type 0 where
  pub none : w 0 ≡ false
  pub pairs : (l : ℕ) → l % 2 ≡ 0 → w (l + 1) ≡ not (w l)

-- a literal of the tape that has under all given bits of which one of each group is 1 the value that `want` gives
pub record IsLiteral (b : Builder) (l : ℕ) (want : (ℕ → Bool) → Bool) : Type 0 where
  pub slot : l < slots_of b
  pub value : (given : ℕ → Bool) → AreOneOf b.groups.items given → signal_value b given l ≡ want given

-- true where all are, and for no literals
abbrev pub all_of : (ℕ → Bool) → List ℕ → Bool
all_of w [] = true
all_of w (l ∷ ls) = w l && all_of w ls

-- true where one is
abbrev pub any_of : (ℕ → Bool) → List ℕ → Bool
any_of w [] = false
any_of w (l ∷ ls) = w l || any_of w ls

-- literals of the same nodes, each with the other value
pub record IsNegation (a b : ℕ) : Type 0 where
  pub node : b / 2 ≡ a / 2
  pub value : (w : ℕ → Bool) → HaveNegations w → w b ≡ not (w a)

pub record AreNegations (xs ys : List ℕ) : Type 0 where
  pub count : length ys ≡ length xs
  pub each : (k : ℕ) → k < length xs → IsNegation (slice_index xs k) (slice_index ys k)
