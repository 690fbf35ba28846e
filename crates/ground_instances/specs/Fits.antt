-- This crate's own: what `run` promises does not rest on it.
-- How the parts of an instantiation fit together.
use Rattle.std.specs.Prelude.{ℕ, ◌≡◌, ◌≢◌, ◌<◌, ◌≤◌, ◌+◌, Bool, List, [], ◌∷◌, All, AllPairs, length, ⊤}
use Rattle.std.specs.Ordering.{nat_cmp}
use Rattle.std.specs.Cmp.Lexicographic.{slice_cmp}
use Rattle.std.specs.declared.cmp.Ordering.TheVariants.{Less}
use Rattle.statement.specs.declared.kind.Kind.{Kind}
use Rattle.statement.specs.declared.kind.Kind.TheVariants.{Fixed, Now, Does, Next, Legal, Goal, Terminal, Other}
use Rattle.statement.specs.Kept.{Kept}
use Rattle.ground_instances.specs.Grounds.{texts_at}
use Rattle.statement.specs.Most.{wide_limits}

-- each text stands before all later ones in the order of bytes
abbrev pub TextsRise : List (List ℕ) → Type 0
TextsRise texts = AllPairs (λ s t. slice_cmp nat_cmp s t ≡ Less) texts

abbrev pub Differ : List (List ℕ) → Type 0
Differ texts = AllPairs (λ s t. s ≢ t) texts

abbrev pub count_all : List (List (List ℕ)) → ℕ
count_all [] = 0
count_all (ts ∷ rest) = length ts + count_all rest

-- a role, and one of its inputs
abbrev pub IsInputWithin : List (List (List ℕ)) → ℕ → ℕ → Type 0
IsInputWithin inputs r m = (r < length inputs) × (m < length (texts_at inputs r))

-- the numbers of a kind are those of a base proposition, a role, one of its inputs, or a value
abbrev pub IsKindWithin : ℕ → List (List (List ℕ)) → Kind → Type 0
IsKindWithin base inputs Fixed = ⊤
IsKindWithin base inputs (Now p) = p < base
IsKindWithin base inputs (Does r m) = IsInputWithin inputs r m
IsKindWithin base inputs (Next p) = p < base
IsKindWithin base inputs (Legal r m) = IsInputWithin inputs r m
IsKindWithin base inputs (Goal r v) = (r < length inputs) × (v ≤ 100)
IsKindWithin base inputs Terminal = ⊤
IsKindWithin base inputs Other = ⊤

-- a kept instance names atoms below n
abbrev pub IsKeptWithin : ℕ → Kept → Type 0
IsKeptWithin n k = (k.head < n) × All (λ (r : ℕ × Bool). r.0 < n) k.body

-- each base proposition has a mark and each role its inputs, texts stand in order, all numbers are of
-- what is there, and there are no more than the wide limits say
pub record FitTogether (roles base : List (List ℕ)) (inputs : List (List (List ℕ))) (starts : List Bool) (kinds : List Kind) (kept : List Kept) : Type
    0 where
  pub starts_fit : length starts ≡ length base
  pub inputs_fit : length inputs ≡ length roles
  pub roles_differ : Differ roles
  pub base_rises : TextsRise base
  pub inputs_rise : All TextsRise inputs
  pub kept_within : All (IsKeptWithin (length kinds)) kept
  pub kinds_within : All (IsKindWithin (length base) inputs) kinds
  pub few_kept : length kept ≤ wide_limits.instances
  pub few_base : length base ≤ wide_limits.base
  pub few_inputs : count_all inputs ≤ wide_limits.inputs
  pub few_atoms : length kinds ≤ wide_limits.instances + (wide_limits.base + wide_limits.inputs)
  pub few_roles : length roles ≤ length kinds
