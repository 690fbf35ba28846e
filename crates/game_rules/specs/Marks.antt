-- This crate's own: what `run` promises does not rest on it.
-- Marks by number.
use Rattle.std.specs.Prelude.{ℕ, Bool, true, false, ◌≡◌, ◌<◌, slice_set, List, [], ◌∷◌, length, slice_index_or, if◌then◌else◌}
use Rattle.statement.specs.Kept.{Kept}
use Rattle.game_rules.specs.RulePlay.{all_right}

-- a mark for each number below n, true where it passes
pub record AreMarks (marks : List Bool) (n : ℕ) (right : ℕ → Bool) : Type 0 where
  pub size : length marks ≡ n
  pub each : (k : ℕ) → k < n → slice_index_or marks k false ≡ right k

-- marks, with the heads of the instances whose bodies are marked right
abbrev pub with_heads : List Bool → List Kept → List Bool
with_heads marks [] = marks
with_heads marks (k ∷ ks) =
    with_heads (if all_right (λ n. slice_index_or marks n false) k.body then slice_set marks k.head true else marks) ks
