-- This crate's own: what `run` promises does not rest on it.
-- What tells whether an instantiation has base propositions and inputs.
use Rattle.std.specs.Prelude.{ℕ, ◌≡◌, ◌<◌, true, false, length, nat_lt}
use Rattle.ground_instances.specs.Grounds.{texts_at}
use Rattle.ground_instances.specs.GroundView.{base_of, inputs_of, roles_of}
use Rattle.ground_instances.specs.declared.flat_ground.FlatGround.{FlatGround}
use Rattle.program_run.specs.declared.sizes.Sizes.{Sizes}

-- whether there is a base proposition, and whether some role has an input
pub record AreSizesOf (made : FlatGround) (s : Sizes) : Type 0 where
  pub base : s.has_base ≡ nat_lt 0 (length (base_of made))
  pub none : s.has_inputs ≡ false → (r : ℕ) → r < length (roles_of made) → length (texts_at (inputs_of made) r) ≡ 0
  pub some : s.has_inputs ≡ true → (r : ℕ) × (r < length (roles_of made)) × (0 < length (texts_at (inputs_of made) r))
