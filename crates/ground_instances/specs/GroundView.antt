-- This crate's own: what `run` promises does not rest on it.
-- What a ground tells, by its flat lists.
use Rattle.std.specs.Prelude.{ℕ, Bool, List, map}
use Rattle.statement.specs.Clause.{Alternative}
use Rattle.statement.specs.declared.kind.Kind.{Kind}
use Rattle.ground_instances.specs.declared.flat_ground.FlatGround.{FlatGround}
use Rattle.ground_instances.specs.declared.ground.Ground.{Ground}
use Rattle.ground_instances.specs.declared.ground.Instance.{Instance}
use Rattle.ground_instances.specs.Lists.{bodies_of, numbers_of_list}
use Rattle.statement.specs.Kept.{Kept}
use Rattle.ground_instances.specs.Grounds.{IsGroundOf}
use Rattle.rules.specs.RuleSets.{texts_of}

abbrev pub roles_of : FlatGround → List (List ℕ)
roles_of g = texts_of g.roles.items

abbrev pub base_of : FlatGround → List (List ℕ)
base_of g = texts_of g.base.items

abbrev pub inputs_of : FlatGround → List (List (List ℕ))
inputs_of g = map (λ v. texts_of v.items) g.inputs.items

abbrev pub kinds_of : FlatGround → List Kind
kinds_of g = g.kinds.items

-- for each base proposition whether it holds at the start
abbrev pub starts_of : FlatGround → List Bool
starts_of g = g.starts.items

-- how many heads have no effect
abbrev pub dropped_of : FlatGround → ℕ
dropped_of g = g.dropped

abbrev pub instances_of : FlatGround → List Kept
instances_of g = numbers_of_list g.kept

-- the bodies that instances have, which may share one
abbrev pub bodies_in : FlatGround → List (List (ℕ × Bool))
bodies_in g = bodies_of g.kept

-- the ground is that of the rules
abbrev pub IsGround : List Alternative → FlatGround → Type 0
IsGround rules g = IsGroundOf rules (roles_of g) (base_of g) (inputs_of g) (starts_of g) (kinds_of g) (instances_of g) (dropped_of g)

-- the flat lists of a ground, and its instances one by one
abbrev pub flat_of : Ground → FlatGround
flat_of g = g.flat

abbrev pub kept_in : Ground → List Instance
kept_in g = g.kept.items
