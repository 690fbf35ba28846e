-- This crate's own: what `run` promises does not rest on it.
-- The ground of a description.
use Rattle.std.specs.Prelude.{◌≡◌, List, None}
use Rattle.statement.specs.Tree.{Tree}
use Rattle.statement.specs.Items.{alternatives}
use Rattle.statement.specs.Profile.{HasNoFault}
use Rattle.statement.specs.declared.width.Width.{Width}
use Rattle.statement.specs.Limits.{excess_in}
use Rattle.ground_instances.specs.declared.flat_ground.FlatGround.{FlatGround}
use Rattle.ground_instances.specs.GroundView.{IsGround}

-- the ground is the instantiation of the items, which are a description within all limits of a width
pub record IsItsGround (width : Width) (items : List Tree) (g : FlatGround) : Type 0 where
  pub lawful : HasNoFault items
  pub ground : IsGround (alternatives items) g
  pub within : excess_in width (alternatives items) ≡ None
