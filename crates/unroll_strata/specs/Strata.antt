-- This crate's own: what `run` promises does not rest on it.
-- Relations that rest on themselves.
use Rattle.std.specs.Prelude.{ℕ, List, Contains}
use Rattle.util_digraph.specs.declared.graph.Arrow.{Arrow}
use Rattle.util_digraph.specs.Grouping.{LeadsOn}
use Rattle.rules.specs.declared.item_links.Links.{Links}

-- the head and some relation of the body lead to each other
pub record IsCrossed (arrows : List Arrow) (link : Links) : Type 0 where
  pub relation : ℕ
  pub in_body : Contains link.body.items relation
  pub forth : LeadsOn arrows link.head relation
  pub back : LeadsOn arrows relation link.head
