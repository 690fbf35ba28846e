-- This crate's own: what `run` promises does not rest on it.
-- Ways by which a relation rests on itself through a negated atom.
use Rattle.std.specs.Prelude.{◌≡◌, Bool, true, false, List, [], ◌∷◌}
use Rattle.statement.specs.Tree.{Tree}
use Rattle.statement.specs.Clause.{Relation, relation_of}
use Rattle.statement.specs.Items.{item_head}
use Rattle.statement.specs.Dependence.{is_among}
use Rattle.diagnose_explain.specs.Ways.{is_chain, ends_with}
use Rattle.unroll_strata.specs.Numbering.{negated_relations}

-- the first of the steps is one of some relations
abbrev pub begins_among : List Relation → List Relation → Bool
begins_among some [] = false
begins_among some (p ∷ ps) = is_among p some

-- each of the steps leads to the next
abbrev pub are_chained : List Tree → List Relation → Bool
are_chained items [] = true
are_chained items (p ∷ ps) = is_chain items p ps

-- the item's body negates the first relation, each leads to the next, and the last is the item's own
pub record IsWayThroughNegation (items : List Tree) (t : Tree) (steps : List Relation) : Type 0 where
  pub first : begins_among (negated_relations t) steps ≡ true
  pub chain : are_chained items steps ≡ true
  pub last : ends_with (relation_of (item_head t)) steps ≡ true
