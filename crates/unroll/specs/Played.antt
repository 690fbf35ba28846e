-- This crate's own: what `run` promises does not rest on it.
-- Which items are played.
use Rattle.std.specs.Prelude.{Bool, not, ◌||◌, List, filter}
use Rattle.statement.specs.Tree.{Tree}
use Rattle.rules_relations.specs.Asking.{heads_it}
use Rattle.meaning.specs.Extension.{base_relation, input_relation}
use Rattle.unroll_writer.specs.declared.written.Bounds.{Bounds}
use Rattle.unroll_writer.specs.declared.written.Bounds.TheVariants.{AsStated, Tightened}

-- the item states which propositions there are, or which moves
abbrev pub heads_a_range : Tree → Bool
heads_a_range t = heads_it base_relation t || heads_it input_relation t

-- the items that state neither
abbrev pub unranged : List Tree → List Tree
unranged items = filter (λ t. not (heads_a_range t)) items

-- all items, and where what is stated of `base` and `input` is cut to what play can come to, those that state neither
abbrev pub played_items : Bounds → List Tree → List Tree
played_items AsStated items = items
played_items Tightened items = unranged items
