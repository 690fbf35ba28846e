-- This crate's own: what `run` promises does not rest on it.
-- What the names of nodes stand for: the numbers in them are places in the lists of the rules.
use Rattle.std.specs.Prelude.{List, [], slice_index_or}
use Rattle.statement.specs.Tree.{no_trees}
use Rattle.statement.specs.Clause.{Alternative}
use Rattle.statement.specs.Listing.{Instance, listing, role_list, base_list, input_list}
use Rattle.statement.specs.Played.{nth_tree}
use Rattle.statement.specs.declared.node_name.Name.{Name}
use Rattle.statement.specs.declared.node_name.Name.TheVariants.{Base, Input, Not, And, View, Transition}
use Rattle.meaning.specs.Gates.{atom_at}
use Rattle.statement.specs.Nodes.{NetNode, base, input, conjunction, view, negation, transition}

-- an instance that is at no place
abbrev pub no_instance : Instance
no_instance = record { place = 0; head = record { word = []; terms = no_trees }; body = [] }

abbrev pub meant : List Alternative → Name → NetNode
meant rules (Base p) = base (nth_tree (base_list rules) p)
meant rules (Input r m) = input (nth_tree (role_list rules) r) (nth_tree (input_list rules (nth_tree (role_list rules) r)) m)
meant rules (Not a) = negation (atom_at (listing rules).atoms a)
meant rules (And i) = conjunction (slice_index_or (listing rules).kept i no_instance)
meant rules (View a) = view (atom_at (listing rules).atoms a)
meant rules (Transition p) = transition (nth_tree (base_list rules) p)
