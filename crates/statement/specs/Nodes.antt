-- The nodes of the network of a set of rules, by what they stand for.
use Rattle.std.specs.Prelude.{◌≡◌, Bool, false, not, ◌&&◌, List, ◌++◌, map, filter, IsPermutation}
use Rattle.std.specs.List.{flat_map, list_any}
use Rattle.statement.specs.Tree.{Tree}
use Rattle.statement.specs.Clause.{Atom, Literal, positive, negative, atom_eq, Alternative, relation_of}
use Rattle.statement.specs.Dependence.{is_fixed}
use Rattle.statement.specs.Listing.{Instance, is_atom_in, heads, other_part, listing, role_list, base_list, input_list}

-- what a node stands for: a base proposition, an input of a role, the body of a kept instance (an and gate), an atom that heads such
-- instances, the negation of an atom (a not gate), or a base proposition after the turn
pub data NetNode : Type 0 where
  base : Tree → NetNode
  input : Tree → Tree → NetNode
  conjunction : Instance → NetNode
  view : Atom → NetNode
  negation : Atom → NetNode
  transition : Tree → NetNode

-- the base propositions in printed order, and the inputs by role and then in printed order
abbrev pub sources : List Alternative → List NetNode
sources rules = map base (base_list rules) ++ flat_map (λ r. map (λ m. input r m) (input_list rules r)) (role_list rules)

-- the kept instances whose heads may change from state to state
abbrev pub gated : List Alternative → List Instance
gated rules = other_part rules (listing rules).kept

abbrev pub is_negative_of : Atom → Literal → Bool
is_negative_of x (positive y) = false
is_negative_of x (negative y) = atom_eq x y

-- the atom may change from state to state, and one of the instances negates it
abbrev pub is_negated_in : List Alternative → List Instance → Atom → Bool
is_negated_in rules is x = not (is_fixed rules (relation_of x)) && list_any (λ (i : Instance). list_any (is_negative_of x) i.body) is

-- a node for each of these instances, for each of their heads, for each atom that one of them negates, and for each base
-- proposition after the turn
abbrev pub inner_nodes : List Alternative → List NetNode
inner_nodes rules =
    map conjunction (gated rules)
    ++ (map view (filter (λ x. is_atom_in x (heads (gated rules))) (listing rules).atoms)
    ++ (map negation (filter (is_negated_in rules (gated rules)) (listing rules).atoms) ++ map transition (base_list rules)))

-- these are what the nodes of a network stand for, by number: base propositions and inputs in their order, and behind them all others
-- in any order
pub record AreNodesOf (rules : List Alternative) (nodes : List NetNode) : Type 0 where
  pub behind : List NetNode
  pub all : nodes ≡ sources rules ++ behind
  pub same : IsPermutation (inner_nodes rules) behind
