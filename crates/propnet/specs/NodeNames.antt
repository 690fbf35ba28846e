-- This crate's own: what `run` promises does not rest on it.
-- The nodes of a network in their order, by the tables of kinds and of kept instances.
use Rattle.std.specs.Prelude.{ℕ, suc, Bool, true, false, not, ◌&&◌, ◌==◌, List, [], ◌∷◌, ◌++◌, length, map, if◌then◌else◌, slice_index_or}
use Rattle.std.specs.List.{list_any, flat_map, range_with_len}
use Rattle.statement.specs.declared.kind.Kind.{Kind}
use Rattle.statement.specs.declared.kind.Kind.TheVariants.{Fixed, Now, Does, Next, Legal, Goal, Terminal, Other}
use Rattle.statement.specs.Kept.{Kept}
use Rattle.statement.specs.declared.node_name.Name.{Name}
use Rattle.statement.specs.declared.node_name.Name.TheVariants.{Base, Input, Not, And, View, Transition}

abbrev pub kind_of_atom : List Kind → ℕ → Kind
kind_of_atom kinds a = slice_index_or kinds a Other

abbrev pub is_fixed_kind : Kind → Bool
is_fixed_kind Fixed = true
is_fixed_kind (Now p) = false
is_fixed_kind (Does r m) = false
is_fixed_kind (Next p) = false
is_fixed_kind (Legal r m) = false
is_fixed_kind (Goal r v) = false
is_fixed_kind Terminal = false
is_fixed_kind Other = false

-- a kept instance has an and gate where its head is not of a fixed relation
abbrev pub has_gate : List Kind → Kept → Bool
has_gate kinds k = not (is_fixed_kind (kind_of_atom kinds k.head))

-- the places of the and gates of the atom, where the first instance has place n
abbrev pub gates_from : ℕ → List Kind → List Kept → ℕ → List ℕ
gates_from n kinds [] a = []
gates_from n kinds (k ∷ ks) a =
    let rest = gates_from (suc n) kinds ks a in if has_gate kinds k && (k.head == a) then n ∷ rest else rest

abbrev pub gates_of_atom : List Kind → List Kept → ℕ → List ℕ
gates_of_atom kinds kept a = gates_from 0 kinds kept a

abbrev pub negates : ℕ → Kept → Bool
negates a k = list_any (λ (l : ℕ × Bool). l.1 && (l.0 == a)) k.body

-- an instance with an and gate negates the atom
abbrev pub is_negated : List Kind → List Kept → ℕ → Bool
is_negated kinds kept a = list_any (λ (k : Kept). has_gate kinds k && negates a k) kept

-- it has a view where it has and gates
abbrev pub has_view : List Kind → List Kept → ℕ → Bool
has_view kinds kept a = not (length (gates_of_atom kinds kept a) == 0)

-- the nodes of an atom: its and gates, its view, and its not gate
abbrev pub atom_names : List Kind → List Kept → ℕ → List Name
atom_names kinds kept a =
    map And (gates_of_atom kinds kept a)
    ++ ((if has_view kinds kept a then View a ∷ [] else []) ++ (if is_negated kinds kept a then Not a ∷ [] else []))

-- the base propositions, and the inputs by role
abbrev pub base_names : ℕ → List Name
base_names base = map Base (range_with_len 0 base)

abbrev pub role_names : ℕ → ℕ → List Name
role_names r inputs = map (Input r) (range_with_len 0 inputs)

abbrev pub input_names : ℕ → List ℕ → List Name
input_names r [] = []
input_names r (n ∷ ns) = role_names r n ++ input_names (suc r) ns

-- all nodes, where there are so many base propositions, and so many inputs of each role
abbrev pub node_names : ℕ → List ℕ → List Kind → List Kept → List Name
node_names base inputs kinds kept =
    ((base_names base ++ input_names 0 inputs) ++ flat_map (atom_names kinds kept) (range_with_len 0 (length kinds)))
    ++ map Transition (range_with_len 0 base)
