-- This crate's own: what `run` promises does not rest on it.
-- Items of layers, beside those that were found for own relations.
use Rattle.std.specs.Prelude.{ℕ, Bool, true, false, not, cond, ◌&&◌, ◌==◌, List, [], ◌∷◌, filter, length}
use Rattle.std.specs.List.{list_all, list_any}
use Rattle.statement.specs.Tree.{Tree, tree_eq}
use Rattle.statement.specs.Clause.{Atom, Relation, relation_of, atom_eq}
use Rattle.statement.specs.Items.{atom_in, item_head}
use Rattle.rules_relations.specs.Asking.{heads_it, some_item}
use Rattle.meaning.specs.Names.{name_in}
use Rattle.unroll_layers.specs.Naming.{in_layer, are_unfit}
use Rattle.unroll_layers.specs.Kinds.{is_plain, is_own_atom, body_of, heads_one, is_unclear, is_of_kind}

-- a test holds of each tree of one list and that at its place in another, which has as many
abbrev pub pairwise : (Tree → Tree → Bool) → List Tree → List Tree → Bool
pairwise test [] [] = true
pairwise test [] (u ∷ us) = false
pairwise test (t ∷ ts) [] = false
pairwise test (t ∷ ts) (u ∷ us) = test t u && pairwise test ts us

-- and so of each tree of one list and that at its place in another, which has one more, and another test holds of this
abbrev pub pairwise_and_last : (Tree → Tree → Bool) → (Tree → Bool) → List Tree → List Tree → Bool
pairwise_and_last test last [] [] = false
pairwise_and_last test last [] (u ∷ []) = last u
pairwise_and_last test last [] (u ∷ v ∷ us) = false
pairwise_and_last test last (t ∷ ts) [] = false
pairwise_and_last test last (t ∷ ts) (u ∷ us) = test t u && pairwise_and_last test last ts us

-- an atom of an own relation, under the name that this has in a layer
abbrev pub renamed : List Relation → List (List ℕ) → Atom → Atom
renamed own names x = record { word = name_in own names (relation_of x); terms = x.terms }

-- the tree is the atom in a layer
abbrev pub is_renamed : List Relation → List (List ℕ) → Atom → Tree → Bool
is_renamed own names x u = atom_eq (atom_in u) (renamed own names x)

-- the second literal is the first in a layer: an own atom is one of the layer, and all else is the same
abbrev pub is_literal_of : List Relation → List (List ℕ) → Tree → Tree → Bool
is_literal_of own names t u = cond (is_own_atom own t) (is_plain u && is_renamed own names (atom_in t) u) (tree_eq t u)

-- the second item is the first in a layer, by the names of this layer and of the one before it
abbrev pub is_item_of : List Relation → List (List ℕ) → List (List ℕ) → Tree → Tree → Bool
is_item_of own names before t u =
    atom_eq (item_head u) (renamed own names (item_head t)) && pairwise (is_literal_of own before) (body_of t) (body_of u)

-- the written items of a relation in a layer are those that were found, in the layer
abbrev pub is_layer : List Relation → Relation → List (List ℕ) → List (List ℕ) → List Tree → List Tree → Bool
is_layer own p names before found written = pairwise (is_item_of own names before) found (filter (heads_it (in_layer own names p)) written)

-- the one literal of a body is the head under another name
abbrev pub is_carried_body : List ℕ → Atom → List Tree → Bool
is_carried_body w x [] = false
is_carried_body w x (u ∷ []) = is_plain u && atom_eq (atom_in u) (record { word = w; terms = x.terms })
is_carried_body w x (u ∷ v ∷ vs) = false

-- the item says that what it heads holds where the same does under another name
abbrev pub is_carrying : List ℕ → Tree → Bool
is_carrying w t = is_carried_body w (item_head t) (body_of t)

-- where layers keep those before, one that carries the layer before stands behind the items that were found
abbrev pub is_next : List Relation → Relation → Bool → List (List ℕ) → List (List ℕ) → List Tree → List Tree → Bool
is_next own p true names before found written =
    pairwise_and_last (is_item_of own names before) (is_carrying (name_in own before p)) found (filter (heads_it (in_layer own names p)) written)
is_next own p false names before found written = is_layer own p names before found written

-- and so in each layer behind one
abbrev pub are_next : List Relation → Relation → Bool → List (List ℕ) → List (List (List ℕ)) → List Tree → List Tree → Bool
are_next own p keeps before [] found written = true
are_next own p keeps before (names ∷ layers) found written =
    is_next own p keeps names before found written && are_next own p keeps names layers found written

-- The items without own atoms are those of the first layer, and those with such are those of each layer behind it.
abbrev pub are_layers : List Relation → Relation → Bool → List (List (List ℕ)) → List Tree → List Tree → Bool
are_layers own p keeps [] found written = true
are_layers own p keeps (names ∷ layers) found written =
    is_layer own p names names (filter (is_of_kind own p false) found) written
    && are_next own p keeps names layers (filter (is_of_kind own p true) found) written

-- the one literal of a body is its head in some layer
abbrev pub is_top_body : List Relation → List (List (List ℕ)) → Atom → List Tree → Bool
is_top_body own layers x [] = false
is_top_body own layers x (u ∷ []) = is_plain u && list_any (λ names. is_renamed own names x u) layers
is_top_body own layers x (u ∷ v ∷ vs) = false

-- the item heads an own relation, and does not say that what is in a layer holds
abbrev pub is_stray_top : List Relation → List (List (List ℕ)) → Tree → Bool
is_stray_top own layers t = heads_one own t && not (is_top_body own layers (item_head t) (body_of t))

-- the tests of all that is found and written, by the names of the layers, which keep those before or do not
abbrev pub passes : Bool → List Relation → List (List (List ℕ)) → List Tree → List Tree → Bool
passes keeps own layers found written =
    not (length layers == 0)
    && (not (are_unfit own layers)
    && (not (some_item (is_unclear own keeps) found)
    && (not (some_item (is_stray_top own layers) written) && list_all (λ p. are_layers own p keeps layers found written) own)))
