-- This crate's own: what `run` promises does not rest on it.
-- What is tested of own relations and of the names that they have in layers.
use Rattle.std.specs.Prelude.{ℕ, Bool, false, ◌||◌, List, [], ◌∷◌, ◌++◌, Vec, map}
use Rattle.std.specs.List.{list_any}
use Rattle.statement.specs.Clause.{Relation, relation_eq}
use Rattle.statement.specs.Dependence.{is_distinct, is_moving}
use Rattle.meaning.specs.Names.{name_in}

-- names in memory
abbrev pub words_in : {G : Type 0} → List (Vec ℕ G) → List (List ℕ)
words_in ws = map (λ w. w.items) ws

-- an own relation under its name in a layer, where the names of the layer are those of all own relations in their order
abbrev pub in_layer : List Relation → List (List ℕ) → Relation → Relation
in_layer own names p = record { word = name_in own names p; arity = p.arity }

-- the own relations as those of each layer
abbrev pub in_layers : List Relation → List (List (List ℕ)) → List Relation
in_layers own [] = []
in_layers own (names ∷ layers) = map (in_layer own names) own ++ in_layers own layers

-- the rules of the language give it a meaning
abbrev pub has_meaning : Relation → Bool
has_meaning p = is_moving p || is_distinct p

-- one of the list is known, or stands there twice
abbrev pub repeats : (Relation → Bool) → List Relation → Bool
repeats known [] = false
repeats known (p ∷ ps) = known p || repeats (λ q. known q || relation_eq q p) ps

-- the rules of the language give meaning to an own relation or to one of a layer, or two of these are the same
abbrev pub are_unfit : List Relation → List (List (List ℕ)) → Bool
are_unfit own layers =
    list_any has_meaning own || (list_any has_meaning (in_layers own layers) || repeats (λ p. false) (in_layers own layers))
