-- This crate's own: what `run` promises does not rest on it.
-- What an instantiation says by numbers of ways through own atoms.
use Rattle.std.specs.Prelude.{ℕ, ◌≤◌, ◌≡◌, Bool, true, false, List, slice_index_or, []}
use Rattle.statement.specs.Clause.{Alternative, Relation, relation_of}
use Rattle.statement.specs.Dependence.{is_among}
use Rattle.statement.specs.Kept.{Kept}
use Rattle.meaning.specs.Listed.{IsAlternativeAt}
use Rattle.meaning.specs.Layers.{layer_of}
use Rattle.meaning.specs.Names.{name_in}
use Rattle.unroll_layers.specs.Owners.{HasAsking, HasSlots}

-- the alternative at a place is marked
abbrev pub IsMarked : List Bool → ℕ → Type 0
IsMarked marks k = slice_index_or marks k false ≡ true

-- an alternative heads one of these relations
abbrev pub heads_one : List Relation → Alternative → Bool
heads_one ps rule = is_among (relation_of rule.head) ps

-- the relations of one list are in another
abbrev pub IsPartOf : List Relation → List Relation → Type 0
IsPartOf ps qs = (p : Relation) → is_among p ps ≡ true → is_among p qs ≡ true

-- the own relations under the names of a layer
abbrev pub HasLayer : List Relation → List (List ℕ) → List Relation → Type 0
HasLayer own names qs = (p : Relation) → is_among p own ≡ true → is_among (record { word = name_in own names p; arity = p.arity }) qs ≡ true

-- marked alternatives head own relations
abbrev pub MarkTops : List Alternative → (Relation → Bool) → List Bool → Type 0
MarkTops rules own tops = (k : ℕ) (rule : Alternative) → IsAlternativeAt 0 rules k rule → IsMarked tops k → own (relation_of rule.head) ≡ true

-- alternatives that head the relations of layers are marked
abbrev pub MarkLayers : List Alternative → (Relation → Bool) → (ℕ → Relation → List ℕ) → ℕ → List Bool → Type 0
MarkLayers rules own word n layers =
    (k : ℕ) (rule : Alternative) → IsAlternativeAt 0 rules k rule → (j : ℕ) → 1 ≤ j → j ≤ n → (p : Relation) → own p ≡ true
    → relation_of rule.head ≡ layer_of word j p → IsMarked layers k

-- each own relation has an instance that asks one atom, and by the owners of atoms no way is as long as there are layers
pub record IsBoundedIn (rules : List Alternative) (own : Relation → Bool) (word : ℕ → Relation → List ℕ) (n : ℕ) (kept : List Kept) : Type 0 where
  pub tops : List Bool
  pub layers : List Bool
  pub mark_tops : MarkTops rules own tops
  pub mark_layers : MarkLayers rules own word n layers
  pub asking : (p : Relation) → own p ≡ true → HasAsking rules kept p
  pub has_slots : HasSlots tops layers kept n

-- stands where there is no relation
abbrev pub no_relation : Relation
no_relation = record { word = []; arity = 0 }

-- the own relation at a place under its name in a layer
abbrev pub layer_at : List Relation → List (List ℕ) → ℕ → Relation
layer_at own names i = record { word = slice_index_or names i []; arity = (slice_index_or own i no_relation).arity }
