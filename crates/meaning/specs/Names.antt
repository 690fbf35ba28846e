-- This crate's own: what `run` promises does not rest on it.
-- Names of layers, as lists: for each layer, from the first, the names of the own relations in their order.
use Rattle.std.specs.Prelude.{ℕ, zero, suc, cond, List, [], ◌∷◌, Vec, map, slice_index_or}
use Rattle.statement.specs.Clause.{Relation, relation_eq}

-- the name at the place of a relation; none where it is not there
abbrev pub name_in : List Relation → List (List ℕ) → Relation → List ℕ
name_in [] ws p = []
name_in (q ∷ qs) [] p = []
name_in (q ∷ qs) (w ∷ ws) p = cond (relation_eq p q) w (name_in qs ws p)

-- the name of a relation in a layer, from 1
abbrev pub word_in : List Relation → List (List (List ℕ)) → ℕ → Relation → List ℕ
word_in own names zero p = p.word
word_in own names (suc k) p = name_in own (slice_index_or names k []) p

-- names in memory
abbrev pub names_of : {G H : Type 0} → List (Vec (Vec ℕ G) H) → List (List (List ℕ))
names_of vs = map (λ v. map (λ w. w.items) v.items) vs
