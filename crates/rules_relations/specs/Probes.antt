-- This crate's own: what `run` promises does not rest on it.
-- What is looked for in the literals of a body.
use Rattle.std.specs.Prelude.{ℕ, Bool, true, false, cond, not, ◌&&◌, ◌||◌, List, [], ◌∷◌}
use Rattle.statement.specs.Tree.{Tree, Trees}
use Rattle.statement.specs.Clause.{Atom, Literal, positive, negative, relation_of, relation_eq, atom_of}
use Rattle.statement.specs.Safety.{is_binding, variables_in, is_name_in}
use Rattle.rules_relations.specs.declared.probe.Probe.{Probe}
use Rattle.rules_relations.specs.declared.probe.Probe.TheVariants.{Relation, Variable}

-- an atom, or the negation of it
abbrev pub literal_as : Bool → Atom → Literal
literal_as is_negated a = cond is_negated (negative a) (positive a)

abbrev pub literal_of : Bool → List ℕ → Trees → Literal
literal_of is_negated w ts = literal_as is_negated (record { word = w; terms = ts })

-- a positive literal that is no `distinct` has the variable
abbrev pub binds_in : List ℕ → Literal → Bool
binds_in n l = is_binding l && is_name_in n (variables_in (atom_of l).terms)

-- the literal has the relation of this name and number of arguments; or it binds the variable of this name
abbrev pub passes : Probe → List ℕ → ℕ → Literal → Bool
passes Relation w n l = relation_eq (relation_of (atom_of l)) (record { word = w; arity = n })
passes Variable w n l = binds_in w l

-- some literal of the list is what is looked for
abbrev pub some_of : (Literal → Bool) → List Literal → Bool
some_of test [] = false
some_of test (l ∷ ls) = test l || some_of test ls
