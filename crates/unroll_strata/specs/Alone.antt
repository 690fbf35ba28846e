-- This crate's own: what `run` promises does not rest on it.
-- What is tested of own relations, of the items that are found for them, and of those that are written.
use Rattle.std.specs.Prelude.{Bool, not, ◌&&◌, ◌||◌, List}
use Rattle.std.specs.List.{list_any}
use Rattle.statement.specs.Tree.{Tree}
use Rattle.statement.specs.Clause.{Relation, is_variable}
use Rattle.statement.specs.Dependence.{is_among, is_distinct, is_moving}
use Rattle.rules_relations.specs.Asking.{asked_relations}
use Rattle.meaning.specs.Extension.{base_relation}
use Rattle.unroll_strata.specs.Steps.{heads_one}
use Rattle.unroll_strata.specs.Founded.{next_relation}

-- neither `distinct` nor one of those that may be asked
abbrev pub is_stray : List Relation → Relation → Bool
is_stray asked p = not (is_distinct p) && not (is_among p asked)

-- the item heads a relation of the first list, and asks one that is not of the second
abbrev pub strays : List Relation → List Relation → Tree → Bool
strays heads asked t = heads_one heads t && list_any (is_stray asked) (asked_relations t)

-- a relation that can't be own: it is none of those below, or the rules give it a meaning, or its name is a variable
abbrev pub is_unfit : List Relation → Relation → Bool
is_unfit below p = not (is_among p below) || (is_moving p || (is_distinct p || is_variable p.word))

-- what is below says what states can have, or what comes next
abbrev pub says_states : List Relation → Bool
says_states below = is_among base_relation below || is_among next_relation below
