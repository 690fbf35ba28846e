-- Beside the statement: what `run` promises does not rest on it.
-- Where an atom stands in play, by the numbers of roles, base propositions, inputs and values.
use Rattle.std.specs.Prelude.{ℕ, zero, suc, cond, List, Option, Some, None, decimal}
use Rattle.statement.specs.Tree.{Tree, name, list, Trees, no_trees, tree, name_eq}
use Rattle.statement.specs.Words.{w_true, w_does, w_next, w_legal, w_goal, w_terminal}
use Rattle.statement.specs.Clause.{Atom, Alternative, relation_of}
use Rattle.statement.specs.Dependence.{is_fixed}
use Rattle.statement.specs.declared.kind.Kind.{Kind}
use Rattle.statement.specs.declared.kind.Kind.TheVariants.{Fixed, Now, Does, Next, Legal, Goal, Terminal, Other}
use Rattle.statement.specs.Listing.{role_list, base_list, input_list}
pub use Rattle.statement.specs.GameNumbers.{place_in}

-- the number from 0 to n that is written so, in decimal without a leading zero
abbrev pub value_up_to : ℕ → List ℕ → Option ℕ
value_up_to zero ds = cond (name_eq ds (decimal zero)) (Some zero) None
value_up_to (suc n) ds = cond (name_eq ds (decimal (suc n))) (Some (suc n)) (value_up_to n ds)

abbrev pub value_of : Tree → Option ℕ
value_of (name ds) = value_up_to 100 ds
value_of (list ts) = None

abbrev pub one_number : (ℕ → Kind) → Option ℕ → Kind
one_number make None = Other
one_number make (Some n) = make n

abbrev pub two_numbers : (ℕ → ℕ → Kind) → Option ℕ → Option ℕ → Kind
two_numbers make None o = Other
two_numbers make (Some m) None = Other
two_numbers make (Some m) (Some n) = make m n

-- by its word and its terms, where its relation is not fixed
abbrev pub kind_at : List Alternative → List ℕ → Trees → Kind
kind_at rules w no_trees = cond (name_eq w w_terminal) Terminal Other
kind_at rules w (tree p no_trees) =
    cond (name_eq w w_true) (one_number Now (place_in p (base_list rules)))
    (cond (name_eq w w_next) (one_number Next (place_in p (base_list rules))) Other)
kind_at rules w (tree r (tree m no_trees)) =
    cond (name_eq w w_does) (two_numbers Does (place_in r (role_list rules)) (place_in m (input_list rules r)))
    (cond (name_eq w w_legal) (two_numbers Legal (place_in r (role_list rules)) (place_in m (input_list rules r)))
    (cond (name_eq w w_goal) (two_numbers Goal (place_in r (role_list rules)) (value_of m)) Other))
kind_at rules w (tree r (tree m (tree t ts))) = Other

abbrev pub kind_of : List Alternative → Atom → Kind
kind_of rules x = cond (is_fixed rules (relation_of x)) Fixed (kind_at rules x.word x.terms)
