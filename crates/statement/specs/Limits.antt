-- Which limit of the instantiation is passed first, if one is.
use Rattle.std.specs.Prelude.{ℕ, zero, Bool, true, false, not, ◌||◌, ◌+◌, nat_lt, List, [], ◌∷◌, length, filter, Option, Some, None}
use Rattle.statement.specs.Tree.{Tree, text}
use Rattle.statement.specs.Clause.{Atom, Alternative, Relation, tree_of}
use Rattle.statement.specs.Dependence.{is_fixed}
use Rattle.statement.specs.Order.{relations_in_order}
use Rattle.statement.specs.declared.excess.Excess.{Excess}
use Rattle.statement.specs.declared.excess.Excess.TheVariants.{Base, Inputs, Instances, Text}
use Rattle.statement.specs.declared.width.Width.{Width}
use Rattle.statement.specs.Most.{Limits, limits_in}
use Rattle.statement.specs.Listing.{Listing, heads, kept_of_relation, list_relation, with_atoms, context_atoms, fixed_listing, role_list, base_list, input_list}

abbrev pub or_excess : Option Excess → Option Excess → Option Excess
or_excess (Some e) other = Some e
or_excess None other = other

abbrev pub where_true : Bool → Excess → Option Excess
where_true true e = Some e
where_true false e = None

abbrev pub has_long_text : ℕ → List Atom → Bool
has_long_text n [] = false
has_long_text n (x ∷ xs) = nat_lt n (length (text (tree_of x))) || has_long_text n xs

-- the first limit that the relations pass in turn: at each one the number of instances so far, with
-- its own, and then the text of a head of its own
abbrev pub first_excess : Limits → List Alternative → Listing → List Relation → Option Excess
first_excess most rules g [] = None
first_excess most rules g (p ∷ ps) =
    let more = list_relation rules g p in
    let new = heads (kept_of_relation rules g.atoms p zero rules) in
    or_excess (where_true (nat_lt most.instances (length more.kept)) Instances)
    (or_excess (where_true (has_long_text most.text new) Text) (first_excess most rules more ps))

abbrev pub count_inputs : List Alternative → List Tree → ℕ
count_inputs rules [] = 0
count_inputs rules (r ∷ rs) = length (input_list rules r) + count_inputs rules rs

-- the fixed relations in order, then the base propositions, then the inputs, then the other relations
abbrev pub excess_by : Limits → List Alternative → Option Excess
excess_by most rules =
    let fixed = fixed_listing rules in
    or_excess (first_excess most rules (record { atoms = []; kept = [] }) (filter (λ p. is_fixed rules p) (relations_in_order rules)))
    (or_excess (where_true (nat_lt most.base (length (base_list rules))) Base)
    (or_excess (where_true (nat_lt most.inputs (count_inputs rules (role_list rules))) Inputs)
    (first_excess most rules (record { atoms = with_atoms fixed.atoms (context_atoms fixed.atoms); kept = fixed.kept })
    (filter (λ p. not (is_fixed rules p)) (relations_in_order rules)))))

abbrev pub excess_in : Width → List Alternative → Option Excess
excess_in width rules = excess_by (limits_in width) rules
