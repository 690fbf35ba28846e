-- Inputs and goal values that stand at a place.
use Rattle.std.proofs.Common.{ℕ, zero, suc, ◌<◌, ◌≤◌, ◌≡◌, Bool, true, ◌&&◌, nat_eq, nat_lt, List, [], ◌∷◌, length, map, get_or, sym, ap, ◌∙◌, arith}
use Rattle.std.specs.Prelude.{Vec, slice_index, slice_index_or}
use Rattle.std.specs.List.{list_any}
use Rattle.std.proofs.lemmas.Bool.Decides.{nat_tests}
use Rattle.statement.specs.Printed.{first_place}
use Rattle.rules_clauses.specs.Numbers.{word_at}
use Rattle.ground_terms.specs.declared.naming.Named.{Named}
use Rattle.ground_terms.specs.Vectors.{items_of}
use Rattle.ground_terms.specs.Dropping.{is_input_in}
use Rattle.ground_rows.specs.Contexts.{terms_named}
use Rattle.diagnose_lint.specs.Names.{is_goal_number}
use Rattle.diagnose_lint.specs.Keyed.{is_goal_key}

list_here : {G : Type 0} (vs : List (Vec Named G)) (k : ℕ) (v : Vec Named G) → k < length vs → v ≡ get_or vs k v
    → slice_index_or (map terms_named (items_of vs)) k [] ≡ terms_named v.items
list_here [] k v h e = absurd (let bad : ⊥ = omega (arith, h) in bad)
list_here {G} (u ∷ vs) zero v h e = ap (λ (w : Vec Named G). terms_named w.items) (sym e)
list_here (u ∷ vs) (suc k) v h e = list_here vs k v (omega (arith, h)) e

pub input_is : {G : Type 0} (vs : List (Vec Named G)) (v : Vec Named G) (k role input : ℕ) (roles : List ℕ) (r : Bool) → k < length vs
    → v ≡ get_or vs k v → k ≡ first_place (nat_eq role) roles → r ≡ list_any (nat_eq input) (terms_named v.items)
    → r ≡ is_input_in roles (map terms_named (items_of vs)) role input
input_is vs v k role input roles r h e place is =
    is ∙ ap (list_any (nat_eq input)) (sym (list_here vs k v h e))
    ∙ ap (λ (j : ℕ). list_any (nat_eq input) (slice_index_or (map terms_named (items_of vs)) j [])) place

pub goal_key_is : (words : List (List ℕ)) (key : List ℕ) (word : List ℕ) (r : Bool) → 1 ≤ length key → length key < 2
    → slice_index key 0 < length words → word ≡ word_at words (slice_index key 0) → r ≡ is_goal_number word → r ≡ is_goal_key words key
goal_key_is words [] word r a b less e f = absurd (let bad : ⊥ = omega (arith, a) in bad)
goal_key_is words (s ∷ []) word r a b less e f =
    let within : nat_lt s (length words) ≡ true = grind (arith, less, nat_tests) in
    f ∙ ap is_goal_number e ∙ sym (ap (λ (t : Bool). t && is_goal_number (word_at words s)) within)
goal_key_is words (s ∷ (t ∷ ks)) word r a b less e f = absurd (let bad : ⊥ = omega (arith, b) in bad)
