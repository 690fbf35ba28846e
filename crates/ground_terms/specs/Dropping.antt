-- This crate's own: what `run` promises does not rest on it.
-- How many atoms have no effect on play, by the numbers of terms.
use Rattle.std.specs.Prelude.{ℕ, Bool, false, not, ◌&&◌, ◌||◌, ◌==◌, nat_eq, List, [], ◌∷◌, ◌≡◌, length, map, filter, slice_index_or, ⊤}
use Rattle.std.specs.List.{list_any}
use Rattle.statement.specs.Tree.{Tree}
use Rattle.statement.specs.Clause.{Alternative}
use Rattle.rules.specs.declared.rule_set.Keywords.{Keywords}
use Rattle.statement.specs.Printed.{first_place}
use Rattle.rules_clauses.specs.Marks.{NumbersBelow}
use Rattle.ground_terms.specs.Keys.{term_at}
use Rattle.util_interner.specs.KeyLists.{key_at}
use Rattle.statement.specs.Listing.{role_list, base_list, input_list}

-- m is an input of the role r, where the lists of inputs stand in the order of the roles
abbrev pub is_input_in : List ℕ → List (List ℕ) → ℕ → ℕ → Bool
is_input_in roles inputs r m = list_any (nat_eq m) (slice_index_or inputs (first_place (nat_eq r) roles) [])

-- the word and part are those of an `init` or `next` outside the base propositions
abbrev pub misses_base_in : Keywords → List ℕ → ℕ → ℕ → Bool
misses_base_in words bases w p = (w == words.init || w == words.next) && not (list_any (nat_eq p) bases)

-- the word and parts are those of a `legal` of no role or outside its inputs
abbrev pub misses_input_in : Keywords → List ℕ → List (List ℕ) → ℕ → ℕ → ℕ → Bool
misses_input_in words roles inputs w r m = (w == words.legal) && not (is_input_in roles inputs r m)

abbrev pub is_dropped_in : Keywords → List ℕ → List ℕ → List (List ℕ) → List ℕ → Bool
is_dropped_in words bases roles inputs [] = false
is_dropped_in words bases roles inputs (w ∷ []) = false
is_dropped_in words bases roles inputs (w ∷ (p ∷ [])) = misses_base_in words bases w p
is_dropped_in words bases roles inputs (w ∷ (r ∷ (m ∷ []))) = misses_input_in words roles inputs w r m
is_dropped_in words bases roles inputs (w ∷ (r ∷ (m ∷ (x ∷ xs)))) = false

abbrev pub dropped_in : List (List ℕ) → Keywords → List ℕ → List ℕ → List (List ℕ) → List ℕ → ℕ
dropped_in keys words bases roles inputs atoms = length (filter (λ n. is_dropped_in words bases roles inputs (key_at keys n)) atoms)

-- the numbers of each list are below n
abbrev pub AreListsBelow : ℕ → List (List ℕ) → Type 0
AreListsBelow n [] = ⊤
AreListsBelow n (ns ∷ nss) = NumbersBelow n ns × AreListsBelow n nss

-- the numbers of base propositions, of roles and of the inputs of each are those of the rules
pub record AreShown (rules : List Alternative) (terms : List Tree) (bases roles : List ℕ) (inputs : List (List ℕ)) : Type 0 where
  pub bases_in : NumbersBelow (length terms) bases
  pub roles_in : NumbersBelow (length terms) roles
  pub inputs_in : AreListsBelow (length terms) inputs
  pub bases_are : map (term_at terms) bases ≡ base_list rules
  pub roles_are : map (term_at terms) roles ≡ role_list rules
  pub inputs_are : map (λ ns. map (term_at terms) ns) inputs ≡ map (input_list rules) (role_list rules)
