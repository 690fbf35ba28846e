-- This crate's own: what `run` promises does not rest on it.
-- The numbers of roles, base propositions and inputs, as places in lists of terms.
use Rattle.std.specs.Prelude.{ℕ, ◌<◌, ◌≡◌, ◌^◌, ◌==◌, cond, List, [], length, map, position, slice_index, slice_index_or, Option, Some, None}
use Rattle.statement.specs.Tree.{Tree}
use Rattle.statement.specs.Clause.{Alternative}
use Rattle.rules.specs.declared.rule_set.Keywords.{Keywords}
use Rattle.statement.specs.declared.kind.Kind.{Kind}
use Rattle.statement.specs.declared.kind.Kind.TheVariants.{Now, Does, Next, Legal, Goal, Terminal, Other}
use Rattle.rules_clauses.specs.Marks.{NumbersBelow}
use Rattle.ground_terms.specs.Keys.{term_at}
use Rattle.statement.specs.Kinds.{one_number, two_numbers}
use Rattle.statement.specs.Listing.{role_list, base_list, input_list}

abbrev pub inputs_at : List (List ℕ) → ℕ → List ℕ
inputs_at inputs k = slice_index_or inputs k []

-- the terms in their order are the roles, the base propositions, and the inputs of each role; there are few
pub record AreTables (rules : List Alternative) (terms : List Tree) (roles base : List ℕ) (inputs : List (List ℕ)) : Type 0 where
  pub roles_are : map (term_at terms) roles ≡ role_list rules
  pub base_are : map (term_at terms) base ≡ base_list rules
  pub each : length inputs ≡ length roles
  pub inputs_are : (k : ℕ) → k < length roles → map (term_at terms) (inputs_at inputs k) ≡ input_list rules (term_at terms (slice_index roles k))
  pub roles_within : NumbersBelow (length terms) roles
  pub base_within : NumbersBelow (length terms) base
  pub inputs_within : (k : ℕ) → NumbersBelow (length terms) (inputs_at inputs k)
  pub few_roles : length roles < 2 ^ 32
  pub few_base : length base < 2 ^ 32
  pub few_inputs : (k : ℕ) → length (inputs_at inputs k) < 2 ^ 32

-- the place of a number, if it stands there
abbrev pub place_of : ℕ → List ℕ → Option ℕ
place_of n ms = position (λ m. n == m) ms

-- its place among the inputs of a role
abbrev pub input_place : List (List ℕ) → Option ℕ → ℕ → Option ℕ
input_place inputs None n = None
input_place inputs (Some k) n = place_of n (inputs_at inputs k)

-- the kind of an atom without terms, with one and with two, by the numbers of its word and its terms
abbrev pub kind_without : Keywords → ℕ → Kind
kind_without words w = cond (w == words.terminal) Terminal Other

abbrev pub kind_with_one : Keywords → ℕ → Option ℕ → Kind
kind_with_one words w place = cond (w == words.now) (one_number Now place) (cond (w == words.next) (one_number Next place) Other)

abbrev pub kind_with_two : Keywords → ℕ → Option ℕ → Option ℕ → Option ℕ → Kind
kind_with_two words w role input value =
    cond (w == words.does) (two_numbers Does role input)
    (cond (w == words.legal) (two_numbers Legal role input) (cond (w == words.goal) (two_numbers Goal role value) Other))
