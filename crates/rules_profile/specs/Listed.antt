-- This crate's own: what `run` promises does not rest on it.
-- What the list of relations, the ranks, the names and the roles have.
use Rattle.std.specs.Prelude.{true, false, ◌≡◌, ◌≤◌, List, [], ◌∷◌, length}
use Rattle.std.specs.declared.cmp.Ordering.TheVariants.{Less}
use Rattle.statement.specs.Tree.{Tree}
use Rattle.statement.specs.Clause.{Atom, Literal, Alternative, Relation, relation_of, atom_of}
use Rattle.statement.specs.Dependence.{IsAmong}
use Rattle.statement.specs.RuleLimits.{most_roles}
use Rattle.statement.specs.Items.{is_constant, is_connective, is_term, are_terms, alternatives}
use Rattle.statement.specs.Order.{relation_cmp}
use Rattle.statement.specs.Profile.{roles}
use Rattle.statement.specs.Safety.{variables}

-- each relation stands before all that are behind it: fixed ones first, then by rank, by the bytes
-- of the name, and by the number of arguments
abbrev pub RisesStrictly : List Alternative → List Relation → Type 0
RisesStrictly rules [] = Unit {0}
RisesStrictly rules (p ∷ ps) = ((q : Relation) → IsAmong q ps → relation_cmp rules p q ≡ Less) × RisesStrictly rules ps

-- no relation stands twice
abbrev pub RelationsOnce : List Relation → Type 0
RelationsOnce [] = Unit {0}
RelationsOnce (p ∷ ps) = (IsAmong p ps → ⊥) × RelationsOnce ps

-- the relation heads an alternative
pub record HeadsSome (rules : List Alternative) (p : Relation) : Type 0 where
  pub rule : Alternative
  pub is_rule : IsAmong rule rules
  pub heads : relation_of rule.head ≡ p

pub record IsOrderOfHeads (rules : List Alternative) (ps : List Relation) : Type 0 where
  pub rising : RisesStrictly rules ps
  pub once : RelationsOnce ps
  pub heads_only : (p : Relation) → IsAmong p ps → HeadsSome rules p
  pub all_heads : (p : Relation) → HeadsSome rules p → IsAmong p ps

-- an atom of lawful names
pub record IsLawfulAtom (a : Atom) : Type 0 where
  pub constant : is_constant a.word ≡ true
  pub no_connective : is_connective a.word ≡ false
  pub terms : are_terms a.terms ≡ true

-- a role is a term of lawful names, without variables
pub record IsLawfulRole (r : Tree) : Type 0 where
  pub term : is_term r ≡ true
  pub no_variable : variables r ≡ []

-- all that an accepted list of items speaks of has lawful names, and there is a role and there are no more than the limit
pub record HasLawfulNames (items : List Tree) : Type 0 where
  pub heads : (rule : Alternative) → IsAmong rule (alternatives items) → IsLawfulAtom rule.head
  pub bodies : (rule : Alternative) → IsAmong rule (alternatives items) → (l : Literal) → IsAmong l rule.body → IsLawfulAtom (atom_of l)
  pub are_roles : (r : Tree) → IsAmong r (roles items) → IsLawfulRole r
  pub some_role : 1 ≤ length (roles items)
  pub few_roles : length (roles items) ≤ most_roles
