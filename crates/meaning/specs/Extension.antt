-- This crate's own: what `run` promises does not rest on it.
-- Rules of which some relations are stated in another way, and to which others are added that they say nothing of.
use Rattle.std.specs.Prelude.{◌≡◌, ◌⊎◌, Bool, true, false, List}
use Rattle.statement.specs.Tree.{Tree}
use Rattle.statement.specs.Words.{w_base, w_input, w_init, w_next, w_legal}
use Rattle.statement.specs.Clause.{Atom, Literal, Alternative, Relation, relation_of, atom_of}
use Rattle.statement.specs.Dependence.{IsAmong, IsFixed, Depends, DependsDirectly, is_distinct}
use Rattle.statement.specs.Meaning.{StateOfTerms, Joint, nothing, nobody, atom1, atom2, IsRight, IsDerived, Holds, HoldsAlways, IsRole, IsBase, IsInput, IsWithinBase, IsWithinInput}
use Rattle.meaning.specs.Kept.{Keeps, HeadsKept}
use Rattle.meaning.specs.Derivable.{IsDerivable}
use Rattle.meaning.specs.Possible.{IsStated, is_play}

-- some rule has the relation in its body
abbrev pub IsAsked : List Alternative → Relation → Type 0
IsAsked rules p = (rule : Alternative) × IsAmong rule rules × ((l : Literal) × IsAmong l rule.body × (relation_of (atom_of l) ≡ p))

-- no rule has the relation as its head or in its body, and it is no word by which play goes
abbrev pub IsUnspoken : List Alternative → Relation → Type 0
IsUnspoken rules p = (IsStated rules p → ⊥) × (IsAsked rules p → ⊥) × (is_play p ≡ false)

-- Own relations are stated in another way: they rest on own ones alone and are fixed, and what holds of them is closed under the rules, and
-- has derivations by them.
pub record AreFounded (rules out : List Alternative) (own : Relation → Bool) : Type 0 where
  pub below : (rule : Alternative) → IsAmong rule rules → own (relation_of rule.head) ≡ true
      → (l : Literal) → IsAmong l rule.body → is_distinct (relation_of (atom_of l)) ≡ false → own (relation_of (atom_of l)) ≡ true
  pub fixed : (p : Relation) → own p ≡ true → IsFixed out p
  pub closed : (x : Atom) → own (relation_of x) ≡ true → IsDerived rules (IsRight nothing nobody (HoldsAlways out)) x → HoldsAlways out x
  pub founded : (x : Atom) → own (relation_of x) ≡ true → HoldsAlways out x → IsDerivable rules nothing nobody (HoldsAlways out) x

-- Own relations are stated in another way, and what holds of them is what their rules derive. What holds is closed under these, and so is what
-- may hold; what holds is derivable by them, if so is all that its relation rests on; and where an own relation is fixed, so is what its rules
-- ask.
pub record IsAnswered (rules out : List Alternative) (own : Relation → Bool) : Type 0 where
  pub closed : (S : StateOfTerms) (J : Joint) → IsWithinBase out S → IsWithinInput out J → (x : Atom) → own (relation_of x) ≡ true
      → IsDerived rules (IsRight S J (Holds out S J)) x → Holds out S J x
  pub comes : (x : Atom) → own (relation_of x) ≡ true → IsDerived rules (Keeps out (HeadsKept out)) x → HeadsKept out x
  pub founded : (S : StateOfTerms) (J : Joint) (x : Atom) → own (relation_of x) ≡ true → Holds out S J x
      → ((y : Atom) → Depends out (relation_of x) (relation_of y) → IsAsked rules (relation_of y) → Holds out S J y
      → IsDerivable rules S J (Holds out S J) y)
      → IsDerivable rules S J (Holds out S J) x
  pub still : (p q : Relation) → own p ≡ true → IsFixed out p → DependsDirectly rules p q → IsFixed out q

-- each rule of a relation that is not own is there, and all others are of relations of which the rules say nothing
pub record IsRewriting (rules out : List Alternative) (own : Relation → Bool) : Type 0 where
  pub has : (rule : Alternative) → IsAmong rule rules → own (relation_of rule.head) ≡ false → IsAmong rule out
  pub more : (rule : Alternative) → IsAmong rule out → own (relation_of rule.head) ≡ false → IsAmong rule rules ⊎ IsUnspoken rules (relation_of rule.head)
  pub stated : IsAnswered rules out own

abbrev pub base_relation : Relation
base_relation = record { word = w_base; arity = 1 }

abbrev pub input_relation : Relation
input_relation = record { word = w_input; arity = 2 }

-- Where the rules state no `base`, whatever may come by the others is one of their base propositions; and where they state no `input`,
-- whatever may be legal for a role is an input of it.
pub record IsClosed (rules out : List Alternative) : Type 0 where
  pub base : (IsStated rules base_relation → ⊥) → (p : Tree) → HeadsKept out (atom1 w_init p) ⊎ HeadsKept out (atom1 w_next p) → IsBase out p
  pub inputs : (IsStated rules input_relation → ⊥) → (r m : Tree) → IsRole out r → HeadsKept out (atom2 w_legal r m) → IsInput out r m
