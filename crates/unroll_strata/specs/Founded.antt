-- This crate's own: what `run` promises does not rest on it.
-- How a game whose turns are steps of derivation shows that what is written of own relations is what is derived of them.
use Rattle.std.specs.Prelude.{ℕ, zero, suc, ◌≡◌, ◌⊎◌, true, false, List}
use Rattle.statement.specs.Tree.{Tree}
use Rattle.statement.specs.Words.{w_true, w_next}
use Rattle.statement.specs.Clause.{Literal, positive, Alternative, Relation, relation_of, atom_of, is_variable}
use Rattle.statement.specs.Dependence.{IsAmong, is_among, is_distinct, is_moving}
use Rattle.statement.specs.Meaning.{atom1}
use Rattle.statement.specs.Listing.{Instance, listing}
use Rattle.meaning.specs.Extension.{base_relation}
use Rattle.unroll_strata.specs.Steps.{based, stepped}

abbrev pub next_relation : Relation
next_relation = record { word = w_next; arity = 1 }

-- Own relations are no words of play, and their rules ask own ones alone. What is written of them, and of all that this asks, stands below,
-- and neither `base` nor `next` does.
pub record StandAlone (own below : List Relation) (rules out : List Alternative) : Type 0 where
  pub own_asked : (rule : Alternative) → IsAmong rule rules → is_among (relation_of rule.head) own ≡ true
      → (l : Literal) → IsAmong l rule.body → is_distinct (relation_of (atom_of l)) ≡ false → is_among (relation_of (atom_of l)) own ≡ true
  pub below_asked : (rule : Alternative) → IsAmong rule out → is_among (relation_of rule.head) below ≡ true
      → (l : Literal) → IsAmong l rule.body → is_distinct (relation_of (atom_of l)) ≡ false → is_among (relation_of (atom_of l)) below ≡ true
  pub own_below : (p : Relation) → is_among p own ≡ true → is_among p below ≡ true
  pub own_still : (p : Relation) → is_among p own ≡ true → is_moving p ≡ false
  pub own_other : (p : Relation) → is_among p own ≡ true → is_distinct p ≡ false
  pub own_constant : (p : Relation) → is_among p own ≡ true → is_variable p.word ≡ false
  pub no_base : is_among base_relation below ≡ false
  pub no_next : is_among next_relation below ≡ false

-- The rules of the game: those that are written below; the same of own relations, as what a state can have; and the rules that derive own
-- atoms, as steps.
pub record IsStepGame (own below : List Relation) (rules out steps : List Alternative) : Type 0 where
  pub taken : (rule : Alternative) → IsAmong rule out → is_among (relation_of rule.head) below ≡ true → IsAmong rule steps
  pub bases : (rule : Alternative) → IsAmong rule out → is_among (relation_of rule.head) own ≡ true → IsAmong (based rule) steps
  pub nexts : (rule : Alternative) → IsAmong rule rules → is_among (relation_of rule.head) own ≡ true → IsAmong (stepped own rule) steps
  pub only : (rule : Alternative) → IsAmong rule steps
      → (IsAmong rule out × (is_among (relation_of rule.head) below ≡ true))
      ⊎ (((r : Alternative) × IsAmong r out × (is_among (relation_of r.head) own ≡ true) × (rule ≡ based r))
      ⊎ ((r : Alternative) × IsAmong r rules × (is_among (relation_of r.head) own ≡ true) × (rule ≡ stepped own r)))

-- the term is in the state of the game after so many turns or fewer: a kept instance brings it there by terms that are there before
abbrev pub IsReached : List Alternative → ℕ → Tree → Type 0
IsReached steps zero t = ⊥
IsReached steps (suc n) t =
    (i : Instance) × IsAmong i (listing steps).kept × (i.head ≡ atom1 w_next t)
    × ((u : Tree) → IsAmong (positive (atom1 w_true u)) i.body → IsReached steps n u)
