-- This crate's own: what `run` promises does not rest on it.
-- Which atoms of layers are kept in the layers behind theirs, by the numbers of an instantiation.
use Rattle.std.specs.Prelude.{ℕ, suc, ◌≡◌, Bool, false, List, length, Option, slice_index_or}
use Rattle.statement.specs.Clause.{Alternative, Relation}
use Rattle.statement.specs.Dependence.{IsAmong}
use Rattle.statement.specs.Kept.{Kept}
use Rattle.meaning.specs.Listed.{IsAlternativeAt}
use Rattle.unroll_layers.specs.Owners.{IsOf, AsksOnly, owner_of, HasSlots}
use Rattle.unroll_layers.specs.ByNumber.{IsMarked, MarkLayers, IsBoundedIn}

-- the body of the alternative at a place has one literal
abbrev pub HasOneLiteral : List Alternative → ℕ → Type 0
HasOneLiteral rules k = (rule : Alternative) → IsAlternativeAt 0 rules k rule → length rule.body ≡ 1

-- A kept instance carries an atom on: that is all that it asks, by a rule of one literal that is not marked, and the own atom that rests on it
-- rests on the head too.
pub record IsCarrier (rules : List Alternative) (firsts : List Bool) (owners : List (Option ℕ)) (i : Kept) (b : ℕ) : Type 0 where
  pub later : slice_index_or firsts i.alternative false ≡ false
  pub one : HasOneLiteral rules i.alternative
  pub asks : AsksOnly i b
  pub same : owner_of owners i.head ≡ owner_of owners b

-- some kept instance carries the atom on
abbrev pub IsCarried : List Alternative → List Bool → List Kept → List (Option ℕ) → ℕ → Type 0
IsCarried rules firsts kept owners b = (i : Kept) × IsAmong i kept × IsCarrier rules firsts owners i b

-- marked atoms are carried on
abbrev pub MarkCarried : List Alternative → List Bool → List Kept → List (Option ℕ) → List Bool → Type 0
MarkCarried rules firsts kept owners marks = (b : ℕ) → IsMarked marks b → IsCarried rules firsts kept owners b

-- the heads of kept instances of marked alternatives are marked
abbrev pub MarkHeads : List Bool → List Kept → List Bool → Type 0
MarkHeads befores kept marks = (i : Kept) → IsAmong i kept → IsOf befores i → IsMarked marks i.head

-- the heads of kept instances of marked alternatives are carried on
abbrev pub AreCarried : List Alternative → List Bool → List Bool → List Kept → List (Option ℕ) → Type 0
AreCarried rules firsts befores kept owners = (i : Kept) → IsAmong i kept → IsOf befores i → IsCarried rules firsts kept owners i.head

-- slots fit, and what stands in the layers before the last is carried on
pub record HasStack (rules : List Alternative) (tops layers firsts befores : List Bool) (kept : List Kept) (bound : ℕ) : Type 0 where
  pub has_slots : HasSlots tops layers kept bound
  pub carried : AreCarried rules firsts befores kept has_slots.owners

-- the same, with marks for own relations and their layers, of which there is one more than `m`
pub record IsStackedIn (rules : List Alternative) (own : Relation → Bool) (word : ℕ → Relation → List ℕ) (m : ℕ) (kept : List Kept) : Type 0 where
  pub bounded : IsBoundedIn rules own word (suc m) kept
  pub firsts : List Bool
  pub befores : List Bool
  pub mark_firsts : MarkLayers rules own word 1 firsts
  pub mark_befores : MarkLayers rules own word m befores
  pub carried : AreCarried rules firsts befores kept bounded.has_slots.owners
