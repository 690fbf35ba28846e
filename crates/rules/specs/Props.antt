-- This crate's own: what `run` promises does not rest on it.
-- What a rule set says of its numbers is a proposition, so it may be a ghost field.
use Rattle.std.specs.Prelude.{ℕ, Bool, List, [], ◌∷◌}
use denote.Struct.Props as logic
use Rattle.rules_clauses.specs.declared.numbered.Part.{Part}
use Rattle.rules_clauses.specs.declared.numbered.Part.TheVariants as parts
use Rattle.rules_clauses.specs.declared.numbered.Atom.{Atom}
use Rattle.rules_clauses.specs.declared.numbered.Span.{Span}
use Rattle.rules.specs.declared.rule_set.Keywords.{Keywords}
use Rattle.statement.specs.Clause as said
use Rattle.rules_clauses.specs.Store.{Data, AreFull}
use Rattle.rules_clauses.specs.Adding.{HasVariables, IsSorted, AreSorted}
use Rattle.rules_clauses.specs.Marks.{IsInside, AreInside}
use Rattle.rules.specs.Drafts.{Numbered}
use Rattle.rules.specs.RuleSets.{AreWhole, IsSound}

pub Relation-set : IsSet said.Relation
Relation-set = Prim.hlevel logic.props

pub IsSorted-prop : (d : Data) (from : ℕ) (p : Part) → IsProp (IsSorted d from p)
IsSorted-prop d from (parts.Variable v) = Prim.hlevel logic.props
IsSorted-prop d from (parts.Constant s) = Prim.hlevel logic.props
IsSorted-prop d from (parts.List s n) = Prim.hlevel logic.props

pub AreSorted-prop : (d : Data) (from : ℕ) (ps : List Part) → IsProp (AreSorted d from ps)
AreSorted-prop d from [] = Prim.hlevel logic.props
AreSorted-prop d from (p ∷ ps) = Prim.hlevel (IsSorted-prop d from p, AreSorted-prop d from ps, logic.props)

pub AreFull-prop : (ps : List Part) → IsProp (AreFull ps)
AreFull-prop [] = Prim.hlevel logic.props
AreFull-prop (parts.Variable v ∷ ps) = AreFull-prop ps
AreFull-prop (parts.Constant s ∷ ps) = AreFull-prop ps
AreFull-prop (parts.List s n ∷ ps) = Prim.hlevel (AreFull-prop ps, logic.props)

pub IsInside-prop : (from : ℕ) (d : Data) (a : Atom) → IsProp (IsInside from d a)
IsInside-prop from d a = Prim.hlevel (AreSorted-prop, AreFull-prop, logic.props)

pub AreInside-prop : (from : ℕ) (d : Data) (ns : List ℕ) → IsProp (AreInside from d ns)
AreInside-prop from d [] = Prim.hlevel logic.props
AreInside-prop from d (n ∷ ns) = Prim.hlevel (IsInside-prop, AreInside-prop from d ns, logic.props)

pub HasVariables-prop : (d : Data) (place : Span) → IsProp (HasVariables d place)
HasVariables-prop d place = Prim.hlevel logic.props

pub AreWhole-prop : (d : Data) (ns : List Numbered) → IsProp (AreWhole d ns)
AreWhole-prop d [] = Prim.hlevel logic.props
AreWhole-prop d (n ∷ ns) = Prim.hlevel (IsInside-prop, AreInside-prop, HasVariables-prop, AreWhole-prop d ns, logic.props)

pub IsSound-prop : (d : Data) (ns : List Numbered) (fixed : List Bool) (order : List ℕ) (k : Keywords) → IsProp (IsSound d ns fixed order k)
IsSound-prop d ns fixed order k = Prim.hlevel (Relation-set, AreWhole-prop, logic.props)

pub ruleset rule_props = (IsSound-prop, logic.props)
