-- This crate's own: what `run` promises does not rest on it.
-- Which ground atoms hold where relations may depend on themselves: derivations of any height, and negation by failure.
use Rattle.std.specs.Prelude.{ℕ, zero, suc, false, ◌≡◌, ◌<◌, ◌≤◌, ◌↔◌, List}
use Rattle.statement.specs.Clause.{Atom, Literal, positive, negative, Alternative, Relation, relation_of, atom_of}
use Rattle.statement.specs.Dependence.{IsAmong, is_distinct}
use Rattle.statement.specs.Meaning.{StateOfTerms, Joint, source_of, RightAs, IsDerivedIn}

-- a ground literal is right, where H tells which ordinary atoms hold, and N which hold behind a `not`
abbrev pub IsRightOver : StateOfTerms → Joint → (Atom → Type 0) → (Atom → Type 0) → Literal → Type 0
IsRightOver S J N H (positive x) = RightAs S J (H x) (source_of x)
IsRightOver S J N H (negative x) = RightAs S J (N x) (source_of x) → ⊥

-- the atom has a derivation of some height, where N tells which atoms hold behind a `not`
abbrev pub IsDerivable : List Alternative → StateOfTerms → Joint → (Atom → Type 0) → Atom → Type 0
IsDerivable rules S J N x = (height : ℕ) × IsDerivedIn rules (IsRightOver S J N) height x

-- derivable, where at most so many `not` are looked at below one another
abbrev pub IsDerivableBelow : List Alternative → StateOfTerms → Joint → ℕ → Atom → Type 0
IsDerivableBelow rules S J zero x = ⊥
IsDerivableBelow rules S J (suc k) x = IsDerivable rules S J (IsDerivableBelow rules S J k) x

-- the atom holds: it is derivable however many more are looked at
abbrev pub HoldsWhole : List Alternative → StateOfTerms → Joint → Atom → Type 0
HoldsWhole rules S J x = (k : ℕ) × ((j : ℕ) → k ≤ j → IsDerivableBelow rules S J j x)

-- the relation of a positive literal stands in no stratum above that of the head, and the relation of a negated
-- literal in one below it
abbrev pub StandsBelow : (Relation → ℕ) → Relation → Literal → Type 0
StandsBelow stratum p (positive y) = stratum (relation_of y) ≤ stratum p
StandsBelow stratum p (negative y) = stratum (relation_of y) < stratum p

-- each relation has a stratum, so that all rules keep to it; `distinct` counts for nothing
abbrev pub AreStrata : List Alternative → (Relation → ℕ) → Type 0
AreStrata rules stratum =
    (rule : Alternative) → IsAmong rule rules → (l : Literal) → IsAmong l rule.body → is_distinct (relation_of (atom_of l)) ≡ false
    → StandsBelow stratum (relation_of rule.head) l

-- stratified: there are such strata
abbrev pub IsStratified : List Alternative → Type 0
IsStratified rules = (stratum : Relation → ℕ) × AreStrata rules stratum

-- the atoms are those that are derivable where they themselves hold behind a `not`
abbrev pub IsStable : List Alternative → StateOfTerms → Joint → (Atom → Type 0) → Type 0
IsStable rules S J H = (x : Atom) → H x ↔ IsDerivable rules S J H x
