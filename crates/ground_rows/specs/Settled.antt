-- This crate's own: what `run` promises does not rest on it.
-- Parts with places, the lists of which are told by the numbers of their terms.
use Rattle.std.specs.Prelude.{ℕ, ◌≡◌, ◌≢◌, ◌≤◌, ◌+◌, List, [], ◌∷◌, length, map, drop, ⊤}
use Rattle.statement.specs.Tree.{Tree}
use Rattle.rules_clauses.specs.declared.numbered.Part.{Part}
use Rattle.rules_clauses.specs.Marks.{NumbersBelow}
use Rattle.rules_clauses.specs.Numbers.{BeginsWith, NamesDiffer}
use Rattle.ground_terms.specs.Arena.{AreNumbered}
use Rattle.ground_terms.specs.Building.{PartsPlaced, place_value, ground_terms}
use Rattle.ground_terms.specs.Keys.{term_at, trees}
use Rattle.ground_rows.specs.declared.settlings.Settled.{Settled}
use Rattle.ground_rows.specs.declared.settlings.Settled.TheVariants.{From, Absent, Open}
use Rattle.ground_rows.specs.Pairs.{PartNumbers}

-- terms at some time, behind those that were there first, and values for parts
pub record AreTerms (words first : List (List ℕ)) (ps : List Part) (keys : List (List ℕ)) (values : List ℕ) : Type 0 where
  pub differ : NamesDiffer words
  pub front : BeginsWith first keys
  pub numbered : AreNumbered (length words) keys
  pub below : NumbersBelow (length keys) values
  pub placed : PartsPlaced (length words) (length values) ps

-- the terms that parts are with values
abbrev pub terms_by : List (List ℕ) → List (List ℕ) → List ℕ → List Part → List Tree
terms_by words keys values ps = ground_terms words (place_value (trees words keys) values) ps []

-- numbers are those of the terms that parts are with values
pub record AreNumbersOf (words keys : List (List ℕ)) (values : List ℕ) (ps : List Part) (ns : List ℕ) : Type 0 where
  pub below : NumbersBelow (length keys) ns
  pub are : map (term_at (trees words keys)) ns ≡ terms_by words keys values ps

-- from some time on parts without lists are the same terms as others
abbrev pub Settles : List (List ℕ) → List (List ℕ) → List Part → List Part → Type 0
Settles words first ps qs =
    (keys : List (List ℕ)) (values : List ℕ) → AreTerms words first ps keys values
    → (ns : List ℕ) × (PartNumbers values qs ns × AreNumbersOf words keys values ps ns)

-- with no values are parts all among the terms that were there first
abbrev pub AreAbsent : List (List ℕ) → List (List ℕ) → List Part → Type 0
AreAbsent words first ps =
    (keys : List (List ℕ)) (values ns : List ℕ) → AreTerms words first ps keys values → NumbersBelow (length first) ns
    → map (term_at (trees words keys)) ns ≢ terms_by words keys values ps

-- a part is put before those that are settled from a place on
abbrev pub IsPut : List (List ℕ) → Part → List Part → List Part → ℕ → Settled → Type 0
IsPut first p before after at (From next) =
    (at ≤ next + 1) × (next ≤ length after)
    × ((words : List (List ℕ)) (ps : List Part) → Settles words first ps (drop at before) → Settles words first (p ∷ ps) (drop next after))
IsPut first p before after at Absent =
    (words : List (List ℕ)) (ps : List Part) → Settles words first ps (drop at before) → AreAbsent words first (p ∷ ps)
IsPut first p before after at Open = ⊤

-- what is found out of parts is right
abbrev pub IsSettled : List (List ℕ) → List Part → List Part → Settled → Type 0
IsSettled first ps after (From at) = (at ≤ length after) × ((words : List (List ℕ)) → Settles words first ps (drop at after))
IsSettled first ps after Absent = (words : List (List ℕ)) → AreAbsent words first ps
IsSettled first ps after Open = ⊤
