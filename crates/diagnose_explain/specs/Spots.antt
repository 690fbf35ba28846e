-- This crate's own: what `run` promises does not rest on it.
-- Where faults stand.
use Rattle.std.specs.Prelude.{ℕ, ◌≡◌, ◌-◌, List, length, min, drop, take}
use Rattle.statement.specs.Tree.{Tree}
use Rattle.diagnose_places.specs.Places.{IsPlace}
use Rattle.diagnose_places.specs.Standing.{BeginsAt, IsFirstWordBehind}
use Rattle.diagnose_explain.specs.declared.spots.Spot.{Spot}

-- the spot is that of an offset of the text; one behind its end counts as the end
pub record IsSpotOf (text : List ℕ) (o : ℕ) (spot : Spot) : Type 0 where
  pub offset : spot.offset ≡ min o (length text)
  pub place : IsPlace text (min o (length text)) spot.place

-- item n, counted from 1, begins there
pub record IsItemSpot (text : List ℕ) (ts : List Tree) (n : ℕ) (spot : Spot) : Type 0 where
  pub start : ℕ
  pub begins : BeginsAt text (drop (n - 1) ts) start
  pub here : IsSpotOf text start spot

-- the name stands there, behind the items before item n, and it is no token between
pub record IsWordSpot (text : List ℕ) (ts : List Tree) (n : ℕ) (w : List ℕ) (spot : Spot) : Type 0 where
  pub start : ℕ
  pub stands : IsFirstWordBehind text (take (n - 1) ts) w start
  pub here : IsSpotOf text start spot
