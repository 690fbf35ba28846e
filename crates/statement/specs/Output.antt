-- What a writer holds after an error.
use Rattle.std.specs.Prelude.{ℕ, List, Option, ◌++◌, ◌≡◌}
use Rattle.std.specs.Io.KnownBytes.{Appends}

-- known bytes stay at the front, and a beginning of bs comes behind them
pub record AppendsFront (old : Option (List ℕ)) (new : Option (List ℕ)) (bs : List ℕ) : Type 0 where
  pub front : List ℕ
  pub behind : List ℕ
  pub split : front ++ behind ≡ bs
  pub appended : Appends old new front
