-- What a writer holds of some bytes.
use Rattle.std.proofs.Common.{ℕ, List, [], append-nil}
use Rattle.std.specs.Prelude.{Option, Result, Ok, Err, OnOk, OnErr}
use Rattle.std.specs.Io.KnownBytes.{Appends}
use Rattle.statement.specs.Output.{AppendsFront}

-- what was written whole, or a beginning of it
pub front_written : {X E : Type 0} (r : Result X E) (before after : Option (List ℕ)) (bs : List ℕ)
    → OnOk r (Appends before after bs) → OnErr r (AppendsFront before after bs) → AppendsFront before after bs
front_written (Ok x) before after bs whole front = record { front = bs; behind = []; split = append-nil bs; appended = whole }
front_written (Err e) before after bs whole front = front
