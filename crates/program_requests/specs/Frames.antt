-- This crate's own: what `run` promises does not rest on it.
-- The frames that answer requests.
use Rattle.std.specs.Prelude.{ℕ, List, [], ◌∷◌, ◌++◌, length, codes}
use Rattle.std.specs.Fmt.{decimal}

-- the status and the number of the bytes on a line, and then the bytes
abbrev pub frame : ℕ → List ℕ → List ℕ
frame status bytes = decimal status ++ 32 ∷ decimal (length bytes) ++ 10 ∷ bytes

-- that rules stand; that there was no memory; that a line is too long; and that there are less rules than a line asks for
abbrev pub taken_frame : List ℕ
taken_frame = frame 0 []

abbrev pub starved_frame : List ℕ
starved_frame = frame 3 []

abbrev pub long_frame : List ℕ
long_frame = frame 1 (codes "a request line is too long\n")

abbrev pub cut_frame : List ℕ
cut_frame = frame 1 (codes "the rules end before their size\n")
