-- Between which bounds a value is asked for.
use Rattle.std.specs.Prelude.{ℕ, ◌+◌, Option, Some, None}

-- the least number above a low bound, which is -1 where there is none
abbrev pub above : Option ℕ → ℕ
above None = 0
above (Some low) = low + 1
