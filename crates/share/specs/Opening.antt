-- This crate's own: what `run` promises does not rest on it.
use Rattle.std.specs.Prelude.{◌≡◌, ℕ, ◌≤ℤ◌, negsuc, true, if◌then◌else◌}
use Rattle.maximin.specs.Tools.{IsWindow}
use Rattle.share.specs.declared.opening.Opening.{Opening}

-- a board can be opened so: with ties the low bound is at least -1
pub record IsOpening (o : Opening) : Type 0 where
  pub window : IsWindow o.bounds.low o.bounds.high
  pub tie : o.ties ≡ true → negsuc 0 ≤ℤ o.bounds.low

-- 1 where moves that tie are kept apart
abbrev pub margin_of : Opening → ℕ
margin_of o = if o.ties then 1 else 0
