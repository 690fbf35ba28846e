use Rattle.std.proofs.Common.{◌≡◌, ℕ, ◌<◌, false, get_or}
use Rattle.search_split.specs.Cuts.{is_x}
use Rattle.search_split.proofs.cut.first_x.Given as goal

abbrev pub invariant-loop-place : goal.invariant-loop-place
invariant-loop-place l = record { none : (k : ℕ) → k < l.place → is_x (get_or l.text k 0) ≡ false }
