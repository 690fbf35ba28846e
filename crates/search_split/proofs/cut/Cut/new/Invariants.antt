use Rattle.std.proofs.Common.{◌≡◌, ℕ, ◌*◌, ◌<◌, ◌≤◌, drop}
use Rattle.std.specs.Prelude.{slice_index}
use Rattle.search_split.specs.Cuts.{product}
use Rattle.search_split.proofs.cut.Cut.new.Given as goal

abbrev pub invariant-loop-workers : goal.invariant-loop-workers
invariant-loop-workers l = record {
  few : l.threads ≤ 64;
  part : l.threads * product (drop l.workers-index l.levels) ≡ product l.levels;
  each : (k : ℕ) → k < l.workers-index → (1 ≤ slice_index l.levels k) × (slice_index l.levels k ≤ 16);
}
