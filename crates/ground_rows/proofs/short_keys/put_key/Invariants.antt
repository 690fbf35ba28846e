use Rattle.std.proofs.Common.{ℕ, List, ◌+◌, ◌-◌, ◌≤◌, ◌++◌, drop, length}
use Rattle.std.specs.Prelude.{vec_len, vec_capacity}
use Rattle.ground_rows.specs.Pairs.{PartNumbers, IsKeyOf}
use Rattle.ground_rows.proofs.short_keys.put_key.Given as goal

-- the numbers before this one are there, and there is room for the others
abbrev pub invariant-loop-part : goal.invariant-loop-part
invariant-loop-part l = record {
  room : vec_len l.key + (length l.parts - l.part-index) ≤ vec_capacity l.key;
  there : (ns : List ℕ) → PartNumbers l.values (drop l.part-index l.parts) ns → IsKeyOf l.values l.word l.parts (l.key.items ++ ns);
}
