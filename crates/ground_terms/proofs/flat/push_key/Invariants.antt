use Rattle.std.proofs.Common.{◌≡◌, ◌∷◌, ◌+◌, ◌-◌, ◌≤◌, ◌++◌, length, map, take, drop}
use Rattle.std.specs.Prelude.{vec_len, vec_capacity}
use Rattle.ground_terms.specs.Building.{are_flat, flat_number}
use Rattle.ground_terms.proofs.flat.push_key.Given as goal

-- no part so far is a list, their numbers are there, and there is room for the others
abbrev pub invariant-loop-part : goal.invariant-loop-part
invariant-loop-part l = record {
  room : vec_len l.stack + (length l.parts - l.part-index) ≤ vec_capacity l.stack;
  flat : are_flat (drop l.part-index l.parts) ≡ are_flat l.parts;
  key : l.stack.items ++ map (flat_number l.values) (drop l.part-index l.parts)
      ≡ l.fn.stack.items ++ l.fn.word ∷ map (flat_number l.values) l.parts;
  front : take (length l.fn.stack.items) l.stack.items ≡ l.fn.stack.items;
  long : length l.fn.stack.items ≤ length l.stack.items;
}
