use Rattle.std.proofs.Common.{◌≡◌, ◌-◌, ◌++◌, length, take}
use Rattle.std.specs.Prelude.{replicate}
use Rattle.maximin.proofs.pack.name_state.Given as goal

-- the places before this one are written
abbrev pub invariant-loop-turn : goal.invariant-loop-turn
invariant-loop-turn l = record {
  size : length l.places ≡ length l.initial.places;
  named : take l.turn l.places ≡ take l.first l.initial.places ++ replicate (l.turn - l.first) l.place;
}
