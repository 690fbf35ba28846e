use Rattle.std.proofs.Common.{◌≡◌, ◌++◌, map, take, drop}
use Rattle.ground.specs.Finishing.{headed_in}
use Rattle.ground.proofs.finishing.renumber_heads.Given as goal

abbrev pub invariant-loop-i : goal.invariant-loop-i
invariant-loop-i l = l.entries.items ≡ map (headed_in l.fn.atoms.keys) (take l.i l.fn.entries.items) ++ drop l.i l.fn.entries.items
