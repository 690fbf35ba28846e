use Rattle.std.proofs.Common.{◌≡◌, take, drop, map}
use Rattle.statement.specs.Value.{value, least}
use Rattle.maximin.proofs.end.least_of.Given as goal

-- the least value of the states so far
abbrev pub invariant-loop-place : goal.invariant-loop-place
invariant-loop-place g l =
    let worth = value (g.G.Game.rules l.game) l.asked.role l.asked.depth l.asked.at in
    l.lowest ≡ least (map worth (take l.place (drop l.first (g.G.Game.judged l.game l.wide))))
