use Rattle.std.proofs.Common.{◌≡◌, ℕ, ◌<◌, [], get_or}
use Rattle.game.specs.Keys.{key_at}
use Rattle.game.proofs.game.Game.write_keys.Given as goal

-- the keys before this one are written
abbrev pub invariant-loop-place : goal.invariant-loop-place
invariant-loop-place g l = (k : ℕ) → k < l.place
    → g.Self.Game.keyed l.self (key_at l.keys (g.Self.Game.key_length l.self) k) ≡ get_or (g.Self.Game.states l.self l.many) k []
