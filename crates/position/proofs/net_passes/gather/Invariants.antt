use Rattle.std.proofs.Common.{ℕ, List, ◌<◌, get_or}
use Rattle.propnet.specs.declared.net.Net.{Net}
use Rattle.propnet_tape.specs.Tapes.{IsTurnTapeOf, HasRun, IsTurnWordOf}
use Rattle.position.proofs.net_passes.gather.Given as goal

-- the words before this one are written
abbrev pub invariant-loop-k : goal.invariant-loop-k
invariant-loop-k l = (net : Net) (kept words : List ℕ) (i : ℕ) → IsTurnTapeOf net kept l.tape → HasRun l.tape words l.room → i < l.k
    → IsTurnWordOf net words (get_or kept i 0) (get_or l.out i 0)
