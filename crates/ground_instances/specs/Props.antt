-- This crate's own: what `run` promises does not rest on it.
-- There is at most one proof that lists are laid.
use Rattle.std.specs.Prelude.{ℕ, List, [], ◌∷◌, length, ⊤}
use Rattle.std.specs.Coded.{×_prop, le_prop}
use Rattle.std.proofs.Math.Nat.{ℕ_set}
use Rattle.ground_instances.specs.declared.entry.Entry.{Entry}
use Rattle.ground_instances.specs.declared.entry.AlternativeRun.{AlternativeRun}
use Rattle.ground_instances.specs.declared.found_list.FoundList.{FoundList}
use Rattle.ground_instances.specs.Lists.{StandBetween, RunsRise, HaveBodies, AreLaid}

StandBetween-prop : (start : ℕ) (es : List ℕ) (end : ℕ) → IsProp (StandBetween start es end)
StandBetween-prop start [] end = ℕ_set start end
StandBetween-prop start (e ∷ es) end = ×_prop le_prop (StandBetween-prop e es end)

RunsRise-prop : (low : ℕ) (rs : List AlternativeRun) (high : ℕ) → IsProp (RunsRise low rs high)
RunsRise-prop low [] high = le_prop
RunsRise-prop low (r ∷ rs) high = ×_prop le_prop (RunsRise-prop r.first rs high)

HaveBodies-prop : (many : ℕ) (es : List Entry) → IsProp (HaveBodies many es)
HaveBodies-prop many [] = λ p q i. tt
HaveBodies-prop many (e ∷ es) = ×_prop le_prop (HaveBodies-prop many es)

pub AreLaid-prop : (f : FoundList) → IsProp (AreLaid f)
AreLaid-prop f p q = λ i. (
  StandBetween-prop 0 f.ends.items (length f.literals.items) p.0 q.0 i,
  RunsRise-prop 0 f.runs.items (length f.entries.items) p.1 q.1 i,
  HaveBodies-prop (length f.ends.items) f.entries.items p.2 q.2 i,
)
