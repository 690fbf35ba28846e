-- This crate's own: what `run` promises does not rest on it.
-- Kept instances in flat lists.
use Rattle.std.specs.Prelude.{ℕ, zero, suc, ◌≡◌, ◌<◌, ◌≤◌, leb, if◌then◌else◌, Bool, List, [], ◌∷◌, length, map, get_or, slice_range, ⊤}
use Rattle.ground_instances.specs.declared.entry.Entry.{Entry}
use Rattle.ground_instances.specs.declared.entry.AlternativeRun.{AlternativeRun}
use Rattle.ground_instances.specs.declared.found_list.FoundList.{FoundList}
use Rattle.statement.specs.Kept.{Kept}

-- the alternative of the instance at a place: that of the last run that begins there or before
abbrev pub alternative_behind : ℕ → List AlternativeRun → ℕ → ℕ
alternative_behind a [] n = a
alternative_behind a (r ∷ rs) n = if leb r.first n then alternative_behind r.alternative rs n else a

abbrev pub alternative_at : List AlternativeRun → ℕ → ℕ
alternative_at runs n = alternative_behind 0 runs n

-- bodies that stand one behind the other from a place of some literals on, by where each ends
abbrev pub bodies_behind : List (ℕ × Bool) → ℕ → List ℕ → List (List (ℕ × Bool))
bodies_behind ls start [] = []
bodies_behind ls start (e ∷ es) = slice_range ls start e ∷ bodies_behind ls e es

-- the bodies that instances have
abbrev pub bodies_of : FoundList → List (List (ℕ × Bool))
bodies_of f = bodies_behind f.literals.items 0 f.ends.items

-- the instance at a place, which an entry tells of, where there are these bodies
abbrev pub kept_from : List AlternativeRun → List (List (ℕ × Bool)) → ℕ → Entry → Kept
kept_from runs bodies n e = record { alternative = alternative_at runs n; head = e.head; body = get_or bodies e.body [] }

-- the instances from a place on, which entries tell of
abbrev pub kept_behind : List AlternativeRun → List (List (ℕ × Bool)) → ℕ → List Entry → List Kept
kept_behind runs bodies n [] = []
kept_behind runs bodies n (e ∷ es) = kept_from runs bodies n e ∷ kept_behind runs bodies (suc n) es

abbrev pub numbers_of_list : FoundList → List Kept
numbers_of_list f = kept_behind f.runs.items (bodies_of f) 0 f.entries.items

-- where the body of a number begins, by where each ends
abbrev pub start_at : ℕ → List ℕ → ℕ → ℕ
start_at start [] n = start
start_at start (e ∷ es) zero = start
start_at start (e ∷ es) (suc n) = start_at e es n

abbrev pub entry_heads : List Entry → List ℕ
entry_heads es = map (λ (e : Entry). e.head) es

-- bodies with these ends stand one behind the other, from one place up to another
abbrev pub StandBetween : ℕ → List ℕ → ℕ → Type 0
StandBetween start [] end = start ≡ end
StandBetween start (e ∷ es) end = (start ≤ e) × StandBetween e es end

-- the body of each entry is one of so many
abbrev pub HaveBodies : ℕ → List Entry → Type 0
HaveBodies many [] = ⊤
HaveBodies many (e ∷ es) = (e.body < many) × HaveBodies many es

-- runs begin one behind the other, from one place up to another
abbrev pub RunsRise : ℕ → List AlternativeRun → ℕ → Type 0
RunsRise low [] high = low ≤ high
RunsRise low (r ∷ rs) high = (low ≤ r.first) × RunsRise r.first rs high

-- the literals of the bodies are the first n, each entry has one of them, and the runs are in order
abbrev pub AreLaidIn : ℕ → FoundList → Type 0
AreLaidIn n f = StandBetween 0 f.ends.items n × RunsRise 0 f.runs.items (length f.entries.items) × HaveBodies (length f.ends.items) f.entries.items

-- the literals of the bodies are all that are there
abbrev pub AreLaid : FoundList → Type 0
AreLaid f = AreLaidIn (length f.literals.items) f

-- runs with that of an instance more, at this place
pub record AddsRun (alternative place : ℕ) (old new : List AlternativeRun) : Type 0 where
  pub rise : RunsRise 0 new (suc place)
  pub before : (n : ℕ) → n < place → alternative_at new n ≡ alternative_at old n
  pub here : alternative_at new place ≡ alternative

-- the alternative of the last run
abbrev pub last_behind : ℕ → List AlternativeRun → ℕ
last_behind a [] = a
last_behind a (r ∷ rs) = last_behind r.alternative rs
