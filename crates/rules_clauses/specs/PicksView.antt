-- This crate's own: what `run` promises does not rest on it.
-- Lists with what stands behind each of them.
use Rattle.std.specs.Prelude.{ℕ, List, [], ◌∷◌}
use Rattle.rules_clauses.specs.declared.spread.Picks.{Picks}
use Rattle.rules_clauses.specs.Spread.{lists_of, numbers_in, number_picks}

abbrev pub picks_made : Picks → List (List ℕ)
picks_made p = number_picks (lists_of p.lists.items) (numbers_in p.behind.items ∷ [])
