-- Games that tell the same are told the same of turn by turn.
use Rattle.std.proofs.Common.{ℕ, ◌<◌, ◌≡◌, ◌++◌, ◌∷◌, [], Bool, List, codes, Option, refl, ◌∙◌, ap}
use Rattle.std.specs.Prelude.{find, unwrap_or, ◌==◌}
use Rattle.std.specs.List.{flat_map, range_with_len}
use Rattle.statement.specs.declared.at_bound.AtBound.{AtBound}
use Rattle.statement.specs.declared.at_bound.AtBound.TheVariants.{Unfinished}
use Rattle.statement.specs.NamedRules.{NamedRules}
use Rattle.statement.specs.Rules.{State}
use Rattle.statement.specs.Value.{value}
use Rattle.statement.specs.Checking.{count_line}
use Rattle.statement.specs.Deepening.{least_worth, greatest_worth, is_settled, first_settled, depth_lines, settled_line, deepen_lines}
use Rattle.game.specs.SamePlay.{SamePlay}
use Rattle.game.proofs.Facts.{value_alike}
use Rattle.program_replies.proofs.OneSolve.{lines_alike}

finds_same : (p q : ℕ → Bool) (ns : List ℕ) → ((n : ℕ) → p n ≡ q n) → find p ns ≡ find q ns
finds_same p q [] same = refl
finds_same p q (n ∷ ns) same = rw (same n, finds_same p q ns same) refl

flat_maps_same : (f k : ℕ → List ℕ) (ns : List ℕ) → ((n : ℕ) → f n ≡ k n) → flat_map f ns ≡ flat_map k ns
flat_maps_same f k [] same = refl
flat_maps_same f k (n ∷ ns) same = rw (same n, flat_maps_same f k ns same) refl

module _ (g h : NamedRules) (same : SamePlay g h) (role : ℕ) (lt : role < g.rules.roles) where
  settled_alike : (s : State) (depth : ℕ) → is_settled g.rules role s depth ≡ is_settled h.rules role s depth
  settled_alike s depth =
      ap (λ (n : ℕ). n == value g.rules role depth (Unfinished greatest_worth) s) (value_alike g h same role lt depth (Unfinished least_worth) s)
      ∙ ap (λ (n : ℕ). value h.rules role depth (Unfinished least_worth) s == n) (value_alike g h same role lt depth (Unfinished greatest_worth) s)

  first_alike : (depth : ℕ) (s : State) → first_settled g.rules role depth s ≡ first_settled h.rules role depth s
  first_alike depth s = finds_same (is_settled g.rules role s) (is_settled h.rules role s) (range_with_len 1 depth) (settled_alike s)

  depth_alike : (at : AtBound) (s : State) (depth : ℕ) → depth_lines g role at s depth ≡ depth_lines h role at s depth
  depth_alike at s depth = ap (λ (xs : List ℕ). count_line (codes "depth") depth ++ xs) (lines_alike g h same role lt depth at s)

  pub deepen_alike : (depth : ℕ) (at : AtBound) (s : State) → deepen_lines g role depth at s ≡ deepen_lines h role depth at s
  deepen_alike depth at s =
      ap (λ (o : Option ℕ). flat_map (depth_lines g role at s) (range_with_len 1 (unwrap_or o depth)) ++ settled_line o) (first_alike depth s)
      ∙ ap (λ (xs : List ℕ). xs ++ settled_line (first_settled h.rules role depth s))
      (flat_maps_same (depth_lines g role at s) (depth_lines h role at s)
      (range_with_len 1 (unwrap_or (first_settled h.rules role depth s) depth)) (depth_alike at s))
