-- Games that tell the same have moves that make sure of the same.
use Rattle.std.proofs.Common.{ℕ, zero, suc, ◌<◌, ◌≡◌, ◌++◌, ◌∷◌, [], Bool, cond, List, get_or, codes, ◌∙◌, ap}
use Rattle.std.specs.Prelude.{◌||◌}
use Rattle.std.specs.Fmt.{decimal}
use Rattle.std.specs.List.{flat_map}
use Rattle.statement.specs.declared.at_bound.AtBound.{AtBound}
use Rattle.statement.specs.NamedRules.{NamedRules}
use Rattle.statement.specs.Rules.{State, is_stuck}
use Rattle.statement.specs.Value.{worst}
use Rattle.statement.specs.Solving.{solve_lines}
use Rattle.statement.specs.MoveValues.{worth_line, values_lines}
use Rattle.game.specs.SamePlay.{SamePlay}
use Rattle.game.proofs.Facts.{stuck_alike, worst_alike}
use Rattle.program_replies.proofs.OneMoves.{flat_maps_alike}
use Rattle.program_replies.proofs.OneSolve.{lines_alike}

module _ (g h : NamedRules) (same : SamePlay g h) (role : ℕ) (lt : role < g.rules.roles) where
  pub worth_alike : (depth : ℕ) (at : AtBound) (s : State) (own : ℕ) → own < g.rules.moves role
      → worth_line g role depth at s own ≡ worth_line h role depth at s own
  worth_alike depth at s own below =
      ap (λ (v : ℕ). codes "value " ++ decimal v ++ 32 ∷ g.move_name role own ++ 10 ∷ []) (worst_alike g h same role lt depth at s own below)
      ∙ ap (λ (name : List ℕ). codes "value " ++ decimal (worst h.rules role depth at s own) ++ 32 ∷ name ++ 10 ∷ [])
      (same.move_names role own lt below)

  each_alike : (depth : ℕ) (at : AtBound) (s : State) → flat_map (worth_line g role depth at s) (g.rules.legal s role)
      ≡ flat_map (worth_line h role depth at s) (h.rules.legal s role)
  each_alike depth at s =
      flat_maps_alike (worth_line g role depth at s) (worth_line h role depth at s) (g.rules.legal s role)
      (λ k d below. worth_alike depth at s (get_or (g.rules.legal s role) k d) (same.known s role lt k d below))
      ∙ ap (flat_map (worth_line h role depth at s)) (same.legal s role lt)

  pub values_alike : (depth : ℕ) (at : AtBound) (s : State) → values_lines g role depth at s ≡ values_lines h role depth at s
  values_alike zero at s = lines_alike g h same role lt zero at s
  values_alike (suc depth) at s =
      let each = flat_map (worth_line g role depth at s) (g.rules.legal s role) in
      ap (λ (b : Bool). cond (b || is_stuck g.rules s) (solve_lines g role (suc depth) at s) each) (same.ended s)
      ∙ ap (λ (b : Bool). cond (h.rules.ended s || b) (solve_lines g role (suc depth) at s) each) (stuck_alike g h same s)
      ∙ ap (λ (xs : List ℕ). cond (h.rules.ended s || is_stuck h.rules s) xs each) (lines_alike g h same role lt (suc depth) at s)
      ∙ ap (cond (h.rules.ended s || is_stuck h.rules s) (solve_lines h role (suc depth) at s)) (each_alike depth at s)
