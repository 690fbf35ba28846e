-- Games that tell the same are told the same of within a window.
use Rattle.std.proofs.Common.{ℕ, zero, suc, ◌-◌, ◌<◌, ◌≡◌, ◌++◌, Bool, cond, List, Option, Some, None, codes, refl, ◌∙◌, ap}
use Rattle.std.specs.Prelude.{IfSome, find, nat_le, nat_lt, ◌||◌}
use Rattle.statement.specs.declared.at_bound.AtBound.{AtBound}
use Rattle.statement.specs.declared.window.Window.{Window}
use Rattle.statement.specs.NamedRules.{NamedRules}
use Rattle.statement.specs.Rules.{State, is_stuck}
use Rattle.statement.specs.Value.{value, worst}
use Rattle.statement.specs.Checking.{count_line}
use Rattle.statement.specs.Solving.{move_line, solve_lines}
use Rattle.statement.specs.Within.{first_at_least, own_line, at_least_lines, window_lines}
use Rattle.game.specs.SamePlay.{SamePlay}
use Rattle.game.proofs.Facts.{finds_alike, stuck_alike, value_alike, worst_alike}
use Rattle.program_searches.proofs.Facts.{first_within}
use Rattle.program_replies.proofs.OneSolve.{lines_alike}

-- what is told of a value in a window, where that is told of a value between the bounds, and this of one above
abbrev lines_by : Window → ℕ → List ℕ → List ℕ → List ℕ
lines_by w v between above =
    cond (nat_lt v w.from) (count_line (codes "at-most") (w.from - 1)) (cond (nat_lt v w.to) between above)

module _ (g h : NamedRules) (same : SamePlay g h) (role : ℕ) (lt : role < g.rules.roles) where
  first_alike : (depth : ℕ) (at : AtBound) (bound : ℕ) (s : State)
      → first_at_least g.rules role depth at bound s ≡ first_at_least h.rules role depth at bound s
  first_alike zero at bound s = refl
  first_alike (suc depth) at bound s =
      let p = λ (m : ℕ). nat_le bound (worst g.rules role depth at s m) in
      let q = λ (m : ℕ). nat_le bound (worst h.rules role depth at s m) in
      let found : find p (g.rules.legal s role) ≡ find q (h.rules.legal s role) =
      finds_alike p q (g.rules.legal s role)
      (λ k d below. ap (nat_le bound) (worst_alike g h same role lt depth at s _ (same.known s role lt k d below)))
      ∙ ap (find q) (same.legal s role lt) in
      ap (λ (b : Bool). cond (b || is_stuck g.rules s) None (find p (g.rules.legal s role))) (same.ended s)
      ∙ ap (λ (b : Bool). cond (h.rules.ended s || b) None (find p (g.rules.legal s role))) (stuck_alike g h same s)
      ∙ ap (λ (o : Option ℕ). cond (h.rules.ended s || is_stuck h.rules s) None o) found

  own_alike : (o : Option ℕ) → IfSome o (λ m. m < g.rules.moves role) → own_line g role o ≡ own_line h role o
  own_alike None within = refl
  own_alike (Some own) within = ap move_line (same.move_names role own lt within)

  above_alike : (depth : ℕ) (at : AtBound) (bound : ℕ) (s : State) → at_least_lines g role depth at bound s ≡ at_least_lines h role depth at bound s
  above_alike depth at bound s =
      ap (λ (xs : List ℕ). count_line (codes "at-least") bound ++ xs)
      (own_alike (first_at_least g.rules role depth at bound s) (first_within g.rules same.known role depth at bound s lt)
      ∙ ap (own_line h role) (first_alike depth at bound s))

  pub window_alike : (depth : ℕ) (at : AtBound) (w : Window) (s : State) → window_lines g w role depth at s ≡ window_lines h w role depth at s
  window_alike depth at w s =
      ap (λ (v : ℕ). lines_by w v (solve_lines g role depth at s) (at_least_lines g role depth at w.to s)) (value_alike g h same role lt depth at s)
      ∙ ap (λ (xs : List ℕ). lines_by w (value h.rules role depth at s) xs (at_least_lines g role depth at w.to s))
      (lines_alike g h same role lt depth at s)
      ∙ ap (lines_by w (value h.rules role depth at s) (solve_lines h role depth at s)) (above_alike depth at w.to s)
