-- Games that tell the same have the same lines behind their moves.
use Rattle.std.proofs.Common.{ℕ, zero, suc, ◌<◌, ◌≡◌, ◌++◌, ◌∷◌, [], Bool, cond, List, get_or, Option, Some, None, refl, ◌∙◌, ap}
use Rattle.std.specs.Prelude.{IfSome, All, ◌||◌}
use Rattle.std.specs.List.{flat_map}
use Rattle.std.specs.Option.{option_map_or}
use Rattle.std.proofs.lemmas.List.Elements.{All-nil, All-cons}
use Rattle.statement.specs.declared.at_bound.AtBound.{AtBound}
use Rattle.statement.specs.NamedRules.{NamedRules}
use Rattle.statement.specs.Rules.{Rules, State, Turn, IsTurn, is_stuck}
use Rattle.statement.specs.Value.{reply_of, line_of}
use Rattle.statement.specs.Solving.{turn_lines, solve_lines}
use Rattle.statement.specs.MoveValues.{worth_line}
use Rattle.statement.specs.MoveLines.{line_behind, move_lines, moves_with_lines}
use Rattle.game.specs.SamePlay.{SamePlay, AreLegalMoves}
use Rattle.game.proofs.Facts.{stuck_alike, reply_within, line_alike, line_within}
use Rattle.program_replies.proofs.OneMoves.{flat_maps_alike}
use Rattle.program_replies.proofs.OneSolve.{lines_alike, turns_alike}
use Rattle.program_replies.proofs.OneValues.{worth_alike}

-- all turns of a line behind a move are turns of the game
behind_within : (g : Rules) → AreLegalMoves g → (role depth : ℕ) (at : AtBound) (s : State) (own : ℕ) → role < g.roles → own < g.moves role
    → All (IsTurn g) (line_behind g role depth at s own)
behind_within g known role depth at s own lt below = go (reply_of g role depth at s own) (reply_within g known role depth at s own below)
  where
    go : (o : Option Turn) → IfSome o (IsTurn g) → All (IsTurn g) (option_map_or (λ j. j ∷ line_of g role depth at (g.after s j)) o [])
    go None turn = All-nil (IsTurn g)
    go (Some j) turn =
        let next = g.after s j in
        All-cons (IsTurn g) j (line_of g role depth at next) turn (line_within g known role depth at next lt)

-- in games that tell the same the others have the same reply to each move
abbrev pub RepliesAlike : Type 0
RepliesAlike =
    (g h : NamedRules) → SamePlay g h → (role : ℕ) → role < g.rules.roles → (depth : ℕ) (at : AtBound) (s : State) (own : ℕ)
    → own < g.rules.moves role → reply_of g.rules role depth at s own ≡ reply_of h.rules role depth at s own

module _ (replied : RepliesAlike) (g h : NamedRules) (same : SamePlay g h) (role : ℕ) (lt : role < g.rules.roles) where
  behind_alike : (depth : ℕ) (at : AtBound) (s : State) (own : ℕ) → own < g.rules.moves role
      → line_behind g.rules role depth at s own ≡ line_behind h.rules role depth at s own
  behind_alike depth at s own below =
      go (reply_of g.rules role depth at s own) (reply_within g.rules same.known role depth at s own below)
      ∙ ap (λ (o : Option Turn). option_map_or (λ j. j ∷ line_of h.rules role depth at (h.rules.after s j)) o [])
      (replied g h same role lt depth at s own below)
    where
      go : (o : Option Turn) → IfSome o (IsTurn g.rules)
          → option_map_or (λ j. j ∷ line_of g.rules role depth at (g.rules.after s j)) o []
          ≡ option_map_or (λ j. j ∷ line_of h.rules role depth at (h.rules.after s j)) o []
      go None turn = refl
      go (Some j) turn =
          ap (λ (t : State). j ∷ line_of g.rules role depth at t) (same.after s j turn)
          ∙ ap (λ (js : List Turn). j ∷ js) (line_alike g h same role lt depth at (h.rules.after s j))

  move_alike : (depth : ℕ) (at : AtBound) (s : State) (own : ℕ) → own < g.rules.moves role
      → move_lines g role depth at s own ≡ move_lines h role depth at s own
  move_alike depth at s own below =
      ap (λ (xs : List ℕ). xs ++ turn_lines g 1 (line_behind g.rules role depth at s own)) (worth_alike g h same role lt depth at s own below)
      ∙ ap (λ (xs : List ℕ). worth_line h role depth at s own ++ xs)
      (turns_alike g h same 1 (line_behind g.rules role depth at s own) (behind_within g.rules same.known role depth at s own lt below)
      ∙ ap (turn_lines h 1) (behind_alike depth at s own below))

  each_alike : (depth : ℕ) (at : AtBound) (s : State) → flat_map (move_lines g role depth at s) (g.rules.legal s role)
      ≡ flat_map (move_lines h role depth at s) (h.rules.legal s role)
  each_alike depth at s =
      flat_maps_alike (move_lines g role depth at s) (move_lines h role depth at s) (g.rules.legal s role)
      (λ k d below. move_alike depth at s (get_or (g.rules.legal s role) k d) (same.known s role lt k d below))
      ∙ ap (flat_map (move_lines h role depth at s)) (same.legal s role lt)

  pub with_lines_alike : (depth : ℕ) (at : AtBound) (s : State) → moves_with_lines g role depth at s ≡ moves_with_lines h role depth at s
  with_lines_alike zero at s = lines_alike g h same role lt zero at s
  with_lines_alike (suc depth) at s =
      let each = flat_map (move_lines g role depth at s) (g.rules.legal s role) in
      ap (λ (b : Bool). cond (b || is_stuck g.rules s) (solve_lines g role (suc depth) at s) each) (same.ended s)
      ∙ ap (λ (b : Bool). cond (h.rules.ended s || b) (solve_lines g role (suc depth) at s) each) (stuck_alike g h same s)
      ∙ ap (λ (xs : List ℕ). cond (h.rules.ended s || is_stuck h.rules s) xs each) (lines_alike g h same role lt (suc depth) at s)
      ∙ ap (cond (h.rules.ended s || is_stuck h.rules s) (solve_lines h role (suc depth) at s)) (each_alike depth at s)
