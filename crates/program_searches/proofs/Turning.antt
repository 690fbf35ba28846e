-- The lines of play, one turn at a time.
use Rattle.std.proofs.Common.{ℕ, zero, suc, ◌+◌, ◌-◌, ◌≡◌, List, [], ◌∷◌, ◌++◌, Option, Some, None, refl, sym, ap, ◌∙◌, arith, append-nil}
use Rattle.std.specs.Option.{option_map_or}
use Rattle.statement.specs.declared.at_bound.AtBound.{AtBound}
use Rattle.statement.specs.NamedRules.{NamedRules}
use Rattle.statement.specs.Rules.{Rules, State, Turn}
use Rattle.statement.specs.Value.{choice_of, reply_of, line_of}
use Rattle.statement.specs.Solving.{turn_line, turn_lines}
use Rattle.statement.specs.MoveLines.{line_behind}

-- the turns that begin with an own move, by its reply
pub begins : (g : Rules) (role depth : ℕ) (at : AtBound) (s : State) (own : ℕ) (j : Turn) → reply_of g role depth at s own ≡ Some j
    → line_behind g role depth at s own ≡ j ∷ line_of g role depth at (g.after s j)
begins g role depth at s own j e = ap (λ (o : Option Turn). option_map_or (λ i. i ∷ line_of g role depth at (g.after s i)) o []) e

-- a line is that behind the choice
goes_on : (g : Rules) (role depth : ℕ) (at : AtBound) (s : State) (own : ℕ) → choice_of g role depth at s ≡ Some own
    → line_of g role depth at s ≡ line_behind g role (depth - 1) at s own
goes_on g role zero at s own e = absurd cc
goes_on g role (suc depth) at s own e =
    let less : suc depth - 1 ≡ depth = omega arith in
    ap (λ (o : Option ℕ). option_map_or (line_behind g role depth at s) o []) e ∙ rw less refl

pub line_more : (g : Rules) (role depth : ℕ) (at : AtBound) (s : State) (own : ℕ) (j : Turn) → choice_of g role depth at s ≡ Some own
    → reply_of g role (depth - 1) at s own ≡ Some j → line_of g role depth at s ≡ j ∷ line_of g role (depth - 1) at (g.after s j)
line_more g role depth at s own j chosen replied = goes_on g role depth at s own chosen ∙ begins g role (depth - 1) at s own j replied

pub no_line : (g : Rules) (role depth : ℕ) (at : AtBound) (s : State) → choice_of g role depth at s ≡ None → line_of g role depth at s ≡ []
no_line g role zero at s e = refl
no_line g role (suc depth) at s e = ap (λ (o : Option ℕ). option_map_or (line_behind g role depth at s) o []) e

-- The lines of turns, in the pieces in which they are written.

pub line_pieces : (g : NamedRules) (role left number : ℕ) (at : AtBound) (s next : State) (own : ℕ) (j : Turn)
    → choice_of g.rules role left at s ≡ Some own → reply_of g.rules role (left - 1) at s own ≡ Some j → next ≡ g.rules.after s j
    → turn_lines g number (line_of g.rules role left at s)
    ≡ turn_line g number j ++ turn_lines g (number + 1) (line_of g.rules role (left - 1) at next)
line_pieces g role left number at s next own j chosen replied after =
    ap (turn_lines g number) (line_more g.rules role left at s own j chosen replied)
    ∙ ap (λ (t : State). turn_line g number j ++ turn_lines g (number + 1) (line_of g.rules role (left - 1) at t)) (sym after)

pub no_pieces : (g : NamedRules) (role left number : ℕ) (at : AtBound) (s : State) → choice_of g.rules role left at s ≡ None
    → turn_lines g number (line_of g.rules role left at s) ≡ []
no_pieces g role left number at s none = ap (turn_lines g number) (no_line g.rules role left at s none)

pub behind_pieces : (g : NamedRules) (role depth : ℕ) (at : AtBound) (s next : State) (own : ℕ) (j : Turn)
    → reply_of g.rules role depth at s own ≡ Some j → next ≡ g.rules.after s j
    → turn_lines g 1 (line_behind g.rules role depth at s own)
    ≡ turn_line g 1 j ++ (turn_lines g 2 (line_of g.rules role depth at next) ++ [])
behind_pieces g role depth at s next own j replied after =
    ap (turn_lines g 1) (begins g.rules role depth at s own j replied)
    ∙ ap (λ (t : State). turn_line g 1 j ++ turn_lines g 2 (line_of g.rules role depth at t)) (sym after)
    ∙ ap (λ (xs : List ℕ). turn_line g 1 j ++ xs) (sym (append-nil (turn_lines g 2 (line_of g.rules role depth at next))))
