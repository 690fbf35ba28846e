-- The lines in the pieces in which they are written.
use Rattle.std.proofs.Common.{ℕ, ◌≡◌, List, [], ◌∷◌, ◌++◌, codes, append_assoc, append-nil, sym, ap, ◌∙◌}
use Rattle.std.specs.Fmt.{decimal}
use Rattle.statement.specs.declared.at_bound.AtBound.{AtBound}
use Rattle.statement.specs.NamedRules.{NamedRules}
use Rattle.statement.specs.Rules.{State, Turn}
use Rattle.statement.specs.Value.{value, choice_of, line_of}
use Rattle.statement.specs.Checking.{count_line, spaced}
use Rattle.statement.specs.Solving.{move_line, choice_text, move_texts, turn_line, turn_lines, solve_lines}
use Rattle.statement.specs.Deepening.{depth_lines}

pub count_pieces : (word : List ℕ) (count : ℕ) → count_line word count ≡ word ++ ((32 ∷ []) ++ (decimal count ++ ((10 ∷ []) ++ [])))
count_pieces word count = append_assoc word (32 ∷ decimal count) (10 ∷ [])

pub move_pieces : (words : List ℕ) → move_line words ≡ codes "move " ++ (words ++ ((10 ∷ []) ++ []))
move_pieces words = append_assoc (codes "move ") words (10 ∷ [])

pub turn_pieces : (g : NamedRules) (number : ℕ) (j : Turn)
    → turn_line g number j ≡ codes "line " ++ (decimal number ++ (spaced (move_texts g j) ++ ((10 ∷ []) ++ [])))
turn_pieces g number j =
    append_assoc (codes "line " ++ decimal number) (spaced (move_texts g j)) (10 ∷ [])
    ∙ append_assoc (codes "line ") (decimal number) (spaced (move_texts g j) ++ 10 ∷ [])

pub solve_pieces : (g : NamedRules) (role depth : ℕ) (at : AtBound) (s : State)
    → solve_lines g role depth at s ≡ count_line (codes "value") (value g.rules role depth at s)
    ++ (move_line (choice_text g role (choice_of g.rules role depth at s)) ++ (turn_lines g 1 (line_of g.rules role depth at s) ++ []))
solve_pieces g role depth at s =
    append_assoc (count_line (codes "value") (value g.rules role depth at s)) (move_line (choice_text g role (choice_of g.rules role depth at s)))
    (turn_lines g 1 (line_of g.rules role depth at s))
    ∙ ap (λ (xs : List ℕ). count_line (codes "value") (value g.rules role depth at s)
    ++ (move_line (choice_text g role (choice_of g.rules role depth at s)) ++ xs)) (sym (append-nil (turn_lines g 1 (line_of g.rules role depth at s))))

pub depth_pieces : (g : NamedRules) (role : ℕ) (at : AtBound) (s : State) (depth : ℕ)
    → depth_lines g role at s depth ≡ count_line (codes "depth") depth ++ (solve_lines g role depth at s ++ ([] ++ []))
depth_pieces g role at s depth = ap (λ (xs : List ℕ). count_line (codes "depth") depth ++ xs) (sym (append-nil (solve_lines g role depth at s)))
