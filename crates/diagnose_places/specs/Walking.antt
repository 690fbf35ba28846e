-- This crate's own: what `run` promises does not rest on it.
-- How far a walk over the trees of a text has come.
use Rattle.std.specs.Prelude.{ℕ, ◌≡◌, ◌≤◌, List, ◌∷◌, ◌++◌, length, take}
use Rattle.statement.specs.Tree.{Tree, trees_of}
use Rattle.statement.specs.Lexical.{word, Spot, spots, tokens_of, Token}
use Rattle.statement.specs.Reading.{trees_tokens}
use Rattle.diagnose_places.specs.Unread.{text_of, unread}
use Rattle.diagnose_places.specs.Standing.{LeavesOut}
use Rattle.diagnose_places.specs.declared.walk.Walk.{Walk}

abbrev pub walk_text : Walk → List ℕ
walk_text w = w.text.now

-- The trees before the one that it stands at are left out, and of that one and those behind it some spots more.
pub record IsWalk (ts : List Tree) (w : Walk) : Type 0 where
  pub within : w.passed ≤ length ts
  pub here_text : text_of w.here ≡ walk_text w
  pub inside_text : text_of w.inside ≡ walk_text w
  pub left : LeavesOut (spots (walk_text w)) (trees_tokens (trees_of (take w.passed ts))) (unread w.here)
  pub read : List Spot
  pub all : unread w.here ≡ read ++ unread w.inside

-- the name is a token at o, behind the tokens of these trees
pub record IsWordBehind (text : List ℕ) (ts : List Tree) (w : List ℕ) (o : ℕ) : Type 0 where
  pub front : List Spot
  pub between : List Spot
  pub rest : List Spot
  pub all : spots text ≡ (front ++ between) ++ (record { at = o; token = word w } ∷ rest)
  pub trees : tokens_of front ≡ trees_tokens (trees_of ts)
