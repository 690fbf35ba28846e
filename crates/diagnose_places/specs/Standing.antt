-- This crate's own: what `run` promises does not rest on it.
-- Where trees and names stand in a text.
use Rattle.std.specs.Prelude.{ℕ, ◌≡◌, ◌≢◌, ⊤, List, [], ◌∷◌, ◌++◌}
use Rattle.statement.specs.Tree.{Tree, trees_of}
use Rattle.statement.specs.Lexical.{Token, word, Spot, spots, tokens_of}
use Rattle.statement.specs.Reading.{trees_tokens}

-- the spots `new` are the last of `old`, and have these tokens
pub record IsBehind (old : List Spot) (ks : List Token) (new : List Spot) : Type 0 where
  pub front : List Spot
  pub last : old ≡ front ++ new
  pub tokens : tokens_of new ≡ ks

-- where the spots begin with these tokens, they are left out
abbrev pub LeavesOut : List Spot → List Token → List Spot → Type 0
LeavesOut old gone new = (ks : List Token) → tokens_of old ≡ gone ++ ks → IsBehind old ks new

-- a token begins at o, and from there on the text has the tokens of these trees and no others
pub record BeginsAt (text : List ℕ) (ts : List Tree) (o : ℕ) : Type 0 where
  pub front : List Spot
  pub first : Spot
  pub rest : List Spot
  pub all : spots text ≡ front ++ (first ∷ rest)
  pub here : first.at ≡ o
  pub tokens : tokens_of (first ∷ rest) ≡ trees_tokens (trees_of ts)

-- the name is none of the tokens
abbrev pub IsNoWordOf : List ℕ → List Token → Type 0
IsNoWordOf w [] = ⊤
IsNoWordOf w (k ∷ ks) = (k ≢ word w) × IsNoWordOf w ks

-- the name is a token at o, behind the tokens of these trees, and it is none of those between
pub record IsFirstWordBehind (text : List ℕ) (ts : List Tree) (w : List ℕ) (o : ℕ) : Type 0 where
  pub front : List Spot
  pub between : List Spot
  pub rest : List Spot
  pub all : spots text ≡ (front ++ between) ++ (record { at = o; token = word w } ∷ rest)
  pub trees : tokens_of front ≡ trees_tokens (trees_of ts)
  pub first : IsNoWordOf w (tokens_of between)
