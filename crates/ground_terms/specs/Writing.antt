-- This crate's own: what `run` promises does not rest on it.
-- Writing the text of a term, with a stack of what is still to be written.
use Rattle.std.specs.Prelude.{ℕ, ◌<◌, ◌≡◌, List, [], ◌∷◌, ◌++◌, reverse, ⊤}
use Rattle.statement.specs.Tree.{Tree, text}
use Rattle.ground_terms.specs.declared.writing.Pending.{Pending}
use Rattle.ground_terms.specs.declared.writing.Pending.TheVariants.{Term, Closing}
use Rattle.ground_terms.specs.Keys.{term_at}

-- the text of what is still to be written, from the top of the stack on: a term has a space before it
abbrev pub pending_text : List Tree → List Pending → List ℕ
pending_text terms [] = []
pending_text terms (Term k ∷ ps) = 32 ∷ text (term_at terms k) ++ pending_text terms ps
pending_text terms (Closing ∷ ps) = 41 ∷ pending_text terms ps

-- all numbers are below n
abbrev pub AreKnown : ℕ → List Pending → Type 0
AreKnown n [] = ⊤
AreKnown n (Term k ∷ ps) = (k < n) × AreKnown n ps
AreKnown n (Closing ∷ ps) = AreKnown n ps

-- a part of a text is written, and what is left of it is put on the stack
pub record Writes (n : ℕ) (terms : List Tree) (whole : List ℕ) (out wrote : List ℕ) (before after : List Pending) : Type 0 where
  pub written : List ℕ
  pub more : List Pending
  pub out_is : wrote ≡ out ++ written
  pub stack : after ≡ before ++ reverse more
  pub text_is : written ++ pending_text terms more ≡ whole
  pub known : AreKnown n more
