-- This crate's own: what `run` promises does not rest on it.
-- Texts that say what they are about.
use Rattle.std.specs.Prelude.{ℕ, ◌≡◌, ◌⊎◌, List, take, codes}

-- the text begins with the name of the input, or as that of an option does: so it is not empty
abbrev pub IsHeaded : List ℕ → Type 0
IsHeaded text = (take 7 text ≡ codes "<input>") ⊎ (take 2 text ≡ codes "--")
