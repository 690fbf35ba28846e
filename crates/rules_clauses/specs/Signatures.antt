-- This crate's own: what `run` promises does not rest on it.
-- Relations by number.
use Rattle.std.specs.Prelude.{ℕ, Bool, false, cond, ◌&&◌, ◌||◌, ◌==◌, List, [], ◌∷◌, ◌++◌, slice_index_or}
use Rattle.rules_clauses.specs.declared.signatures.Signature.{Signature}

abbrev pub signature_eq : Signature → Signature → Bool
signature_eq s t = (s.word == t.word) && (s.arity == t.arity)

-- the two numbers of a relation
abbrev pub signature_key : Signature → List ℕ
signature_key s = s.word ∷ s.arity ∷ []

abbrev pub no_signature : Signature
no_signature = record { word = 0; arity = 0 }

-- the relation with a number
abbrev pub signature_at : List Signature → ℕ → Signature
signature_at ss n = slice_index_or ss n no_signature

abbrev pub is_signature_in : Signature → List Signature → Bool
is_signature_in s [] = false
is_signature_in s (t ∷ ts) = signature_eq s t || is_signature_in s ts

-- the relations once one more is numbered: as they are if it is there, and else with it behind them
abbrev pub with_signature : List Signature → Signature → List Signature
with_signature ss s = cond (is_signature_in s ss) ss (ss ++ s ∷ [])
