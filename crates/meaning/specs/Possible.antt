-- This crate's own: what `run` promises does not rest on it.
-- What may ever be true and done by rules in which relations may depend on themselves, and which rules are played as these.
use Rattle.std.specs.Prelude.{ℕ, Bool, true, ◌≡◌, ◌≢◌, ◌⊎◌, ◌↔◌, ⊤, List, [], ◌∷◌, Some, IsTrue}
use Rattle.statement.specs.Tree.{Tree}
use Rattle.statement.specs.Words.{w_role, w_base, w_input, w_init, w_next, w_legal, w_goal, w_terminal}
use Rattle.statement.specs.Clause.{Atom, Literal, positive, negative, Alternative, Relation, relation_of}
use Rattle.statement.specs.Dependence.{IsAmong, IsFixed, is_among}
use Rattle.statement.specs.Meaning.{StateOfTerms, Joint, Source, now, does, distinct, ordinary, source_of, nothing, nobody, atom1, atom2, IsDerivedIn, Holds, IsBase, IsInput}
use Rattle.meaning.specs.Derivable.{HoldsWhole}

abbrev pub HoldsWholeAlways : List Alternative → Atom → Type 0
HoldsWholeAlways rules x = HoldsWhole rules nothing nobody x

-- some rule has the relation as its head
abbrev pub IsStated : List Alternative → Relation → Type 0
IsStated rules p = (rule : Alternative) × IsAmong rule rules × (relation_of rule.head ≡ p)

-- what `base` and `input` say counts where anything states them
abbrev pub MayBeTrue : List Alternative → Tree → Type 0
MayBeTrue rules p = IsStated rules (record { word = w_base; arity = 1 }) → HoldsWholeAlways rules (atom1 w_base p)

abbrev pub MayBeDone : List Alternative → Tree → Tree → Type 0
MayBeDone rules r m =
    HoldsWholeAlways rules (atom1 w_role r)
    × (IsStated rules (record { word = w_input; arity = 2 }) → HoldsWholeAlways rules (atom2 w_input r m))

-- a positive atom may be right by its source, where H tells which ordinary atoms may hold: a term may be true where it
-- may be at the start or come next, and a move may be made where it may be legal
abbrev pub MayBe : List Alternative → (Atom → Type 0) → Atom → Source → Type 0
MayBe rules H x (now p) = MayBeTrue rules p × (H (atom1 w_init p) ⊎ H (atom1 w_next p))
MayBe rules H x (does r m) = MayBeDone rules r m × H (atom2 w_legal r m)
MayBe rules H x (distinct s t) = s ≢ t
MayBe rules H x ordinary = H x

-- a negated atom may be right where its relation moves; a fixed one has to be
abbrev pub MayFail : List Alternative → Atom → Source → Type 0
MayFail rules x (now p) = ⊤
MayFail rules x (does r m) = ⊤
MayFail rules x (distinct s t) = s ≢ t → ⊥
MayFail rules x ordinary = IsFixed rules (relation_of x) → HoldsWholeAlways rules x → ⊥

abbrev pub MayFit : List Alternative → (Atom → Type 0) → Literal → Type 0
MayFit rules H (positive x) = MayBe rules H x (source_of x)
MayFit rules H (negative x) = MayFail rules x (source_of x)

-- the least set of atoms that is closed under the rules, with what moves and is negated left out
abbrev pub MayHold : List Alternative → Atom → Type 0
MayHold rules x = (height : ℕ) × IsDerivedIn rules (MayFit rules) height x

-- what may ever be true, and what a role may ever do
abbrev pub IsWholeBase : List Alternative → Tree → Type 0
IsWholeBase rules p = MayBe rules (MayHold rules) (atom1 w_base p) (now p)

abbrev pub IsWholeInput : List Alternative → Tree → Tree → Type 0
IsWholeInput rules r m = MayBe rules (MayHold rules) (atom2 w_input r m) (does r m)

abbrev pub IsWithinWholeBase : List Alternative → StateOfTerms → Type 0
IsWithinWholeBase rules S = (p : Tree) → IsTrue (S p) → IsWholeBase rules p

abbrev pub IsWithinWholeInput : List Alternative → Joint → Type 0
IsWithinWholeInput rules J = (r m : Tree) → J r ≡ Some m → IsWholeInput rules r m

-- the words by which play goes
abbrev pub play_relations : List Relation
play_relations =
    record { word = w_role; arity = 1 } ∷ record { word = w_init; arity = 1 } ∷ record { word = w_next; arity = 1 }
    ∷ record { word = w_legal; arity = 2 } ∷ record { word = w_goal; arity = 2 } ∷ record { word = w_terminal; arity = 0 } ∷ []

abbrev pub is_play : Relation → Bool
is_play p = is_among p play_relations

-- The second rules are played as the first: what may be true and done by the first are base propositions and inputs of the second, and within
-- these each atom of a relation that the first state, or by which play goes, holds in the second exactly as in the first.
pub record PlaysAs (rules out : List Alternative) : Type 0 where
  pub base : (p : Tree) → IsWholeBase rules p → IsBase out p
  pub inputs : (r m : Tree) → IsWholeInput rules r m → IsInput out r m
  pub same : (S : StateOfTerms) (J : Joint) → IsWithinWholeBase rules S → IsWithinWholeInput rules J
      → (x : Atom) → IsStated rules (relation_of x) ⊎ (is_play (relation_of x) ≡ true) → Holds out S J x ↔ HoldsWhole rules S J x
