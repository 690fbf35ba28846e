-- This crate's own: what `run` promises does not rest on it.
-- How play by numbers and the meaning of the rules agree.
use Rattle.std.specs.Prelude.{ℕ, ◌≡◌, true, false, ◌↔◌, List}
use Rattle.statement.specs.Clause.{Atom, Alternative, relation_of}
use Rattle.statement.specs.Dependence.{IsAmong, is_fixed}
use Rattle.statement.specs.Meaning.{StateOfTerms, Joint, source_of, RightAs}
use Rattle.statement.specs.Kinds.{kind_of}
use Rattle.statement.specs.Listing.{listing}
use Rattle.statement.specs.Rules.{Turn}
use Rattle.game_rules.specs.RulePlay.{is_given}

-- the numbers of the state and the moves make right what the state and the joint move make right
abbrev pub Agree : List Alternative → StateOfTerms → Joint → List ℕ → Turn → Type 0
Agree rules S J s j =
    (x : Atom) → IsAmong x (listing rules).atoms → is_fixed rules (relation_of x) ≡ false
    → (is_given s j (kind_of rules x) ≡ true) ↔ RightAs S J ⊥ (source_of x)
