-- This crate's own: what `run` promises does not rest on it.
-- When each finding is true.
use Rattle.std.specs.Prelude.{ℕ, Bool, true, false, not, ◌≡◌, ◌&&◌, ◌||◌, List, [], ◌∷◌, drop}
use Rattle.statement.specs.Tree.{Tree}
use Rattle.statement.specs.Clause.{Relation}
use Rattle.rules_relations.specs.Relations.{relation_in}
use Rattle.rules_relations.specs.Asking.{heads_it, asks_it, some_item}
use Rattle.rules_profile.specs.Uses.{use_in}
use Rattle.diagnose_lint.specs.Names.{is_one_of, language, foreign, states_bad_goal}
use Rattle.diagnose_lint.specs.declared.finding.Finding.{Finding}
use Rattle.diagnose_lint.specs.declared.finding.Finding.TheVariants.{NeverStated, OtherArity, NeverAsked, BadGoal, Foreign, Missing}
use Rattle.diagnose_lint.specs.declared.finding.Note.{Note}

-- the item asks a relation that is no word of the language and that no item states
abbrev pub is_never_stated : List Tree → Tree → Relation → Bool
is_never_stated ts t p = (asks_it p t && not (is_one_of p.word language)) && not (some_item (heads_it p) ts)

-- so, and some item states a relation of this name with n arguments
abbrev pub is_other_arity : List Tree → Tree → Relation → ℕ → Bool
is_other_arity ts t p n = is_never_stated ts t p && some_item (heads_it (record { word = p.word; arity = n })) ts

-- the item states a relation that is no word of the language and that no item asks
abbrev pub is_never_asked : List Tree → Tree → Relation → Bool
is_never_asked ts t p = (heads_it p t && not (is_one_of p.word language)) && not (some_item (asks_it p) ts)

-- the item states or asks a relation of a foreign name
abbrev pub uses_foreign : Tree → Relation → Bool
uses_foreign t p = (heads_it p t || asks_it p t) && is_one_of p.word foreign

-- the finding is true of an item of the list
abbrev pub holds_of : List Tree → Tree → Finding → Bool
holds_of ts t (NeverStated p) = is_never_stated ts t (relation_in p)
holds_of ts t (OtherArity p n) = is_other_arity ts t (relation_in p) n
holds_of ts t (NeverAsked p) = is_never_asked ts t (relation_in p)
holds_of ts t BadGoal = states_bad_goal t
holds_of ts t (Foreign p) = uses_foreign t (relation_in p)
holds_of ts t (Missing w) = not (some_item (heads_it (record { word = (use_in w).word; arity = (use_in w).arity })) ts)

abbrev pub holds_of_first : List Tree → List Tree → Finding → Bool
holds_of_first ts [] f = false
holds_of_first ts (t ∷ us) f = holds_of ts t f

-- the finding is true of the item at its place
abbrev pub IsTrueNote : List Tree → Note → Type 0
IsTrueNote ts note = holds_of_first ts (drop note.place ts) note.finding ≡ true
