-- This crate's own: what `run` promises does not rest on it.
-- What heads lack to have an effect on play, by the numbers of terms.
use Rattle.std.specs.Prelude.{ℕ, Bool, false, not, ◌&&◌, ◌==◌, nat_eq, nat_lt, List, [], ◌∷◌, length, map}
use Rattle.std.specs.List.{list_any}
use Rattle.rules.specs.declared.rule_set.Keywords.{Keywords}
use Rattle.rules.specs.declared.rule_set.RuleSet.{RuleSet}
use Rattle.rules.specs.RuleSetView.{keywords_in}
use Rattle.rules_clauses.specs.Numbers.{word_at}
use Rattle.util_interner.specs.KeyLists.{key_at}
use Rattle.ground_terms.specs.Vectors.{items_of}
use Rattle.ground_terms.specs.Dropping.{misses_base_in, misses_input_in}
use Rattle.ground_listing.specs.declared.all_listed.Listed.{Listed}
use Rattle.ground_rows.specs.Contexts.{terms_named}
use Rattle.ground_rows.specs.SetWords.{words_of}
use Rattle.diagnose_lint.specs.Names.{is_goal_number}
use Rattle.diagnose_lint.specs.declared.dropped_finding.Lack.{Lack}
use Rattle.diagnose_lint.specs.declared.dropped_finding.Lack.TheVariants.{Base, Input, Goal}

-- the key is that of a name that is a goal value
abbrev pub is_goal_key : List (List ℕ) → List ℕ → Bool
is_goal_key words [] = false
is_goal_key words (s ∷ []) = nat_lt s (length words) && is_goal_number (word_at words s)
is_goal_key words (s ∷ (p ∷ ps)) = false

-- the word and parts are those of a `goal` of no role, or whose value is no goal value
abbrev pub misses_goal_in : List (List ℕ) → List (List ℕ) → Keywords → List ℕ → ℕ → ℕ → ℕ → Bool
misses_goal_in words keys named roles w r v = (w == named.goal) && not (list_any (nat_eq r) roles && is_goal_key words (key_at keys v))

-- names, keys, and the numbers of what play is about
pub record Numbers : Type 0 where
  pub words : List (List ℕ)
  pub keys : List (List ℕ)
  pub named : Keywords
  pub bases : List ℕ
  pub roles : List ℕ
  pub inputs : List (List ℕ)

-- those of a set of rules
abbrev pub numbers_of : RuleSet → Listed → Numbers
numbers_of set l = record {
  words = words_of set;
  keys = l.arena.keys;
  named = keywords_in set;
  bases = terms_named l.context.base.items;
  roles = terms_named l.context.roles.items;
  inputs = map terms_named (items_of l.context.inputs.items);
}

-- the atom of the key lacks this
abbrev pub lacks_in : Numbers → Lack → List ℕ → Bool
lacks_in n lack [] = false
lacks_in n lack (w ∷ []) = false
lacks_in n Base (w ∷ (p ∷ [])) = misses_base_in n.named n.bases w p
lacks_in n Input (w ∷ (p ∷ [])) = false
lacks_in n Goal (w ∷ (p ∷ [])) = false
lacks_in n Base (w ∷ (r ∷ (m ∷ []))) = false
lacks_in n Input (w ∷ (r ∷ (m ∷ []))) = misses_input_in n.named n.roles n.inputs w r m
lacks_in n Goal (w ∷ (r ∷ (m ∷ []))) = misses_goal_in n.words n.keys n.named n.roles w r m
lacks_in n lack (w ∷ (r ∷ (m ∷ (x ∷ xs)))) = false
