-- This crate's own: what `run` promises does not rest on it.
-- Items that rest on themselves through a negated atom.
use Rattle.std.specs.Prelude.{◌≡◌, ◌⊎◌, false, List, map}
use Rattle.statement.specs.Tree.{Tree}
use Rattle.statement.specs.Clause.{Atom, negative, Alternative, relation_of}
use Rattle.statement.specs.Items.{item_head}
use Rattle.statement.specs.Dependence.{IsAmong, is_distinct, Depends}
use Rattle.rules_relations.specs.Asking.{body_literals}

-- each item as one rule that has all literals of the body, however they are joined
abbrev pub rule_in : Tree → Alternative
rule_in t = record { head = item_head t; body = body_literals t }

abbrev pub rules_in : List Tree → List Alternative
rules_in items = map rule_in items

-- the head's relation is that of a negated atom of the body, or the negated one depends on it
pub record RestsOnItsNegation (items : List Tree) (t : Tree) : Type 0 where
  pub atom : Atom
  pub in_body : IsAmong (negative atom) (body_literals t)
  pub not_distinct : is_distinct (relation_of atom) ≡ false
  pub back : (relation_of atom ≡ relation_of (item_head t)) ⊎ Depends (rules_in items) (relation_of atom) (relation_of (item_head t))
