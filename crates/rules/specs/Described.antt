-- This crate's own: what `run` promises does not rest on it.
-- Items without a fault, in numbers.
use Rattle.std.specs.Prelude.{◌≡◌, List, map}
use Rattle.statement.specs.Tree.{Tree, text}
use Rattle.statement.specs.Profile.{HasNoFault, roles}
use Rattle.rules_clauses.specs.StoreView.{data_of}
use Rattle.rules.specs.declared.check.Described.{Described}
use Rattle.rules.specs.Drafts.{IsDraftOf}
use Rattle.rules.specs.Layout.{IsLayoutOf}
use Rattle.rules.specs.RuleSets.{AreKeywords, texts_of}

pub record IsDescribed (all : Described) (items : List Tree) : Type 0 where
  pub clean : HasNoFault items
  pub read : IsDraftOf all.draft items
  pub keywords : AreKeywords (data_of all.draft.store).words all.keywords
  pub laid : IsLayoutOf (data_of all.draft.store) items all.layout.fixed.items all.layout.order.items
  pub texts : texts_of all.roles.items ≡ map text (roles items)
