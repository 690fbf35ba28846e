-- This crate's own: what `run` promises does not rest on it.
-- What a draft of a rule set holds.
use Rattle.std.specs.Prelude.{ℕ, ◌≡◌, ◌<◌, Bool, true, false, List, [], ◌∷◌, ◌++◌, map, length, Some}
use Rattle.statement.specs.Tree.{Tree}
use Rattle.rules_clauses.specs.declared.numbered.Alternative.{Alternative}
use Rattle.rules_clauses.specs.declared.numbered.SharedAlternative.{SharedAlternative}
use Rattle.rules_clauses.specs.declared.numbered.Atom.{Atom}
use Rattle.rules_clauses.specs.declared.numbered.Span.{Span}
use Rattle.rules.specs.declared.draft.Draft.{Draft}
use Rattle.rules_clauses.specs.declared.items.Item.{Item}
use Rattle.rules.specs.declared.item_links.Links.{Links}
use Rattle.statement.specs.Clause as said
use Rattle.statement.specs.Items.{item_head, item_alternatives, alternatives, body_trees, readings_of_all}
use Rattle.statement.specs.declared.rule_fault.RuleFault.{RuleFault}
use Rattle.statement.specs.declared.rule_fault.RuleFault.TheVariants as errors
use Rattle.rules.specs.Numbering.{AreBodyNumbers}
use Rattle.statement.specs.Profile.{first_failing, not_safe, is_unsafe}
use Rattle.rules_clauses.specs.Numbers.{NamesDiffer}
use Rattle.rules_clauses.specs.Spread.{lists_of, numbers_in}
use Rattle.rules_clauses.specs.Store.{Data, relation_at, stated_atom, stated_literal}
use Rattle.rules_clauses.specs.StoreView.{data_of}
use Rattle.rules_clauses.specs.Adding.{Extends, AreDifferentSignatures, HasVariables, HaveNames, AtomStandsFor, StandForEach}
use Rattle.rules_clauses.specs.ItemView.{ItemStandsFor}
use Rattle.rules.specs.Bodies.{all_named_relations, HaveSame, has_literal}

-- an alternative as numbers
pub record Numbered : Type 0 where
  pub variables : Span
  pub head : Atom
  pub body : List ℕ

abbrev pub numbered : Alternative → Numbered
numbered a = record { variables = a.variables; head = a.head; body = a.body.items }

-- the same of one that shares the literals of its item
abbrev pub shared : SharedAlternative → Numbered
shared a = record { variables = a.variables; head = a.head; body = numbers_in a.body.items }

-- the alternative that stands for an item
abbrev pub alternative_of : Data → Numbered → said.Alternative
alternative_of d a = record { head = stated_atom d a.variables.from a.head; body = map (stated_literal d a.variables.from) a.body }

-- the numbers stand for the alternative
pub record AlternativeStandsFor (d : Data) (n : Numbered) (a : said.Alternative) : Type 0 where
  pub head : AtomStandsFor n.variables.from d n.head a.head
  pub body : StandForEach n.variables.from d n.body a.body
  pub variables : HasVariables d n.variables

abbrev pub StandForAlternatives : Data → List Numbered → List said.Alternative → Type 0
StandForAlternatives d [] [] = Unit {0}
StandForAlternatives d [] (a ∷ as') = ⊥
StandForAlternatives d (n ∷ ns) [] = ⊥
StandForAlternatives d (n ∷ ns) (a ∷ as') = AlternativeStandsFor d n a × StandForAlternatives d ns as'

abbrev pub numbered_with : Span → Atom → List (List ℕ) → List Numbered
numbered_with variables head [] = []
numbered_with variables head (b ∷ bodies) = record { variables = variables; head = head; body = b } ∷ numbered_with variables head bodies

-- the alternatives of an item
abbrev pub numbered_of : Item → List Numbered
numbered_of i = numbered_with i.variables i.head (lists_of i.bodies.items)

-- the link is that of the item
pub record LinksItem (d : Data) (i : Item) (l : Links) : Type 0 where
  pub head : l.head ≡ i.head.relation
  pub body : HaveSame l.body.items (all_named_relations d (lists_of i.bodies.items))

-- an item that is safe was added behind the others
pub record AddsSafe (old new : Draft) (t : Tree) : Type 0 where
  pub extends : Extends (data_of old.store) (data_of new.store)
  pub words : NamesDiffer (data_of old.store).words → NamesDiffer (data_of new.store).words
  pub signatures : AreDifferentSignatures (data_of old.store).signatures → AreDifferentSignatures (data_of new.store).signatures
  pub named : HaveNames (data_of old.store) → HaveNames (data_of new.store)
  pub item : Item
  pub link : Links
  pub stands : (later : Data) → Extends (data_of new.store) later → ItemStandsFor later item t
  pub alternatives : map shared new.alternatives.items ≡ map shared old.alternatives.items ++ numbered_of item
  pub linked : LinksItem (data_of new.store) item link
  pub links : new.links.items ≡ old.links.items ++ link ∷ []
  pub rests : new.rests.items ≡ old.rests.items ++ has_literal (lists_of item.bodies.items) ∷ []

-- the item was added if it is safe
abbrev pub AddsItem : Draft → Draft → Tree → Bool → Type 0
AddsItem old new t true = AddsSafe old new t × (is_unsafe t ≡ false)
AddsItem old new t false = is_unsafe t ≡ true

-- some reading has a literal
abbrev pub some_literal_in : List (List said.Literal) → Bool
some_literal_in [] = false
some_literal_in ([] ∷ rs) = some_literal_in rs
some_literal_in ((l ∷ ls) ∷ rs) = true

-- the error is the first item that is not safe, or memory ran out
abbrev pub IsSafetyFault : List Tree → RuleFault → Type 0
IsSafetyFault items (errors.Unsafe n) = first_failing not_safe is_unsafe 1 items ≡ Some (not_safe n)
IsSafetyFault items errors.NoMemory = Unit {0}
IsSafetyFault items (errors.BadForm n) = ⊥
IsSafetyFault items (errors.BadKeyword n) = ⊥
IsSafetyFault items (errors.Recursive n) = ⊥
IsSafetyFault items (errors.BadDependence n) = ⊥
IsSafetyFault items errors.NoRole = ⊥
IsSafetyFault items (errors.TooMany n excess) = ⊥

-- the link stands for the item
pub record LinkStandsFor (d : Data) (l : Links) (t : Tree) : Type 0 where
  pub head_in : l.head < length d.signatures
  pub named : relation_at d l.head ≡ said.relation_of (item_head t)
  pub body : AreBodyNumbers (length d.signatures) (λ r. relation_at d r) (item_alternatives t) l.body.items

abbrev pub StandForItems : Data → List Links → List Tree → Type 0
StandForItems d [] [] = Unit {0}
StandForItems d [] (t ∷ ts) = ⊥
StandForItems d (l ∷ ls) [] = ⊥
StandForItems d (l ∷ ls) (t ∷ ts) = LinkStandsFor d l t × StandForItems d ls ts

-- some alternative of the item has a literal
abbrev pub rests_on_any : Tree → Bool
rests_on_any t = some_literal_in (readings_of_all (body_trees t))

-- the draft is that of the items
pub record IsDraftOf (draft : Draft) (items : List Tree) : Type 0 where
  pub words : NamesDiffer (data_of draft.store).words
  pub signatures : AreDifferentSignatures (data_of draft.store).signatures
  pub named : HaveNames (data_of draft.store)
  pub alternatives : (later : Data) → Extends (data_of draft.store) later
      → StandForAlternatives later (map shared draft.alternatives.items) (alternatives items)
  pub links : (later : Data) → Extends (data_of draft.store) later → StandForItems later draft.links.items items
  pub rests : draft.rests.items ≡ map rests_on_any items
