-- This crate's own: what `run` promises does not rest on it.
-- A description that was accepted, in numbers, and what it stands for.
use Rattle.std.specs.Prelude.{ℕ, ◌≡◌, ◌<◌, Bool, false, List, [], ◌∷◌, All, Vec, length, map, slice_index_or}
use Rattle.statement.specs.Tree.{Tree, text}
use Rattle.rules.specs.declared.rule_set.Keywords.{Keywords}
use Rattle.statement.specs.Words.{w_role, w_base, w_input, w_init, w_true, w_does, w_next, w_legal, w_goal, w_terminal, w_distinct}
use Rattle.statement.specs.Dependence.{is_fixed}
use Rattle.statement.specs.Items.{alternatives}
use Rattle.rules_clauses.specs.Numbers.{word_at, NamesDiffer}
use Rattle.statement.specs.Order.{relations_in_order}
use Rattle.statement.specs.Profile as profile
use Rattle.statement.specs.Profile.{HasNoFault}
use Rattle.rules_clauses.specs.Store.{Data, relation_at}
use Rattle.rules_clauses.specs.Adding.{AreDifferentSignatures, HasVariables, HaveNames}
use Rattle.statement.specs.Clause as said
use Rattle.rules_clauses.specs.Marks.{IsInside, AreInside}
use Rattle.rules.specs.Drafts.{Numbered, alternative_of}

-- the number is that of the name
pub record IsNameNumber (words : List (List ℕ)) (number : ℕ) (word : List ℕ) : Type 0 where
  pub inside : number < length words
  pub same : word_at words number ≡ word

pub record AreKeywords (words : List (List ℕ)) (k : Keywords) : Type 0 where
  pub role : IsNameNumber words k.role w_role
  pub base : IsNameNumber words k.base w_base
  pub input : IsNameNumber words k.input w_input
  pub init : IsNameNumber words k.init w_init
  pub now : IsNameNumber words k.now w_true
  pub does : IsNameNumber words k.does w_does
  pub next : IsNameNumber words k.next w_next
  pub legal : IsNameNumber words k.legal w_legal
  pub goal : IsNameNumber words k.goal w_goal
  pub terminal : IsNameNumber words k.terminal w_terminal
  pub distinct : IsNameNumber words k.distinct w_distinct

-- the alternatives that numbers stand for
abbrev pub rules_of : Data → List Numbered → List said.Alternative
rules_of d ns = map (alternative_of d) ns

-- items without a fault, of which these are the alternatives and the texts of the roles
pub record HasItems (rules : List said.Alternative) (roles : List (List ℕ)) : Type 0 where
  pub items : List Tree
  pub accepted : HasNoFault items
  pub same : alternatives items ≡ rules
  pub roles_are : roles ≡ map text (profile.roles items)

-- each atom of the alternative names what is there, and different variables of its item are different names
abbrev pub IsWhole : Data → Numbered → Type 0
IsWhole d n = IsInside n.variables.from d n.head × AreInside n.variables.from d n.body × HasVariables d n.variables

abbrev pub AreWhole : Data → List Numbered → Type 0
AreWhole d [] = Unit {0}
AreWhole d (n ∷ ns) = IsWhole d n × AreWhole d ns

-- different numbers are different names and relations, each number has what it names, and the marks
-- and the order are those of the alternatives
pub record IsSound (d : Data) (ns : List Numbered) (fixed : List Bool) (order : List ℕ) (k : Keywords) : Type 0 where
  pub words : NamesDiffer d.words
  pub signatures : AreDifferentSignatures d.signatures
  pub named : HaveNames d
  pub whole : AreWhole d ns
  pub each_fixed : length fixed ≡ length d.signatures
  pub fixed_are : (r : ℕ) → r < length d.signatures → slice_index_or fixed r false ≡ is_fixed (rules_of d ns) (relation_at d r)
  pub inside : All (λ r. r < length d.signatures) order
  pub in_order : map (λ r. relation_at d r) order ≡ relations_in_order (rules_of d ns)
  pub keywords : AreKeywords d.words k

-- the bytes of texts
abbrev pub texts_of : {G : Type 0} → List (Vec ℕ G) → List (List ℕ)
texts_of vs = map (λ v. v.items) vs

abbrev pub text_of_role : List (List ℕ) → ℕ → List ℕ
text_of_role texts n = slice_index_or texts n []
