-- This crate's own: what `run` promises does not rest on it.
-- Each fault of a list of items, by the first item that has it.
use Rattle.std.specs.Prelude.{ℕ, zero, suc, true, false, ◌≡◌, ◌<◌, ◌≤◌, ◌⊎◌, List, [], ◌∷◌, length, take}
use Rattle.statement.specs.Tree.{Tree}
use Rattle.statement.specs.Words.{w_base, w_input, w_init, w_legal, w_goal, w_terminal}
use Rattle.statement.specs.RuleLimits.{most_items, most_variables, most_alternatives, most_roles}
use Rattle.statement.specs.Clause.{Literal, Alternative, Relation, relation_of, atom_of}
use Rattle.statement.specs.Dependence.{IsAmong, is_distinct, Depends, IsAcyclic, IsFixed}
use Rattle.statement.specs.Items.{is_item, item_head, item_alternatives, alternatives}
use Rattle.statement.specs.Safety.{variables, count_different}
use Rattle.statement.specs.Profile.{ItemFault, Limit, rules_limit, variables_limit, alternatives_limit, roles_limit, bad_form, bad_keyword, too_many}
use Rattle.statement.specs.Profile.{not_safe, recursive, bad_dependence, no_role, does_relation, roles}
use Rattle.rules_profile.specs.Lawful.{UsesWordsWell, IsSafe, KeepsLimits, relation, RestsWell}

-- the item at a place, counted from 0
abbrev pub ItemStandsAt : List Tree → ℕ → Tree → Type 0
ItemStandsAt [] k t = ⊥
ItemStandsAt (u ∷ us) zero t = t ≡ u
ItemStandsAt (u ∷ us) (suc k) t = ItemStandsAt us k t

-- item n is the first with a property
pub record IsFirst (P : Tree → Type 0) (items : List Tree) (n : ℕ) : Type 0 where
  pub place : ℕ
  pub number : n ≡ suc place
  pub item : Tree
  pub here : ItemStandsAt items place item
  pub has : P item
  pub before : (k : ℕ) (t : Tree) → k < place → ItemStandsAt items k t → P t → ⊥

-- a body atom of the item, `distinct` aside, has the relation
pub record RestsOn (t : Tree) (q : Relation) : Type 0 where
  pub rule : Alternative
  pub is_rule : IsAmong rule (item_alternatives t)
  pub literal : Literal
  pub in_body : IsAmong literal rule.body
  pub names : relation_of (atom_of literal) ≡ q
  pub not_distinct : is_distinct q ≡ false

abbrev pub HasForm : Tree → Type 0
HasForm t = is_item t ≡ true

abbrev pub IsSafeItem : Tree → Type 0
IsSafeItem t = (rule : Alternative) → IsAmong rule (item_alternatives t) → IsSafe rule

-- q is p, or rests on it
abbrev pub LeadsTo : List Alternative → Relation → Relation → Type 0
LeadsTo rules q p = (q ≡ p) ⊎ Depends rules q p

-- the item's head rests on itself
abbrev pub RestsOnItself : List Alternative → Tree → Type 0
RestsOnItself rules t = (q : Relation) × RestsOn t q × LeadsTo rules q (relation_of (item_head t))

-- `legal`, `goal` and `terminal` are about the turn, before its moves
abbrev pub IsOfTurn : Relation → Type 0
IsOfTurn p = (p ≡ relation w_legal 2) ⊎ ((p ≡ relation w_goal 2) ⊎ (p ≡ relation w_terminal 0))

-- `base`, `input` and `init` are the same at all times
abbrev pub IsOfAllTime : Relation → Type 0
IsOfAllTime p = (p ≡ relation w_base 1) ⊎ ((p ≡ relation w_input 2) ⊎ (p ≡ relation w_init 1))

-- the head is of the turn and rests on moves, or is of all time and rests on what is not fixed
abbrev pub RestsBadly : List Alternative → Tree → Type 0
RestsBadly rules t =
    (IsOfTurn (relation_of (item_head t)) × ((q : Relation) × RestsOn t q × LeadsTo rules q does_relation))
    ⊎ (IsOfAllTime (relation_of (item_head t)) × ((q : Relation) × RestsOn t q × (IsFixed rules q → ⊥)))

abbrev pub Each : (Tree → Type 0) → List Tree → Type 0
Each P items = (t : Tree) → IsAmong t items → P t

-- the limits of the whole list and of each item
pub record AllKeepLimits (items : List Tree) : Type 0 where
  pub few_items : length items ≤ most_items
  pub each : Each KeepsLimits items
  pub few_roles : length (roles items) ≤ most_roles

-- item n passes the limit, where the roles up to it are these
abbrev pub PassesWith : List Tree → ℕ → Tree → Limit → Type 0
PassesWith rs n t rules_limit = n ≡ suc most_items
PassesWith rs n t variables_limit = most_variables < count_different (variables t)
PassesWith rs n t alternatives_limit = most_alternatives < length (item_alternatives t)
PassesWith rs n t roles_limit = most_roles < length rs

-- the same, by the roles of the items up to it
abbrev pub Passes : List Tree → ℕ → Tree → Limit → Type 0
Passes items n t l = PassesWith (roles (take n items)) n t l

abbrev pub limit_place : Limit → ℕ
limit_place rules_limit = 0
limit_place variables_limit = 1
limit_place alternatives_limit = 2
limit_place roles_limit = 3

-- item n is the first that passes a limit, and this is the first that it passes
pub record IsFirstOver (items : List Tree) (n : ℕ) (l : Limit) : Type 0 where
  pub place : ℕ
  pub number : n ≡ suc place
  pub item : Tree
  pub here : ItemStandsAt items place item
  pub passes : Passes items n item l
  pub sooner : (m : Limit) → limit_place m < limit_place l → Passes items n item m → ⊥
  pub before : (k : ℕ) (t : Tree) (m : Limit) → k < place → ItemStandsAt items k t → Passes items (suc k) t m → ⊥

-- the fault, with no earlier one
abbrev pub HasFault : List Tree → ItemFault → Type 0
HasFault items (bad_form n) = IsFirst (λ t. HasForm t → ⊥) items n
HasFault items (bad_keyword n) = Each HasForm items × IsFirst (λ t. UsesWordsWell t → ⊥) items n
HasFault items (too_many n l) = Each HasForm items × Each UsesWordsWell items × IsFirstOver items n l
HasFault items (not_safe n) = Each HasForm items × Each UsesWordsWell items × AllKeepLimits items × IsFirst (λ t. IsSafeItem t → ⊥) items n
HasFault items (recursive n) =
    Each HasForm items × Each UsesWordsWell items × AllKeepLimits items × Each IsSafeItem items
    × IsFirst (RestsOnItself (alternatives items)) items n
HasFault items (bad_dependence n) =
    Each HasForm items × Each UsesWordsWell items × AllKeepLimits items × Each IsSafeItem items
    × IsAcyclic (alternatives items) × IsFirst (RestsBadly (alternatives items)) items n
HasFault items no_role =
    Each HasForm items × Each UsesWordsWell items × AllKeepLimits items × Each IsSafeItem items
    × IsAcyclic (alternatives items) × RestsWell (alternatives items) × (roles items ≡ [])
