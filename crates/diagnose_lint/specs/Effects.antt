-- This crate's own: what `run` promises does not rest on it.
-- When it is true of an item that a head of it has no effect on play.
use Rattle.std.specs.Prelude.{ℕ, suc, Bool, true, false, not, ◌&&◌, ◌||◌, ◌≡◌, ◌<◌, ◌≤◌, List, length, take}
use Rattle.statement.specs.Tree.{Tree, name, list, Trees, no_trees, tree, text}
use Rattle.statement.specs.Words.{w_init, w_next, w_legal, w_goal}
use Rattle.statement.specs.Clause.{Atom, Alternative, relation_of, is_word, tree_of}
use Rattle.statement.specs.Dependence.{IsAmong}
use Rattle.statement.specs.Items.{alternatives}
use Rattle.statement.specs.Profile.{is_tree_in}
use Rattle.statement.specs.Listing.{Instance, listing, role_list}
use Rattle.statement.specs.GoalsAndMoves.{misses_base, misses_input}
use Rattle.diagnose_lint.specs.Names.{is_goal_number}
use Rattle.diagnose_lint.specs.declared.dropped_finding.Lack.{Lack}
use Rattle.diagnose_lint.specs.declared.dropped_finding.Lack.TheVariants.{Base, Input, Goal}
use Rattle.diagnose_lint.specs.declared.dropped_finding.Dropped.{Dropped}

-- a goal value: a number from 0 to 100 in decimal, without a leading zero
abbrev pub is_goal_term : Tree → Bool
is_goal_term (name w) = is_goal_number w
is_goal_term (list ts) = false

abbrev pub misses_goal : List Alternative → Trees → Bool
misses_goal rules no_trees = false
misses_goal rules (tree r no_trees) = false
misses_goal rules (tree r (tree v no_trees)) = not (is_tree_in r (role_list rules) && is_goal_term v)
misses_goal rules (tree r (tree v (tree t ts))) = false

-- an `init` or a `next` of what is no base proposition; a `legal` of no role, or of what is no input of it; a `goal` of no role, or of what
-- is no goal value
abbrev pub lacks : List Alternative → Lack → Atom → Bool
lacks rules Base x = (is_word w_init 1 (relation_of x) || is_word w_next 1 (relation_of x)) && misses_base rules x.terms
lacks rules Input x = is_word w_legal 2 (relation_of x) && misses_input rules x.terms
lacks rules Goal x = is_word w_goal 2 (relation_of x) && misses_goal rules x.terms

-- a kept instance of the alternative at place n has a head of this text that lacks this
pub record HasLackingHead (rules : List Alternative) (n : ℕ) (lack : Lack) (bytes : List ℕ) : Type 0 where
  pub instance : Instance
  pub kept : IsAmong instance (listing rules).kept
  pub place : instance.place ≡ n
  pub lacking : lacks rules lack instance.head ≡ true
  pub shown : bytes ≡ text (tree_of instance.head)

-- the alternative at place n is one of the item at this place: behind those of the items before it
pub record IsOfItem (ts : List Tree) (place n : ℕ) : Type 0 where
  pub behind : length (alternatives (take place ts)) ≤ n
  pub before : n < length (alternatives (take (suc place) ts))

-- the item at its place has such a head
pub record IsTrueDropped (ts : List Tree) (d : Dropped) : Type 0 where
  pub alternative : ℕ
  pub own : IsOfItem ts d.place alternative
  pub head : HasLackingHead (alternatives ts) alternative d.lack d.text.items

-- the item of the first stands before that of the second
abbrev pub IsBefore : Dropped → Dropped → Type 0
IsBefore d e = d.place < e.place
