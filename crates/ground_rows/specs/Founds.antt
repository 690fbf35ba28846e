-- This crate's own: what `run` promises does not rest on it.
-- What is listed, by the numbers of terms and of atoms.
use Rattle.std.specs.Prelude.{ℕ, ◌≡◌, ◌<◌, Bool, cond, nat_lt, List, [], ◌∷◌, Option, Some, None, length, map, filter, ⊤}
use Rattle.statement.specs.Tree.{Tree, text}
use Rattle.statement.specs.Clause.{Atom, Alternative, tree_of}
use Rattle.statement.specs.Kept.{Kept, is_read, reading}
pub use Rattle.ground_instances.specs.Lists.{AreLaid, entry_heads, numbers_of_list}
use Rattle.ground_terms.specs.Keys.{term_at}
use Rattle.statement.specs.Listing.{Instance}
use Rattle.statement.specs.Most.{limits}

-- an instance: its head as a tree, and the numbers of the atoms of those literals of its body that are read, with
-- whether they are negated
pub record Told : Type 0 where
  pub place : ℕ
  pub head : Tree
  pub body : List (ℕ × Bool)

-- what is told of an instance where these are the atoms
abbrev pub told_by : List Alternative → List Atom → Instance → Told
told_by rules atoms i = record { place = i.place; head = tree_of i.head; body = map (reading atoms) (filter (is_read rules atoms) i.body) }

abbrev pub told : List Tree → Kept → Told
told terms k = record { place = k.alternative; head = term_at terms k.head; body = k.body }

abbrev pub head_numbers : List Kept → List ℕ
head_numbers ks = map (λ (k : Kept). k.head) ks

-- the numbers of heads are below n
abbrev pub AreAllBelow : ℕ → List Kept → Type 0
AreAllBelow n [] = ⊤
AreAllBelow n (k ∷ ks) = (k.head < n) × AreAllBelow n ks

-- numbers of heads, which are terms, and of atoms that are instances where these are the atoms
pub record AreFound (rules : List Alternative) (atoms : List Atom) (terms : List Tree) (found : List Kept) (instances : List Instance) : Type 0 where
  pub below : AreAllBelow (length terms) found
  pub same : map (told terms) found ≡ map (told_by rules atoms) instances

-- an instance, but that heads whose texts are too long are not told apart
pub record ToldShort : Type 0 where
  pub place : ℕ
  pub head : Option Tree
  pub body : List (ℕ × Bool)

-- a head, unless its text is longer than that of any may be
abbrev pub short_head : Tree → Option Tree
short_head t = cond (nat_lt limits.text (length (text t))) None (Some t)

abbrev pub shortened : Told → ToldShort
shortened t = record { place = t.place; head = short_head t.head; body = t.body }

-- numbers that are instances, but that a head whose text is too long may be another such head
pub record AreFoundShort (rules : List Alternative) (atoms : List Atom) (terms : List Tree) (found : List Kept) (instances : List Instance) : Type 0 where
  pub below : AreAllBelow (length terms) found
  pub same : map shortened (map (told terms) found) ≡ map shortened (map (told_by rules atoms) instances)
