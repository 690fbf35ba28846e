-- This crate's own: what `run` promises does not rest on it.
-- The words of the language in memory, and the rows of the table that are theirs.
use Rattle.std.specs.Prelude.{ℕ, ◌≡◌, ◌==◌, ◌&&◌, ◌||◌, not, Bool, false, slice_index_or, []}
use Rattle.statement.specs.Tree.{name_eq}
use Rattle.statement.specs.Clause.{Relation}
use Rattle.statement.specs.Profile.{Use, use_of, uses}
use Rattle.rules_profile.specs.declared.words.Use as memory
use Rattle.rules_profile.specs.declared.words.Word.{Word}
use Rattle.rules_profile.specs.declared.words.Word.TheVariants as words

-- where a word stands in the table
abbrev pub use_place : Word → ℕ
use_place words.Role = 0
use_place words.Base = 1
use_place words.Input = 2
use_place words.Init = 3
use_place words.True = 4
use_place words.Does = 5
use_place words.Next = 6
use_place words.Legal = 7
use_place words.Goal = 8
use_place words.Terminal = 9
use_place words.Distinct = 10

-- how the table says that a word is used
abbrev pub use_in : Word → Use
use_in w = slice_index_or uses (use_place w) (use_of [] 0 false false)

-- the row in memory is this row of the table
pub record IsUseOf (row : Use) (use' : memory.Use) : Type 0 where
  pub name : use'.name.now ≡ row.word
  pub arity : use'.arity ≡ row.arity
  pub may_head : use'.may_head ≡ row.heads
  pub may_stand : use'.may_stand ≡ row.bodies

-- the relation does not have the word's name, or has its number of arguments where the word may head an item
abbrev pub keeps_head : Relation → Word → Bool
keeps_head p w = not (name_eq p.word (use_in w).word) || ((p.arity == (use_in w).arity) && (use_in w).heads)

-- the same where the word may stand in a body
abbrev pub keeps_body : Relation → Word → Bool
keeps_body p w = not (name_eq p.word (use_in w).word) || ((p.arity == (use_in w).arity) && (use_in w).bodies)
