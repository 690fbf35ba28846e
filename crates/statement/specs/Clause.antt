-- Terms, atoms, literals and alternatives of items. A term is a tree: a name, or a list of a
-- constant and at least one term.
use Rattle.std.specs.Prelude.{ℕ, suc, Bool, false, ◌&&◌, ◌==◌, List, [], ◌∷◌}
use Rattle.statement.specs.Tree.{Tree, name, list, Trees, no_trees, tree, name_eq, trees_eq}

-- a variable begins with a question mark; every other name is a constant
abbrev pub is_variable : List ℕ → Bool
is_variable [] = false
is_variable (b ∷ bs) = b == 63

-- an atom: a constant with any number of terms
pub record Atom : Type 0 where
  pub word : List ℕ
  pub terms : Trees

-- an atom as a tree: without terms it is its name
abbrev pub tree_at : List ℕ → Trees → Tree
tree_at w no_trees = name w
tree_at w (tree t ts) = list (tree (name w) (tree t ts))

abbrev pub tree_of : Atom → Tree
tree_of a = tree_at a.word a.terms

pub data Literal : Type 0 where
  positive : Atom → Literal
  negative : Atom → Literal

-- one way to read an item: a head, and literals that must all be right
pub record Alternative : Type 0 where
  pub head : Atom
  pub body : List Literal

-- a relation is a name with its number of arguments
pub record Relation : Type 0 where
  pub word : List ℕ
  pub arity : ℕ

abbrev pub count_trees : Trees → ℕ
count_trees no_trees = 0
count_trees (tree t ts) = suc (count_trees ts)

abbrev pub relation_of : Atom → Relation
relation_of a = record { word = a.word; arity = count_trees a.terms }

abbrev pub relation_eq : Relation → Relation → Bool
relation_eq p q = name_eq p.word q.word && (p.arity == q.arity)

abbrev pub atom_eq : Atom → Atom → Bool
atom_eq x y = name_eq x.word y.word && trees_eq x.terms y.terms

-- the atom of a literal
abbrev pub atom_of : Literal → Atom
atom_of (positive a) = a
atom_of (negative a) = a

-- the relation and the number of arguments of a word of the language
abbrev pub is_word : List ℕ → ℕ → Relation → Bool
is_word w n p = name_eq p.word w && (p.arity == n)
