-- How large a tree is.
use Rattle.std.proofs.Common.{ℕ, zero, suc, ◌+◌, ◌≡◌, ◌<◌, List, [], ◌∷◌, length, ap, arith, get_or}
use Rattle.statement.specs.Tree.{Tree, name, list, Trees, no_trees, tree, trees_of}
use Rattle.kif.specs.View.{tree_of, trees_in}
use Rattle.kif.specs.declared.expr.Expr.{Expr}

abbrev mutual
  pub tree_size : Tree → ℕ
  tree_size (name n) = 0
  tree_size (list ts) = suc (parts_size ts)

  pub parts_size : Trees → ℕ
  parts_size no_trees = 0
  parts_size (tree t ts) = suc (tree_size t + parts_size ts)

abbrev pub trees_size : List Tree → ℕ
trees_size ts = parts_size (trees_of ts)

-- a part is smaller than the list of the parts
pub part_smaller : {A : Type 0} (es : List (Expr A)) (i : ℕ) (e : Expr A) → i < length es → e ≡ get_or es i e
    → tree_size (tree_of e) < trees_size (trees_in es)
part_smaller [] i e h same = absurd (omega arith)
part_smaller (d ∷ es) zero e h same =
    let k : tree_size (tree_of e) ≡ tree_size (tree_of d) = ap (λ x. tree_size (tree_of x)) same in omega arith
part_smaller (d ∷ es) (suc i) e h same = let k = part_smaller es i e (omega arith) same in omega arith

-- the parts behind the word of a list are smaller than the list
pub rest_smaller : (t : Tree) (w : List ℕ) (rest : List Tree) → t ≡ list (tree (name w) (trees_of rest)) → trees_size rest < tree_size t
rest_smaller t w rest e = let k = ap tree_size e in omega (arith, k)

pub list_smaller : (t : Tree) (ts : List Tree) → t ≡ list (trees_of ts) → trees_size ts < tree_size t
list_smaller t ts e = let k = ap tree_size e in omega (arith, k)
