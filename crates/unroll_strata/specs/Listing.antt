-- This crate's own: what `run` promises does not rest on it.
-- The trees of lists of references.
use Rattle.std.specs.Borrow.{Bor}
use Rattle.std.specs.Prelude.{List, Vec, map}
use Rattle.statement.specs.Tree.{Tree}
use Rattle.kif.specs.View.{tree_of}
use Rattle.kif.specs.declared.expr.Expr.{Expr}

abbrev pub trees_at : {A : Type 0} → List (Bor (Expr A)) → List Tree
trees_at {A} es = map (λ e. tree_of {A = A} e.now) es

abbrev pub ways_at : {A G : Type 0} → List (Vec (Bor (Expr A)) G) → List (List Tree)
ways_at vs = map (λ v. trees_at v.items) vs
