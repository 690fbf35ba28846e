-- A list of exactly one tree names a role, and no other list does.
use Rattle.std.proofs.Common.{◌≡◌, ◌≢◌, List, [], ◌∷◌, length, refl, None}
use Rattle.kif.specs.declared.expr.Expr.{Expr}
use Rattle.statement.specs.Tree.{trees_of}
use Rattle.kif.specs.View.{trees_in}
use Rattle.statement.specs.NamedRules.{NamedRules}
use Rattle.statement.specs.Solving.{role_named_in}

pub no_role : {A : Type 0} (g : NamedRules) (es : List (Expr A)) → length es ≢ 1 → None ≡ role_named_in g (trees_of (trees_in es))
no_role g [] h = refl
no_role g (e ∷ []) h = absurd (h refl)
no_role g (e ∷ f ∷ rest) h = refl
