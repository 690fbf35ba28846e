use Rattle.std.proofs.Common.{◌≡◌, ℕ, ◌<◌, false}
use Rattle.statement.specs.Tree.{text, name_eq}
use Rattle.kif.specs.View.{tree_of}
use Rattle.program_searches.proofs.roles.find_role.Given as goal

-- no role before this one has the text
abbrev pub invariant-loop-role : goal.invariant-loop-role
invariant-loop-role g l = (k : ℕ) → k < l.role → name_eq (text (tree_of l.tree)) (g.G.Game.role_name l.game k) ≡ false
