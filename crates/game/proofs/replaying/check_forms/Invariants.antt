use Rattle.std.proofs.Common.{◌≡◌, ℕ, ◌<◌, false}
use Rattle.std.specs.Prelude.{not}
use Rattle.kif.specs.View.{trees_in}
use Rattle.statement.specs.Played.{is_turn_list, nth_tree}
use Rattle.game.proofs.replaying.check_forms.Given as goal

-- every turn before this one has the form
abbrev pub invariant-loop-place : goal.invariant-loop-place
invariant-loop-place g l = (k : ℕ) → k < l.place → not (is_turn_list l.roles (nth_tree (trees_in l.turns) k)) ≡ false
