-- What each network of a ground has.
use Rattle.std.proofs.Common.{◌≡◌, ℕ, ◌<◌, ◌≤◌, length, get_or, [], sym, ◌∙◌, arith}
use Rattle.std.proofs.Math.Logic.{∥∥₁_elim}
use Rattle.std.proofs.Props.{props}
use Rattle.std.proofs.lemmas.Nat.Bits.{bit_at-lt}
use Rattle.ground_instances.specs.declared.flat_ground.FlatGround.{FlatGround}
use Rattle.ground_instances.specs.GroundView.{kinds_of}
use Rattle.propnet.specs.declared.net.Net.{Net}
use Rattle.propnet.specs.Builders.{IsNetOf, input_counts}
use Rattle.propnet.specs.Nets.{gates_of}
use Rattle.propnet.specs.Values.{bit}
use Rattle.propnet.proofs.Facts.{stands_below}
use Rattle.position.specs.declared.lane_plan.Scope.{Scope}
use Rattle.position.specs.NetState.{AreViewsBelow}
use Rattle.game_rules.specs.GroundFacts.{fits}
use Rattle.position.proofs.NetReads.{view_told}

module _ (g : FlatGround) (net : Net) (made : ∥ IsNetOf g net ∥₁) where
  pub base_count : net.base ≡ length g.starts.items
  base_count = ∥∥₁_elim made (Prim.hlevel props) (λ of. of.base ∙ sym (fits g).starts_fit)

  pub inputs_count : net.inputs.items ≡ input_counts g
  inputs_count = ∥∥₁_elim made (Prim.hlevel props) (λ of. of.inputs)

  pub transition_below : (p : ℕ) → p < length g.starts.items → get_or net.transitions.items p 0 < length (gates_of net)
  transition_below p lt = ∥∥₁_elim made (Prim.hlevel props) (λ of. let same = (fits g).starts_fit in
      stands_below (gates_of net) _ _ (of.transitions.each p (omega arith)))

  pub views_below : (scope : Scope) (n : ℕ) → length (gates_of net) ≤ n → AreViewsBelow scope (kinds_of g) net.views.items n
  views_below scope n few a lt shown = let below = (view_told g net made (bit []) (λ n. bit_at-lt _ _) scope a lt shown).below in omega arith
