-- The nodes that the tapes keep are nodes.
use Rattle.std.proofs.Common.{◌≡◌, ℕ, ◌+◌, ◌<◌, ◌≤◌, length, get_or, sym, subst, arith}
use Rattle.std.specs.Prelude.{All}
use Rattle.std.proofs.lemmas.List.Elements.{All-map}
use Rattle.std.proofs.lemmas.List.FromFn.{length-map-range_with_len, get_or-map-range_with_len}
use Rattle.ground_instances.specs.declared.flat_ground.FlatGround.{FlatGround}
use Rattle.ground_instances.specs.GroundView.{kinds_of}
use Rattle.propnet.specs.declared.net.Net.{Net}
use Rattle.propnet.specs.Builders.{IsNetOf}
use Rattle.propnet.specs.Nets.{gates_of}
use Rattle.game_rules.specs.RulePlay.{kind_at}
use Rattle.position.specs.declared.lane_plan.Scope.{Scope}
use Rattle.position.specs.NetState.{is_asked, view_of}
use Rattle.position.specs.LanePlans.{shown_below, asked_nodes, next_below}
use Rattle.position.proofs.NetFacts.{transition_below, views_below}
use Rattle.position.proofs.Shown.{filter_all}

module _ (g : FlatGround) (net : Net) (made : ∥ IsNetOf g net ∥₁) where
  pub next_within : All (λ (n : ℕ). n < length (gates_of net)) (next_below net (length g.starts.items))
  next_within k d lt =
      let n = length g.starts.items in
      let size = length-map-range_with_len (λ (p : ℕ). get_or net.transitions.items p 0) 0 n in
      let lk : k < n = omega arith in
      let z : 0 + k ≡ k = omega arith in
      subst (λ (v : ℕ). v < length (gates_of net)) (sym (get_or-map-range_with_len (λ p. get_or net.transitions.items p 0) 0 n k k d lk z))
      (transition_below g net made k lk)

  pub asked_within : (scope : Scope) → All (λ (n : ℕ). n < length (gates_of net)) (asked_nodes scope net.views.items (kinds_of g))
  asked_within scope =
      let kinds = kinds_of g in
      let views = net.views.items in
      let all : length (gates_of net) ≤ length (gates_of net) = omega arith in
      All-map (λ (n : ℕ). n < length (gates_of net)) (view_of views) (shown_below scope kinds (length kinds))
      (filter_all (λ a. is_asked scope (kind_at kinds a)) (λ a. view_of views a < length (gates_of net)) 0 (length kinds)
      (λ a low high e. views_below g net made scope (length (gates_of net)) all a (omega arith) e))
