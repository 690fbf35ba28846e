use Rattle.std.proofs.Common.{◌≡◌, ◌+◌, ℕ, Bool, List, [], ◌∷◌, ◌++◌, cond, length, sym, ap, ◌∙◌, arith}
use Rattle.std.proofs.lemmas.List.{length-map}
use Rattle.std.proofs.lemmas.List.FromFn.{map-range_with_len_more}
use Rattle.ground_instances.specs.GroundView.{kinds_of}
use Rattle.game_rules.specs.GroundFacts.{few_atoms}
use Rattle.position.specs.NetState.{is_asked, view_of}
use Rattle.game_rules.specs.RulePlay.{kind_at}
use Rattle.position.specs.LanePlans.{shown_below, asked_below, places_below}
use Rattle.position.proofs.Places.{asked_more, few_shown}
use Rattle.position.proofs.lane_planning.lay_out.Goals as goal

pub overflow_cast-len : goal.overflow_cast-len
overflow_cast-len c =
    let kinds = kinds_of c.args.ground.now in
    let n = c.loop-atom.atom in
    let all = c.atoms-atom-end.ensures in
    let most = few_atoms c.args.ground.now in
    let views = c.args.net.now.views.items in
    let nodes : length c.loop-atom.nodes.items ≡ length (asked_below c.args.scope views kinds n) = ap length c.loop-atom.invariant.nodes in
    let size = length-map (shown_below c.args.scope kinds n) (view_of views) in
    let few = few_shown c.args.scope kinds n in
    let value = c.loop-atom.nodes.ok.0 in
    omega arith

pub overflow_cast-atom : goal.overflow_cast-atom
overflow_cast-atom c =
    let all = c.atoms-atom-end.ensures in
    let most = few_atoms c.args.ground.now in
    omega arith

pub loop-atom-preserved : goal.loop-atom-preserved
loop-atom-preserved c =
    let kinds = kinds_of c.args.ground.now in
    let views = c.args.net.now.views.items in
    let n = c.loop-atom.atom in
    let z : 0 + n ≡ n = omega arith in
    let count : c.len.result ≡ length (shown_below c.args.scope kinds n) =
    c.len.ensures ∙ c.loop-atom.nodes.ok.0 ∙ ap length c.loop-atom.invariant.nodes ∙ length-map (shown_below c.args.scope kinds n) (view_of views) in
    record {
      places = c.in_ok-push.ensures.items
          ∙ ap (λ (ps : List ℕ). ps ++ c.len.result ∷ []) c.loop-atom.invariant.places
          ∙ ap (λ (m : ℕ). places_below c.args.scope kinds n ++ m ∷ []) count
          ∙ sym (map-range_with_len_more (λ a. length (shown_below c.args.scope kinds a)) 0 n n z);
      nodes = c.in_ok-add_asked.ensures
          ∙ ap (λ (b : Bool). c.loop-atom.nodes.items ++ cond b (view_of views n ∷ []) [])
          (c.is_asked-asks.ensures ∙ ap (is_asked c.args.scope) c.kind_of.ensures)
          ∙ ap (λ (ns : List ℕ). ns ++ cond (is_asked c.args.scope (kind_at kinds n)) (view_of views n ∷ []) []) c.loop-atom.invariant.nodes
          ∙ sym (asked_more c.args.scope views kinds n);
    }
