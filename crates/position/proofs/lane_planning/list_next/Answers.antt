use Rattle.std.proofs.Common.{◌≡◌, ℕ, List, [], ◌∷◌, ◌++◌, ◌+◌, length, get_or, sym, ap, ◌∙◌, arith}
use Rattle.std.proofs.lemmas.List.FromFn.{map-range_with_len_more}
use Rattle.game_rules.specs.GroundFacts.{fits}
use Rattle.position.specs.LanePlans.{next_below}
use Rattle.position.proofs.lane_planning.list_next.Goals as goal

pub loop-p-preserved : goal.loop-p-preserved
loop-p-preserved c =
    let net = c.args.net.now in
    let p = c.loop-p.p in
    let z : 0 + p ≡ p = omega arith in
    c.in_ok-push.ensures.items
    ∙ ap (λ (v : ℕ). c.loop-p.nodes.items ++ v ∷ []) c.transition.ensures
    ∙ ap (λ (ns : List ℕ). ns ++ get_or net.transitions.items p 0 ∷ []) c.loop-p.invariant
    ∙ sym (map-range_with_len_more (λ q. get_or net.transitions.items q 0) 0 p p z)

pub returns : goal.returns
returns c =
    let fit = (fits c.args.ground.now).starts_fit in
    let end = c.loop-p.auto.p-end in
    let past = c.loop-p-test.false in
    let all = c.base-p-end.ensures in
    let whole : c.loop-p.p ≡ length c.args.ground.now.starts.items = omega arith in
    c.loop-p.invariant ∙ ap (next_below c.args.net.now) whole
