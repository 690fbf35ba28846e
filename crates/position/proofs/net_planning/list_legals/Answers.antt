use Rattle.std.proofs.Common.{◌≡◌, ◌+◌, ◌<◌, ℕ, List, ◌++◌, suc, length, ap, ◌∙◌, arith, Option, None}
use Rattle.ground_instances.specs.GroundView.{kinds_of}
use Rattle.game.proofs.Facts.{get_or_any}
use Rattle.game_rules.specs.GroundFacts.{few_moves}
use Rattle.position.specs.LanePlans.{legal_named, legal_pair, legals_below}
use Rattle.position.proofs.net_planning.list_legals.Goals as goal

pub overflow_cast-number : goal.overflow_cast-number
overflow_cast-number c =
    let few = few_moves c.args.ground.now c.args.role in
    let size = c.in_ok-found.ensures.size in
    let all = c.inputs.ensures in
    let whole = c.in_ok-found.found.ok.0 in
    omega arith

pub loop-number-preserved : goal.loop-number-preserved
loop-number-preserved c =
    let kinds = kinds_of c.args.ground.now in
    let places = c.args.places.now in
    let role = c.args.role in
    let n = c.loop-number.number in
    let more : suc n ≡ n + 1 = omega arith in
    let size = c.in_ok-found.ensures.size in
    let lt : n < length c.in_ok-found.found.items = omega arith in
    let here : c.index.result.now ≡ legal_named kinds role n (length kinds) = c.index.ensures ∙ get_or_any c.in_ok-found.found.items n _ None lt
    ∙ c.in_ok-found.ensures.each n (omega arith) in
    c.in_ok-add_legal.ensures
    ∙ ap (λ (o : Option ℕ). c.loop-number.list.items ++ legal_pair places o n) here
    ∙ ap (λ (ls : List (ℕ × ℕ)). ls ++ legal_pair places (legal_named kinds role n (length kinds)) n) c.loop-number.invariant
    ∙ ap (legals_below places kinds role) more
