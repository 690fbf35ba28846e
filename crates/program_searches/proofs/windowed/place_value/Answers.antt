use Rattle.std.proofs.Common.{◌≡◌, w16, rules as facts}
use Rattle.std.proofs.lemmas.Int.{to_z-of_z}
use mir.Val.{of_z, to_z}
use Rattle.statement.specs.Value.{value}
use Rattle.game.specs.Value.{Answers}
use Rattle.program_searches.proofs.Placing.{searched, at_most_z, above_z, placed_below, placed_above, placed_between}
use Rattle.program_searches.proofs.windowed.place_value.Goals as goal

pub value_in-found-requires-clause-window : goal.value_in-found-requires-clause-window
value_in-found-requires-clause-window g c κs within =
    let low = c.bounds_of-low.result.0 in
    let high = c.bounds_of-low.result.1 in
    rw (to_z-of_z w16 low (search facts), to_z-of_z w16 high (search facts))
    (searched c.args.window.from c.args.window.to low high c.args.window.in_order c.args.window.in_range c.bounds_of-low.ensures.low
    c.bounds_of-low.ensures.high)

pub returns-then-found-low-clause-placed : goal.returns-then-found-low-clause-placed
returns-then-found-low-clause-placed g c =
    let rules = g.G.Game.rules c.args.game.now in
    let state = g.G.Game.state c.args.game.now c.args.here.now in
    let worth = value rules c.args.asked.role c.args.asked.depth c.args.asked.at state in
    let low = c.bounds_of-low.result.0 in
    let high = c.bounds_of-low.result.1 in
    let same_low : to_z w16 (of_z w16 low) ≡ low = to_z-of_z w16 low (search facts) in
    let same_high : to_z w16 (of_z w16 high) ≡ high = to_z-of_z w16 high (search facts) in
    let same : to_z w16 (of_z w16 c.value_in-found.result) ≡ c.value_in-found.result = to_z-of_z w16 c.value_in-found.result (search facts) in
    let answers : Answers worth low high c.value_in-found.result = rw (same_low, same_high) at c.value_in-found.ensures.answers in
    placed_below worth c.args.window.from c.args.window.to low high c.value_in-found.result c.args.window.in_order c.bounds_of-low.ensures.low
    c.bounds_of-low.ensures.high answers (rw (same, same_low) at (at_most_z (to_z w16 (of_z w16 c.value_in-found.result)) (to_z w16 (of_z w16 low)) c.if-found-low.true))

pub returns-then-found-high-clause-placed : goal.returns-then-found-high-clause-placed
returns-then-found-high-clause-placed g c =
    let rules = g.G.Game.rules c.args.game.now in
    let state = g.G.Game.state c.args.game.now c.args.here.now in
    let worth = value rules c.args.asked.role c.args.asked.depth c.args.asked.at state in
    let low = c.bounds_of-low.result.0 in
    let high = c.bounds_of-low.result.1 in
    let same_low : to_z w16 (of_z w16 low) ≡ low = to_z-of_z w16 low (search facts) in
    let same_high : to_z w16 (of_z w16 high) ≡ high = to_z-of_z w16 high (search facts) in
    let same : to_z w16 (of_z w16 c.value_in-found.result) ≡ c.value_in-found.result = to_z-of_z w16 c.value_in-found.result (search facts) in
    let answers : Answers worth low high c.value_in-found.result = rw (same_low, same_high) at c.value_in-found.ensures.answers in
    placed_above worth c.args.window.from c.args.window.to low high c.value_in-found.result c.args.window.in_order c.bounds_of-low.ensures.low
    c.bounds_of-low.ensures.high answers (rw (same_high, same) at (at_most_z (to_z w16 (of_z w16 high)) (to_z w16 (of_z w16 c.value_in-found.result)) c.if-found-high.true))

pub returns-clause-placed : goal.returns-clause-placed
returns-clause-placed g c =
    let rules = g.G.Game.rules c.args.game.now in
    let state = g.G.Game.state c.args.game.now c.args.here.now in
    let worth = value rules c.args.asked.role c.args.asked.depth c.args.asked.at state in
    let low = c.bounds_of-low.result.0 in
    let high = c.bounds_of-low.result.1 in
    let same_low : to_z w16 (of_z w16 low) ≡ low = to_z-of_z w16 low (search facts) in
    let same_high : to_z w16 (of_z w16 high) ≡ high = to_z-of_z w16 high (search facts) in
    let same : to_z w16 (of_z w16 c.value_in-found.result) ≡ c.value_in-found.result = to_z-of_z w16 c.value_in-found.result (search facts) in
    let answers : Answers worth low high c.value_in-found.result = rw (same_low, same_high) at c.value_in-found.ensures.answers in
    let found = placed_between worth c.args.window.from c.args.window.to low high c.value_in-found.result c.args.window.in_order
    c.bounds_of-low.ensures.low c.bounds_of-low.ensures.high answers (rw (same, same_low) at (above_z (to_z w16 (of_z w16 c.value_in-found.result)) (to_z w16 (of_z w16 low)) c.if-found-low.false))
    (rw (same_high, same) at (above_z (to_z w16 (of_z w16 high)) (to_z w16 (of_z w16 c.value_in-found.result)) c.if-found-high.false)) in
    rw same found
