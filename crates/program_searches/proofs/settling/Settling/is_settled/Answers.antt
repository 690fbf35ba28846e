use Rattle.std.proofs.Common.{◌∙◌, ap, sym, arith}
use Rattle.maximin.specs.Room.{room_depth}
use Rattle.program_searches.proofs.BothWorths.{not_low, by_most}
use Rattle.program_searches.proofs.settling.Settling.is_settled.Goals as goal

pub returns-then-is_low-clause-settled : goal.returns-then-is_low-clause-settled
returns-then-is_low-clause-settled g c =
    let rules = g.G.Game.rules c.args.game.now in
    let state = g.G.Game.state c.args.game.now c.args.here.now in
    let law = g.met.G.Game g.world.𝓛 g.world.𝓜 g.world.𝓡 ((λ _ x. x), (λ x. x), (λ x. x), λ x. x) in
    c.is_most.ensures.most
    ∙ by_most c.worth_at_the_bound_bounds_the_value.ensures.upper rules (λ t k. law.goal_within c.args.game.now t k) c.args.asked.role c.args.asked.depth c.args.asked.at state
    (sym c.is_low.ensures.low ∙ c.if-is_low.true)

pub returns-then-is_low-clause-kept : goal.returns-then-is_low-clause-kept
returns-then-is_low-clause-kept g c = λ deep old.
    let same = ap (λ room. room_depth room) c.is_low.ensures.most in
    record {
      least = c.is_low.ensures.kept deep old.least;
      most = record {
        role = old.most.role;
        room = c.is_most.ensures.room.room;
        deep = omega (arith, c.is_most.ensures.room.depth, same, old.most.deep);
      };
    }

pub returns-clause-settled : goal.returns-clause-settled
returns-clause-settled g c =
    let rules = g.G.Game.rules c.args.game.now in
    let state = g.G.Game.state c.args.game.now c.args.here.now in
    let law = g.met.G.Game g.world.𝓛 g.world.𝓜 g.world.𝓡 ((λ _ x. x), (λ x. x), (λ x. x), λ x. x) in
    sym (not_low c.worth_at_the_bound_bounds_the_value.ensures.upper rules (λ t k. law.goal_within c.args.game.now t k) c.args.asked.role c.args.asked.depth c.args.asked.at state
    (sym c.is_low.ensures.low ∙ c.if-is_low.false))

pub returns-clause-kept : goal.returns-clause-kept
returns-clause-kept g c = λ deep old. record { least = c.is_low.ensures.kept deep old.least; most = rw c.is_low.ensures.most old.most }
