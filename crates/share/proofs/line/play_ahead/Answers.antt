use Rattle.std.proofs.Common.{◌≡◌, ◌-◌, ◌<◌, ◌≤◌, Some, w16, sym, ap, ◌∙◌, arith, rules as facts}
use Rattle.std.proofs.lemmas.Int.{to_z-of_z}
use Rattle.std.proofs.lemmas.List.Elements.{All-contains}
use Rattle.std.specs.Prelude.{pos}
use Rattle.statement.specs.Value.{value, worst, choice_of}
use Rattle.game.proofs.Facts.{reply_within}
use Rattle.maximin.proofs.Facts.{choice_legal, choice_stays, chosen_open, reply_stays}
use Rattle.share.proofs.line.play_ahead.Goals as goal

pub loop-chosen-init : goal.loop-chosen-init
loop-chosen-init g c =
    let node = c.args.aid.now.node.now in
    record {
      here = c.copy.ensures.fits;
      next = search facts;
      joint = c.in-Ok-blank_joint.ensures;
      room = search facts;
      deep = search facts;
      role = search facts;
      worth_is = rw c.copy.ensures.same (to_z-of_z w16 c.args.worth c.ranges.worth ∙ c.requires.found.value);
      choice_is = rw c.copy.ensures.same (c.legal-chosen.ensures ∙ sym c.requires.found.first);
    }

pub reply-requires-clause-own : goal.reply-requires-clause-own
reply-requires-clause-own g c κs within =
    let game = c.args.aid.now.node.now.game.now in
    let asked = c.loop-chosen.asked in
    choice_legal (g.G.Game.rules game) asked.role asked.depth asked.at (g.G.Game.state game c.loop-chosen.here) c.in-Some.own
    (sym c.loop-chosen.invariant.choice_is ∙ c.in-Some.is)

pub reply-requires-clause-worth : goal.reply-requires-clause-worth
reply-requires-clause-worth g c κs within =
    let game = c.args.aid.now.node.now.game.now in
    let asked = c.loop-chosen.asked in
    let stays = choice_stays (g.G.Game.rules game) asked.role asked.depth asked.at (g.G.Game.state game c.loop-chosen.here) c.in-Some.own
    (sym c.loop-chosen.invariant.choice_is ∙ c.in-Some.is) in
    c.loop-chosen.invariant.worth_is ∙ ap pos (sym stays)

pub step-requires-clause-joint : goal.step-requires-clause-joint
step-requires-clause-joint g c =
    let game = c.args.aid.now.node.now.game.now in
    let rules = g.G.Game.rules game in
    let asked = c.loop-chosen.asked in
    let state = g.G.Game.state game c.loop-chosen.here in
    let law = g.met.G.Game g.world.𝓛 g.world.𝓜 g.world.𝓡 ((λ _ x. x), (λ x. x), (λ x. x), λ x. x) in
    let own : c.in-Some.own < rules.moves asked.role =
    All-contains (λ m. m < rules.moves asked.role) (rules.legal state asked.role) c.in-Some.own
    (law.legal_within game state asked.role c.loop-chosen.invariant.role)
    (choice_legal rules asked.role asked.depth asked.at state c.in-Some.own (sym c.loop-chosen.invariant.choice_is ∙ c.in-Some.is)) in
    rw c.reply.ensures.reply.turn at (reply_within rules (λ s r below. law.legal_within game s r below) asked.role (asked.depth - 1)
    asked.at state c.in-Some.own own)

pub choose-chosen-requires-clause-worth : goal.choose-chosen-requires-clause-worth
choose-chosen-requires-clause-worth g c κs within =
    let game = c.args.aid.now.node.now.game.now in
    let rules = g.G.Game.rules game in
    let asked = c.loop-chosen.asked in
    let state = g.G.Game.state game c.loop-chosen.here in
    let own = c.in-Some.own in
    let joint = c.reply.new.out.items in
    let chosen = sym c.loop-chosen.invariant.choice_is ∙ c.in-Some.is in
    let stays = choice_stays rules asked.role asked.depth asked.at state own chosen in
    let replied : value rules asked.role (asked.depth - 1) asked.at (rules.after state joint) ≡ worst rules asked.role (asked.depth - 1) asked.at state own =
    reply_stays rules asked.role (asked.depth - 1) asked.at state own joint c.reply.ensures.reply.turn in
    let after : g.G.Game.state game c.swap.new.x ≡ rules.after state joint = ap (g.G.Game.state game) c.swap.ensures.x_after ∙ c.step.ensures.after in
    rw after (c.loop-chosen.invariant.worth_is ∙ ap pos (sym stays ∙ sym replied))

pub loop-chosen-preserved : goal.loop-chosen-preserved
loop-chosen-preserved g c =
    let game = c.args.aid.now.node.now.game.now in
    let rules = g.G.Game.rules game in
    let asked = c.loop-chosen.asked in
    let state = g.G.Game.state game c.loop-chosen.here in
    let own = c.in-Some.own in
    let joint = c.reply.new.out.items in
    let chosen = sym c.loop-chosen.invariant.choice_is ∙ c.in-Some.is in
    let stays = choice_stays rules asked.role asked.depth asked.at state own chosen in
    let replied : value rules asked.role (asked.depth - 1) asked.at (rules.after state joint) ≡ worst rules asked.role (asked.depth - 1) asked.at state own =
    reply_stays rules asked.role (asked.depth - 1) asked.at state own joint c.reply.ensures.reply.turn in
    let after : g.G.Game.state game c.swap.new.x ≡ rules.after state joint = ap (g.G.Game.state game) c.swap.ensures.x_after ∙ c.step.ensures.after in
    let first = c.reply.ensures.room in
    let then = c.choose-chosen.ensures.room in
    record {
      here = search facts;
      next = search facts;
      joint = omega (arith, c.reply.ensures.reply.capacity, c.loop-chosen.invariant.joint);
      room = then.room;
      deep = omega (arith, then.depth, first.depth, c.loop-chosen.invariant.deep);
      role = c.loop-chosen.invariant.role;
      worth_is = rw after (c.loop-chosen.invariant.worth_is ∙ ap pos (sym stays ∙ sym replied));
      choice_is = c.choose-chosen.ensures.choice;
    }
