use Rattle.std.proofs.Common.{◌≡◌, ◌-◌, ◌<◌, w16, sym, ap, ◌∙◌}
use Rattle.std.proofs.lemmas.Int.{to_z-of_z}
use Rattle.std.proofs.lemmas.List.Elements.{All-contains}
use Rattle.std.specs.Prelude.{pos}
use Rattle.statement.specs.Value.{value, worst}
use Rattle.game.proofs.Facts.{reply_within}
use Rattle.maximin.proofs.Facts.{reply_stays}
use Rattle.program_searches.proofs.play.Play.own_turn.Goals as goal

pub reply_by_value-requires-clause-worth : goal.reply_by_value-requires-clause-worth
reply_by_value-requires-clause-worth g c κs within = to_z-of_z w16 c.args.worth c.ranges.worth ∙ c.requires.worth

pub step-requires-clause-joint : goal.step-requires-clause-joint
step-requires-clause-joint g c =
    let game = g.G.Game.rules c.args.game.now in
    let state = g.G.Game.state c.args.game.now c.args.self.now.here in
    let role = c.args.asked.role in
    let law = g.met.G.Game g.world.𝓛 g.world.𝓜 g.world.𝓡 ((λ _ x. x), (λ x. x), (λ x. x), λ x. x) in
    let own : c.args.own < game.moves role =
    All-contains (λ m. m < game.moves role) (game.legal state role) c.args.own (law.legal_within c.args.game.now state role c.requires.play.known)
    c.requires.own in
    rw c.reply_by_value.ensures.reply.turn at (reply_within game (λ s r below. law.legal_within c.args.game.now s r below) role (c.args.asked.depth - 1)
    c.args.asked.at state c.args.own own)

pub returns-clause-turn : goal.returns-clause-turn
returns-clause-turn g c =
    let game = g.G.Game.rules c.args.game.now in
    let state = g.G.Game.state c.args.game.now c.args.self.now.here in
    let joint = c.reply_by_value.new.out.items in
    let role = c.args.asked.role in
    let law = g.met.G.Game g.world.𝓛 g.world.𝓜 g.world.𝓡 ((λ _ x. x), (λ x. x), (λ x. x), λ x. x) in
    let own : c.args.own < game.moves role =
    All-contains (λ m. m < game.moves role) (game.legal state role) c.args.own (law.legal_within c.args.game.now state role c.requires.play.known)
    c.requires.own in
    let turn = rw c.reply_by_value.ensures.reply.turn at (reply_within game (λ s r below. law.legal_within c.args.game.now s r below) role (c.args.asked.depth - 1)
    c.args.asked.at state c.args.own own) in
    let replied : value game role (c.args.asked.depth - 1) c.args.asked.at (game.after state joint)
    ≡ worst game role (c.args.asked.depth - 1) c.args.asked.at state c.args.own =
    reply_stays game role (c.args.asked.depth - 1) c.args.asked.at state c.args.own joint c.reply_by_value.ensures.reply.turn in
    let after : g.G.Game.state c.args.game.now c.swap.new.x ≡ game.after state joint =
    ap (g.G.Game.state c.args.game.now) c.swap.ensures.x_after ∙ c.step.ensures.after in
    record {
      reply = c.reply_by_value.ensures.reply.turn;
      turn = turn;
      after = after;
      stays = rw after (c.requires.worth ∙ ap pos (sym replied));
    }
