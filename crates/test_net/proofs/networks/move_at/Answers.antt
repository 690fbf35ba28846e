use Rattle.game.proofs.Facts.{legal_known, legal_all}
use Rattle.test_net.proofs.networks.move_at.Goals as goal

pub returns-in-Some : goal.returns-in-Some
returns-in-Some g c =
    let rules = g.G.Game.rules c.args.game.now in
    let state = g.G.Game.state c.args.game.now c.args.p.now in
    let law = g.met.G.Game g.world.𝓛 g.world.𝓜 g.world.𝓡 ((λ _ x. x), (λ x. x), (λ x. x), λ x. x) in
    legal_known rules state c.args.role c.args.place c.in-Some.number c.legal.result (law.legal_within c.args.game.now state c.args.role c.requires.role)
    c.legal.ensures c.in-Some.is

pub returns : goal.returns
returns g c =
    let rules = g.G.Game.rules c.args.game.now in
    let state = g.G.Game.state c.args.game.now c.args.p.now in
    let law = g.met.G.Game g.world.𝓛 g.world.𝓜 g.world.𝓡 ((λ _ x. x), (λ x. x), (λ x. x), λ x. x) in
    legal_all rules state c.args.role 0 c.legal-2.result (law.legal_within c.args.game.now state c.args.role c.requires.role) c.legal-2.ensures
