use Rattle.std.proofs.Common.{◌≡◌, length, sym, subst, ◌∙◌, rules as facts}
use Rattle.game.specs.Keys.{state_of_bits}
use Rattle.ground_instances.specs.declared.flat_ground.FlatGround.{FlatGround}
use Rattle.ground_instances.specs.GroundView.{IsGround}
use Rattle.program_searches.specs.Histories.{named}
use Rattle.program_replies.proofs.Standings.{standing_told, all_written}
use Rattle.program_replies.proofs.standing.standing_lines.Goals as goal

pub returns : goal.returns
returns g c = λ rules is.
    let game = named (g.G.Game.rules c.args.game.now) (g.G.Game.role_name c.args.game.now) (g.G.Game.move_name c.args.game.now) in
    let state = g.G.Game.state c.args.game.now c.args.here.now in
    let key = c.write_key.new.key in
    let law = g.met.G.GroundGame g.world.𝓛 g.world.𝓜 g.world.𝓡 ((λ _ x. x), (λ x. x), (λ x. x), λ x. x) in
    let source = c.instantiation.ensures in
    let same : c.deref.result.now ≡ c.write_key.new.key =
    c.deref.ensures.value ∙ all_written c.write_key.new.key c.in_ok-key.key.items c.in_ok-key.key.len c.in_ok-key.key.ok.0 (search facts) in
    standing_told rules c.instantiation.result.now game state key c.new-output.result.items c.add_standing.new.output.items
    c.add_holding.new.output.items
    (subst (IsGround rules) (sym source) is)
    (subst (λ (f : FlatGround). state ≡ state_of_bits (length f.starts.items) key) (sym source)
    (sym c.write_key.ensures.keyed ∙ law.keyed_by_bits c.args.game.now key))
    c.new-output.ensures.items c.in_ok-add_standing.ensures (rw same at c.in_ok-add_holding.ensures)
