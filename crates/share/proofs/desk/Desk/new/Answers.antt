use Rattle.std.proofs.Common.{◌≡◌, [], ◌∷◌, ◌++◌, length, length-append, ap, subst, sym, arith}
use Rattle.std.proofs.lemmas.List.Elements.{All-push}
use Rattle.std.specs.Prelude.{All}
use Rattle.share.specs.Step.{IsStepOf}
use Rattle.share.proofs.desk.Desk.new.Goals as goal

pub loop-preserved : goal.loop-preserved
loop-preserved g c =
    let step = c.in_ok-step.step in
    let items : c.push_reserved.new.self.items ≡ c.loop.steps.items ++ step ∷ [] = c.push_reserved.ensures.items in
    record {
      steps = subst (All (IsStepOf g.G.Game c.args.game.now)) (sym items)
          (All-push (IsStepOf g.G.Game c.args.game.now) c.loop.steps.items step c.loop.invariant.steps c.in_ok-step.ensures);
      count = omega (arith, ap length items, length-append c.loop.steps.items (step ∷ []), c.loop.invariant.count);
      place = omega (arith, c.push_reserved.ensures.capacity, c.loop.invariant.place);
    }
