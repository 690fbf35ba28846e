use Rattle.std.proofs.Common.{subst, sym, All, rules}
use Rattle.std.proofs.lemmas.List.Elements.{All-append}
use Rattle.search_table.specs.Sharing.{IsRight}
use Rattle.search_table.proofs.Steps.{all_one}
use Rattle.search_table.proofs.Tables.{of_its_own}
use Rattle.search_table.proofs.shared_table.empty_tables.Goals as goal

pub loop-i-preserved : goal.loop-i-preserved
loop-i-preserved g c = let law = g.met.G.Game g.world.𝓛 g.world.𝓜 g.world.𝓡 ((λ _ x. x), (λ x. x), (λ x. x), λ x. x) in
    let game = c.args.game.now in let right = IsRight g.G.Game game in
    let made = of_its_own _ _ _ _ _ (c.in_ok-table.ensures (g.G.Game.rules game) (g.G.Game.keyed game) (λ s. law.goal_within game s c.args.asked.role)) in
    record {
      count = search rules;
      right = subst (All right) (sym c.in_ok-push.ensures.items)
          (All-append right _ _ c.loop-i.invariant.right (all_one right _ made));
    }
