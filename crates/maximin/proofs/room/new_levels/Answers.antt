use Rattle.std.proofs.Common.{[], ◌∷◌, arith}
use Rattle.std.proofs.lemmas.Grind.{common_steps}
use Rattle.std.proofs.lemmas.List.Elements.{All-nil, All-cons, All-append}
use Rattle.maximin.specs.declared.level.Level.{Level}
use Rattle.maximin.specs.Level.{IsLevelOf}
use Rattle.maximin.proofs.room.new_levels.Goals as goal

pub loop-preserved : goal.loop-preserved
loop-preserved g c =
    let P = λ (level : Level g.row.G-Pos.Denot g.row.G-Many.Denot). IsLevelOf g.G.Game c.args.game.now level in
    let level = c.in_ok-new_level.field-0 in
    record {
      count = grind (arith, common_steps);
      each = rw c.in_ok-push.ensures.items
          (All-append P c.loop.levels.items (level ∷ []) c.loop.invariant.each (All-cons P level [] c.in_ok-new_level.ensures (All-nil P)));
    }
