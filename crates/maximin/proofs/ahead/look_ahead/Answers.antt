use Rattle.std.proofs.lemmas.List.Elements.{All-set}
use Rattle.maximin.specs.Level.{IsLevelOf, level_capacities}
use Rattle.maximin.proofs.Parts.{map_set_kept}
use Rattle.maximin.proofs.ahead.look_ahead.Goals as goal

pub returns-in-1-Zero-clause-kept : goal.returns-in-1-Zero-clause-kept
returns-in-1-Zero-clause-kept g c = record {
  wide = c.look_on.ensures.tools.wide;
  memory = c.look_on.ensures.tools.memory;
  levels = All-set (IsLevelOf g.G.Game c.args.game.now) c.args.levels.now 0 c.look_on.new.level c.look_on.ensures.level.level c.requires.fit.levels;
  of_tools = c.look_on.ensures.tools.capacities;
  of_levels = map_set_kept (level_capacities g.G.Game c.args.game.now) c.args.levels.now 0 c.look_on.new.level _
      c.look_on.ensures.level.capacities;
}

pub look_on-requires-clause-tools : goal.look_on-requires-clause-tools
look_on-requires-clause-tools g c κs within = record { wide = c.requires.fit.wide; memory = c.requires.fit.memory }
