use Rattle.std.proofs.Common.{w16, ◌∙◌}
use Rattle.std.proofs.lemmas.Int.{to_z-of_z}
use Rattle.program_searches.proofs.windowed.lines_of_value.Goals as goal

pub lines_of_found-requires-clause-found : goal.lines_of_found-requires-clause-found
lines_of_found-requires-clause-found g c κs within = record {
  value_is = to_z-of_z w16 c.args.worth c.ranges.worth ∙ c.requires.worth;
  choice_is = c.choice_by_value-choice.ensures.choice;
}
