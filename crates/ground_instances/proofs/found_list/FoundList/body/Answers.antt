use Rattle.std.proofs.Common.{sym, ◌∙◌}
use Rattle.ground_instances.proofs.found_list.FoundList.body.Goals as goal

pub returns : goal.returns
returns c = λ d. c.literals_of.ensures ∙ sym (c.body_number.ensures.body d)
