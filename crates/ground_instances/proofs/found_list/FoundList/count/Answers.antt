use Rattle.std.proofs.Common.{sym, ◌∙◌}
use Rattle.ground_instances.proofs.Lists.{many_numbers}
use Rattle.ground_instances.proofs.found_list.FoundList.count.Goals as goal

pub returns : goal.returns
returns c = c.len.ensures ∙ c.args.self.now.entries.ok.0 ∙ sym (many_numbers c.args.self.now)
