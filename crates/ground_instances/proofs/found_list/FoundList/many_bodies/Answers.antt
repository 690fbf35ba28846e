use Rattle.std.proofs.Common.{sym, ◌∙◌}
use Rattle.ground_instances.proofs.Lists.{many_bodies}
use Rattle.ground_instances.proofs.found_list.FoundList.many_bodies.Goals as goal

pub returns : goal.returns
returns c = c.len.ensures ∙ c.args.self.now.ends.ok.0 ∙ sym (many_bodies c.args.self.now)
