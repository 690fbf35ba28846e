use Rattle.std.proofs.Common.{ap, ◌∙◌}
use Rattle.kif.specs.View.{trees_in}
use Rattle.kif.proofs.ViewLemmas.{trees_in_closed}
use Rattle.kif.proofs.reader.Reader.close_list.Goals as goal

pub returns-clause-trees : goal.returns-clause-trees
returns-clause-trees g c = ap trees_in c.in_ok-push.ensures.items
    ∙ trees_in_closed c.args.before _ _ _ c.in_ok-closed.ensures.items c.in_ok-closed.ensures.tail
