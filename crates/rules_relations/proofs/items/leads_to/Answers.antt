use Rattle.std.proofs.Common.{sym}
use Rattle.rules_relations.specs.Relations.{relation_in}
use Rattle.rules_relations.specs.Asking.{links_them}
use Rattle.rules_relations.proofs.Looking.{item_holds}
use Rattle.rules_relations.proofs.Gathered.{some_behind}
use Rattle.rules_relations.proofs.items.leads_to.Goals as goal

pub returns-then-links : goal.returns-then-links
returns-then-links g c =
    let test = links_them (relation_in c.args.from.now) (relation_in c.args.to.now) in
    sym (some_behind test c.args.items.now c.args.guess
    (item_holds test c.args.items.now c.args.guess c.index-items-guess.result c.if-guess-items.true c.index-items-guess.is (sym c.if-links.ensures)))
