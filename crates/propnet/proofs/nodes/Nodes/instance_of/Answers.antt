use Rattle.std.proofs.Common.{rules, ◌<◌, length, Some, ap, sym, ◌∙◌}
use Rattle.statement.specs.declared.node_name.Name.{Name}
use Rattle.propnet.proofs.Pushes.{name_at}
use Rattle.propnet.proofs.nodes.Nodes.instance_of.Goals as goal

pub returns-in-And : goal.returns-in-And
returns-in-And c =
    let nodes = c.args.self.now in
    let lt : c.args.number < length nodes.list.items = search rules in
    name_at nodes.list.items nodes.operands.items c.args.number c.index.result.now lt c.index.ensures
    ∙ ap (λ (x : Name). Some x) (sym c.name.ensures ∙ c.in-And.is)
