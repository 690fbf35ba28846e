use Rattle.std.proofs.Common.{rules, ◌≡◌, length, sym, ◌∙◌}
use Rattle.propnet.proofs.Pushes.{length-gates}
use Rattle.propnet.proofs.net.Net.nodes.Goals as goal

pub returns : goal.returns
returns c =
    let list = c.args.self.now.nodes.list.items in
    let is : c.len.result ≡ length list = search rules in
    is ∙ sym (length-gates list c.args.self.now.nodes.operands.items)
