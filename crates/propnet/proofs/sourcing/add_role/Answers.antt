use Rattle.std.proofs.Common.{rules, ℕ, ◌≡◌, ◌++◌, ◌∷◌, [], length, ap, sym, ◌∙◌, arith}
use Rattle.propnet.proofs.Pushes.{length-gates}
use Rattle.propnet.proofs.sourcing.add_role.Goals as goal

pub overflow_cast-len : goal.overflow_cast-len
overflow_cast-len c =
    let nodes = c.args.nodes.now in
    let is : c.len.result ≡ length nodes.list.items = search rules in
    let size = length-gates nodes.list.items nodes.operands.items in
    let few = c.requires in
    omega arith

pub returns-clause-starts : goal.returns-clause-starts
returns-clause-starts c =
    let nodes = c.args.nodes.now in
    let is : c.len.result ≡ length nodes.list.items = search rules in
    c.in_ok-push.ensures.items ∙ ap (λ (n : ℕ). c.args.starts.now.items ++ n ∷ []) (is ∙ sym (length-gates nodes.list.items nodes.operands.items))
