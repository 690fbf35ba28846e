use Rattle.std.proofs.Common.{rules, ◌≡◌, ◌<◌, length, arith}
use Rattle.propnet.proofs.Pushes.{IsLike, likened, length-gates, pushed_like, laid_like}
use Rattle.propnet.proofs.nodes.Nodes.push_like.Goals as goal

pub overflow_cast-number : goal.overflow_cast-number
overflow_cast-number c =
    let size = length-gates c.args.self.now.list.items c.args.self.now.operands.items in
    let is : c.len-number.result ≡ length c.args.self.now.list.items = search rules in
    omega arith

pub index-node-requires : goal.index-node-requires
index-node-requires c =
    let old = c.args.self.now in
    let size = length-gates old.list.items old.operands.items in
    let same = old.list.ok.0 in
    let below = c.requires.like in
    omega arith

pub invariant_of-self-2 : goal.invariant_of-self-2
invariant_of-self-2 c =
    let old = c.args.self.now in
    let is : c.len-number.result ≡ length old.list.items = search rules in
    let size = length-gates old.list.items old.operands.items in
    let below : c.args.like < length old.list.items = (let lt = c.requires.like in omega arith) in
    let s : IsLike old.list.items c.args.like c.index-node.result.now c.args.name c.push_reserved.new.self.items c.len-number.result =
    likened old.list.items c.reserve.new.self.items c.args.like c.index-node.result.now _ c.args.name _ _ below c.index-node.ensures
    c.reserve.ensures.items c.of-label.ensures c.push_reserved.ensures.items is in
    record { laid = laid_like old.list.items old.operands.items c.args.like c.index-node.result.now c.args.name _ c.len-number.result old.laid s }

pub returns : goal.returns
returns c =
    let old = c.args.self.now in
    let is : c.len-number.result ≡ length old.list.items = search rules in
    let size = length-gates old.list.items old.operands.items in
    let below : c.args.like < length old.list.items = (let lt = c.requires.like in omega arith) in
    let s : IsLike old.list.items c.args.like c.index-node.result.now c.args.name c.push_reserved.new.self.items c.len-number.result =
    likened old.list.items c.reserve.new.self.items c.args.like c.index-node.result.now _ c.args.name _ _ below c.index-node.ensures
    c.reserve.ensures.items c.of-label.ensures c.push_reserved.ensures.items is in
    pushed_like old.list.items old.operands.items c.args.like c.index-node.result.now c.args.name _ c.len-number.result s
