use Rattle.std.proofs.Common.{rules, ◌≡◌, [], length, arith, sym, refl}
use Rattle.std.proofs.lemmas.List.{append-nil}
use Rattle.propnet.proofs.Pushes.{IsStored, stored, length-gates, pushed, laid_push}
use Rattle.propnet.proofs.nodes.Nodes.push_plain.Goals as goal

pub overflow_cast-number : goal.overflow_cast-number
overflow_cast-number c =
    let size = length-gates c.args.self.now.list.items c.args.self.now.operands.items in
    let is : c.len-number.result ≡ length c.args.self.now.list.items = search rules in
    omega arith

pub invariant_of-self-2 : goal.invariant_of-self-2
invariant_of-self-2 c =
    let old = c.args.self.now in
    let is : c.len-number.result ≡ length old.list.items = search rules in
    let s : IsStored old.list.items old.operands.items c.args.name [] c.push_reserved.new.self.items c.room_for.new.operands.items c.len-number.result 0 c.in_ok-end.end =
    stored old.list.items c.room_for.new.list.items old.operands.items c.room_for.new.operands.items _ c.args.name _ _ _ _ 0 c.in_ok-end.end
    c.room_for.ensures.list c.room_for.ensures.operands c.of-label.ensures (sym (append-nil c.room_for.new.operands.items)) c.push_reserved.ensures.items refl c.in_ok-end.ensures.end is in
    record { laid = laid_push old.list.items old.operands.items c.args.name [] _ _ _ _ _ old.laid s }

pub returns : goal.returns
returns c =
    let old = c.args.self.now in
    let is : c.len-number.result ≡ length old.list.items = search rules in
    let s : IsStored old.list.items old.operands.items c.args.name [] c.push_reserved.new.self.items c.room_for.new.operands.items c.len-number.result 0 c.in_ok-end.end =
    stored old.list.items c.room_for.new.list.items old.operands.items c.room_for.new.operands.items _ c.args.name _ _ _ _ 0 c.in_ok-end.end
    c.room_for.ensures.list c.room_for.ensures.operands c.of-label.ensures (sym (append-nil c.room_for.new.operands.items)) c.push_reserved.ensures.items refl c.in_ok-end.ensures.end is in
    pushed old.list.items old.operands.items c.args.name [] _ _ _ _ _ old.laid s
