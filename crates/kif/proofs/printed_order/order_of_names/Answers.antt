use Rattle.kif.proofs.Ordered.{names_order, mark_is, orders_as}
use Rattle.std.proofs.Common.{sym, ap, map}
use Rattle.kif.specs.Marks.{name_mark}
use Rattle.kif.proofs.printed_order.order_of_names.Goals as goal

pub returns : goal.returns
returns c =
    let x = c.compared_bytes-x.result.now in
    let y = c.compared_bytes-y.result.now in
    let p = c.common_length-same.result in
    orders_as _ _ _ _ _ _ _ _ c.cmp.ensures
    (ap (map name_mark) (sym c.compared_bytes-x.ensures)) (ap (map name_mark) (sym c.compared_bytes-y.ensures))
    (names_order p x y c.args.x_next c.args.y_next _ _ c.requires.x_ends c.requires.y_ends
    c.common_length-same.ensures.same c.common_length-same.ensures.longest
    c.common_length-same.ensures.x_within c.common_length-same.ensures.y_within
    (mark_is x p c.args.x_next _ c.mark_at.ensures.inside c.mark_at.ensures.behind)
    (mark_is y p c.args.y_next _ c.mark_at-2.ensures.inside c.mark_at-2.ensures.behind))
