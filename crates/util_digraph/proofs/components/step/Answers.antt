use Rattle.std.proofs.Common.{◌∙◌, rules, arith}
use Rattle.util_digraph.proofs.GroupLemmas.{closed_at, followed_at, followed_work, last_in, low_in, newest, next_arrow, next_inside, place_inside}
use Rattle.util_digraph.proofs.GroupLemmas.{taken_at_last}
use Rattle.util_digraph.proofs.components.step.Goals as goal

pub returns-in_default-clause-walk : goal.returns-in_default-clause-walk
returns-in_default-clause-walk c = λ m w.
    closed_at _ _ _ c.args.graph.now.linked m c.args.walk.now c.close.new.self c.index-start.result.now w
    (low_in _ _ _ c.deref.ensures.value c.in_default.ensures)
    c.close.ensures.starts c.close.ensures.listed c.close.ensures.numbers c.close.ensures.count c.close.ensures.ends c.close.ensures.places
    c.close.ensures.pending

pub returns-then-end-eq0-clause-walk : goal.returns-then-end-eq0-clause-walk
returns-then-end-eq0-clause-walk c = λ m w.
    let last = last_in _ _ _ _ c.deref.ensures.value c.in-Some.ensures in
    taken_at_last _ _ m c.args.walk.now c.args.walk.now c.pop.result c.in-Some.place c.index-node.result.now c.index-end.result.now w last.some
    last.here
    c.index-node.ensures c.index-end.ensures c.if-end-eq0.true _ c.pop.ensures.items (search rules)

pub index-requires-2 : goal.index-requires-2
index-requires-2 c =
    let last = last_in _ _ _ _ c.deref.ensures.value c.in-Some.ensures in
    let new = newest _ _ 0 c.args.walk.now _ _ _ _ c.requires.walk c.requires.some (c.len.ensures
    ∙ c.args.walk.now.starts.ok.0) c.index-start.ensures last.from_start
    (place_inside _ _ 0 c.args.walk.now _ _ c.requires.walk last) c.index-node.ensures in
    let node_in = new.is_open.inside in
    let inside = next_inside _ _ _ c.args.graph.now.linked 0 c.args.walk.now _ _ c.requires.walk node_in c.index-end.ensures c.if-end-eq0.false in
    omega (arith, inside, c.args.graph.now.before.ok.0)

pub returns-clause-walk : goal.returns-clause-walk
returns-clause-walk c = λ m w.
    let last = last_in _ _ _ _ c.deref.ensures.value c.in-Some.ensures in
    let new = newest _ _ m c.args.walk.now _ _ _ _ w c.requires.some (c.len.ensures
    ∙ c.args.walk.now.starts.ok.0) c.index-start.ensures last.from_start
    (place_inside _ _ m c.args.walk.now _ _ w last) c.index-node.ensures in
    let next = next_arrow _ _ _ c.args.graph.now.linked m c.args.walk.now _ _ _ _ w new.is_open.inside c.index-end.ensures c.if-end-eq0.false
    c.index.ensures c.index-2.ensures in
    followed_at _ _ _ c.args.graph.now.linked m c.args.walk.now c.look_at.new.walk _ _ _ _ w new next c.in_ok-look_at.ensures.seen
    c.look_at.ensures.ends

pub returns-clause-falls : goal.returns-clause-falls
returns-clause-falls c =
    let last = last_in _ _ _ _ c.deref.ensures.value c.in-Some.ensures in
    let new = newest _ _ 0 c.args.walk.now _ _ _ _ c.requires.walk c.requires.some (c.len.ensures
    ∙ c.args.walk.now.starts.ok.0) c.index-start.ensures last.from_start
    (place_inside _ _ 0 c.args.walk.now _ _ c.requires.walk last) c.index-node.ensures in
    let next = next_arrow _ _ _ c.args.graph.now.linked 0 c.args.walk.now _ _ _ _ c.requires.walk new.is_open.inside c.index-end.ensures
    c.if-end-eq0.false c.index.ensures c.index-2.ensures in
    followed_work _ _ _ 0 c.args.walk.now c.look_at.new.walk _ _ _ _ c.requires.walk new.is_open.inside next c.in_ok-look_at.ensures.seen
    c.look_at.ensures.ends
