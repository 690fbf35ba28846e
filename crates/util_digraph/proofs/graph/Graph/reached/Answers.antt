use Rattle.std.proofs.Common.{◌∙◌, arith, ℕ, ◌<◌, ◌-◌, length, List, subst, refl, sym}
use Rattle.std.specs.List.{each_same}
use Rattle.util_digraph.proofs.Search.{look, looked_at, work_falls, closed_pop, started_more, before_inside, all_marked_at, Searching}
use Rattle.util_digraph.proofs.Search.{begun, node_inside, target_inside, is_some, is_none, one_shorter}
use Rattle.util_digraph.proofs.graph.Graph.reached.Goals as goal

pub loop-pending-preserved : goal.loop-pending-preserved
loop-pending-preserved c =
    let some = subst (λ (n : ℕ). 0 < n) c.loop-pending.pending.ok.0 (is_some _ _ c.loop-pending-test.true c.is_empty.ensures) in
    let at = look _ c.args.self.now.ends.items c.args.self.now.before.items c.args.starts.now
    (length c.args.starts.now) c.loop-pending.marks.items c.loop-pending.ends.items c.loop-pending.pending.items
    c.len-in-loop-pending.result c.index-node.result.now c.index-end.result.now c.index-in-loop-pending.result.now c.index.result.now
    c.args.self.now.linked c.loop-pending.invariant some (c.len-in-loop-pending.ensures
    ∙ c.loop-pending.pending.ok.0) c.index-node.ensures c.index-end.ensures c.if-end-eq0.false c.index.ensures c.index-in-loop-pending.ensures in
    looked_at _ c.args.self.now.ends.items c.args.self.now.before.items _ _ _ _ _ _ _ _ _ at c.loop-pending.invariant _ _
    c.in_ok-mark-2.ensures.marked c.in_ok-mark-2.ensures.noted

pub loop-pending-preserved-then-end-eq0 : goal.loop-pending-preserved-then-end-eq0
loop-pending-preserved-then-end-eq0 c =
    let some = subst (λ (n : ℕ). 0 < n) c.loop-pending.pending.ok.0 (is_some _ _ c.loop-pending-test.true c.is_empty.ensures) in
    closed_pop _ _ _ _ _ _ _ _ c.pop.result c.len-in-loop-pending.result c.index-node.result.now c.index-end.result.now c.loop-pending.invariant
    some
    (c.len-in-loop-pending.ensures ∙ c.loop-pending.pending.ok.0) c.index-node.ensures c.index-end.ensures c.if-end-eq0.true c.pop.ensures.items
    (one_shorter _ _ _ c.loop-pending.pending.ok.0 c.pop.ensures.rest some)

pub loop-pending-smaller : goal.loop-pending-smaller
loop-pending-smaller c =
    let some = subst (λ (n : ℕ). 0 < n) c.loop-pending.pending.ok.0 (is_some _ _ c.loop-pending-test.true c.is_empty.ensures) in
    let at = look _ c.args.self.now.ends.items c.args.self.now.before.items c.args.starts.now
    (length c.args.starts.now) c.loop-pending.marks.items c.loop-pending.ends.items c.loop-pending.pending.items
    c.len-in-loop-pending.result c.index-node.result.now c.index-end.result.now c.index-in-loop-pending.result.now c.index.result.now
    c.args.self.now.linked c.loop-pending.invariant some (c.len-in-loop-pending.ensures
    ∙ c.loop-pending.pending.ok.0) c.index-node.ensures c.index-end.ensures c.if-end-eq0.false c.index.ensures c.index-in-loop-pending.ensures in
    work_falls _ c.args.self.now.ends.items c.args.self.now.before.items _ _ _ _ _ _ _ _ _ at c.loop-pending.invariant _ _
    c.in_ok-mark-2.ensures.marked c.in_ok-mark-2.ensures.noted

pub loop-start-preserved : goal.loop-start-preserved
loop-start-preserved c = record {
  searching = started_more _ _ _ _ _ _ _ c.loop-start-test.true
      (omega (arith, c.requires c.loop-start.start-index 0 c.loop-start-test.true, c.args.self.now.ends.ok.0))
      (subst (λ (x : List ℕ). Searching c.args.self.now.arrows.items c.args.starts.now (length c.args.self.now.ends.items) c.loop-start.start-index
      c.loop-start.marks.items x c.loop-start.pending.items) refl c.loop-start.invariant.searching)
      _ _ c.in_ok-mark.ensures.marked c.in_ok-mark.ensures.noted;
  ends_are = c.loop-start.invariant.ends_are;
}

pub index-requires-in-loop-pending : goal.index-requires-in-loop-pending
index-requires-in-loop-pending c =
    let some = subst (λ (n : ℕ). 0 < n) c.loop-pending.pending.ok.0 (is_some _ _ c.loop-pending-test.true c.is_empty.ensures) in
    let inside =
    before_inside _ _ c.args.self.now.before.items c.args.starts.now (length c.args.starts.now) c.loop-pending.marks.items
    c.loop-pending.ends.items c.loop-pending.pending.items
    c.len-in-loop-pending.result c.index-node.result.now c.index-end.result.now c.args.self.now.linked c.loop-pending.invariant some
    (c.len-in-loop-pending.ensures ∙ c.loop-pending.pending.ok.0) c.index-node.ensures c.index-end.ensures c.if-end-eq0.false in
    omega (arith, inside, c.args.self.now.before.ok.0)

pub returns : goal.returns
returns c =
    all_marked_at _ _ _ c.args.self.now.linked _ (λ i h. omega (arith, c.requires i 0 h, c.args.self.now.ends.ok.0)) _ _ _ _ c.args.self.now.ends.ok.0
    (sym c.loop-pending.pending.ok.0 ∙ is_none _ _ c.loop-pending-test.false c.is_empty.ensures) c.loop-pending.invariant

pub loop-start-init : goal.loop-start-init
loop-start-init c =
    let same = each_same _ _ c.in_ok-ends.ensures.cases.0 in
    record {
      searching = begun _ _ _ c.args.self.now.linked _ _ _ _ _ (c.len.ensures ∙ c.args.self.now.ends.ok.0)
          (c.in_ok-marks.ensures.items_if_clones_equal (λ y e. e)) same c.new-pending.ensures.items;
      ends_are = same;
    }

pub index-end-requires : goal.index-end-requires
index-end-requires c =
    let some = subst (λ (n : ℕ). 0 < n) c.loop-pending.pending.ok.0 (is_some _ _ c.loop-pending-test.true c.is_empty.ensures) in
    let inside = node_inside _ _ _ _ _ _ _ c.len-in-loop-pending.result c.index-node.result.now c.loop-pending.invariant some
    (c.len-in-loop-pending.ensures ∙ c.loop-pending.pending.ok.0) c.index-node.ensures in
    subst (λ (n : ℕ). c.index-node.result.now < n) (sym (c.loop-pending.ends.ok.0 ∙ c.loop-pending.invariant.ends_are)) inside

pub index-requires : goal.index-requires
index-requires c =
    let some = subst (λ (n : ℕ). 0 < n) c.loop-pending.pending.ok.0 (is_some _ _ c.loop-pending-test.true c.is_empty.ensures) in
    let inside =
    before_inside _ _ c.args.self.now.before.items c.args.starts.now (length c.args.starts.now) c.loop-pending.marks.items
    c.loop-pending.ends.items c.loop-pending.pending.items
    c.len-in-loop-pending.result c.index-node.result.now c.index-end.result.now c.args.self.now.linked c.loop-pending.invariant some
    (c.len-in-loop-pending.ensures ∙ c.loop-pending.pending.ok.0) c.index-node.ensures c.index-end.ensures c.if-end-eq0.false in
    subst (λ (n : ℕ). c.index-end.result.now - 1 < n) (c.args.self.now.linked.same_length ∙ sym c.args.self.now.arrows.ok.0) inside

pub mark-requires-in-loop-pending : goal.mark-requires-in-loop-pending
mark-requires-in-loop-pending c =
    let some = subst (λ (n : ℕ). 0 < n) c.loop-pending.pending.ok.0 (is_some _ _ c.loop-pending-test.true c.is_empty.ensures) in
    let inside =
    target_inside _ _ c.args.self.now.before.items c.args.starts.now (length c.args.starts.now) c.loop-pending.marks.items
    c.loop-pending.ends.items c.loop-pending.pending.items
    c.len-in-loop-pending.result c.index-node.result.now c.index-end.result.now c.index.result.now c.args.self.now.linked c.loop-pending.invariant some
    (c.len-in-loop-pending.ensures ∙ c.loop-pending.pending.ok.0) c.index-node.ensures c.index-end.ensures c.if-end-eq0.false c.index.ensures in
    subst (λ (n : ℕ). c.index.result.now.to < n) (sym (c.loop-pending.marks.ok.0 ∙ c.loop-pending.invariant.marks_are)) inside

pub index_mut-requires : goal.index_mut-requires
index_mut-requires c =
    let some = subst (λ (n : ℕ). 0 < n) c.loop-pending.pending.ok.0 (is_some _ _ c.loop-pending-test.true c.is_empty.ensures) in
    let inside = node_inside _ _ _ _ _ _ _ c.len-in-loop-pending.result c.index-node.result.now c.loop-pending.invariant some
    (c.len-in-loop-pending.ensures ∙ c.loop-pending.pending.ok.0) c.index-node.ensures in
    subst (λ (n : ℕ). c.index-node.result.now < n) (sym (c.loop-pending.ends.ok.0 ∙ c.loop-pending.invariant.ends_are)) inside
