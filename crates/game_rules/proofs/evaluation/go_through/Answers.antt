use Rattle.std.proofs.Common.{ℕ, ◌<◌, Bool, sym, subst, ◌∙◌}
use Rattle.std.specs.Prelude.{All}
use Rattle.ground_instances.specs.GroundView.{instances_of}
use Rattle.game_rules.specs.GroundFacts.{body_within, head_within}
use Rattle.game_rules.proofs.Marks.{heads_behind}
use Rattle.game_rules.proofs.evaluation.go_through.Goals as goal

pub take_body-requires-clause-head : goal.take_body-requires-clause-head
take_body-requires-clause-head c =
    let g = c.args.ground.now in
    subst (λ (n : ℕ). c.head.result < n) (sym (c.loop-place.invariant.size ∙ c.requires))
    (head_within g c.loop-place.place c.head.result
    (subst (λ (n : ℕ). c.loop-place.place < n) c.many_kept-place-end.ensures c.loop-place-test.true) c.head.ensures)

pub take_body-requires-clause-body : goal.take_body-requires-clause-body
take_body-requires-clause-body c =
    let g = c.args.ground.now in
    subst (λ (n : ℕ). All (λ (l : ℕ × Bool). l.0 < n) c.body.result.now) (sym (c.loop-place.invariant.size ∙ c.requires))
    (body_within g c.loop-place.place c.body.result.now
    (subst (λ (n : ℕ). c.loop-place.place < n) c.many_kept-place-end.ensures c.loop-place-test.true) c.body.ensures)

pub loop-place-preserved : goal.loop-place-preserved
loop-place-preserved c =
    let g = c.args.ground.now in
    let l = c.loop-place in
    record {
      left = heads_behind c.args.right.now.items l.right.items c.take_body.new.right.items (instances_of g) l.place c.head.result
          c.body.result.now (subst (λ (n : ℕ). l.place < n) c.many_kept-place-end.ensures c.loop-place-test.true) c.head.ensures c.body.ensures
          c.take_body.ensures.marks l.invariant.left;
      size = c.take_body.ensures.size ∙ l.invariant.size;
      capacity = c.take_body.ensures.capacity ∙ l.invariant.capacity;
    }
