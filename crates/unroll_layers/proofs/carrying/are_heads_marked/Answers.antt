use Rattle.std.proofs.Common.{◌<◌, sym, subst, arith}
use Rattle.statement.specs.Kept.{Kept}
use Rattle.ground_instances.specs.GroundView.{instances_of}
use Rattle.unroll_layers.specs.Owners.{IsOf}
use Rattle.unroll_layers.specs.ByNumber.{IsMarked}
use Rattle.unroll_layers.proofs.Numbers.{place_of}
use Rattle.unroll_layers.proofs.carrying.are_heads_marked.Goals as goal

pub returns : goal.returns
returns c = λ i a of.
    let rows = instances_of c.args.ground.now in
    let p = place_of rows i a in
    let below : p.0 < c.loop-place.place = omega (arith, p.1, c.many_kept-place-end.ensures, c.loop-place-test.false) in
    subst (λ (j : Kept). IsMarked c.args.marks.now j.head) (p.2 i)
    (c.loop-place.invariant p.0 below i (subst (λ (j : Kept). IsOf c.args.befores.now j) (sym (p.2 i)) of))
