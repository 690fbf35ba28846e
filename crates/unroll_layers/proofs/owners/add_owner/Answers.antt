use Rattle.std.proofs.Common.{ℕ, ◌<◌, [], length, get_or, set, sym, subst, arith, Some}
use Rattle.statement.specs.Kept.{Kept}
use Rattle.ground_instances.specs.GroundView.{instances_of}
use Rattle.ground_instances.proofs.Facts.{among_at}
use Rattle.unroll_layers.specs.Owners.{AreOwners}
use Rattle.unroll_layers.proofs.Owned.{owner_added}
use Rattle.unroll_layers.proofs.owners.add_owner.Goals as goal

pub returns : goal.returns
returns c =
    let rows = instances_of c.args.ground.now in
    let d : Kept = record { alternative = 0; head = 0; body = [] } in
    let i = get_or rows c.args.place d in
    let owners = c.args.owners.now.items in
    let inside : c.in-Some.atom < length owners = omega (arith, c.len.ensures, c.if-atom-len.false) in
    subst (λ (head : ℕ). AreOwners c.args.tops.now rows (set owners c.in-Some.atom (Some head))) (sym (c.head.ensures d))
    (owner_added c.args.tops.now rows owners c.in-Some.atom i c.requires.owners inside (among_at rows c.args.place d c.requires.place)
    (c.in-Some.ensures.marked d) (c.in-Some.ensures.asks d))
