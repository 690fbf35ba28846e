use Rattle.std.proofs.Common.{◌<◌, ℕ, Bool, List, length, subst, arith}
use Rattle.std.specs.Prelude.{get_or}
use Rattle.std.specs.List.{All}
use Rattle.statement.specs.Kept.{Kept}
use Rattle.ground_instances.specs.GroundView.{kinds_of, instances_of}
use Rattle.ground_instances.proofs.Facts.{among_at}
use Rattle.unroll.specs.Marks.{AsksMarked}
use Rattle.unroll.proofs.Sometime.{with_mark}
use Rattle.unroll.proofs.marking.mark_brought.Goals as goal

pub returns : goal.returns
returns c =
    let rows = instances_of c.args.ground.now in
    let d : Kept = record { alternative = 0; head = 0; body = c.body.result.now } in
    let i = get_or rows c.args.place d in
    let inside : c.args.place < length rows = omega (arith, c.many_kept.ensures, c.if-place-many_kept.false) in
    let test : ℕ × Bool → Type 0 = AsksMarked (kinds_of c.args.ground.now) c.args.marks.now.items in
    let all : All test c.body.result.now =
    subst (λ (marks : List Bool). All (AsksMarked (kinds_of c.args.ground.now) marks) c.body.result.now) c.deref.ensures.value
    c.if-not-all_ask_marked.ensures in
    with_mark (kinds_of c.args.ground.now) rows c.args.marks.now.items c.requires i c.in-Some.proposition (among_at rows c.args.place d inside)
    (c.in-Some.ensures d) (subst (λ (rs : List (ℕ × Bool)). All test rs) (c.body.ensures d) all)
