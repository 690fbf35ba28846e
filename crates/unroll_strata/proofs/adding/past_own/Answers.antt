use Rattle.std.proofs.Common.{◌≡◌, true, rules, sym, ap, ◌∙◌, arith}
use Rattle.statement.specs.Clause.{Relation}
use Rattle.statement.specs.Dependence.{is_among}
use Rattle.kif.specs.View.{tree_of}
use Rattle.unroll_strata.specs.Adding.{heads_own}
use Rattle.unroll_strata.proofs.AddedItems.{still_kept}
use Rattle.unroll_strata.proofs.adding.past_own.Goals as goal

pub loop-place-preserved : goal.loop-place-preserved
loop-place-preserved g c =
    let found : c.contains.result ≡ true = search (rules, c.if-not-contains.false) in
    let is_own : heads_own c.args.own.now (tree_of c.index-out-place.result) ≡ true =
    ap (λ (p : Relation). is_among p c.args.own.now) (sym c.head_of.ensures) ∙ sym c.contains.ensures ∙ found in
    let inside = c.loop-place-test.true in
    let before = c.loop-place.invariant in (
      omega (arith, inside),
      still_kept c.args.own.now c.args.out.now c.loop-place.place _ c.loop-place-test.true c.index-out-place.is is_own ∙ before.1,
    )
