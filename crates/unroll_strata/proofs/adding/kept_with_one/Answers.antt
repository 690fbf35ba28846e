use Rattle.std.proofs.Common.{true, ◌≡◌, rules, ◌∙◌, arith}
use Rattle.unroll_strata.proofs.AddedItems.{kept_more, true_on}
use Rattle.unroll_strata.proofs.adding.kept_with_one.Goals as goal

pub returns : goal.returns
returns g c =
    let found : c.is_same_at.result ≡ true = search (rules, c.if-not-is_same_at.false) in
    let is = true_on c.is_same_at.result _ c.is_same_at.ensures found in
    let less = is.1 in (
      omega (arith, less),
      kept_more c.args.own.now c.args.items.now c.args.out.now c.args.place c.past_own-at.result (c.past_own-at.ensures.kept ∙ c.requires.before) is.2,
    )
