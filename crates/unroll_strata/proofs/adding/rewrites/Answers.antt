use Rattle.std.proofs.Common.{sym, ◌∙◌}
use Rattle.unroll_strata.proofs.AddedItems.{rewritten_items, on_not}
use Rattle.unroll_strata.proofs.adding.rewrites.Goals as goal

pub returns : goal.returns
returns g c =
    on_not _ _ (λ none. rewritten_items c.args.own.now c.args.items.now c.args.out.now _ _ _ _ c.in-Some.ensures.1
    c.split_at.ensures.back (λ p. c.in_ok-stated.ensures p) (λ p. c.in_ok-asked.ensures p) (sym c.is_any_spoken_of.ensures ∙ none))
