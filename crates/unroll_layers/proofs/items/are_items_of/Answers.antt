use Rattle.std.proofs.Common.{sym, ◌∙◌}
use Rattle.unroll_layers.proofs.TestLemmas.{lengths_differ, count_at}
use Rattle.unroll_layers.proofs.items.are_items_of.Goals as goal

pub returns-then-firsts-seconds : goal.returns-then-firsts-seconds
returns-then-firsts-seconds c =
    sym (lengths_differ _ _ _ (λ e. c.if-firsts-seconds.true (sym (count_at c.args.firsts.now) ∙ e ∙ count_at c.args.seconds.now)))
