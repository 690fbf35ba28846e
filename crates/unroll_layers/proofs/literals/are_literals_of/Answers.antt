use Rattle.std.proofs.Common.{sym, ◌∙◌}
use Rattle.unroll_layers.proofs.TestLemmas.{lengths_differ, count_in}
use Rattle.unroll_layers.proofs.literals.are_literals_of.Goals as goal

pub returns-then-firsts-seconds : goal.returns-then-firsts-seconds
returns-then-firsts-seconds c =
    sym (lengths_differ _ _ _ (λ e. c.if-firsts-seconds.true (sym (count_in c.args.firsts.now) ∙ e ∙ count_in c.args.seconds.now)))
