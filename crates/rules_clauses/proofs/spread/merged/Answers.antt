use Rattle.rules_clauses.proofs.SpreadLemmas.{both_numbers}
use Rattle.rules_clauses.proofs.spread.merged.Goals as goal

pub returns : goal.returns
returns c =
    both_numbers c.args.before.from c.args.before.to c.args.behind.from c.args.behind.to c.if-before.false c.if-before-behind.false c.if-behind.false
