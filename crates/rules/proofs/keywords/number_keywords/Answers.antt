use Rattle.rules.proofs.NamingLemmas.{numbers_keywords}
use Rattle.rules.proofs.keywords.number_keywords.Goals as goal

pub returns : goal.returns
returns c =
    numbers_keywords _ _ _ _ _ _ _ _ _ _ _ _ _
    c.in_ok-role.ensures c.in_ok-base.ensures c.in_ok-input.ensures c.in_ok-init.ensures c.in_ok-now.ensures c.in_ok-does.ensures c.in_ok-next.ensures
    c.in_ok-legal.ensures c.in_ok-goal.ensures c.in_ok-terminal.ensures c.in_ok-distinct.ensures
