use Rattle.statement.specs.Order.{rank}
use Rattle.meaning.proofs.Acyclic.{rank_strata, same_meaning}
use Rattle.meaning.proofs.whole_laws.the_whole_meaning_extends_todays.Goals as goal

pub returns-clause-stratified : goal.returns-clause-stratified
returns-clause-stratified c = λ rules acyclic. (rank rules, rank_strata rules (λ p q. c.acyclic_sets_are_ranked.ensures.rank rules acyclic p q))

pub returns-clause-same : goal.returns-clause-same
returns-clause-same c = λ rules acyclic S J x.
    same_meaning rules (λ p q. c.acyclic_sets_are_ranked.ensures.rank rules acyclic p q) S J (λ y. c.holds_by_a_rule.ensures rules acyclic S J y) x
