use Rattle.rules_relations.specs.Relations.{relation_in}
use Rattle.std.proofs.Common.{sym, ◌∙◌}
use Rattle.program_unroll.proofs.ThroughNot.{among_at}
use Rattle.program_unroll.proofs.crossing.is_one_of.Goals as goal

pub returns-then-is_same : goal.returns-then-is_same
returns-then-is_same c =
    λ _. among_at relation_in (relation_in c.args.relation.now) c.args.some.now c.loop-other.other-index _ c.loop-other-test.true (sym c.is_same.ensures ∙ c.if-is_same.true)
