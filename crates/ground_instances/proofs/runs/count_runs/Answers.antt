use Rattle.std.proofs.Common.{leb, leb-true, arith, rules}
use Rattle.std.proofs.lemmas.Bool.{leb-false}
use Rattle.std.proofs.lemmas.List.Sorted.{IsPartitionPoint-from_clause, IsPartitionedBy-leb}
use Rattle.ground_instances.specs.declared.entry.AlternativeRun.{AlternativeRun}
use Rattle.ground_instances.proofs.RunLemmas.{in_order}
use Rattle.ground_instances.proofs.runs.count_runs.Goals as goal

pub returns-clause-begun : goal.returns-clause-begun
returns-clause-begun c = λ low high rise.
    let parted = IsPartitionedBy-leb (λ (r : AlternativeRun). r.first) _ c.args.place (in_order low c.args.runs.now high rise) in
    let point = IsPartitionPoint-from_clause (λ (r : AlternativeRun). leb r.first c.args.place) _ _ c.partition_point.ensures.partitioned parted
    (λ a r q k. search rules) in
    λ k d h. leb-true _ _ (point.0 k d (omega arith) h)

pub returns-clause-others : goal.returns-clause-others
returns-clause-others c = λ low high rise.
    let parted = IsPartitionedBy-leb (λ (r : AlternativeRun). r.first) _ c.args.place (in_order low c.args.runs.now high rise) in
    let point = IsPartitionPoint-from_clause (λ (r : AlternativeRun). leb r.first c.args.place) _ _ c.partition_point.ensures.partitioned parted
    (λ a r q k. search rules) in
    λ k d h l. leb-false _ _ (point.1 k d h l)
