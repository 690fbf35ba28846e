use Rattle.std.proofs.Common.{refl, ◌∙◌}
use Rattle.std.specs.List.{each_same}
use Rattle.util_digraph.proofs.GroupLemmas.{fresh_walk, same_walk}
use Rattle.util_digraph.proofs.components.Walk.new.Goals as goal

pub returns-clause-walk : goal.returns-clause-walk
returns-clause-walk c =
    same_walk _ _ 0 _ _ _ _ _ _ _ _ _ _ _ _ _ _ refl refl c.new.ensures.items c.new-2.ensures.items c.new-3.ensures.items refl refl
    (fresh_walk _ _ _ c.args.graph.now.linked c.in_ok-clone.field-0.items c.in_ok-zeros.field-0.items c.in_ok-zeros-2.field-0.items c.len-nodes.result
    (c.len-nodes.ensures ∙ c.args.graph.now.ends.ok.0) (each_same _ _ c.in_ok-clone.ensures.cases.0) c.in_ok-zeros.ensures
    c.in_ok-zeros-2.ensures)
