use Rattle.std.proofs.Common.{ℕ, ◌<◌, List, map, length, sym, subst, ◌∙◌, arith}
use Rattle.std.specs.Prelude.{slice_index_or}
use Rattle.util_digraph.specs.GraphView.{nodes_of}
use Rattle.rules_relations.specs.Relations.{relation_in}
use Rattle.unroll_strata.proofs.NumberLemmas.{number_within}
use Rattle.unroll_strata.proofs.CrossedLemmas.{numbers_below}
use Rattle.unroll_strata.proofs.graph.add_item.Goals as goal

pub add_arrows-requires-clause-head : goal.add_arrows-requires-clause-head
add_arrows-requires-clause-head c =
    let w = number_within c.args.numbers.now (relation_in c.head_of.result) in let e = c.number.ensures in let r = c.requires in omega (arith, w, e, r)

pub add_arrows-requires-clause-body : goal.add_arrows-requires-clause-body
add_arrows-requires-clause-body c =
    let nodes : ℕ = nodes_of c.args.graph.now in
    let r : length c.args.numbers.now < nodes = c.requires in
    subst (λ (xs : List ℕ). (k d : ℕ) → k < length xs → slice_index_or xs k d < nodes) (sym (c.deref-2.ensures.value ∙ c.in_ok-body.ensures))
    (λ k d h. let b = numbers_below c.args.numbers.now (map relation_in c.deref.result.now) k d h in omega (arith, b, r))
