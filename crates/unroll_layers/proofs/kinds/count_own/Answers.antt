use Rattle.std.proofs.Common.{◌≡◌, map, rules, ◌∙◌}
use Rattle.std.specs.Prelude.{count_by}
use Rattle.kif.specs.View.{tree_of}
use Rattle.rules_relations.specs.Relations.{relation_in}
use Rattle.unroll_layers.specs.Kinds.{is_own_atom}
use Rattle.unroll_layers.proofs.TestLemmas.{counted}
use Rattle.unroll_layers.proofs.kinds.count_own.Goals as goal

pub returns : goal.returns
returns c =
    let h : c.count.result ≡ count_by (λ e. is_own_atom (map relation_in c.args.own.now) (tree_of e)) c.args.body.now = search rules in
    h ∙ counted (map relation_in c.args.own.now) c.args.body.now
