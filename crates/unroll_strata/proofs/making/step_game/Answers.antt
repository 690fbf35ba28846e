use Rattle.std.proofs.Common.{◌++◌, [], List, map, filter, ap, ◌∙◌, append_assoc}
use Rattle.statement.specs.Tree.{Tree}
use Rattle.kif.specs.View.{trees_in}
use Rattle.unroll_strata.specs.Steps.{based_item, step_item, heads_one}
use Rattle.unroll_strata.proofs.making.step_game.Goals as goal

pub returns : goal.returns
returns c =
    let written = trees_in c.args.written.now in
    let kept = filter (heads_one c.args.below.now) written in
    let bases = map based_item (filter (heads_one c.args.own.now) written) in
    let steps = map (step_item c.args.own.now) (filter (heads_one c.args.own.now) (trees_in c.args.found.now)) in
    c.in_ok-add_all_steps.ensures
    ∙ ap (λ (ts : List Tree). ts ++ steps) (c.in_ok-add_all_based.ensures
    ∙ ap (λ (ts : List Tree). ts ++ bases) (c.in_ok-add_all_written.ensures ∙ ap (λ es. trees_in es ++ kept) c.new-made.ensures.items))
    ∙ append_assoc kept bases steps
