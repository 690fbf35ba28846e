use Rattle.std.proofs.Common.{arith, sym, ap, ◌∙◌}
use Rattle.statement.specs.Tree.{Tree, Trees, tree}
use Rattle.kif.specs.View.{tree_of}
use Rattle.statement.specs.Safety.{is_name_in, variables, variables_in}
use Rattle.rules_profile.proofs.Facts.{part_smaller}
use Rattle.rules_relations.proofs.Looking.{one_holds, one_fails, name_append}
use Rattle.rules_relations.proofs.probe.+variables.Goals as goal

pub have_variable-has_variable-requires : goal.have_variable-has_variable-requires
have_variable-has_variable-requires g t c κs within =
    let k = part_smaller _ _ _ c.loop-part-test.true c.part-item.is in
    (omega (arith, k, c.decreases), within)

pub have_variable-returns-then-has_variable : goal.have_variable-returns-then-has_variable
have_variable-returns-then-has_variable g t c =
    let n = c.args.variable.now in
    sym (c.loop-part.invariant ∙ one_holds (λ (ts : Trees). is_name_in n (variables_in ts)) (λ (u : Tree). is_name_in n (variables u))
    (λ u us. name_append n (variables u) (variables_in us)) _ _ _ c.loop-part-test.true c.part-item.is (sym c.if-has_variable.ensures))

pub have_variable-loop-part-preserved : goal.have_variable-loop-part-preserved
have_variable-loop-part-preserved g t c =
    let n = c.args.variable.now in
    c.loop-part.invariant ∙ one_fails (λ (ts : Trees). is_name_in n (variables_in ts)) (λ (u : Tree). is_name_in n (variables u))
    (λ u us. name_append n (variables u) (variables_in us)) _ _ _ c.loop-part-test.true c.part-item.is (sym c.if-has_variable.ensures)
