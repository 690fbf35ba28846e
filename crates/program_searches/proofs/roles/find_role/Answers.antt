use Rattle.std.proofs.Common.{ℕ, sym, arith, below_more}
use Rattle.statement.specs.Tree.{text, name_eq}
use Rattle.kif.specs.View.{tree_of}
use Rattle.game.proofs.Facts.{is_named, is_not_named}
use Rattle.program_searches.proofs.Ranges.{find_range, find_range_none}
use Rattle.program_searches.proofs.roles.find_role.Goals as goal

pub returns-then-text_is-clause-found : goal.returns-then-text_is-clause-found
returns-then-text_is-clause-found g c =
    let named = λ (r : ℕ). name_eq (text (tree_of c.args.tree.now)) (g.G.Game.role_name c.args.game.now r) in
    sym (find_range named 0 (g.G.Game.rules c.args.game.now).roles c.loop-role.role (omega arith) (omega arith)
    (λ j _ before. c.loop-role.invariant j before)
    (is_named (text (tree_of c.args.tree.now)) _ c.role_text.result.now c.text_is.result c.if-text_is.true c.text_is.ensures c.role_text.ensures))

pub loop-role-preserved : goal.loop-role-preserved
loop-role-preserved g c =
    below_more _ _ c.loop-role.invariant (is_not_named (text (tree_of c.args.tree.now)) _ c.role_text.result.now c.text_is.result c.if-text_is.false
    c.text_is.ensures c.role_text.ensures)

pub returns-clause-found : goal.returns-clause-found
returns-clause-found g c =
    let named = λ (r : ℕ). name_eq (text (tree_of c.args.tree.now)) (g.G.Game.role_name c.args.game.now r) in
    sym (find_range_none named 0 (g.G.Game.rules c.args.game.now).roles (λ k _ below. c.loop-role.invariant k (omega arith)))
