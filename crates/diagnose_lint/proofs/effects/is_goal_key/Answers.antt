use Rattle.std.proofs.Common.{arith}
use Rattle.ground_rows.specs.SetWords.{words_of}
use Rattle.diagnose_lint.proofs.InputLists.{goal_key_is}
use Rattle.diagnose_lint.proofs.effects.is_goal_key.Goals as goal

pub returns-then-symbol-count_symbols : goal.returns-then-symbol-count_symbols
returns-then-symbol-count_symbols c =
    let least = c.in-len1.len_at_least in
    let most = c.in-len1.len_below in
    let less = c.if-symbol-count_symbols.true in
    let count = c.count_symbols.ensures in
    goal_key_is (words_of c.args.rules.now) c.args.key.now c.symbol.result.now c.is_goal_number.result
    (omega (arith, least)) (omega (arith, most)) (omega (arith, less, count)) c.symbol.ensures c.is_goal_number.ensures
