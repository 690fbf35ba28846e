use Rattle.diagnose_places.proofs.ItemStarts.{begins, not_over}
use Rattle.diagnose_places.proofs.trees.item_start.Goals as goal

pub returns-in_err-first-clause-found : goal.returns-in_err-first-clause-found
returns-in_err-first-clause-found g c = λ reads within. absurd
    (not_over c.args.text.now c.args.items.now c.args.index _ c.behind_items-tokens.ensures.passed c.in_err-first.ensures.next reads within)

pub returns-clause-begins : goal.returns-clause-begins
returns-clause-begins g c =
    λ reads. begins c.args.text.now _ c.args.items.now c.args.index _ _ c.in_ok-first.first c.behind_items-tokens.ensures.passed
    c.in_ok-first.ensures.next reads
