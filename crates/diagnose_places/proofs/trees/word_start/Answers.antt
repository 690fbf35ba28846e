use Rattle.std.proofs.Common.{refl}
use Rattle.diagnose_places.proofs.Words.{not_yet, still_not, found_first, none_there}
use Rattle.diagnose_places.proofs.trees.word_start.Goals as goal

pub loop-token-init : goal.loop-token-init
loop-token-init g c = not_yet c.args.text.now c.behind_items-tokens.result c.args.name.now c.behind_items-tokens.ensures.text

pub loop-token-preserved : goal.loop-token-preserved
loop-token-preserved g c =
    still_not c.args.text.now _ c.loop-token.tokens c.next.new.self c.args.name.now c.in-Some.token c.loop-token.invariant
    c.in-Some.ensures.next c.next.ensures.text (λ e. let f = c.if-is_name.ensures.1 e in absurd cc)

pub returns-then-is_name-clause-stands : goal.returns-then-is_name-clause-stands
returns-then-is_name-clause-stands g c = λ reads.
    found_first c.args.text.now c.args.items.now c.args.index _ c.loop-token.tokens _ c.args.name.now c.in-Some.token
    c.behind_items-tokens.ensures.passed c.loop-token.invariant c.in-Some.ensures.next (c.if-is_name.ensures.0 refl) reads

pub returns-clause-found : goal.returns-clause-found
returns-clause-found g c = λ none within reads.
    none_there c.args.text.now c.args.items.now c.args.index _ c.loop-token.tokens c.args.name.now
    c.behind_items-tokens.ensures.passed c.loop-token.invariant c.in_default.ensures.next reads
