use Rattle.std.proofs.Common.{Bool, ◌||◌, take, get_or, refl, sym, ap, ◌∙◌}
use Rattle.std.specs.Prelude.{◌==◌}
use Rattle.std.specs.Int.{bit_at}
use Rattle.std.specs.List.{list_any}
use Rattle.position.proofs.ReaderLemmas.{any_more}
use Rattle.position.proofs.readers.holding_at.Goals as goal

pub loop-i-preserved : goal.loop-i-preserved
loop-i-preserved c = λ k on tells.
    let places = c.args.places.now in
    let i = c.loop-i.i in
    let place = get_or places i 0 in
    c.either-any.ensures k
    ∙ ap (λ (b : Bool). b || (bit_at c.word.result k == 1)) (c.loop-i.invariant k on tells)
    ∙ ap (λ (b : Bool). list_any on (take i places) || b) (tells place c.word.result (c.requires.places i 0 c.loop-i-test.true) c.word.ensures.tells)
    ∙ sym (any_more on places i place c.loop-i-test.true refl)
