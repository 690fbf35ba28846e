use Rattle.std.proofs.Common.{◌≡◌, true, length, get_or, arith, sym, rules as facts}
use Rattle.std.proofs.lemmas.List.Sums.{position_or_len_is}
use Rattle.search_split.specs.Cuts.{is_x}
use Rattle.search_split.proofs.cut.first_x.Goals as goal

pub returns : goal.returns
returns c =
    let past = c.loop-place-test.false in
    sym (position_or_len_is is_x c.args.text.now (length c.args.text.now) 0 (omega arith)
    (λ k below. c.loop-place.invariant.none k (omega (arith, past))) (λ inside. absurd (omega arith)))

pub returns-then-text-place-eq120 : goal.returns-then-text-place-eq120
returns-then-text-place-eq120 c =
    let here : is_x (get_or c.args.text.now c.loop-place.place 0) ≡ true = search facts in
    sym (position_or_len_is is_x c.args.text.now c.loop-place.place 0 (omega arith) c.loop-place.invariant.none (λ inside. here))
