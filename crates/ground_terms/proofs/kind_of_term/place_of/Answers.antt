use Rattle.std.proofs.Common.{nat_eq, arith}
use Rattle.ground_terms.proofs.AtPlaces.{found_place, missed_place}
use Rattle.ground_terms.proofs.kind_of_term.place_of.Goals as goal

pub returns-then-place-len : goal.returns-then-place-len
returns-then-place-len c = found_place (nat_eq c.args.number) c.args.numbers.now.keys c.place-place.result c.place-place.ensures
    (let h = c.if-place-len.true in let l = c.len.ensures in omega (arith, h, l))

pub returns : goal.returns
returns c = missed_place (nat_eq c.args.number) c.args.numbers.now.keys c.place-place.result c.place-place.ensures
    (let h = c.if-place-len.false in let l = c.len.ensures in omega (arith, h, l))
