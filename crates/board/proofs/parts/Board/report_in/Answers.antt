use Rattle.std.proofs.Common.{rules, ◌≡◌, ◌+◌, ◌≤◌, min, max, ap}
use Rattle.board.specs.Boards.{kept}
use Rattle.board.specs.Books.{seen}
use Rattle.board.specs.Seats.{setup_on, book}
use Rattle.board.proofs.Nested.{settles_lowered}
use Rattle.board.proofs.parts.Board.report_in.Goals as goal

pub returns-clause-reported : goal.returns-clause-reported
returns-clause-reported g c =
    let k = book c.args.s.now in
    let w = c.settle.new.place.me.0 in
    let lowered : seen w c.args.t.own ≤ kept c.args.r = search rules in
    let low : w.low ≡ max k.low (kept c.args.lo + (setup_on c.args.self.now).margin) = search rules in
    let high : w.high ≡ min k.high (kept c.args.hi) = search rules in
    record {
      settled = settles_lowered c.args.s.now.place.me.0 _ _ c.args.t.number c.args.t.own _ _ _ (ap (λ m. m.0) c.lower_between.ensures.book)
          c.lower_between.ensures.low.1 c.settle.ensures.settled;
      lowered = lowered;
      low = low;
      high = high;
    }
