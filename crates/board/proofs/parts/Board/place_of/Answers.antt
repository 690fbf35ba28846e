use Rattle.std.proofs.Common.{rules, ◌≡◌, length, sym, arith}
use Rattle.board.specs.Values.{starts_from}
use Rattle.board.proofs.Numbers.{starts_long, end_is, begin_is, place_at}
use Rattle.board.proofs.parts.Board.place_of.Goals as goal

pub bounds-starts-high : goal.bounds-starts-high
bounds-starts-high g c =
    let rs = c.args.self.now.terms.replies.items in
    let are : c.as_slice-starts.result.now ≡ starts_from 0 rs = search (rules, c.args.self.now.numbered) in
    let moves : c.len-high.result ≡ length rs = search rules in
    starts_long c.as_slice-starts.result.now rs c.args.number are c.len-high.result moves

pub returns-then-starts-high-clause-none : goal.returns-then-starts-high-clause-none
returns-then-starts-high-clause-none g c =
    let rs = c.args.self.now.terms.replies.items in
    let are : c.as_slice-starts.result.now ≡ starts_from 0 rs = search (rules, c.args.self.now.numbered) in
    let moves : c.len-high.result ≡ length rs = search rules in
    omega (arith, c.if-starts-high.true, end_is c.as_slice-starts.result.now rs c.args.number are c.len-high.result moves)

pub halves-init : goal.halves-init
halves-init g c =
    let rs = c.args.self.now.terms.replies.items in
    let are : c.as_slice-starts.result.now ≡ starts_from 0 rs = search (rules, c.args.self.now.numbered) in
    let moves : c.len-high.result ≡ length rs = search rules in
    record {
      from = omega (arith, begin_is c.as_slice-starts.result.now rs c.args.number are);
      under = c.if-starts-high.false;
      apart = omega (arith, moves, c.args.self.now.some_move);
      within = omega (arith, moves);
    }

pub returns-clause-own : goal.returns-clause-own
returns-clause-own g c =
    let rs = c.args.self.now.terms.replies.items in
    let are : c.as_slice-starts.result.now ≡ starts_from 0 rs = search (rules, c.args.self.now.numbered) in
    let i = c.halves.invariant in
    sym (place_at c.as_slice-starts.result.now rs c.args.number are c.halves.low c.halves.high i.from i.under i.apart
    (omega (arith, c.halves-test.false)) i.within).0

pub returns-clause-reply : goal.returns-clause-reply
returns-clause-reply g c =
    let rs = c.args.self.now.terms.replies.items in
    let are : c.as_slice-starts.result.now ≡ starts_from 0 rs = search (rules, c.args.self.now.numbered) in
    let i = c.halves.invariant in
    (place_at c.as_slice-starts.result.now rs c.args.number are c.halves.low c.halves.high i.from i.under i.apart (omega (arith, c.halves-test.false))
    i.within).1

pub returns-clause-some : goal.returns-clause-some
returns-clause-some g c =
    let rs = c.args.self.now.terms.replies.items in
    let are : c.as_slice-starts.result.now ≡ starts_from 0 rs = search (rules, c.args.self.now.numbered) in
    let moves : c.len-high.result ≡ length rs = search rules in
    omega (arith, c.if-starts-high.false, end_is c.as_slice-starts.result.now rs c.args.number are c.len-high.result moves)
