use Rattle.std.proofs.Common.{◌≤◌, ◌<◌, ◌^◌, length, subst, sym, rules}
use Rattle.program_requests.proofs.SizeLemmas.{too_large, is_size}
use Rattle.program_requests.proofs.sizes.size_of.Goals as goal

pub returns-in_default : goal.returns-in_default
returns-in_default c = λ n h.
    let digits = c.args.digits.now in
    let i = c.loop-byte.byte-index in
    let within : i < length digits = search rules in
    too_large (2 ^ 64) digits i c.loop-byte.size within c.loop-byte.invariant.0 c.loop-byte.invariant.1 c.in_default.ensures h.all
    (subst (λ k. k < 2 ^ 64) (sym h.number) h.fits)

pub returns : goal.returns
returns c =
    let digits = c.args.digits.now in
    let i = c.loop-byte.byte-index in
    let past : length digits ≤ i = search rules in
    let some : 0 < length digits = search rules in
    is_size digits i c.loop-byte.size past some c.loop-byte.invariant.2 c.loop-byte.invariant.0 c.loop-byte.invariant.1
