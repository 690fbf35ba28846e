use Rattle.std.proofs.Common.{◌≡◌, ◌<◌, ◌+◌, ℕ, sym, ap, ◌∙◌, arith, inl, inr}
use Rattle.std.specs.Int.{bit_at}
use Rattle.std.proofs.lemmas.Bool.{cases_eq}
use Rattle.std.proofs.lemmas.Nat.Bits.{bit_at-zero}
use Rattle.propnet.specs.Values.{lane}
use Rattle.position.proofs.net_keys.pack_lane.Goals as goal

pub with_bit-word-requires-clause-none : goal.with_bit-word-requires-clause-none
with_bit-word-requires-clause-none c = c.loop-p.invariant.fresh c.loop-p.p (omega arith)

pub loop-p-init : goal.loop-p-init
loop-p-init c = record { made = λ q below. absurd (omega arith); fresh = λ q above. bit_at-zero q }

pub loop-p-preserved : goal.loop-p-preserved
loop-p-preserved c = record {
  made = λ q below. elim (cases_eq q c.loop-p.p) [
    | inl same ↦ ap (bit_at c.with_bit-word.result) same ∙ c.with_bit-word.ensures.here ∙ c.lane_bit.ensures.value ∙ sym (ap (lane c.args.states.now c.args.k) same)
    | inr other ↦ c.with_bit-word.ensures.others q other ∙ c.loop-p.invariant.made q (omega arith)
  ];
  fresh = λ q above. c.with_bit-word.ensures.others q (λ e. omega arith) ∙ c.loop-p.invariant.fresh q (omega arith);
}

pub returns : goal.returns
returns c = λ p below. c.loop-p.invariant.made p (omega arith)
