use Rattle.std.proofs.Common.{◌≡◌, ◌<◌, ◌≤◌, ◌+◌, ◌-◌, ◌*◌, ◌⊎◌, ℕ, length, arith, inl, inr}
use Rattle.std.proofs.lemmas.Bool.{cases_lt}
use Rattle.std.proofs.lemmas.List.Edits.{length-between}
use Rattle.game.specs.Keys.{has_bit}
use Rattle.game_rules.proofs.Facts.{filters_agree}
use Rattle.position.specs.NetState.{is_lane_on}
use Rattle.position.proofs.KeyLemmas.{word_more}
use Rattle.position.proofs.net_keys.write_lane_key.Goals as goal

pub loop-w-preserved : goal.loop-w-preserved
loop-w-preserved c = λ q inside below.
    let states = c.args.states.now in
    let w = c.loop-w.w in
    let end = c.min-end.result in
    let within : end ≤ length states = omega arith in
    let reach : (length states ≤ end) ⊎ (64 * w + 64 ≤ end) =
    elim (cases_lt (length states) (64 * w + 64)) [ inl less ↦ inl (omega arith) | inr more ↦ inr (omega arith) ] in
    let size = length-between states (64 * w) end within in
    word_more states c.loop-w.key c.args.k w end c.pack_lane.result q (omega arith) within reach
    (λ p lt. c.pack_lane.ensures p (omega arith)) c.loop-w.invariant inside below

pub returns : goal.returns
returns c =
    let room = c.requires.room in
    filters_agree (has_bit c.loop-w.key) (is_lane_on c.args.states.now c.args.k) 0 _
    (λ q from to. c.loop-w.invariant q (omega arith) (omega arith))
