use Rattle.std.proofs.Common.{◌≡◌, ℕ, ◌+◌, ◌-◌, ◌*◌, ◌<◌, ◌≤◌, [], get_or, length, subst, sym, arith}
use Rattle.game.specs.Keys.{key_at}
use Rattle.game.proofs.KeyLemmas.{keys_more, row_fits}
use Rattle.game.proofs.game.Game.write_keys.Goals as goal
use borrow.Rule.Slice.PartMut.{put_mid}

pub loop-place-preserved : goal.loop-place-preserved
loop-place-preserved g c = λ k below.
    let game = c.args.self.now in
    let many = c.args.many.now in
    let words = c.key_words-words.result in
    let place = c.loop-place.place in
    let keys = c.loop-place.keys in
    let size : words ≡ g.Self.Game.key_length game = c.key_words-words.ensures.length in
    let fits : c.args.count * words ≤ length c.args.keys.now =
    subst (λ (w : ℕ). c.args.count * w ≤ length c.args.keys.now) (sym size) c.requires.room in
    let within : place * words + words ≤ length c.args.keys.now = row_fits place c.args.count words _ c.loop-place-test.true fits in
    subst (λ (w : ℕ). g.Self.Game.keyed game (key_at (put_mid (place * words) (place * words + words - place * words) keys c.write_key_of.new.key) w k)
    ≡ get_or (g.Self.Game.states game many) k []) size
    (keys_more (g.Self.Game.keyed game) (λ i. get_or (g.Self.Game.states game many) i []) keys c.write_key_of.new.key words place
    (place * words + words - place * words) (omega arith) (omega arith) (omega arith) c.write_key_of.ensures.keyed
    (subst (λ (w : ℕ). (q : ℕ) → q < place → g.Self.Game.keyed game (key_at keys w q) ≡ get_or (g.Self.Game.states game many) q []) (sym size)
    c.loop-place.invariant) k below)
