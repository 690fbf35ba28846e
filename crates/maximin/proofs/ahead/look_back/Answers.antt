use Rattle.std.proofs.Common.{◌≡◌, ◌<◌, ◌*◌, ◌∙◌, ℕ, List, [], length, get_or, refl, ap, sym, subst, arith, rules as facts}
use Rattle.std.proofs.lemmas.List.{with_items_is}
use Rattle.game.proofs.Facts.{row_fits}
use Rattle.game.specs.Keys.{key_at}
use Rattle.statement.specs.Rules.{State}
use Rattle.statement.specs.Value.{value}
use Rattle.search_table.specs.Worths.{AreBoundsOf}
use Rattle.maximin.proofs.Packs.{note_more}
use Rattle.maximin.proofs.ahead.look_back.Goals as goal

pub key_in-key-requires : goal.key_in-key-requires
key_in-key-requires g c =
    let words = c.key_words-words.result in
    let new = c.write_keys.new.keys in
    let long : length new ≡ length c.args.tools.now.memory.keys.items = search facts in
    let whole : c.deref.result.now ≡ new = c.deref.ensures.value ∙ with_items_is c.args.tools.now.memory.keys new (long ∙ sym c.args.tools.now.memory.keys.ok.0) in
    let size : length c.deref.result.now ≡ 64 * words = ap length whole ∙ long ∙ c.requires.tools.memory.keys ∙ ap (λ (n : ℕ). 64 * n) (sym c.key_words-words.ensures.length) in
    row_fits c.loop-place.place 64 words (length c.deref.result.now) (omega (arith, c.requires.children.ahead.few, c.requires.children.ahead.count, c.loop-place-test.true)) (omega (arith, size))

pub loop-place-preserved : goal.loop-place-preserved
loop-place-preserved g c =
    let rules = g.G.Game.rules c.args.game.now in
    let keyed = g.G.Game.keyed c.args.game.now in
    let states = g.G.Game.states c.args.game.now c.args.children.now.many in
    let worth : State → ℕ → ℕ = λ s d. value rules c.args.asked.role d c.args.asked.at s in
    let depth = c.args.asked.depth in
    let place = c.loop-place.place in
    let children = c.loop-place.children in
    let is = c.loop-place.invariant in
    let same : children.many ≡ c.args.children.now.many = is.same.many in
    let known = rw same at is.known.ahead in
    let inside : place < length states = omega (arith, c.loop-place-test.true, c.requires.children.ahead.count) in
    let room : place < length children.ahead.bounds = search facts in
    let words = c.key_words-words.result in
    let new = c.write_keys.new.keys in
    let long : length new ≡ length c.args.tools.now.memory.keys.items = search facts in
    let whole : c.deref.result.now ≡ new = c.deref.ensures.value ∙ with_items_is c.args.tools.now.memory.keys new (long ∙ sym c.args.tools.now.memory.keys.ok.0) in
    let key : c.key_in-key.result.now ≡ key_at new (g.G.Game.key_length c.args.game.now) place =
    c.key_in-key.ensures ∙ ap (λ (ws : List ℕ). key_at ws words place) whole ∙ ap (λ (w : ℕ). key_at new w place) c.key_words-words.ensures.length in
    let state : keyed c.key_in-key.result.now ≡ get_or states place [] = ap keyed key ∙ c.write_keys.ensures.keyed place c.loop-place-test.true in
    let found : AreBoundsOf (worth (get_or states place [])) depth c.find_in.result =
    subst (λ (s : State). AreBoundsOf (worth s) depth c.find_in.result) state c.find_in.ensures in
    record {
      known = record {
        many = is.known.many;
        position = is.known.position;
        ahead = rw same (note_more states worth depth children.ahead _ place c.find_in.result room refl refl found known);
      };
      same = record { position = is.same.position; capacities = is.same.capacities; many = is.same.many };
      count = is.count;
    }
