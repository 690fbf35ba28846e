use Rattle.std.proofs.Common.{ℕ, ◌≡◌, ◌<◌, ◌∙◌, length, get_or, set, ap, sym, nat_eq, rules}
use Rattle.std.proofs.lemmas.List.Edits.{map_over_more}
use Rattle.ground_instances.specs.declared.entry.Entry.{Entry}
use Rattle.ground.specs.Finishing.{headed_in}
use Rattle.statement.specs.Printed.{first_place}
use Rattle.ground.proofs.FinishLemmas.{same_entry}
use Rattle.ground.proofs.finishing.renumber_heads.Goals as goal

pub loop-i-preserved : goal.loop-i-preserved
loop-i-preserved c =
    let x : Entry = c.index_mut.result.now in
    let y : Entry = c.index.result.now in
    let keys = c.args.atoms.now.keys in
    let ys = c.loop-i.entries.items in
    let xs = c.args.entries.now.items in
    let less : c.loop-i.i < length xs = search rules in
    let here : x ≡ get_or ys c.loop-i.i x = search rules in
    let there : y ≡ get_or ys c.loop-i.i y = search rules in
    let within : c.loop-i.i < length ys = search rules in
    let same : y ≡ x = there ∙ same_entry ys c.loop-i.i y x within ∙ sym here in
    ap (λ (k : ℕ). set ys c.loop-i.i (record { head = k; body = x.body }))
    (c.place_of.ensures ∙ ap (λ (e : Entry). first_place (nat_eq e.head) keys) same)
    ∙ map_over_more (headed_in keys) xs ys c.loop-i.i x less c.loop-i.invariant here
