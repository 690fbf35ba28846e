use Rattle.std.proofs.Common.{◌≡◌, ◌<◌, length, get_or, sym, ◌∙◌, ap, arith, rules}
use Rattle.ground_instances.specs.declared.entry.Entry.{Entry}
use Rattle.statement.specs.Kept.{Kept}
use Rattle.ground_instances.proofs.Lists.{many_numbers, kept_here}
use Rattle.ground_instances.proofs.found_list.FoundList.head.Goals as goal

pub index-requires : goal.index-requires
index-requires c =
    let f = c.args.self.now in
    let many = many_numbers f in
    let ok = f.entries.ok.0 in
    let less = c.requires in omega (arith, less, many, ok)

pub returns : goal.returns
returns c = λ d.
    let f = c.args.self.now in
    let many = many_numbers f in
    let less = c.requires in
    let there : c.args.place < length f.entries.items = omega (arith, less, many) in
    let x : Entry = c.index.result.now in
    let here : x ≡ get_or f.entries.items c.args.place x = search rules in
    ap (λ (e : Entry). e.head) here ∙ sym (ap (λ (k : Kept). k.head) (kept_here f c.args.place d x there))
