use Rattle.std.proofs.Common.{ℕ, Bool, List, [], ◌≡◌, ◌<◌, length, get_or, sym, ◌∙◌, ap, subst, arith, rules}
use Rattle.ground_instances.specs.declared.entry.Entry.{Entry}
use Rattle.ground_instances.specs.declared.found_list.FoundList.{FoundList}
use Rattle.statement.specs.Kept.{Kept}
use Rattle.ground_instances.specs.Lists.{bodies_of, numbers_of_list}
use Rattle.ground_instances.proofs.Lists.{many_numbers, many_bodies, kept_here, body_there}
use Rattle.ground_instances.proofs.found_list.FoundList.body_number.Goals as goal

within : (f : FoundList) (place : ℕ) → place < length (numbers_of_list f) → place < length f.entries.items
within f place less = let many = many_numbers f in omega (arith, less, many)

pub index-requires : goal.index-requires
index-requires c =
    let less = within c.args.self.now c.args.place c.requires.place in
    let ok = c.args.self.now.entries.ok.0 in omega (arith, less, ok)

pub returns-clause-within : goal.returns-clause-within
returns-clause-within c =
    let f = c.args.self.now in
    let x : Entry = c.index.result.now in
    let here : x ≡ get_or f.entries.items c.args.place x = search rules in
    subst (λ (n : ℕ). x.body < n) (sym (many_bodies f))
    (subst (λ (e : Entry). e.body < length f.ends.items) (sym here)
    (body_there (length f.ends.items) f.entries.items c.args.place x (within f c.args.place c.requires.place) c.requires.laid.2))

pub returns-clause-body : goal.returns-clause-body
returns-clause-body c = λ d.
    let f = c.args.self.now in
    let x : Entry = c.index.result.now in
    let here : x ≡ get_or f.entries.items c.args.place x = search rules in
    ap (λ (k : Kept). k.body) (kept_here f c.args.place d x (within f c.args.place c.requires.place))
    ∙ sym (ap (λ (e : Entry). get_or (bodies_of f) e.body []) here)
