use Rattle.std.proofs.Common.{ℕ, Bool, List, ◌≡◌, ◌<◌, ◌≤◌, length, get_or, sym, ◌∙◌, ap, subst, arith, slice_range}
use Rattle.ground_instances.specs.declared.found_list.FoundList.{FoundList}
use Rattle.ground_instances.specs.Lists.{start_at, AreLaid, bodies_of}
use Rattle.ground_instances.proofs.Lists.{many_bodies, body_here, stands_here}
use Rattle.ground_instances.proofs.found_list.FoundList.literals_of.Goals as goal

within : (f : FoundList) (number : ℕ) → number < length (bodies_of f) → number < length f.ends.items
within f number less = let many = many_bodies f in omega (arith, less, many)

-- the literals of the body are there
there : (f : FoundList) (number e : ℕ) → AreLaid f → number < length (bodies_of f) → e ≡ get_or f.ends.items number e
    → (start_at 0 f.ends.items number ≤ e) × (e ≤ length f.literals.items)
there f number e laid less here =
    subst (λ (x : ℕ). (start_at 0 f.ends.items number ≤ x) × (x ≤ length f.literals.items)) (sym here)
    (stands_here 0 f.ends.items (length f.literals.items) number e (within f number less) laid.0)

pub start-start-requires : goal.start-start-requires
start-start-requires c = within c.args.self.now c.args.number c.requires.number

pub index-end-requires : goal.index-end-requires
index-end-requires c =
    let less = within c.args.self.now c.args.number c.requires.number in
    let ok = c.args.self.now.ends.ok.0 in omega (arith, less, ok)

pub literals_between-requires-clause-up : goal.literals_between-requires-clause-up
literals_between-requires-clause-up c =
    let stands = there c.args.self.now c.args.number c.index-end.result.now c.requires.laid c.requires.number c.index-end.ensures in
    subst (λ (n : ℕ). n ≤ c.index-end.result.now) (sym c.start-start.ensures) stands.0

pub literals_between-requires-clause-within : goal.literals_between-requires-clause-within
literals_between-requires-clause-within c =
    let stands = there c.args.self.now c.args.number c.index-end.result.now c.requires.laid c.requires.number c.index-end.ensures in
    subst (λ (ls : List (ℕ × Bool)). c.index-end.result.now ≤ length ls) (sym c.deref.ensures.value) stands.1

pub returns : goal.returns
returns c =
    let f = c.args.self.now in
    let x = c.index-end.result.now in
    c.literals_between.ensures
    ∙ ap (λ (ls : List (ℕ × Bool)). slice_range ls c.start-start.result x) c.deref.ensures.value
    ∙ ap (λ (n : ℕ). slice_range f.literals.items n x) c.start-start.ensures
    ∙ ap (λ (e : ℕ). slice_range f.literals.items (start_at 0 f.ends.items c.args.number) e) c.index-end.ensures
    ∙ sym (body_here f c.args.number x (within f c.args.number c.requires.number))
