use Rattle.std.proofs.Common.{ℕ, List, ◌≡◌, [], ◌∷◌, ◌++◌, length, ap, subst, sym, ◌∙◌}
use Rattle.ground_instances.specs.declared.entry.Entry.{Entry}
use Rattle.ground_instances.specs.declared.entry.AlternativeRun.{AlternativeRun}
use Rattle.ground_instances.specs.declared.found_list.FoundList.{FoundList}
use Rattle.ground_instances.specs.Lists.{RunsRise, AddsRun, bodies_of}
use Rattle.ground_instances.proofs.Lists.{instance_put, laid_put}
use Rattle.ground_instances.proofs.found_list.push_sharing.Goals as goal

-- a run behind those of all instances
adds : (f : FoundList) (a place : ℕ) (new : List AlternativeRun) → place ≡ length f.entries.items → RunsRise 0 f.runs.items (length f.entries.items)
    → (RunsRise 0 f.runs.items place → AddsRun a place f.runs.items new) → AddsRun a (length f.entries.items) f.runs.items new
adds f a place new e rise made =
    subst (λ (n : ℕ). AddsRun a n f.runs.items new) e (made (subst (λ (n : ℕ). RunsRise 0 f.runs.items n) (sym e) rise))

pub returns-clause-added : goal.returns-clause-added
returns-clause-added c = λ start laid.
    let f = c.args.found.now in
    instance_put f.entries.items c.push_reserved.new.self.items f.runs.items c.add_run.new.runs.items (bodies_of f)
    c.in_ok-in_32_bits.field-0 c.in_ok-in_32_bits-2.field-0 c.args.alternative c.args.head c.args.body
    (adds f c.args.alternative c.len-place.result c.add_run.new.runs.items (c.len-place.ensures ∙ f.entries.ok.0) laid.1 c.in_ok-add_run.ensures)
    c.in_ok-in_32_bits.ensures c.in_ok-in_32_bits-2.ensures
    (c.push_reserved.ensures.items ∙ ap (λ (es : List Entry). es ++ record { head = c.in_ok-in_32_bits.field-0; body = c.in_ok-in_32_bits-2.field-0 } ∷ [])
    c.reserve.ensures.items)

pub returns-clause-laid : goal.returns-clause-laid
returns-clause-laid c = λ start laid.
    let f = c.args.found.now in
    let more = laid_put f.entries.items c.push_reserved.new.self.items f.runs.items c.add_run.new.runs.items (length f.ends.items)
    c.in_ok-in_32_bits.field-0 c.in_ok-in_32_bits-2.field-0 c.args.alternative c.args.body
    (adds f c.args.alternative c.len-place.result c.add_run.new.runs.items (c.len-place.ensures ∙ f.entries.ok.0) laid.1 c.in_ok-add_run.ensures)
    c.in_ok-in_32_bits-2.ensures c.requires
    (c.push_reserved.ensures.items ∙ ap (λ (es : List Entry). es ++ record { head = c.in_ok-in_32_bits.field-0; body = c.in_ok-in_32_bits-2.field-0 } ∷ [])
    c.reserve.ensures.items) laid.2 in
    (laid.0, more.0, more.1)
