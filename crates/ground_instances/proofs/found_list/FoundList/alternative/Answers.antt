use Rattle.std.proofs.Common.{List, ◌<◌, length, sym, ◌∙◌, ap, subst, arith}
use Rattle.statement.specs.Kept.{Kept}
use Rattle.ground_instances.specs.declared.entry.AlternativeRun.{AlternativeRun}
use Rattle.ground_instances.specs.Lists.{RunsRise, alternative_at}
use Rattle.ground_instances.proofs.Lists.{many_numbers, kept_here, blank}
use Rattle.ground_instances.proofs.found_list.FoundList.alternative.Goals as goal

pub returns : goal.returns
returns c = λ d.
    let f = c.args.self.now in
    let many = many_numbers f in
    let less = c.requires.place in
    let there : c.args.place < length f.entries.items = omega (arith, less, many) in
    c.alternative_at.ensures 0 (length f.entries.items)
    (subst (λ (rs : List AlternativeRun). RunsRise 0 rs (length f.entries.items)) (sym c.deref.ensures.value) c.requires.laid.1)
    ∙ ap (λ (rs : List AlternativeRun). alternative_at rs c.args.place) c.deref.ensures.value
    ∙ sym (ap (λ (k : Kept). k.alternative) (kept_here f c.args.place d blank there))
