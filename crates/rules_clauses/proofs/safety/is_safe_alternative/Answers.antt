use Rattle.std.proofs.Common.{ap, sym, ◌∙◌, List, Bool, ◌++◌, length}
use Rattle.rules_clauses.specs.StoreView.{data_of}
use Rattle.rules_clauses.specs.Marks.{all_marked, with_marks, atom_numbers, needed_numbers, bound_numbers}
use Rattle.rules_clauses.proofs.MarkLemmas.{all_marked-append, all_written, with_marks-length}
use Rattle.rules_clauses.proofs.safety.is_safe_alternative.Goals as goal

pub returns : goal.returns
returns c =
    let d = data_of c.args.store.now in
    c.are_all_marked.ensures
    ∙ sym (all_marked-append c.deref.result.now (atom_numbers d c.args.head) (needed_numbers d c.args.body.now))
    ∙ ap (λ (ms : List Bool). all_marked ms (atom_numbers d c.args.head ++ needed_numbers d c.args.body.now))
    (c.deref.ensures.value
    ∙ all_written c.mark_bound.new.marks c.in_ok-marks.marks.items c.in_ok-marks.marks.len c.in_ok-marks.marks.ok.0 (ap length c.mark_bound.ensures
    ∙ with_marks-length c.deref_mut.result.now (bound_numbers d c.args.body.now) ∙ ap length c.deref_mut.ensures.value)
    ∙ c.mark_bound.ensures
    ∙ ap (λ (ms : List Bool). with_marks ms (bound_numbers d c.args.body.now)) (c.deref_mut.ensures.value
    ∙ c.in_ok-marks.ensures.items_if_clones_equal (λ y e. e)))
