use Rattle.std.proofs.Common.{List, sym, subst}
use Rattle.std.specs.Prelude.{All}
use Rattle.std.proofs.lemmas.List.Elements.{All-push}
use Rattle.kif.specs.View.{trees_in}
use Rattle.diagnose_lint.specs.declared.finding.Note.{Note}
use Rattle.diagnose_lint.specs.Findings.{IsTrueNote}
use Rattle.diagnose_lint.proofs.Notes.{true_there}
use Rattle.diagnose_lint.proofs.gathering.add.Goals as goal

pub returns : goal.returns
returns g c =
    let P : Note → Type 0 = IsTrueNote (trees_in c.args.items.now) in
    let here : P (record { place = c.args.place; finding = c.args.finding }) =
    true_there c.args.items.now c.args.place c.index-items-place.result c.args.finding c.if-place-items.false c.index-items-place.is
    (sym (c.if-not-holds_of.ensures _ c.requires.whole)) in
    subst (λ (ns : List Note). All P ns) (sym c.in_ok-push.ensures.items) (All-push P _ _ c.requires.notes here)
