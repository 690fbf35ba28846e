use Rattle.std.proofs.Common.{◌≡◌, false, true, length, sym, ap, ◌∙◌, arith, rules, below_more}
use Rattle.std.specs.Prelude.{not}
use Rattle.std.proofs.lemmas.List.{length-map}
use Rattle.kif.specs.View.{tree_of, trees_in}
use Rattle.statement.specs.Played.{is_turn_list}
use Rattle.game.proofs.FirstFaults.{tree_at_place, form_refused, forms_right, are_formed}
use Rattle.game.proofs.replaying.check_forms.Goals as goal

pub returns-then-not-is_formed-clause-faults : goal.returns-then-not-is_formed-clause-faults
returns-then-not-is_formed-clause-faults g c =
    let ts = trees_in c.args.turns.now in
    let size : length ts ≡ length c.args.turns.now = length-map c.args.turns.now tree_of in
    let at = tree_at_place c.args.turns.now c.loop-place.place c.index-turns-place.result (omega arith) c.index-turns-place.is in
    let tested : not c.is_formed.result ≡ true = search rules in
    form_refused c.args.roles c.loop-place.place ts (omega arith) c.loop-place.invariant
    (ap (λ t. not (is_turn_list c.args.roles t)) at ∙ ap not (sym c.is_formed.ensures) ∙ tested)

pub loop-place-preserved : goal.loop-place-preserved
loop-place-preserved g c =
    let at = tree_at_place c.args.turns.now c.loop-place.place c.index-turns-place.result (omega arith) c.index-turns-place.is in
    let tested : not c.is_formed.result ≡ false = search rules in
    below_more _ _ c.loop-place.invariant (ap (λ t. not (is_turn_list c.args.roles t)) at ∙ ap not (sym c.is_formed.ensures) ∙ tested)

pub returns-clause-faults : goal.returns-clause-faults
returns-clause-faults g c =
    let ts = trees_in c.args.turns.now in
    let size : length ts ≡ length c.args.turns.now = length-map c.args.turns.now tree_of in
    forms_right c.args.roles c.loop-place.place ts (omega arith) c.loop-place.invariant

pub returns-clause-formed : goal.returns-clause-formed
returns-clause-formed g c =
    let ts = trees_in c.args.turns.now in
    let size : length ts ≡ length c.args.turns.now = length-map c.args.turns.now tree_of in
    are_formed c.args.roles c.loop-place.place ts (omega arith) c.loop-place.invariant
