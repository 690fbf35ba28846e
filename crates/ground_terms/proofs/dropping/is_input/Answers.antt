use Rattle.std.proofs.Common.{◌∙◌}
use Rattle.ground_terms.proofs.DropLemmas.{input_placed, no_input}
use Rattle.ground_terms.proofs.dropping.is_input.Goals as goal

pub returns-then-place-inputs : goal.returns-then-place-inputs
returns-then-place-inputs c = no_input (λ s. s.keys) c.args.inputs.now c.args.roles.now.keys c.args.role c.args.input c.place-place.result c.place-place.ensures c.if-place-inputs.true

pub returns : goal.returns
returns c =
    c.contains.ensures
    ∙ input_placed (λ s. s.keys) c.args.inputs.now c.args.roles.now.keys c.args.role c.args.input c.place-place.result c.index-inputs-place.result
    c.place-place.ensures c.if-place-inputs.false c.index-inputs-place.is
