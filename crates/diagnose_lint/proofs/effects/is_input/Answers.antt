use Rattle.std.proofs.Common.{◌≡◌, ◌<◌, ◌∙◌, ap, length, nat_eq, get_or, rules}
use Rattle.std.specs.List.{list_any}
use Rattle.statement.specs.Printed.{first_place}
use Rattle.ground_rows.specs.Contexts.{terms_named}
use Rattle.diagnose_lint.proofs.InputLists.{input_is}
use Rattle.diagnose_lint.proofs.effects.is_input.Goals as goal

pub returns : goal.returns
returns c =
    let here : c.index.result.now ≡ get_or c.args.context.now.inputs.items c.place_of-place.result c.index.result.now = search rules in
    let within : c.place_of-place.result < length c.args.context.now.inputs.items = search rules in
    input_is c.args.context.now.inputs.items c.index.result.now c.place_of-place.result c.args.role c.args.input
    (terms_named c.args.context.now.roles.items) c.is_named.result within here
    (c.place_of-place.ensures ∙ ap (λ ns. first_place (nat_eq c.args.role) (terms_named ns)) c.deref.ensures.value)
    (c.is_named.ensures ∙ ap (λ ns. list_any (nat_eq c.args.input) (terms_named ns)) c.deref-2.ensures.value)
