use Rattle.std.proofs.Common.{◌≡◌, ◌<◌, get_or, length, rules}
use Rattle.std.specs.Prelude.{slice_get}
use Rattle.ground_rows.proofs.Facts.{got_at, place_within}
use Rattle.ground_rows.proofs.steps.number_at.Goals as goal

pub returns : goal.returns
returns c =
    let values = c.args.values.now in
    let place = c.args.place in
    let number = c.in_ok-number.field-0.now in
    let less : number < length c.args.atoms.now.keys = search rules in
    let within : place < length values = search rules in
    let is : number ≡ get_or values place number = search rules in
    place_within c.args.atoms.now.keys c.as_slice.ensures.unique (slice_get values place) number (got_at values place number within is) less
