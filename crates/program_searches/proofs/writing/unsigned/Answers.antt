use Rattle.std.proofs.Common.{w16, ◌∙◌, ap, rules as facts}
use Rattle.std.specs.Prelude.{nat_abs}
use Rattle.std.proofs.lemmas.Int.{to_z-of_z}
use mir.Val.{SFits}
use Rattle.program_searches.proofs.writing.unsigned.Goals as goal

pub returns : goal.returns
returns c =
    let fits : SFits w16 c.args.value = search facts in
    c.from.ensures ∙ c.unsigned_abs.ensures.value ∙ ap nat_abs (to_z-of_z w16 c.args.value fits)
