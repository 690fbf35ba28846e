use Rattle.std.proofs.Common.{◌≡◌, w16, rules as facts}
use Rattle.std.proofs.lemmas.Int.{to_z-of_z}
use mir.Val.{of_z, to_z}
use Rattle.maximin.proofs.narrow.bounds_by.Goals as goal

pub returns : goal.returns
returns c =
    let ea : to_z w16 (of_z w16 c.args.window.low) ≡ c.args.window.low = to_z-of_z w16 c.args.window.low (search facts) in
    let eb : to_z w16 (of_z w16 c.args.window.high) ≡ c.args.window.high = to_z-of_z w16 c.args.window.high (search facts) in
    let er : to_z w16 (of_z w16 c.args.answer.worth) ≡ c.args.answer.worth = to_z-of_z w16 c.args.answer.worth (search facts) in
    λ worth depth few is. record {
      within = (
        c.at_least.ensures (worth depth) (few depth) (rw (er, ea) is.now.at_most),
        c.at_most.ensures (worth depth) (few depth) (rw (er, eb) is.now.at_least),
      );
      lasting = λ lasts d more. c.at_most.ensures (worth d) (few d) (rw (er, eb) (is.later lasts d more));
    }
