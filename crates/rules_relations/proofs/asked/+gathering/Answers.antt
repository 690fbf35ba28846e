use Rattle.std.proofs.Common.{arith}
use Rattle.rules_profile.proofs.Facts.{tree_is_word, rest_smaller, part_smaller}
use Rattle.std.proofs.Common.{◌≡◌, ◌++◌, [], map, sym, ap, ◌∙◌}
use Rattle.std.proofs.lemmas.List.{append-nil}
use Rattle.kif.specs.View.{tree_of}
use Rattle.rules_profile.specs.Standing.{literals_in}
use Rattle.rules_profile.proofs.Facts.{tree_is_slice}
use Rattle.rules_relations.specs.Relations.{relation_in}
use Rattle.rules_relations.specs.Asking.{relations_of}
use Rattle.rules_relations.proofs.Looking.{none_there}
use Rattle.rules_relations.proofs.asked.+gathering.Goals as goal

pub gather-returns-in-None : goal.gather-returns-in-None
gather-returns-in-None g t c =
    let before = map relation_in c.args.found.now.items in
    let nothing : literals_in (tree_of c.args.e.now) ≡ [] =
    ap literals_in (tree_is_slice _ _ _ c.in-List.is c.deref.ensures.value) ∙ none_there _ c.in-None.ensures in
    sym (ap (λ ls. before ++ relations_of ls) nothing ∙ append-nil before)

pub gather-gather_all-requires : goal.gather-gather_all-requires
gather-gather_all-requires g t c κs within =
    let h = tree_is_word _ _ _ _ _ c.in-List.is c.deref.ensures.value c.in-Some.ensures in
    let k = rest_smaller _ _ _ h in
    (omega (arith, k, c.decreases), within)

pub gather_all-gather-requires : goal.gather_all-gather-requires
gather_all-gather-requires g t c κs within =
    let k = part_smaller _ _ _ c.loop-part-test.true c.part-item.is in
    (omega (arith, k, c.decreases), within)
