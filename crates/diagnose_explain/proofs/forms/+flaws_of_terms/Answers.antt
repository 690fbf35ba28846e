use Rattle.std.proofs.Common.{arith}
use Rattle.rules_profile.proofs.Facts.{tree_is_word, rest_smaller, part_smaller}
use Rattle.diagnose_explain.proofs.forms.+flaws_of_terms.Goals as goal

pub flaw_of_term-flaw_of_terms-requires : goal.flaw_of_term-flaw_of_terms-requires
flaw_of_term-flaw_of_terms-requires g t c κs within =
    let h = tree_is_word _ _ _ _ _ c.in-List.is c.deref.ensures.value c.in-Some.ensures in
    let k = rest_smaller _ _ _ h in
    (omega (arith, k, c.decreases), within)

pub flaw_of_terms-flaw_of_term-requires : goal.flaw_of_terms-flaw_of_term-requires
flaw_of_terms-flaw_of_term-requires g t c κs within =
    let k = part_smaller _ _ _ c.loop-term-test.true c.term-item.is in
    (omega (arith, k, c.decreases), within)
