use Rattle.std.proofs.Common.{subst, sym, ap, ◌∙◌, arith}
use Rattle.statement.specs.Tree.{Trees, trees_of}
use Rattle.kif.specs.View.{trees_in}
use Rattle.statement.specs.Profile.{body_stands_well}
use Rattle.rules_profile.specs.Connectives.{IsConnectiveOf}
use Rattle.rules_profile.specs.Standing.{literals_in, literals_of_all}
use Rattle.rules_profile.proofs.FormTests.{tree_is_slice, tree_is_word, gathers, each_passed, one_failed}
use Rattle.rules_profile.proofs.Sizes.{rest_smaller, part_smaller}
use Rattle.rules_profile.proofs.Standings.{not_stands, no_word_no_literals, literals_of_many, atom_stands, literals_stand}
use Rattle.rules_profile.proofs.places.+standing.Goals as goal

pub literal_may_stand-returns-in-None : goal.literal_may_stand-returns-in-None
literal_may_stand-returns-in-None g t c =
    sym (ap (λ u. body_stands_well (literals_in u)) (tree_is_slice _ _ _ c.in-List.is c.deref-in-List.ensures.value)
    ∙ ap body_stands_well (no_word_no_literals _ c.in-None.ensures))

pub literal_may_stand-literals_may_stand-requires : goal.literal_may_stand-literals_may_stand-requires
literal_may_stand-literals_may_stand-requires g t c κs within =
    let h = tree_is_word _ _ _ _ _ c.in-List.is c.deref-in-List.ensures.value c.in-Some.ensures in
    let k = rest_smaller _ _ _ h in
    (omega (arith, k, c.decreases), within)

pub literal_may_stand-returns-in-Or : goal.literal_may_stand-returns-in-Or
literal_may_stand-returns-in-Or g t c =
    let w = c.in-Some.word.now in
    let rest = trees_of (trees_in c.in-Some.rest.now) in
    let h = tree_is_word _ _ _ _ _ c.in-List.is c.deref-in-List.ensures.value c.in-Some.ensures in
    c.literals_may_stand.ensures
    ∙ sym (ap (λ u. body_stands_well (literals_in u)) h
    ∙ ap body_stands_well (literals_of_many w rest (gathers w c.connective_of.result c.connective_of.ensures c.in-Or.is)))

pub literals_may_stand-literal_may_stand-requires : goal.literals_may_stand-literal_may_stand-requires
literals_may_stand-literal_may_stand-requires g t c κs within =
    let k = part_smaller _ _ _ c.loop-part-test.true c.part-item.is in
    (omega (arith, k, c.decreases), within)

pub literals_may_stand-returns-then-not-literal_may_stand : goal.literals_may_stand-returns-then-not-literal_may_stand
literals_may_stand-returns-then-not-literal_may_stand g t c =
    sym (c.loop-part.invariant ∙ one_failed (λ (ts : Trees). body_stands_well (literals_of_all ts))
    (λ u. body_stands_well (literals_in u)) literals_stand _ _ _ c.loop-part-test.true c.part-item.is (sym c.if-not-literal_may_stand.ensures))

pub literals_may_stand-loop-part-preserved : goal.literals_may_stand-loop-part-preserved
literals_may_stand-loop-part-preserved g t c =
    c.loop-part.invariant ∙ each_passed (λ (ts : Trees). body_stands_well (literals_of_all ts))
    (λ u. body_stands_well (literals_in u)) literals_stand _ _ _ c.loop-part-test.true c.part-item.is (sym c.if-not-literal_may_stand.ensures)

pub literal_may_stand-returns-in-Nothing : goal.literal_may_stand-returns-in-Nothing
literal_may_stand-returns-in-Nothing g t c =
    let w = c.in-Some.word.now in
    let h = tree_is_word _ _ _ _ _ c.in-List.is c.deref-in-List.ensures.value c.in-Some.ensures in
    c.may_stand-in-Nothing.ensures ∙ sym (ap (λ u. body_stands_well (literals_in u)) h
    ∙ atom_stands w c.in-Some.rest.now (subst (IsConnectiveOf w) c.in-Nothing.is c.connective_of.ensures))

pub literal_may_stand-returns-in-Not : goal.literal_may_stand-returns-in-Not
literal_may_stand-returns-in-Not g t c =
    let w = c.in-Some.word.now in
    let rest = trees_of (trees_in c.in-Some.rest.now) in
    let h = tree_is_word _ _ _ _ _ c.in-List.is c.deref-in-List.ensures.value c.in-Some.ensures in
    c.may_stand-in-Not.ensures ∙ sym (ap (λ u. body_stands_well (literals_in u)) h
    ∙ not_stands w rest _ (subst (IsConnectiveOf w) c.in-Not.is c.connective_of.ensures) c.negated_signature-arity.ensures)
