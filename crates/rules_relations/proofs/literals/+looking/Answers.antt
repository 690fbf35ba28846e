use Rattle.std.proofs.Common.{subst, sym, ap, ◌∙◌, arith, inl, inr}
use Rattle.statement.specs.Tree.{Tree, Trees, trees_of}
use Rattle.kif.specs.View.{trees_in, tree_of}
use Rattle.rules_profile.specs.Connectives.{IsConnectiveOf}
use Rattle.rules_profile.specs.Standing.{literals_in, literals_of_all}
use Rattle.rules_profile.proofs.Facts.{tree_is_slice, tree_is_word, rest_smaller, part_smaller}
use Rattle.rules_relations.specs.Probes.{passes, some_of}
use Rattle.rules_relations.proofs.Looking.{one_holds, one_fails, some_append, none_there, joined, refused, alone, name_alone}
use Rattle.rules_relations.proofs.literals.+looking.Goals as goal

pub some_in-returns-in-None : goal.some_in-returns-in-None
some_in-returns-in-None g t c =
    let test = passes c.args.probe c.args.wanted.now c.args.count in
    sym (ap (λ u. some_of test (literals_in u)) (tree_is_slice _ _ _ c.in-List.is c.deref.ensures.value)
    ∙ ap (some_of test) (none_there _ c.in-None.ensures))

pub some_in-some_in_all-requires : goal.some_in-some_in_all-requires
some_in-some_in_all-requires g t c κs within =
    let h = tree_is_word _ _ _ _ _ c.in-List.is c.deref.ensures.value c.in-Some.ensures in
    let k = rest_smaller _ _ _ h in
    (omega (arith, k, c.decreases), within)

pub some_in-returns-in-Or : goal.some_in-returns-in-Or
some_in-returns-in-Or g t c =
    let h = tree_is_word _ _ _ _ _ c.in-List.is c.deref.ensures.value c.in-Some.ensures in
    joined (passes c.args.probe c.args.wanted.now c.args.count) _ c.in-Some.word.now _ _ c.connective_of.result h c.connective_of.ensures
    c.in-Or.is c.some_in_all.ensures

pub some_in-returns-in-Not : goal.some_in-returns-in-Not
some_in-returns-in-Not g t c =
    let h = tree_is_word _ _ _ _ _ c.in-List.is c.deref.ensures.value c.in-Some.ensures in
    refused (passes c.args.probe c.args.wanted.now c.args.count) _ c.in-Some.word.now _ _ h
    (subst (IsConnectiveOf c.in-Some.word.now) c.in-Not.is c.connective_of.ensures) c.negated_passes.ensures

pub some_in-returns-in-Nothing : goal.some_in-returns-in-Nothing
some_in-returns-in-Nothing g t c =
    let h = tree_is_word _ _ _ _ _ c.in-List.is c.deref.ensures.value c.in-Some.ensures in
    alone (passes c.args.probe c.args.wanted.now c.args.count) _ c.in-Some.word.now _ _ h
    (subst (IsConnectiveOf c.in-Some.word.now) c.in-Nothing.is c.connective_of.ensures) c.passes_atom-in-Nothing.ensures

pub some_in_all-some_in-requires : goal.some_in_all-some_in-requires
some_in_all-some_in-requires g t c κs within =
    let k = part_smaller _ _ _ c.loop-part-test.true c.part-item.is in
    (omega (arith, k, c.decreases), within)

pub some_in_all-returns-then-some_in : goal.some_in_all-returns-then-some_in
some_in_all-returns-then-some_in g t c =
    let test = passes c.args.probe c.args.wanted.now c.args.count in
    sym (c.loop-part.invariant ∙ one_holds (λ (ts : Trees). some_of test (literals_of_all ts)) (λ (u : Tree). some_of test (literals_in u))
    (λ u us. some_append test (literals_in u) (literals_of_all us)) _ _ _ c.loop-part-test.true c.part-item.is (sym c.if-some_in.ensures))

pub some_in_all-loop-part-preserved : goal.some_in_all-loop-part-preserved
some_in_all-loop-part-preserved g t c =
    let test = passes c.args.probe c.args.wanted.now c.args.count in
    c.loop-part.invariant ∙ one_fails (λ (ts : Trees). some_of test (literals_of_all ts)) (λ (u : Tree). some_of test (literals_in u))
    (λ u us. some_append test (literals_in u) (literals_of_all us)) _ _ _ c.loop-part-test.true c.part-item.is (sym c.if-some_in.ensures)

pub some_in-returns-in-Name : goal.some_in-returns-in-Name
some_in-returns-in-Name g t c =
    name_alone (passes c.args.probe c.args.wanted.now c.args.count) c.args.e.now c.in-Name.field-0 _ c.in-Name.is c.passes_atom.ensures
