use Rattle.std.proofs.Common.{◌≡◌, ◌∷◌, ◌++◌, [], ap, ◌∙◌, take, List, rules}
use Rattle.std.proofs.lemmas.List.{take_all}
use Rattle.statement.specs.Lexical.{Token, opening, closing, word}
use Rattle.diagnose_places.proofs.Passing.{left_next, left_more, left_as, tokens_in, tokens_take, name_tokens, list_tokens}
use Rattle.diagnose_places.proofs.trees.+skip_tree.Goals as goal

pub loop-part-init : goal.loop-part-init
loop-part-init g t c = record {
  text = c.next-in-List.ensures.text;
  left = left_next _ _ _ _ opening c.next-in-List.ensures.next;
}

pub loop-part-preserved : goal.loop-part-preserved
loop-part-preserved g t c =
    let i = c.loop-part.part-index in
    let es = c.deref-part-items.result.now in
    record {
      text = c.skip_tree.ensures.text ∙ c.loop-part.invariant.text;
      left = left_as _ _ _ _
          (ap (λ (l : List Token). opening ∷ l) (tokens_take es i c.part-item.result c.loop-part-test.true c.part-item.is))
          (left_more _ (opening ∷ tokens_in (take i es)) _ _ _ c.loop-part.invariant.left c.skip_tree.ensures.passed);
    }

pub returns-in-Name-clause-passed : goal.returns-in-Name-clause-passed
returns-in-Name-clause-passed g t c =
    left_as _ _ _ _ (name_tokens c.args.e.now c.in-Name.field-0 c.in-Name.is)
    (left_next _ _ _ _ (word c.in-Name.field-0.items) c.next.ensures.next)

pub returns-after-loop-part-clause-passed : goal.returns-after-loop-part-clause-passed
returns-after-loop-part-clause-passed g t c =
    let i = c.loop-part.part-index in
    let es = c.deref-part-items.result.now in
    let all : take i es ≡ c.in-List.parts.items = take_all i es (search rules) ∙ c.deref-part-items.ensures.value in
    left_as _ _ _ _
    (ap (λ es'. (opening ∷ tokens_in es') ++ (closing ∷ [])) all ∙ list_tokens c.args.e.now c.in-List.parts c.in-List.is)
    (left_more _ (opening ∷ tokens_in (take i es)) _ (closing ∷ []) _ c.loop-part.invariant.left
    (left_next _ _ _ _ closing c.next-in-List-2.ensures.next))
