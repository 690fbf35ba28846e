use Rattle.std.proofs.Common.{◌≡◌, ◌+◌, ◌%◌, [], ◌∷◌, sym, ◌∙◌, arith, rules as facts}
use Rattle.std.proofs.lemmas.Fmt.{decimal_digit}
use Rattle.std.specs.Cmp.Lexicographic.{same_text, other_text}
use Rattle.search_split.proofs.Numerals.{two_bytes}
use Rattle.search_split.proofs.cut.is_level.Goals as goal

pub returns-then-level-lt10-clause-yes : goal.returns-then-level-lt10-clause-yes
returns-then-level-lt10-clause-yes c e =
    let bytes : c.as_slice.result.now ≡ (48 + c.args.level) ∷ [] = search facts in
    decimal_digit c.args.level (omega arith) ∙ sym bytes ∙ sym (same_text c.args.text.now c.as_slice.result.now (sym e ∙ c.is_text.ensures))

pub returns-then-level-lt10-clause-no : goal.returns-then-level-lt10-clause-no
returns-then-level-lt10-clause-no c e same =
    let bytes : c.as_slice.result.now ≡ (48 + c.args.level) ∷ [] = search facts in
    other_text c.args.text.now c.as_slice.result.now (sym e ∙ c.is_text.ensures) (sym same ∙ decimal_digit c.args.level (omega arith) ∙ sym bytes)

pub returns-else-level-lt10-clause-yes : goal.returns-else-level-lt10-clause-yes
returns-else-level-lt10-clause-yes c e =
    let bytes : c.as_slice-else-level-lt10.result.now ≡ 49 ∷ (48 + c.args.level % 10) ∷ [] = search facts in
    two_bytes c.args.level (omega arith) (omega arith) ∙ sym bytes
    ∙ sym (same_text c.args.text.now c.as_slice-else-level-lt10.result.now (sym e ∙ c.is_text-else-level-lt10.ensures))

pub returns-else-level-lt10-clause-no : goal.returns-else-level-lt10-clause-no
returns-else-level-lt10-clause-no c e same =
    let bytes : c.as_slice-else-level-lt10.result.now ≡ 49 ∷ (48 + c.args.level % 10) ∷ [] = search facts in
    other_text c.args.text.now c.as_slice-else-level-lt10.result.now (sym e ∙ c.is_text-else-level-lt10.ensures)
    (sym same ∙ two_bytes c.args.level (omega arith) (omega arith) ∙ sym bytes)
