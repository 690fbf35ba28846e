use Rattle.std.proofs.Common.{◌≡◌, true, false, [], ◌∷◌, ◌∙◌, ap, rules as facts}
use Rattle.std.specs.Prelude.{is_some}
use Rattle.std.specs.Fmt.{decimal}
use Rattle.std.specs.List.{slice_split}
use Rattle.search_split.specs.Cuts.{is_x}
use Rattle.search_split.proofs.Numerals.{
  Refused,
  when_none,
  refused_first,
  refused_second,
  refused_third,
  refused_more,
  some_pieces,
  none_pieces,
  read_cut,
  read_none,
  one_level,
  more_levels,
}
use Rattle.search_split.proofs.cut.Cut.parse.Goals as goal

pub returns-in_err-first-clause-none : goal.returns-in_err-first-clause-none
returns-in_err-first-clause-none c = when_none c.from_residual.result (Refused c.args.text.now)
    (refused_first c.args.text.now c.in_err-first.ensures.none)

pub returns-in_default-clause-some : goal.returns-in_default-clause-some
returns-in_default-clause-some c =
    let first = c.in_ok-first.first in
    let parts : slice_split is_x c.args.text.now ≡ decimal first ∷ [] = rw c.in_default.is at c.in_ok-first.ensures.some in
    read_cut c.args.text.now (first ∷ []) (one_level first c.in_ok-first.ensures.level) parts c.new.result c.new.ensures.some

pub returns-in_err-second-clause-none : goal.returns-in_err-second-clause-none
returns-in_err-second-clause-none c =
    let text = c.args.text.now in
    let first = c.in_ok-first.first in
    let next = c.in-Some.rest.now in
    let parts : slice_split is_x text ≡ decimal first ∷ slice_split is_x next = rw c.in-Some.is at c.in_ok-first.ensures.some in
    when_none c.from_residual-in_err-second.result (Refused text) (refused_second text (decimal first) next parts c.in_err-second.ensures.none)

pub returns-in_default-rest-clause-some : goal.returns-in_default-rest-clause-some
returns-in_default-rest-clause-some c =
    let text = c.args.text.now in
    let first = c.in_ok-first.first in
    let next = c.in-Some.rest.now in
    let parts : slice_split is_x text ≡ decimal first ∷ slice_split is_x next = rw c.in-Some.is at c.in_ok-first.ensures.some in
    let second = c.in_ok-second.second in
    let later : slice_split is_x next ≡ decimal second ∷ [] = rw c.in_default-rest.is at c.in_ok-second.ensures.some in
    let all : slice_split is_x text ≡ decimal first ∷ decimal second ∷ [] = parts ∙ ap (λ xs. decimal first ∷ xs) later in
    let each = more_levels first (second ∷ []) c.in_ok-first.ensures.level (one_level second c.in_ok-second.ensures.level) in
    read_cut text (first ∷ second ∷ []) each all c.new-in_default-rest.result c.new-in_default-rest.ensures.some

pub returns-in_default-rest-clause-none : goal.returns-in_default-rest-clause-none
returns-in_default-rest-clause-none c =
    let text = c.args.text.now in
    let first = c.in_ok-first.first in
    let next = c.in-Some.rest.now in
    let parts : slice_split is_x text ≡ decimal first ∷ slice_split is_x next = rw c.in-Some.is at c.in_ok-first.ensures.some in
    let second = c.in_ok-second.second in
    let later : slice_split is_x next ≡ decimal second ∷ [] = rw c.in_default-rest.is at c.in_ok-second.ensures.some in
    let all : slice_split is_x text ≡ decimal first ∷ decimal second ∷ [] = parts ∙ ap (λ xs. decimal first ∷ xs) later in
    let each = more_levels first (second ∷ []) c.in_ok-first.ensures.level (one_level second c.in_ok-second.ensures.level) in
    read_none text (first ∷ second ∷ []) each all c.new-in_default-rest.result c.new-in_default-rest.ensures.none

pub returns-in_err-third-clause-none : goal.returns-in_err-third-clause-none
returns-in_err-third-clause-none c =
    let text = c.args.text.now in
    let first = c.in_ok-first.first in
    let next = c.in-Some.rest.now in
    let parts : slice_split is_x text ≡ decimal first ∷ slice_split is_x next = rw c.in-Some.is at c.in_ok-first.ensures.some in
    let second = c.in_ok-second.second in
    let after = c.in-Some-rest.rest.now in
    let later : slice_split is_x next ≡ decimal second ∷ slice_split is_x after = rw c.in-Some-rest.is at c.in_ok-second.ensures.some in
    when_none c.from_residual-in_err-third.result (Refused text)
    (refused_third text (decimal first) (decimal second) next after parts later c.in_err-third.ensures.none)

pub returns-then-is_some-clause-none : goal.returns-then-is_some-clause-none
returns-then-is_some-clause-none c =
    let text = c.args.text.now in
    let first = c.in_ok-first.first in
    let next = c.in-Some.rest.now in
    let parts : slice_split is_x text ≡ decimal first ∷ slice_split is_x next = rw c.in-Some.is at c.in_ok-first.ensures.some in
    let second = c.in_ok-second.second in
    let after = c.in-Some-rest.rest.now in
    let later : slice_split is_x next ≡ decimal second ∷ slice_split is_x after = rw c.in-Some-rest.is at c.in_ok-second.ensures.some in
    let third = c.in_ok-third.third in
    let some : is_some c.in_ok-third.rest ≡ true = search facts in
    refused_more text (decimal first) (decimal second) (decimal third) next after _ parts later c.in_ok-third.ensures.some
    (some_pieces _ c.in_ok-third.rest some)

pub returns-clause-some : goal.returns-clause-some
returns-clause-some c =
    let text = c.args.text.now in
    let first = c.in_ok-first.first in
    let next = c.in-Some.rest.now in
    let parts : slice_split is_x text ≡ decimal first ∷ slice_split is_x next = rw c.in-Some.is at c.in_ok-first.ensures.some in
    let second = c.in_ok-second.second in
    let after = c.in-Some-rest.rest.now in
    let later : slice_split is_x next ≡ decimal second ∷ slice_split is_x after = rw c.in-Some-rest.is at c.in_ok-second.ensures.some in
    let third = c.in_ok-third.third in
    let none : is_some c.in_ok-third.rest ≡ false = search facts in
    let last : slice_split is_x after ≡ decimal third ∷ [] = c.in_ok-third.ensures.some
    ∙ ap (λ xs. decimal third ∷ xs) (none_pieces _ c.in_ok-third.rest none) in
    let all : slice_split is_x text ≡ decimal first ∷ decimal second ∷ decimal third ∷ [] = parts
    ∙ ap (λ xs. decimal first ∷ xs) (later ∙ ap (λ xs. decimal second ∷ xs) last) in
    let each = more_levels first (second ∷ third ∷ []) c.in_ok-first.ensures.level
    (more_levels second (third ∷ []) c.in_ok-second.ensures.level (one_level third c.in_ok-third.ensures.level)) in
    read_cut text (first ∷ second ∷ third ∷ []) each all c.new-2.result c.new-2.ensures.some

pub returns-clause-none : goal.returns-clause-none
returns-clause-none c =
    let text = c.args.text.now in
    let first = c.in_ok-first.first in
    let next = c.in-Some.rest.now in
    let parts : slice_split is_x text ≡ decimal first ∷ slice_split is_x next = rw c.in-Some.is at c.in_ok-first.ensures.some in
    let second = c.in_ok-second.second in
    let after = c.in-Some-rest.rest.now in
    let later : slice_split is_x next ≡ decimal second ∷ slice_split is_x after = rw c.in-Some-rest.is at c.in_ok-second.ensures.some in
    let third = c.in_ok-third.third in
    let none : is_some c.in_ok-third.rest ≡ false = search facts in
    let last : slice_split is_x after ≡ decimal third ∷ [] = c.in_ok-third.ensures.some
    ∙ ap (λ xs. decimal third ∷ xs) (none_pieces _ c.in_ok-third.rest none) in
    let all : slice_split is_x text ≡ decimal first ∷ decimal second ∷ decimal third ∷ [] = parts
    ∙ ap (λ xs. decimal first ∷ xs) (later ∙ ap (λ xs. decimal second ∷ xs) last) in
    let each = more_levels first (second ∷ third ∷ []) c.in_ok-first.ensures.level
    (more_levels second (third ∷ []) c.in_ok-second.ensures.level (one_level third c.in_ok-third.ensures.level)) in
    read_none text (first ∷ second ∷ third ∷ []) each all c.new-2.result c.new-2.ensures.none
