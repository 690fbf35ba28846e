use Rattle.std.proofs.Common.{◌≡◌, ℕ, List, ◌+◌, [], ◌∷◌, ◌∙◌, ap, sym, take, drop, arith}
use Rattle.std.specs.Fmt.{decimal}
use Rattle.std.specs.List.{slice_split}
use Rattle.search_split.specs.Cuts.{is_x}
use Rattle.search_split.proofs.Numerals.{BeginsNone, when_none, first_bytes, first_part, only_part, part_place, rest_taken}
use Rattle.search_split.proofs.cut.split_level.Goals as goal

pub returns-in_err-level-clause-none : goal.returns-in_err-level-clause-none
returns-in_err-level-clause-none c = when_none c.from_residual.result (BeginsNone c.args.text.now)
    (λ n pieces low few parts. c.in_err-level.ensures.none n low few
    (first_bytes c.args.text.now c.first_x-end.result n pieces c.first_x-end.ensures parts))

pub returns-then-end-text-clause-some : goal.returns-then-end-text-clause-some
returns-then-end-text-clause-some c =
    let text = c.args.text.now in
    let end = c.first_x-end.result in
    let level : decimal c.in_ok-level.level ≡ take end text = c.in_ok-level.ensures.some.2 in
    only_part text end c.first_x-end.ensures (omega arith) ∙ ap (λ xs. xs ∷ []) (sym level)

pub returns-clause-some : goal.returns-clause-some
returns-clause-some c =
    let text = c.args.text.now in
    let end = c.first_x-end.result in
    let level : decimal c.in_ok-level.level ≡ take end text = c.in_ok-level.ensures.some.2 in
    let place = part_place text end c.first_x-end.ensures in
    first_part text end c.first_x-end.ensures (omega (arith, place)) ∙ ap (λ xs. xs ∷ slice_split is_x (drop (end + 1) text)) (sym level)
    ∙ ap (λ (rest : List ℕ). decimal c.in_ok-level.level ∷ slice_split is_x rest) (sym (rest_taken (end + 1) text))
