use Rattle.std.proofs.Common.{◌≡◌, ℕ, ◌*◌, ◌++◌, List, [], length, replicate, refl, sym, subst, ap, ◌∙◌, arith}
use Rattle.search_table.specs.Rows.{RowsHold}
use Rattle.search_table.specs.Tables.{worth_of}
use Rattle.search_table.proofs.RowLemmas.{rows_added, no_rows}
use Rattle.search_table.proofs.position_table.PositionTable.of_memory.Goals as goal

pub returns : goal.returns
returns c = λ g keyed goals.
    let stride = c.args.stride in
    let entries = c.args.entries in
    let worth = worth_of g keyed c.args.role c.args.at in
    let all : c.add_zeros.new.words.items ≡ [] ++ replicate {A = ℕ} (entries * stride) 0 =
    c.add_zeros.ensures.words ∙ ap (λ (ws : List ℕ). ws ++ replicate {A = ℕ} (entries * stride) 0) c.requires.empty in
    let none : 0 * stride ≡ length {A = ℕ} [] = omega arith in
    record {
      of_role = refl;
      of_bound = refl;
      goals = goals;
      rows = subst (λ (ws : List ℕ). RowsHold worth ws stride entries) (sym all)
          (rows_added worth [] stride 0 (entries * stride) entries c.requires.some_words none (no_rows worth stride));
    }
