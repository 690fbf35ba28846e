use Rattle.std.proofs.Common.{◌≡◌, ℕ, ◌++◌, List, length, take, drop, sym, subst, ap, ◌∙◌, arith}
use Rattle.game.specs.Keys.{key_at}
use Rattle.search_table.specs.Worths.{is_rising}
use Rattle.search_table.specs.Rows.{RowHolds, RowsHold}
use Rattle.search_table.specs.Tables.{worth_of}
use Rattle.search_table.proofs.RowLemmas.{bucket_fits, rows_set, row_holds, written_over}
use Rattle.search_table.proofs.Worths.{worths}
use Rattle.search_table.proofs.position_table.PositionTable.put.Goals as goal

pub place_for-e-requires-clause-bucket : goal.place_for-e-requires-clause-bucket
place_for-e-requires-clause-bucket c =
    let self = c.args.self.now in
    bucket_fits c.bucket_of-first.result self.entries self.stride _ c.bucket_of-first.ensures (self.size ∙ sym (ap length c.deref.ensures.value))

pub returns-clause-table : goal.returns-clause-table
returns-clause-table c = λ g keyed role at table found.
    let self = c.args.self.now in
    let key = c.args.key.now in
    let old = self.words in
    let e = c.place_for-e.result in
    let new = c.write_row.new.words in
    let worth = worth_of g keyed role at in
    let are = worths g keyed role at table.goals c.is_rising.result (c.is_rising.ensures ∙ ap is_rising table.of_bound) in
    let first = c.bucket_of-first.ensures in
    let place = c.place_for-e.ensures in
    let before : RowHolds worth c.row_at-row.result.now =
    subst (λ (row : List ℕ). RowHolds worth row)
    (sym (c.row_at-row.ensures ∙ ap (λ (ws : List ℕ). key_at ws self.stride e) c.deref-2.ensures.value)) (table.rows e (omega arith)) in
    let says = c.merged-entry.ensures.says (worth key) (are key) found (c.known_of.ensures.says worth (are key).few before) in
    let size : length new ≡ length old.items = c.write_row.auto.words ∙ ap length c.deref_mut.ensures.value in
    let same : take old.len (new ++ drop (length new) old.items) ≡ new = written_over new old.items old.len old.ok.0 size in
    let rows : RowsHold worth new self.stride self.entries =
    rows_set worth c.deref_mut.result.now new self.stride self.entries e
    (row_holds worth c.merged-entry.result c.entry_word.result key (key_at new self.stride e) c.write_row.ensures.here c.entry_word.ensures.kept says)
    c.write_row.ensures.others (subst (λ (ws : List ℕ). RowsHold worth ws self.stride self.entries) (sym c.deref_mut.ensures.value) table.rows) in
    record {
      of_role = table.of_role;
      of_bound = table.of_bound;
      goals = table.goals;
      rows = subst (λ (ws : List ℕ). RowsHold worth ws self.stride self.entries) (sym same) rows;
    }
