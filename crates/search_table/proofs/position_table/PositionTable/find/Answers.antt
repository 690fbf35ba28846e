use Rattle.std.proofs.Common.{ℕ, ◌+◌, ◌≤◌, List, length, sym, subst, ap, ◌∙◌, arith}
use Rattle.search_table.specs.Worths.{is_rising}
use Rattle.search_table.specs.Rows.{RowsHold}
use Rattle.search_table.specs.Tables.{worth_of}
use Rattle.search_table.proofs.RowLemmas.{bucket_fits}
use Rattle.search_table.proofs.Worths.{worths}
use Rattle.search_table.proofs.position_table.PositionTable.find.Goals as goal

pub known_in-entry-requires-clause-bucket : goal.known_in-entry-requires-clause-bucket
known_in-entry-requires-clause-bucket c =
    let self = c.args.self.now in
    bucket_fits c.bucket_of-first.result self.entries self.stride _ c.bucket_of-first.ensures (self.size ∙ sym (ap length c.deref.ensures.value))

pub returns : goal.returns
returns c = λ g keyed role at table.
    let self = c.args.self.now in
    let key = c.args.key.now in
    let worth = worth_of g keyed role at in
    let are = worths g keyed role at table.goals c.is_rising.result (c.is_rising.ensures ∙ ap is_rising table.of_bound) in
    let within : c.bucket_of-first.result + 4 ≤ self.entries = c.bucket_of-first.ensures in
    c.bounds_at.ensures (worth key) (are key)
    (c.known_in-entry.ensures worth (are key).few
    (λ e below. subst (λ (ws : List ℕ). RowsHold worth ws self.stride self.entries) (sym c.deref.ensures.value) table.rows e (omega arith)))
