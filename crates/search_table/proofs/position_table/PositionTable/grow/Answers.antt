use Rattle.std.proofs.Common.{◌≡◌, ℕ, ◌+◌, ◌*◌, ◌≤◌, length, subst, arith}
use Rattle.search_table.specs.Rows.{RowsHold}
use Rattle.search_table.specs.Tables.{worth_of}
use Rattle.search_table.proofs.RowLemmas.{few_rows}
use Rattle.search_table.proofs.position_table.PositionTable.grow.Goals as goal

pub overflow_add-self : goal.overflow_add-self
overflow_add-self c =
    let self = c.args.self.now in
    let few : self.entries ≤ length self.words.items = few_rows self.entries self.stride (length self.words.items) self.some_words
    (let whole = self.size in omega arith) in
    let len : self.words.len ≡ length self.words.items = self.words.ok.0 in
    omega arith

pub returns-clause-table : goal.returns-clause-table
returns-clause-table c = λ g keyed role at table.
    let self = c.args.self.now in
    let twice : 2 * self.entries ≡ self.entries + self.entries = omega arith in
    record {
      of_role = table.of_role;
      of_bound = table.of_bound;
      goals = table.goals;
      rows = subst (λ (n : ℕ). RowsHold (worth_of g keyed role at) c.double_rows.new.words.items self.stride n) twice
          (c.double_rows.ensures.rows (worth_of g keyed role at) table.rows);
    }
