use Rattle.std.proofs.Common.{ℕ, ◌∙◌, ap}
use Rattle.std.specs.Prelude.{slice_set}
use Rattle.ground_matching.proofs.TableLemmas.{table_place}
use Rattle.ground_matching.proofs.table.add_place.Goals as goal

pub returns-clause-table : goal.returns-clause-table
returns-clause-table c =
    table_place c.args.places.now.items c.push.new.self.items c.args.table.now.items c.note.new.table.items c.args.symbol c.requires.table
    c.requires.none c.in_ok-push.ensures.items
    (c.note.ensures ∙ ap (λ (n : ℕ). slice_set c.args.table.now.items c.args.symbol n) (c.len.ensures ∙ c.push.new.self.ok.0))
