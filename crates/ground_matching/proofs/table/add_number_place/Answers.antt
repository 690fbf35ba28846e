use Rattle.ground_matching.proofs.TableLemmas.{table_number}
use Rattle.ground_matching.proofs.table.add_number_place.Goals as goal

pub returns-clause-table : goal.returns-clause-table
returns-clause-table c = table_number c.args.places.now.items c.push.new.self.items c.args.table.now c.requires c.in_ok-push.ensures.items
