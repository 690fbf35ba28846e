use Rattle.std.proofs.Common.{sym}
use Rattle.kif.specs.View.{trees_in}
use Rattle.meaning.specs.Extension.{base_relation, input_relation}
use Rattle.unroll_strata.proofs.RangeLemmas.{unstated, ranges_stated}
use Rattle.unroll_strata.proofs.ranges.states_ranges.Goals as goal

pub returns-then-some_states-clause-yes : goal.returns-then-some_states-clause-yes
returns-then-some_states-clause-yes g c =
    ranges_stated c.some_states-then-some_states.result (trees_in c.args.items.now) (sym c.if-some_states.ensures) c.some_states-then-some_states.ensures

pub returns-then-some_states-clause-no : goal.returns-then-some_states-clause-no
returns-then-some_states-clause-no g c none both =
    unstated input_relation c.some_states-then-some_states.result (trees_in c.args.items.now) c.some_states-then-some_states.ensures none both.1

pub returns-else-some_states-clause-no : goal.returns-else-some_states-clause-no
returns-else-some_states-clause-no g c none both =
    unstated base_relation c.some_states.result (trees_in c.args.items.now) c.some_states.ensures none both.0
