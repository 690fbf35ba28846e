use Rattle.std.proofs.Common.{ap, sym, ◌∙◌}
use Rattle.std.proofs.lemmas.Bool.{eqb-true}
use Rattle.statement.specs.declared.at_bound.AtBound.TheVariants.{Unfinished}
use Rattle.search_table.proofs.Tables.{same_worth}
use Rattle.search_table.proofs.shared_table.is_same.Goals as goal

pub returns-in-Unfinished-Unfinished : goal.returns-in-Unfinished-Unfinished
returns-in-Unfinished-Unfinished c = λ e. let both = c.in-Unfinished-Unfinished in
    both.is-0 ∙ ap Unfinished (same_worth both.worth both.of_other (eqb-true _ _ e)) ∙ sym both.is-1
