use Rattle.std.proofs.Common.{ap, sym, subst, List}
use Rattle.rules_clauses.specs.declared.numbered.Part.{Part}
use Rattle.rules_clauses.specs.StoreView.{data_of}
use Rattle.rules_clauses.specs.Adding.{AreSorted}
use Rattle.rules_clauses.specs.Marks.{variable_numbers}
use Rattle.rules_clauses.proofs.MarkLemmas.{below}
use Rattle.rules_clauses.proofs.safety.terms_of.Goals as goal

pub returns-clause-numbers : goal.returns-clause-numbers
returns-clause-numbers c = ap variable_numbers c.parts_at.ensures

pub returns-clause-below : goal.returns-clause-below
returns-clause-below c many e =
    below c.args.from many (data_of c.args.store.now) c.parts_at.result.now
    (subst (λ (ps : List Part). AreSorted (data_of c.args.store.now) c.args.from ps) (sym c.parts_at.ensures) c.requires.sorted) e
