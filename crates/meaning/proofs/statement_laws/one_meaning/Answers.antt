use Rattle.std.proofs.Common.{IsTrue}
use Rattle.statement.specs.Clause.{Atom}
use Rattle.statement.specs.Meaning.{IsRight}
use Rattle.meaning.proofs.Derivations.{derived_once, IsRight-local}
use Rattle.meaning.proofs.statement_laws.one_meaning.Goals as goal

pub returns : goal.returns
returns c = λ rules acyclic S J tells law x.
    derived_once rules acyclic (IsRight S J) (IsRight-local S J) (λ (y : Atom). IsTrue (tells y)) law x
