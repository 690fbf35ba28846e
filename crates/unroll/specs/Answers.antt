-- This crate's own: what `run` promises does not rest on it.
-- Of which relations what is written is what their rules derive.
use Rattle.std.specs.Prelude.{List}
use Rattle.statement.specs.Tree.{Tree}
use Rattle.statement.specs.Clause.{Relation}
use Rattle.statement.specs.Dependence.{is_among}
use Rattle.statement.specs.Items.{alternatives}
use Rattle.meaning.specs.Extension.{IsAnswered}

-- what is written of the relations is what the items derive of them
abbrev pub AreAnswered : List Tree → List Tree → List Relation → Type 0
AreAnswered found written own = IsAnswered (alternatives found) (alternatives written) (λ p. is_among p own)

-- if so it is of the first relations, it is of the second
abbrev pub AddsAnswered : List Tree → List Tree → List Relation → List Relation → Type 0
AddsAnswered found written own more = AreAnswered found written own → AreAnswered found written more
