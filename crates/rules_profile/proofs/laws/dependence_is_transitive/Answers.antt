use Rattle.std.specs.Prelude.{zero, ◌≡◌, true}
use Rattle.rules_profile.proofs.Walks.{chain_then, depends_least}
use Rattle.rules_profile.proofs.laws.dependence_is_transitive.Goals as goal

pub returns-clause-direct : goal.returns-clause-direct
returns-clause-direct c = λ rules p q first. (zero, first)

pub returns-clause-transitive : goal.returns-clause-transitive
returns-clause-transitive c = λ rules p q r first rest. chain_then rules first.0 p q r first.1 rest

pub returns-clause-least : goal.returns-clause-least
returns-clause-least c = λ rules test direct on p q h. depends_least rules (λ x y. test x y ≡ true) direct on h.0 p q h.1
