use Rattle.std.proofs.Common.{ap, List}
use Rattle.rules_clauses.specs.declared.signatures.Signature.{Signature}
use Rattle.rules_clauses.specs.StoreView.{data_of}
use Rattle.rules_clauses.proofs.AddingLemmas.{numbers_relation}
use Rattle.rules_clauses.proofs.store.Store.relation.Goals as goal

pub returns : goal.returns
returns c =
    numbers_relation c.args.from _ _ _ _ _ _ _ c.in_ok-word.ensures.kept c.in_ok-word.ensures.found
    (ap (λ (ss : List Signature). record (data_of c.symbol.new.self) { signatures = ss }) c.in_ok-relation.ensures.kept)
    c.in_ok-relation.ensures.found
