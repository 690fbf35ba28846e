use Rattle.std.proofs.Common.{ap, ◌∙◌, List}
use Rattle.rules_clauses.specs.declared.numbered.Literal.{Literal}
use Rattle.rules_clauses.specs.StoreView.{data_of}
use Rattle.rules_clauses.proofs.AddingLemmas.{adds_literal}
use Rattle.rules_clauses.proofs.store.Store.add_literal.Goals as goal

pub returns : goal.returns
returns g c =
    adds_literal c.args.from _ _ _ _ _ _ _ c.in_ok-atom.ensures (c.len-number.ensures ∙ c.add_atom.new.self.literals.ok.0)
    (ap (λ (ls : List Literal). record (data_of c.add_atom.new.self) { literals = ls }) c.in_ok-push.ensures.items)
