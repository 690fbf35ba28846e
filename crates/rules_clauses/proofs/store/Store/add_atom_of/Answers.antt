use Rattle.std.proofs.Common.{sym, ◌∙◌}
use Rattle.std.proofs.lemmas.List.{length-map}
use Rattle.rules_clauses.proofs.AddingLemmas.{adds_atom}
use Rattle.rules_clauses.proofs.store.Store.add_atom_of.Goals as goal

pub returns : goal.returns
returns g c =
    adds_atom c.args.from _ _ _ _ _ _ _ _ _ (sym (length-map _ _)) c.in_ok-relation.ensures c.in_ok-add_terms.ensures
    (c.len-begin.ensures ∙ c.relation.new.self.parts.ok.0) (c.len-end.ensures ∙ c.add_terms.new.self.parts.ok.0)
