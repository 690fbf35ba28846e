use Rattle.std.proofs.Common.{List, [], ◌∷◌, ◌++◌, ap, ◌∙◌}
use Rattle.rules_clauses.specs.declared.signatures.Signature.{Signature}
use Rattle.rules_clauses.proofs.SignatureLemmas.{with_next}
use Rattle.rules_clauses.proofs.signatures.Signatures.add_by.Goals as goal

pub returns-clause-kept : goal.returns-clause-kept
returns-clause-kept c =
    with_next c.args.self.now _ c.args.signature c.requires.next
    (c.push_reserved.ensures.items
    ∙ ap (λ (ss : List Signature). ss ++ c.args.signature ∷ []) (c.reserve.ensures.items ∙ c.self.view_is))
