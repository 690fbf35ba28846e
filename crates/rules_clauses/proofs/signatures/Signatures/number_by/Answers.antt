use Rattle.std.proofs.Common.{List, map, ap, ◌∙◌}
use Rattle.rules_clauses.specs.declared.signatures.Signature.{Signature}
use Rattle.rules_clauses.specs.Signatures.{signature_key}
use Rattle.rules_clauses.proofs.SignatureLemmas.{found_signature}
use Rattle.rules_clauses.proofs.signatures.Signatures.number_by.Goals as goal

pub returns : goal.returns
returns c =
    found_signature _ c.args.self.now c.args.signature c.args.key.now _
    (c.self.invariant.1 ∙ ap (λ (ss : List Signature). map signature_key ss) c.self.view_is)
    c.requires.key c.find.ensures
