use Rattle.std.proofs.Common.{ℕ, List, ◌≡◌, ◌<◌, get_or, length, sym, subst, ap, ◌∙◌}
use Rattle.statement.specs.Clause as said
use Rattle.rules_clauses.specs.declared.numbered.Alternative as memory
use Rattle.rules_clauses.specs.Signatures.{signature_at}
use Rattle.rules_clauses.specs.declared.signatures.Signature.{Signature}
use Rattle.rules_clauses.specs.Numbers.{word_at}
use Rattle.rules.specs.RuleSetView.{lists_of_set}
use Rattle.unroll_layers.proofs.Heads.{head_inside, head_relation}
use Rattle.unroll_layers.proofs.marks.head_at.Goals as goal

pub relation-signature-requires : goal.relation-signature-requires
relation-signature-requires c =
    let set = c.args.rules.now in
    let i = head_inside (lists_of_set set) set.alternatives.items c.args.place c.index-alternatives-place.result set.sound.whole c.requires in
    subst (λ (as' : List memory.Alternative). (get_or as' c.args.place c.index-alternatives-place.result).head.relation
    < length (lists_of_set set).signatures) (sym c.alternatives.ensures) i.relation

pub symbol-requires : goal.symbol-requires
symbol-requires c =
    let set = c.args.rules.now in
    let i = head_inside (lists_of_set set) set.alternatives.items c.args.place c.index-alternatives-place.result set.sound.whole c.requires in
    subst (λ (s : Signature). s.word < length (lists_of_set set).words) (sym (c.relation-signature.ensures
    ∙ ap (λ (as' : List memory.Alternative). signature_at (lists_of_set set).signatures (get_or as' c.args.place c.index-alternatives-place.result).head.relation)
    c.alternatives.ensures)) i.word

pub returns : goal.returns
returns c = λ d.
    let set = c.args.rules.now in
    let e = head_relation (lists_of_set set) set.alternatives.items c.args.place c.index-alternatives-place.result d set.sound.whole c.requires in
    let signature : c.relation-signature.result ≡ signature_at (lists_of_set set).signatures
    (get_or set.alternatives.items c.args.place c.index-alternatives-place.result).head.relation
    = c.relation-signature.ensures
    ∙ ap (λ (as' : List memory.Alternative). signature_at (lists_of_set set).signatures (get_or as' c.args.place c.index-alternatives-place.result).head.relation)
    c.alternatives.ensures in
    ap (λ (w : List ℕ). let r : said.Relation = record { word = w; arity = c.relation-signature.result.arity } in r) c.symbol.ensures
    ∙ ap (λ (s : Signature). let r : said.Relation = record { word = word_at (lists_of_set set).words s.word; arity = s.arity } in r) signature ∙ e
