use Rattle.std.proofs.Common.{ℕ, ◌≡◌, ◌<◌, ◌≢◌, List, [], length, get_or, ap, ◌∙◌, subst}
use Rattle.std.specs.Prelude.{MatchOption}
use Rattle.rules_clauses.specs.declared.numbered.Literal as memory
use Rattle.rules_clauses.specs.declared.numbered.Part.{Part}
use Rattle.rules_clauses.specs.Signatures.{signature_at}
use Rattle.util_interner.specs.KeyLists.{key_at}
use Rattle.rules.specs.RuleSetView.{lists_of_set}
use Rattle.ground_terms.specs.Vectors.{items_of}
use Rattle.ground_rows.specs.Pairs.{IsKeyOf}
use Rattle.ground_listing.proofs.SettledAtoms.{looked_up}
use Rattle.ground_listing.proofs.unbuilt.number_unbuilt.Goals as goal

pub returns : goal.returns
returns c =
    let set = c.args.rows.now.set.now in
    let d = lists_of_set set in
    let keys = c.args.arena.now.keys in
    let o = c.number.result in
    let n = c.args.planned.now.number in
    let parts = get_or (items_of c.args.rows.now.plan.now.body.items) c.args.planned.now.index [] in
    looked_up d set.sound.words c.args.rows.now.alternative.now.variables.from keys c.requires.terms.numbered
    c.args.rows.now.places.now c.args.values.now c.requires.row n c.requires.planned.atom.can parts c.put_key.new.key.items
    c.args.rows.now.atoms.now.keys o c.requires.planned.atom.are
    (subst (λ (w : ℕ). IsKeyOf c.args.values.now w parts c.put_key.new.key.items)
    (ap (λ s. s.word) c.relation-word.ensures ∙ ap (λ (k : memory.Literal). (signature_at d.signatures k.atom.relation).word) c.requires.literal)
    (subst (λ (ps : List Part). IsKeyOf c.args.values.now c.relation-word.result.word ps c.put_key.new.key.items)
    (c.parts_at.ensures ∙ ap (λ vs. get_or (items_of vs) c.args.planned.now.index []) c.deref.ensures.value)
    (c.in_ok-is_key.ensures c.if-not-is_key.false)))
    (subst (λ (ks : List ℕ). MatchOption o ((k : ℕ) → k < length keys → key_at keys k ≢ ks) (λ k. (k < length keys) × (key_at keys k ≡ ks)))
    c.as_slice.ensures.value c.number.ensures)
