use Rattle.std.proofs.Common.{ℕ, ◌+◌, List, [], ◌∷◌, Option, IfSome, length, length-append, get_or, ap, sym, ◌∙◌, subst}
use Rattle.rules_clauses.specs.declared.numbered.Part.{Part}
use Rattle.rules.specs.RuleSetView.{lists_of_set}
use Rattle.ground_terms.specs.Vectors.{items_of}
use Rattle.ground_rows.specs.declared.kept_keys.Sought.{Sought}
use Rattle.ground_rows.specs.Sought.{IsSought, AreSought, word_in}
use Rattle.ground_rows.proofs.Facts.{sought_more}
use Rattle.ground_rows.proofs.sought.sought_atoms.Goals as goal

pub loop-index-preserved : goal.loop-index-preserved
loop-index-preserved c =
    let d = lists_of_set c.args.set.now in
    let ns = c.args.alternative.now.body.items in
    let pss = items_of c.args.plan.now.body.items in
    let i = c.loop-index.index in
    let l = c.loop-index.invariant in
    let os = c.loop-index.sought.items in
    let own = c.in_ok-own.own in
    let pushed = c.in_ok-push.ensures.items in (
      ap length pushed ∙ length-append os (own ∷ []) ∙ ap (λ (n : ℕ). n + 1) l.0,
      subst (λ (ps : List (Option Sought)). AreSought d c.args.terms.now ns pss ps) (sym pushed)
          (sought_more d c.args.terms.now ns pss os i own l.0 l.1
          (subst (λ (ps : List Part). IfSome own (λ s. IsSought c.args.terms.now (word_in d (get_or ns i 0)) ps s))
          (c.parts_at.ensures ∙ ap (λ vs. get_or (items_of vs) i []) c.deref.ensures.value)
          (subst (λ (ms : List ℕ). IfSome own (λ s. IsSought c.args.terms.now (word_in d (get_or ms i 0)) c.parts_at.result.now s)) c.deref-number-items.ensures.value
          c.in_ok-own.ensures))),
    )
