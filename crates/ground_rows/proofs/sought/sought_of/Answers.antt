use Rattle.std.proofs.Common.{◌≡◌, List, length, Option, IfSome, drop, sym, ◌∙◌, subst}
use Rattle.rules_clauses.specs.declared.numbered.Part.{Part}
use Rattle.ground_rows.specs.declared.settlings.Settled.{Settled}
use Rattle.ground_rows.specs.declared.kept_keys.BlankKey.{BlankKey}
use Rattle.ground_rows.specs.Settled.{IsSettled, Settles}
use Rattle.ground_rows.specs.Sought.{IsBlankKey}
use Rattle.ground_rows.proofs.Facts.{front_same, slice_end}
use Rattle.ground_rows.proofs.sought.sought_of.Goals as goal

pub returns-in-From : goal.returns-in-From
returns-in-From c =
    let first = c.args.terms.now in
    let at = c.in-From.at in
    let settled = subst (λ (s : Settled). IsSettled first c.args.parts.now c.settle.new.slots s) c.in-From.is c.in_ok-settled.ensures in
    let size : length c.settle.new.slots ≡ c.extend_from_slice.new.self.len = c.settle.auto.slots ∙ c.deref_mut.ensures.len in
    let same : c.deref.result.now ≡ c.settle.new.slots = c.deref.ensures.value ∙ front_same _ c.settle.new.slots _ size in
    let kept : IfSome c.in_ok-key-in-From.field-0 (λ b. IsBlankKey c.args.word (drop at c.deref.result.now) b) =
    subst (λ (qs : List Part). IfSome c.in_ok-key-in-From.field-0 (λ b. IsBlankKey c.args.word qs b)) (slice_end at c.deref.result.now)
    c.in_ok-key-in-From.ensures in
    record {
      key = record {
        settled = drop at c.deref.result.now;
        settles = λ words. subst (λ (qs : List Part). Settles words first c.args.parts.now (drop at qs)) (sym same) (settled.1 words);
        is = subst (λ (o : Option BlankKey). IfSome o (λ b. IsBlankKey c.args.word (drop at c.deref.result.now) b)) c.in-Some.is kept;
      };
      absent = tt;
      last = c.last_place-last.ensures;
    }
