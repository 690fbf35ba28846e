use Rattle.std.proofs.Common.{ℕ, List, [], ◌∷◌, length, length-append, get_or, ap, ◌∙◌, arith, Option, None}
use Rattle.position.proofs.ReaderLemmas.{none_pushed}
use Rattle.position.proofs.net_planning.new_found.Goals as goal

pub loop-i-preserved : goal.loop-i-preserved
loop-i-preserved c =
    let old = c.loop-i.found.items in
    let more = ap (λ (os : List (Option ℕ)). length os) c.in_ok-push.ensures.items in
    let both = length-append old (None ∷ []) in
    let size = c.loop-i.invariant.size in
    record {
      size = omega arith;
      none = λ m. ap (λ (os : List (Option ℕ)). get_or os m None) c.in_ok-push.ensures.items ∙ none_pushed old c.loop-i.invariant.none m;
    }
