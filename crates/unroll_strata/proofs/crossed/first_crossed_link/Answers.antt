use Rattle.std.proofs.Common.{◌≡◌, ℕ, List, subst, true}
use Rattle.rules.specs.ItemLinks.{IsFirstSuch, meets_component}
use Rattle.unroll_strata.proofs.StrataLemmas.{first_is}
use Rattle.unroll_strata.proofs.crossed.first_crossed_link.Goals as goal

pub returns : goal.returns
returns c =
    first_is _ _ _ c.args.negations.now c.in_ok-components.ensures c.requires _
    (subst (λ (xs : List ℕ). IsFirstSuch (λ link. meets_component xs link ≡ true) c.args.negations.now c.first_crossed.result) c.deref.ensures.value
    c.first_crossed.ensures)
