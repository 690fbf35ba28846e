use Rattle.std.proofs.Common.{ℕ, List, Option, ◌≡◌, ◌<◌, get_or}
use Rattle.rules.specs.RuleSetView.{lists_of_set, rules_in}
use Rattle.ground_matching.specs.Placed.{placed_body}
use Rattle.ground_terms.specs.Vectors.{items_of}
use Rattle.ground_rows.specs.Sharing.{IsCommon}
use Rattle.ground_listing.proofs.sharing.are_common.Given as goal

-- those before this one are common
abbrev pub invariant-loop-index : goal.invariant-loop-index
invariant-loop-index l =
    (from : ℕ) (places : List (Option ℕ)) → items_of l.fn.plan.body.items ≡ placed_body (lists_of_set l.fn.set) from places l.fn.numbers
    → (i : ℕ) → i < l.index → IsCommon (rules_in l.fn.set) (lists_of_set l.fn.set) from places (get_or l.fn.numbers i 0)
