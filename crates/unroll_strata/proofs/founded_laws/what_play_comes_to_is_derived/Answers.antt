use Rattle.std.proofs.Common.{ℕ, Bool, true, false, not, ◌&&◌, ◌||◌, ◌≡◌, List, refl, ap}
use Rattle.statement.specs.Meaning.{nothing, nobody}
use Rattle.unroll_strata.proofs.AddedItems.{next_there}
use Rattle.unroll_strata.proofs.StepGames.{are_founded}
use Rattle.unroll_strata.proofs.founded_laws.what_play_comes_to_is_derived.Goals as goal

pub returns : goal.returns
returns c = λ own below rules out steps acyclic well alone game none reached.
    are_founded own below rules out steps alone game acyclic well (λ some straight x. c.holds_by_a_rule.ensures some straight nothing nobody x)
    (λ x fixed. c.what_is_possible_and_fixed_holds.ensures.heads steps well.acyclic x fixed)
    (λ t heads. next_there steps (λ x. c.the_listing_is_exact.ensures.atoms steps well x) (λ p. c.the_context_is_listed.ensures.base steps well p)
    none t heads)
    (λ i a. (c.the_listing_is_exact.ensures.instances steps well i).0 a)
    (λ t is_base. reached t ((c.the_context_is_listed.ensures.base steps well t).1 is_base))
