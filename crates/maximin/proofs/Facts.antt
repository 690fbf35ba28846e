-- The facts of this crate that proofs of the crates above may rest on. All other modules of proofs are its own.

-- The best worth so far, and where it stands.
pub use Rattle.maximin.specs.Best.{IsBest}
pub use Rattle.maximin.proofs.Best.{worst_at_place, choice_found, best_none, best_raised, best_kept}
-- No worth is above the greatest goal.
pub use Rattle.maximin.proofs.Bounds.{value_at_most, worst_at_most}
-- The choices of a turn by number.
pub use Rattle.maximin.proofs.Choices.{length-choices, choices_own, choices_other, choices_some, legal_some}
-- A choice is legal, and there is one only where play goes on.
pub use Rattle.maximin.proofs.Chosen.{choice_legal, chosen_open}
-- What a search leaves as it was.
pub use Rattle.maximin.proofs.Stays.{choice_stays, reply_stays}
-- Values by the worths of moves.
pub use Rattle.maximin.proofs.Values.{value_reached, worst_le_value}
-- Comparisons in a window.
pub use Rattle.maximin.proofs.Windows.{lt_z_true, lt_z_false}
