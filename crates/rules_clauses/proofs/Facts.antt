-- The facts of this crate that proofs of the crates above may rest on. All other modules of proofs are its own.

-- Names by number: finding one, and adding one.
pub use Rattle.rules_clauses.proofs.NumberLemmas.{last_or_before}
-- Additions to the lists in memory.
pub use Rattle.rules_clauses.proofs.AddingLemmas.{begins_at, begins_less, extends_refl, extends_trans, grows_trans, grows_word, count_trees-length}
-- Lists of numbers, and the readings that they stand for.
pub use Rattle.rules_clauses.proofs.SpreadLemmas.{lists_of-append}
-- Safety over numbers is safety over names.
pub use Rattle.rules_clauses.proofs.SafetyLemmas.{AreDistinct, is_inside, are_inside, safe_is}
-- How many terms parts stand for.
pub use Rattle.rules_clauses.proofs.CountedTerms.{terms_of_inside}
