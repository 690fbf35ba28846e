-- The facts of this crate that proofs of the crates above may rest on. All other modules of proofs are its own.

-- A pass over gates that come behind keeps what is there.
pub use Rattle.propnet_tape.proofs.Passes.{order_within, pass_agree, pass_below}
-- Lanes of words, and the values of given bits.
pub use Rattle.propnet_tape.proofs.Lanes.{given_slot, is_one_min, is_one_not}
-- Steps of a tape in the making, one behind the other.
pub use Rattle.propnet_tape.proofs.Literals.{groups_before}
-- Ands and ors of literals.
pub use Rattle.propnet_tape.proofs.Folds.{and_true, nor_literal}
-- Groups of given bits.
pub use Rattle.propnet_tape.proofs.GateGroupLemmas.{ok_then, same_self}
