-- The facts of this crate that proofs of the crates above may rest on. All other modules of proofs are its own.

-- How many instances there are, and the entries and heads of the last ones.
pub use Rattle.ground_instances.proofs.Lists.{many_numbers, none_found, new_heads, blank, entry_here}
-- Where bodies stand.
pub use Rattle.ground_instances.proofs.Lists.{kept_here, stands_here, many_bodies, get_last, same_body}
-- Literals behind those of some instances change none of these.
pub use Rattle.ground_instances.proofs.Lists.{still_there, still_more, added_behind, longer_by, same_bodies, same_entries}
