-- The facts of this crate that proofs of the crates above may rest on. All other modules of proofs are its own.

-- Lines that are added one by one.
pub use Rattle.program_searches.proofs.Lines.{one_number_more, one_element_more, past_the_end}
-- A text has one fault, or reads as trees.
pub use Rattle.program_searches.proofs.OneText.{one_text_fault, fault_or_trees, not_fault_and_trees}
