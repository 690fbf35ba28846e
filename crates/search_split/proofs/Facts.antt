-- The facts of this crate that proofs of the crates above may rest on. All other modules of proofs are its own.

-- A product of numbers, and how many workers a level has.
pub use Rattle.search_split.proofs.Products.{more_than, few_of_two, few_of_three}
