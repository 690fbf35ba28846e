-- The facts of this crate that proofs of the crates above may rest on. All other modules of proofs are its own.

-- Numbers of gates that stand.
pub use Rattle.propnet.proofs.BuildLemmas.{stands_below}
-- Folds by and and by or.
pub use Rattle.propnet.proofs.Folds.{all_of_lt, any_of_lt}
-- What a gate is worth.
pub use Rattle.propnet.proofs.GateValues.{value_lt}
-- What the views, the transitions and the told names of a network are.
pub use Rattle.propnet.proofs.NetLaw.{view_law, transition_law, told_law}
-- Values of the gates in their order.
pub use Rattle.propnet.proofs.Order.{value_solves, got_map}
-- What the nodes of a network stand for.
pub use Rattle.propnet.proofs.NodesLaw.{nodes_law}
