-- The facts of this crate that proofs of the crates above may rest on. All other modules of proofs are its own.

-- Ranges, filters and folds of numbers that agree.
pub use Rattle.game_rules.proofs.Ranges.{inside, in_marked, below_agree, greatest_agree, filters_agree, filter_range_more, flat_map-set}
-- What lists of atoms by kind tell.
pub use Rattle.game_rules.proofs.StandingLemmas.{any_standing, names_all, ends_all, goals_all, greatest_snoc}
-- What is told of roles, copied and written role by role.
pub use Rattle.game_rules.proofs.RoleStates.{AreCopied, copied_room, copied_read, room_set, read_more}
-- What holds by numbers is what holds by the rules.
pub use Rattle.game_rules.proofs.ByNumbers.{numbers_exact, right_there}
pub use Rattle.game_rules.proofs.ByRules.{among_atom, number_at, kind_at_number, moving_kind, place_among, within_base, no_move, agree_now}
pub use Rattle.game_rules.proofs.LegalRules.{same_answer, in_order_once, legal_only}
pub use Rattle.game_rules.proofs.AfterRules.{place_within, within_input, next_holds}
-- Places in lists of trees.
pub use Rattle.game_rules.proofs.Trees.{placed, place_at, among_tree}
-- The game of an instantiation is that of the rules, and there is one alone.
pub use Rattle.game_rules.proofs.GameRules.{has_game, game_of_ground}
pub use Rattle.game_rules.proofs.OneGame.{one_game}
