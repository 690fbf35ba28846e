-- The facts of this crate that proofs of the crates above may rest on. All other modules of proofs are its own.
pub use Rattle.ground_rows.proofs.BuiltHeads.{each_kept, each_stays, first_scratch, head_again, head_put, in_slot, last_is, number_of, scratch_stays, scratch_with, slot_found}
pub use Rattle.ground_rows.proofs.ContextStepLemmas.{AddingMoves, AreNamedUpTo, all_named_below, as_many, below_is, inputs_below, lists_at, lists_below_are, lists_more, lists_next, moves_begin, moves_fit, moves_step, named_below, names_begin, names_end, names_next, number_end, only_below, roles_later}
pub use Rattle.ground_rows.proofs.ContextSteps.{listed_with, printed_count}
pub use Rattle.ground_rows.proofs.EarlyTests.{absent_literal, compared, key_atom, key_below, key_ends, key_whole, key_word, nowhere, numbers_are, numbers_within, same_numbers, was_not}
pub use Rattle.ground_rows.proofs.FilledKeys.{Building, come_to, put_hash, put_key, sought_more, values_more, with_constant, with_variable}
pub use Rattle.ground_rows.proofs.FoundLemmas.{found_none}
pub use Rattle.ground_rows.proofs.ListingSteps.{AddingAll, adding_begins, adding_ends, adding_next, adding_over, adding_skips, adds_none, atoms_listed, atoms_within, err_given, head_at, heads_first, heads_next, later_next, longer, none_first, none_next, numbers_below, own_adds, own_over, part_below, relation_listed, relation_over, relation_texts, same_part, whole_here}
pub use Rattle.ground_rows.proofs.LongHeads.{long_heads}
pub use Rattle.ground_rows.proofs.LongTexts.{Looking, found_long, here_within, looked, looking_begins, looking_next}
pub use Rattle.ground_rows.proofs.NumberPlaces.{got_at, is_nowhere, is_there, place_of, place_within}
pub use Rattle.ground_rows.proofs.Pairs.{pair_literal, pair_passes, reads_fixed, row_terms}
pub use Rattle.ground_rows.proofs.RowAtoms.{are_placed, atom_of_row, below_trees, full_placed, map_stays, row_stays, sizes_many}
pub use Rattle.ground_rows.proofs.RowBodies.{Reading, bound, fails_here, made_of, number_place, one_fails, place_there, placed_at, placed_within, reading_begins, reading_ends, reading_next, reading_passes, reading_settled, reads_one, row_now, row_relation, settled_is, unsettled}
pub use Rattle.ground_rows.proofs.RowInstances.{adds_failed, adds_passed, none_passes, over_by_one}
pub use Rattle.ground_rows.proofs.RowNumbers.{known_here, known_is, numbers_stay, row_numbers, row_of_stays}
pub use Rattle.ground_rows.proofs.RowTests.{absent_passes, distinct_passes, negative_passes, not_false, not_true, open_passes, passing_as, positive_passes}
pub use Rattle.ground_rows.proofs.RowsKept.{AddingRows, Going, adding_at, going_begins, kept_rows, row_here, rows_begin, rows_end, rows_next, rows_wrong}
pub use Rattle.ground_rows.proofs.RuledOut.{failed_skip, fails_then, fewer_others, left_skip, none_then, sifted_out}
pub use Rattle.ground_rows.proofs.SameFronts.{fewer_left, literal_again}
pub use Rattle.ground_rows.proofs.SettledParts.{absent_from, absent_list, front_same, inner_key, numbers_once, part_before, put_before, put_over, settles_list, settles_simple, simple_part, slice_end, trees_same}
pub use Rattle.ground_rows.proofs.SoughtKeys.{factor, full, weighs}
pub use Rattle.ground_rows.proofs.StepLemmas.{read_here, settled_step, step_here, step_more, were_compared}
pub use Rattle.ground_rows.proofs.Twice.{twice_passes, twice_the_first}
