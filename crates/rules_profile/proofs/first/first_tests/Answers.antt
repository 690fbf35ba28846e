use Rattle.rules_profile.proofs.ItemsPassed.{are_items}
use Rattle.rules_profile.proofs.first.first_tests.Goals as goal

pub first_misused_word-requires : goal.first_misused_word-requires
first_misused_word-requires g c = are_items _ c.in_default.ensures
