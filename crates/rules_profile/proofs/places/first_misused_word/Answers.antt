use Rattle.std.proofs.Common.{◌≡◌, true, sym}
use Rattle.statement.specs.Items.{is_item}
use Rattle.statement.specs.Profile.{bad_keyword, misuses_word}
use Rattle.rules_profile.proofs.Firsts.{held_at, found_here, found_later}
use Rattle.rules_profile.proofs.places.first_misused_word.Goals as goal

pub is_misusing_words-requires : goal.is_misusing_words-requires
is_misusing_words-requires g c = held_at (λ t. is_item t ≡ true) c.args.items.now _ _ c.requires c.loop-index-test.true c.index-items-index.is

pub returns-then-is_misusing_words : goal.returns-then-is_misusing_words
returns-then-is_misusing_words g c =
    found_here bad_keyword misuses_word _ _ _ c.loop-index.invariant c.loop-index-test.true c.index-items-index.is
    (sym c.if-is_misusing_words.ensures)

pub loop-index-preserved : goal.loop-index-preserved
loop-index-preserved g c =
    found_later bad_keyword misuses_word _ _ _ c.loop-index.invariant c.loop-index-test.true c.index-items-index.is
    (sym c.if-is_misusing_words.ensures)
