use Rattle.std.proofs.Common.{◌≡◌, true}
use Rattle.statement.specs.Items.{is_item}
use Rattle.rules_profile.proofs.Facts.{held_at}
use Rattle.rules.proofs.DraftLemmas.{read_on, found_unsafe}
use Rattle.rules.proofs.draft.read_items.Goals as goal

pub add_item-requires-clause-item : goal.add_item-requires-clause-item
add_item-requires-clause-item g c = held_at (λ t. is_item t ≡ true) c.args.items.now _ _ c.requires c.loop-index-test.true c.index-items-index.is

pub returns-then-not-branch-clause-faults : goal.returns-then-not-branch-clause-faults
returns-then-not-branch-clause-faults g c =
    found_unsafe c.loop-index.draft c.add_item.new.draft c.args.items.now c.loop-index.index c.index-items-index.result c.in_ok-add_item.field-0
    c.loop-index.invariant c.loop-index-test.true c.index-items-index.is
    c.if-not-branch.true c.in_ok-add_item.ensures

pub loop-index-preserved : goal.loop-index-preserved
loop-index-preserved g c =
    read_on c.loop-index.draft c.add_item.new.draft c.args.items.now c.loop-index.index c.index-items-index.result c.in_ok-add_item.field-0
    c.loop-index.invariant c.loop-index-test.true c.index-items-index.is
    c.if-not-branch.false c.in_ok-add_item.ensures
