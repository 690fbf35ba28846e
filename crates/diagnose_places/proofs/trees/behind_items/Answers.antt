use Rattle.std.proofs.Common.{ap, ◌∙◌, take}
use Rattle.std.proofs.lemmas.List.{take_all}
use Rattle.diagnose_places.proofs.Passing.{left_start, left_more, left_as, tokens_in, tokens_take}
use Rattle.diagnose_places.proofs.trees.behind_items.Goals as goal

pub loop-item-init : goal.loop-item-init
loop-item-init g c = record {
  text = c.new-tokens.ensures.text;
  left = left_start _ _ c.new-tokens.ensures.all;
}

pub loop-item-preserved : goal.loop-item-preserved
loop-item-preserved g c =
    let i = c.loop-item.item-index in
    let es = take c.args.index c.args.items.now in
    record {
      text = c.skip_tree.ensures.text ∙ c.loop-item.invariant.text;
      left = left_as _ _ _ _ (tokens_take es i c.item-item.result c.loop-item-test.true c.item-item.is)
          (left_more _ (tokens_in (take i es)) _ _ _ c.loop-item.invariant.left c.skip_tree.ensures.passed);
    }

pub returns-clause-text : goal.returns-clause-text
returns-clause-text g c = c.loop-item.invariant.text

pub returns-clause-passed : goal.returns-clause-passed
returns-clause-passed g c =
    let i = c.loop-item.item-index in
    let es = take c.args.index c.args.items.now in
    left_as _ _ _ _ (ap tokens_in (take_all i es c.loop-item-test.false)) c.loop-item.invariant.left
