use Rattle.std.proofs.Common.{◌∙◌}
use Rattle.std.proofs.lemmas.List.{length-set}
use Rattle.ground_rows.proofs.Facts.{put_hash, put_key, values_more}
use Rattle.ground_rows.proofs.sought.put_sought.Goals as goal

pub loop-blank-preserved : goal.loop-blank-preserved
loop-blank-preserved c =
    let look = c.in-Some.ensures.lookup in
    let e = c.deref-blank-items.ensures.value in
    let l = c.loop-blank.invariant in
    record {
      hash = put_hash c.args.sought.now c.deref-blank-items.result.now c.loop-blank.blank-index _ c.loop-blank.key.items c.loop-blank.hash
          c.in-Some.value.now c.index.result.now c.more_from-more.result c.requires e c.loop-blank-test.true l.long l.hash c.index.ensures c.more_from-more.ensures;
      long = length-set c.loop-blank.key.items _ _ ∙ l.long;
      told = values_more c.args.values.now c.deref-blank-items.result.now c.args.sought.now.blanks.items c.loop-blank.blank-index _ e
          c.loop-blank-test.true l.told look.3.0;
      key = put_key c.args.values.now c.deref-blank-items.result.now c.args.sought.now.blanks.items c.loop-blank.blank-index _
          c.loop-blank.key.items _ c.in-Some.value.now e c.loop-blank-test.true look.3.1 l.key;
    }
