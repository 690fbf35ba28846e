use Rattle.std.proofs.Common.{List, ℕ, refl, subst}
use Rattle.program_searches.specs.Replies.{reply_of}
use Rattle.program_unroll.specs.Unrolled.{IsUnrollReply}
use Rattle.program_unroll.proofs.told.told_of.Goals as goal

pub returns-in-Ok-refused : goal.returns-in-Ok-refused
returns-in-Ok-refused g c = record {
  told = (
    refl,
    subst (λ (l : List ℕ). IsUnrollReply c.args.bounds l (reply_of c.in-Ok-refused.reply)) c.deref-in-Err.ensures.value (c.in-Ok-refused.ensures c.args.bounds),
  );
  fault = tt;
}
