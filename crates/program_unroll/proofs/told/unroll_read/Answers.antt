use Rattle.std.proofs.Common.{ℕ, List, subst, sym}
use Rattle.rules_profile.proofs.Facts.{if_ok}
use Rattle.program_searches.specs.Replies.{reply_of}
use Rattle.program_streams.specs.Input.{IsReadFrom}
use Rattle.program_unroll.specs.Unrolled.{IsUnrollReply}
use Rattle.program_unroll.proofs.told.unroll_read.Goals as goal

pub returns-clause-reply : goal.returns-clause-reply
returns-clause-reply g c =
    let old = g.R.Read.remaining c.args.input.now in
    let new = g.R.Read.remaining c.read_input.new.input in
    if_ok c.told_of.result _ _ (λ told h. (
      subst (λ (bytes : List ℕ). IsReadFrom old new bytes) (sym h.0) c.in_ok-bytes.ensures.whole,
      subst (λ (bytes : List ℕ). IsUnrollReply c.args.bounds bytes (reply_of told.reply)) (sym h.0) h.1,
    ))
    c.told_of.ensures.told
