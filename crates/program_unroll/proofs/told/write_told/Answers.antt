use Rattle.program_unroll.proofs.Parting.{tells_if, refused_status}
use Rattle.program_unroll.proofs.told.write_told.Goals as goal

pub returns-clause-told : goal.returns-clause-told
returns-clause-told g c =
    let ended = c.write_reply-ended.result in (
      ended,
      g.E.Write.contents c.status_of-status.new.errors,
      c.status_of-status.ensures.status,
      c.write_reply-ended.ensures.whole,
      c.write_reply-ended.ensures.front,
      c.status_of-status.ensures.told,
      tells_if _ _ _ _ (λ e. refused_status ended c.status_of-status.result c.status_of-status.ensures.status e) c.explain_told.ensures,
    )
