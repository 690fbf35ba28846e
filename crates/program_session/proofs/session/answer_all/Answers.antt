use Rattle.program_requests.specs.Feeds.{left_in}
use Rattle.program_requests.specs.Desks.{rules_kept}
use Rattle.program_session.specs.Kept.{IsKeptGame}
use Rattle.program_session.proofs.Holding.{held_at_first, held_further, held_to_end, held_to_fault, held_so_far}
use Rattle.program_session.proofs.Keeping.{none_kept}
use Rattle.program_session.proofs.session.answer_all.Goals as goal

pub loop-init : goal.loop-init
loop-init g c = (
  c.in-Ok.ensures.desk,
  held_at_first c.args.language _ _ _ _ c.in-Ok.ensures.none (c.in-Ok.ensures.fresh (g.R.Read.remaining c.args.input.now)),
  none_kept (IsKeptGame g.G.Game g.G.GroundGame.source) c.args.language (rules_kept c.in-Ok.desk),
)

pub returns-in-Ok-false : goal.returns-in-Ok-false
returns-in-Ok-false g c =
    held_to_end c.args.language _ _ (g.R.Read.remaining c.turn.new.input) _ _ _ (rules_kept c.loop.desk) (rules_kept c.turn.new.desk) (left_in c.turn.new.desk.feed) c.loop.invariant.1
    (rw c.in-Ok-false.field-0-test at c.in-Ok-false.ensures.turn)

pub returns-in-Err : goal.returns-in-Err
returns-in-Err g c =
    held_to_fault c.args.language _ _ (g.R.Read.remaining c.turn.new.input) _ _ _ (rules_kept c.loop.desk) (rules_kept c.turn.new.desk) (left_in c.turn.new.desk.feed) c.loop.invariant.1 c.in-Err.fault
    c.in-Err.ensures.turn

pub loop-preserved : goal.loop-preserved
loop-preserved g c = (
  c.turn.ensures.desk,
  held_further c.args.language _ _ _ _ _ _ _ _ c.loop.invariant.1 (rw c.in-Ok-true.field-0-test at c.in-Ok-true.ensures.turn),
  c.in-Ok-true.ensures.kept,
)

pub returns : goal.returns
returns g c = held_so_far c.args.language _ _ _ _ _ (left_in c.loop.desk.feed) c.loop.invariant.1

pub turn-requires-clause-kept : goal.turn-requires-clause-kept
turn-requires-clause-kept g c κs within = c.loop.invariant.2
