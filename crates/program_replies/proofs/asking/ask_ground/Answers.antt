use Rattle.std.specs.Prelude.{Ok}
use Rattle.statement.specs.Networks.{IsNetReply}
use Rattle.statement.specs.Games.{IsPlayReply}
use Rattle.statement.specs.Moving.{IsMovesReply}
use Rattle.statement.specs.Items.{alternatives}
use Rattle.statement.specs.Solving.{IsSolveReply}
use Rattle.statement.specs.ForRole.{IsRoleReply}
use Rattle.statement.specs.Deepening.{IsDeepenReply}
use Rattle.statement.specs.Holding.{IsStateReply}
use Rattle.program_words.specs.Asked.{query_about}
use Rattle.program_searches.specs.declared.asked_alone.Wanted.TheVariants.{Within, OfEachMove, LineOfEachMove}
use Rattle.program_searches.specs.Replies.{reply_of}
use Rattle.program_searches.specs.Windows.{wanted_lines}
use Rattle.program_replies.specs.Readings.{IsReplyOver}
use Rattle.program_replies.proofs.Describing.{over_ground}
use Rattle.program_replies.proofs.Askings.{lift_asking}
use Rattle.program_replies.proofs.asking.ask_ground.Goals as goal

pub returns-in_ok-reply_to_net-in-Net : goal.returns-in_ok-reply_to_net-in-Net
returns-in_ok-reply_to_net-in-Net g c =
    over_ground (query_about c.args.inquiry.now) c.args.ground IsNetReply (λ width ts reply h. rw c.in-Net.is h)
    (reply_of c.in_ok-reply_to_net-in-Net.field-0) c.in_ok-reply_to_net-in-Net.ensures

pub returns-in_ok-reply_to_moves-in-Moves : goal.returns-in_ok-reply_to_moves-in-Moves
returns-in_ok-reply_to_moves-in-Moves g c =
    over_ground (query_about c.args.inquiry.now) c.args.ground
    (λ width items reply. IsPlayReply width items (λ game. IsMovesReply game c.in-Moves.after.now) reply) (λ width ts reply h. rw c.in-Moves.is h)
    (reply_of c.in_ok-reply_to_moves-in-Moves.field-0) c.in_ok-reply_to_moves-in-Moves.ensures

pub returns-in_ok-reply_to_state-in-State : goal.returns-in_ok-reply_to_state-in-State
returns-in_ok-reply_to_state-in-State g c =
    over_ground (query_about c.args.inquiry.now) c.args.ground
    (λ width items reply. IsPlayReply width items (λ game. IsStateReply (alternatives items) game c.in-State.after.now) reply) (λ width ts reply h. rw c.in-State.is h)
    (reply_of c.in_ok-reply_to_state-in-State.field-0) c.in_ok-reply_to_state-in-State.ensures

pub returns-in_ok-reply_for_role-in-SolveWithin : goal.returns-in_ok-reply_for_role-in-SolveWithin
returns-in_ok-reply_for_role-in-SolveWithin g c =
    let sought = c.in-SolveWithin.sought in
    over_ground (query_about c.args.inquiry.now) c.args.ground
    (λ width items reply. IsPlayReply width items (λ game. IsRoleReply game sought.role.now
    (λ r. wanted_lines (Within c.in-SolveWithin.window) game r sought.depth sought.at_bound) sought.after.now) reply)
    (λ width ts reply h. rw c.in-SolveWithin.is h)
    (reply_of c.in_ok-reply_for_role-in-SolveWithin.field-0) c.in_ok-reply_for_role-in-SolveWithin.ensures

pub returns-in_ok-reply_for_role-in-Values : goal.returns-in_ok-reply_for_role-in-Values
returns-in_ok-reply_for_role-in-Values g c =
    let sought = c.in-Values.sought in
    over_ground (query_about c.args.inquiry.now) c.args.ground
    (λ width items reply. IsPlayReply width items (λ game. IsRoleReply game sought.role.now
    (λ r. wanted_lines OfEachMove game r sought.depth sought.at_bound) sought.after.now) reply)
    (λ width ts reply h. rw c.in-Values.is h)
    (reply_of c.in_ok-reply_for_role-in-Values.field-0) c.in_ok-reply_for_role-in-Values.ensures

pub returns-in_ok-reply_for_role-in-ValuesWithLines : goal.returns-in_ok-reply_for_role-in-ValuesWithLines
returns-in_ok-reply_for_role-in-ValuesWithLines g c =
    let sought = c.in-ValuesWithLines.sought in
    over_ground (query_about c.args.inquiry.now) c.args.ground
    (λ width items reply. IsPlayReply width items (λ game. IsRoleReply game sought.role.now
    (λ r. wanted_lines LineOfEachMove game r sought.depth sought.at_bound) sought.after.now) reply)
    (λ width ts reply h. rw c.in-ValuesWithLines.is h)
    (reply_of c.in_ok-reply_for_role-in-ValuesWithLines.field-0) c.in_ok-reply_for_role-in-ValuesWithLines.ensures

pub returns-in-Deepen : goal.returns-in-Deepen
returns-in-Deepen g c =
    let sought = c.in-Deepen.sought in
    lift_asking g.G.Game _ (IsReplyOver (query_about c.args.inquiry.now) (Ok c.args.ground))
    (λ reply h. over_ground (query_about c.args.inquiry.now) c.args.ground
    (λ width items reply. IsPlayReply width items (λ game. IsDeepenReply game sought.role.now sought.depth sought.at_bound sought.after.now) reply)
    (λ width ts reply h. rw c.in-Deepen.is h) reply h) c.ask_deepen.result c.ask_deepen.ensures

pub returns-in-Solve : goal.returns-in-Solve
returns-in-Solve g c =
    let sought = c.in-Solve.sought in
    lift_asking g.G.Game _ (IsReplyOver (query_about c.args.inquiry.now) (Ok c.args.ground))
    (λ reply h. over_ground (query_about c.args.inquiry.now) c.args.ground
    (λ width items reply. IsPlayReply width items (λ game. IsSolveReply game sought.role.now sought.depth sought.at_bound sought.after.now) reply)
    (λ width ts reply h. rw c.in-Solve.is h) reply h) c.ask_solve.result c.ask_solve.ensures
