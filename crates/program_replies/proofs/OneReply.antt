-- Each input has one reply.
use Rattle.std.proofs.Common.{ℕ, ◌≡◌, inl, inr, List, refl, sym, ◌∙◌, ap, subst}
use Rattle.kif.proofs.Facts.{reads_once}
use Rattle.statement.specs.Tree.{Trees, list_of}
use Rattle.statement.specs.Items.{alternatives}
use Rattle.statement.specs.TextFaults.{text_fault_words}
use Rattle.program_replies.proofs.OneCheck.{some_check, one_check}
use Rattle.program_replies.proofs.OneNet.{some_net, one_net}
use Rattle.program_replies.proofs.OneMoves.{some_moves, one_moves}
use Rattle.program_replies.proofs.OnePlay.{some_play, one_play}
use Rattle.program_replies.proofs.OneSolve.{some_solve, one_solve}
use Rattle.program_replies.proofs.OneRole.{some_for_role, one_for_role}
use Rattle.program_replies.proofs.OneWithin.{window_alike}
use Rattle.program_replies.proofs.OneValues.{values_alike}
use Rattle.program_replies.proofs.OneLines.{RepliesAlike, with_lines_alike}
use Rattle.program_replies.proofs.OneDeepening.{deepen_alike}
use Rattle.program_replies.proofs.OneState.{some_state, one_state}
use Rattle.program_searches.proofs.MoveFacts.{fault_or_trees, one_text_fault, not_fault_and_trees}
use Rattle.statement.specs.Queries.{Query, show, check, net, moves, state, solve, solve_within, values, values_with_lines, deepen, widely}
use Rattle.statement.specs.Answers.{Reply, answer, refusal}
use Rattle.statement.specs.declared.width.Width.{Width}
use Rattle.statement.specs.declared.width.Width.TheVariants.{Plain, Wide}
use Rattle.statement.specs.Moving.{IsMovesReply}
use Rattle.statement.specs.Solving.{IsSolveReply}
use Rattle.statement.specs.Within.{window_lines, IsWindowReply}
use Rattle.statement.specs.MoveValues.{values_lines, IsValuesReply}
use Rattle.statement.specs.MoveLines.{moves_with_lines, IsLinesReply}
use Rattle.statement.specs.Deepening.{deepen_lines, IsDeepenReply}
use Rattle.statement.specs.Holding.{IsStateReply}
use Rattle.statement.specs.Replies.{lines_of, IsReplyIn, IsReplyTo, IsReply}

some_reply_to : (width : Width) (query : Query) (ts : Trees) → (reply : Reply) × IsReplyIn width query ts reply
some_reply_to width show ts = (answer (lines_of ts), refl)
some_reply_to width check ts = some_check (list_of ts)
some_reply_to width net ts = some_net width (list_of ts)
some_reply_to width (moves after) ts = some_play width (list_of ts) (λ g. IsMovesReply g after) (λ g. some_moves g after)
some_reply_to width (state after) ts =
    let rules = alternatives (list_of ts) in
    some_play width (list_of ts) (λ g. IsStateReply rules g after) (λ g. some_state rules g after)
some_reply_to width (solve_within role depth at w after) ts =
    some_play width (list_of ts) (λ g. IsWindowReply g role depth at w after) (λ g. some_for_role g role (λ r. window_lines g w r depth at) after)
some_reply_to width (values role depth at after) ts =
    some_play width (list_of ts) (λ g. IsValuesReply g role depth at after) (λ g. some_for_role g role (λ r. values_lines g r depth at) after)
some_reply_to width (values_with_lines role depth at after) ts =
    some_play width (list_of ts) (λ g. IsLinesReply g role depth at after) (λ g. some_for_role g role (λ r. moves_with_lines g r depth at) after)
some_reply_to width (deepen role depth at after) ts =
    some_play width (list_of ts) (λ g. IsDeepenReply g role depth at after) (λ g. some_for_role g role (λ r. deepen_lines g r depth at) after)
some_reply_to width (solve role depth at after) ts =
    some_play width (list_of ts) (λ g. IsSolveReply g role depth at after) (λ g. some_solve g role depth at after)
some_reply_to width (widely query) ts = some_reply_to Wide query ts

pub some_reply : (query : Query) (bytes : List ℕ) → (reply : Reply) × IsReply query bytes reply
some_reply query bytes =
    elim (fault_or_trees bytes) [
      | inl fault ↦ (refusal (text_fault_words fault.0), inl (fault.0, fault.1, fault.2, refl))
      | inr read ↦ let reply = some_reply_to Plain query read.0 in (reply.0, inr (read.0, read.1, reply.1))
    ]

module _ (replied : RepliesAlike) where
  one_reply_to : (width : Width) (query : Query) (ts : Trees) (reply other : Reply) → IsReplyIn width query ts reply → IsReplyIn width query ts other
      → reply ≡ other
  one_reply_to width show ts reply other p q = p ∙ sym q
  one_reply_to width check ts reply other p q = one_check (list_of ts) reply other p q
  one_reply_to width net ts reply other p q = one_net width (list_of ts) reply other p q
  one_reply_to width (moves after) ts reply other p q =
      one_play width (list_of ts) (λ g. IsMovesReply g after) (λ g h same. one_moves g h same after) reply other p q
  one_reply_to width (state after) ts reply other p q =
      let rules = alternatives (list_of ts) in
      one_play width (list_of ts) (λ g. IsStateReply rules g after) (λ g h same. one_state rules g h same after) reply other p q
  one_reply_to width (solve_within role depth at w after) ts reply other p q =
      one_play width (list_of ts) (λ g. IsWindowReply g role depth at w after)
      (λ g h same. one_for_role g h same role (λ r. window_lines g w r depth at) (λ r. window_lines h w r depth at)
      (λ r lt s. window_alike g h same r lt depth at w s) after) reply other p q
  one_reply_to width (values role depth at after) ts reply other p q =
      one_play width (list_of ts) (λ g. IsValuesReply g role depth at after)
      (λ g h same. one_for_role g h same role (λ r. values_lines g r depth at) (λ r. values_lines h r depth at)
      (λ r lt s. values_alike g h same r lt depth at s) after) reply other p q
  one_reply_to width (values_with_lines role depth at after) ts reply other p q =
      one_play width (list_of ts) (λ g. IsLinesReply g role depth at after)
      (λ g h same. one_for_role g h same role (λ r. moves_with_lines g r depth at) (λ r. moves_with_lines h r depth at)
      (λ r lt s. with_lines_alike replied g h same r lt depth at s) after) reply other p q
  one_reply_to width (deepen role depth at after) ts reply other p q =
      one_play width (list_of ts) (λ g. IsDeepenReply g role depth at after)
      (λ g h same. one_for_role g h same role (λ r. deepen_lines g r depth at) (λ r. deepen_lines h r depth at)
      (λ r lt s. deepen_alike g h same r lt depth at s) after) reply other p q
  one_reply_to width (solve role depth at after) ts reply other p q =
      one_play width (list_of ts) (λ g. IsSolveReply g role depth at after) (λ g h same. one_solve g h same role depth at after) reply other p
      q
  one_reply_to width (widely query) ts reply other p q = one_reply_to Wide query ts reply other p q

  pub one_reply : (query : Query) (bytes : List ℕ) (reply other : Reply) → IsReply query bytes reply → IsReply query bytes other → reply ≡ other
  one_reply query bytes reply other (inl p) (inl q) =
      p.3 ∙ ap (λ e. refusal (text_fault_words e)) (one_text_fault bytes p.0 q.0 p.1 p.2 q.1 q.2) ∙ sym q.3
  one_reply query bytes reply other (inl p) (inr q) = absurd (not_fault_and_trees bytes p.0 q.0 p.1 p.2 q.1)
  one_reply query bytes reply other (inr p) (inl q) = absurd (not_fault_and_trees bytes q.0 p.0 q.1 q.2 p.1)
  one_reply query bytes reply other (inr p) (inr q) =
      let same = reads_once bytes p.0 q.0 p.1 q.1 in
      one_reply_to Plain query q.0 reply other (subst (λ (ts : Trees). IsReplyTo query ts reply) same p.2) q.2
