use Rattle.meaning.proofs.Evaluation.{holding_exact, after_listed, legal_listed, ended_tested, stuck_tested, goal_tested}
use Rattle.meaning.proofs.statement_laws.going_through_finds_what_holds.Goals as goal

pub returns : goal.returns
returns c = record {
  found = holding_exact;
  after = after_listed;
  legal = legal_listed;
  ended = ended_tested;
  stuck = stuck_tested;
  goal = goal_tested;
}
