use Rattle.statement.specs.Meaning.{IsInStart, IsInAfter, IsLegal}
use Rattle.meaning.proofs.Printed.{one_printed}
use Rattle.meaning.proofs.Context.{one_list_of, one_goal}
use Rattle.meaning.proofs.play_laws.play_is_determined.Goals as goal

pub returns : goal.returns
returns c = record {
  lists = one_printed;
  start = λ rules. one_list_of (IsInStart rules);
  after = λ rules S J. one_list_of (IsInAfter rules S J);
  legal = λ rules S r. one_list_of (IsLegal rules S r);
  goal = one_goal;
}
