use Rattle.std.proofs.Common.{rules as facts}
use Rattle.share.proofs.Searched.{differ}
use Rattle.share.proofs.last.value_of_crew.Goals as goal

pub returns-in-Ok-clause-found : goal.returns-in-Ok-clause-found
returns-in-Ok-clause-found g c =
    let answer = c.in-Ok.ensures.answered.answer in
    let desk = c.in-Ok.ensures.answered.desk in
    record {
      valued = record {
        answers = search (facts, answer);
        plain = λ e. absurd (differ e);
        range = search (facts, answer);
        follows = search (facts, answer);
      };
      desk = search (facts, desk);
    }
