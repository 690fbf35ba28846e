use Rattle.std.proofs.Common.{◌∙◌, refl}
use Rattle.program_requests.proofs.DeskLemmas.{rules_behind, last_line, empty_line, full_line}
use Rattle.program_requests.proofs.desk.Desk.take.Goals as goal

pub returns-in-Some-clause-taken : goal.returns-in-Some-clause-taken
returns-in-Some-clause-taken g c =
    let taken = rw c.in-Fed.is at c.in_ok-end.ensures.taken in
    let asks = rw c.in-Some.is at (c.size_asked-asked.ensures taken.0 taken.2) in
    rules_behind c.take_rules.result c.args.self.now c.take_rules.new.self _ _ _ taken.0 c.in-Some.size (taken.1, asks.0, asks.1) taken.3
    c.take_rules.ensures.taken

pub returns-in-Cut-clause-taken : goal.returns-in-Cut-clause-taken
returns-in-Cut-clause-taken g c =
    let taken = rw c.in-Cut.is at c.in_ok-end.ensures.taken in
    let line = c.next_line.new.line in
    let room = c.in_ok-end.ensures.size ∙ c.requires.room in
    rw c.last_taken.ensures
    (last_line c.size_asked-asked.result c.is_empty.result c.args.self.now _ _ _ taken.0 taken.1 taken.2
    (c.size_asked-asked.ensures taken.0 taken.2)
    (λ e. empty_line line taken.0 _ room taken.2 (c.is_empty.ensures.yes e))
    (λ e. full_line line taken.0 _ room taken.2 (c.is_empty.ensures.no e)) taken.3 taken.4 refl)
