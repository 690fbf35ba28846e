use Rattle.search_table.specs.Says.{Says}
use Rattle.search_table.proofs.entry.merged.Goals as goal
use Rattle.search_table.proofs.entry.merged.Goals.{then-entry-found, else-entry-found}

pub returns-clause-says : goal.returns-clause-says
returns-clause-says c = λ worth are found says.
    let kept : Says c.if-entry-found.kept worth = elim c.if-entry-found.branch [
      | then-entry-found w ↦ rw w.kept-is says
      | else-entry-found w ↦ rw w.kept-is (w.nothing_known-kept.ensures.says worth are.few)
    ] in
    let known = c.with_upper-known.ensures.says worth are found (c.with_lower.ensures.says worth are.few found kept) in
    record { lower = known.lower; upper = known.upper; lasting = known.lasting }
