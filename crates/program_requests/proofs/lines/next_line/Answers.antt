use Rattle.std.proofs.Common.{◌∷◌, ◌++◌, [], ◌≢◌, ◌∙◌}
use Rattle.std.proofs.lemmas.List.Elements.{All-append}
use Rattle.program_requests.proofs.Feeding.{used_more, used_on}
use Rattle.program_requests.proofs.lines.next_line.Goals as goal

pub returns-then-take_part-clause-taken : goal.returns-then-take_part-clause-taken
returns-then-take_part-clause-taken g c =
    let taken = c.loop.invariant.3 in
    let part = c.if-take_part.ensures.taken in (
      taken.0 ++ part.0,
      All-append (λ b. b ≢ 10) taken.0 part.0 taken.1 part.1,
      part.2 taken.0 taken.2,
      used_more _ _ _ _ taken.0 part.0 (10 ∷ []) taken.3 c.in_ok-refill.ensures.same (part.3 (g.R.Read.remaining c.refill.new.input)),
    )

pub loop-preserved : goal.loop-preserved
loop-preserved g c =
    let taken = c.loop.invariant.3 in
    let part = c.if-take_part.ensures.taken in (
      c.take_part.ensures.feed,
      c.take_part.ensures.line,
      c.take_part.ensures.size ∙ c.loop.invariant.2,
      (
        taken.0 ++ part.0,
        All-append (λ b. b ≢ 10) taken.0 part.0 taken.1 part.1,
        part.2 taken.0 taken.2,
        used_on _ _ _ _ taken.0 part.0 taken.3 c.in_ok-refill.ensures.same (part.3 (g.R.Read.remaining c.refill.new.input)),
      ),
    )
