use Rattle.std.proofs.Common.{◌++◌, List, ℕ, length, take, append-nil, sym, ap, subst, ◌∙◌}
use Rattle.std.proofs.Math.Seq.{take-length}
use Rattle.std.specs.Io.KnownBytes.{Consumes}
use Rattle.program_requests.specs.Feeds.{left_in, ahead, HasFront}
use Rattle.program_requests.specs.Lines.{IsLine}
use Rattle.program_requests.proofs.LineLemmas.{with_end}
use Rattle.program_requests.proofs.lines.take_part.Goals as goal

pub returns-in-Some-clause-taken : goal.returns-in-Some-clause-taken
returns-in-Some-clause-taken c =
    let left = left_in c.args.feed.now in
    let at = c.in-Some.at in
    let found = rw c.front.ensures at c.in-Some.ensures in (
      take at left,
      found.2,
      λ bytes h. subst (λ (l : List ℕ). HasFront c.add.new.self (bytes ++ l)) (ap (take at) c.front-in-Some.ensures)
          (c.add.ensures.added bytes h),
      λ remaining. subst (Consumes (ahead c.args.feed.now remaining) (ahead c.use_up.new.self remaining))
          (with_end left at found.0 found.1) (c.use_up.ensures.used remaining),
    )

pub returns-in-None-clause-taken : goal.returns-in-None-clause-taken
returns-in-None-clause-taken c =
    let left = left_in c.args.feed.now in (
      left,
      subst IsLine c.front.ensures c.in-None.ensures,
      λ bytes h. subst (λ (l : List ℕ). HasFront c.add-in-None.new.self (bytes ++ l)) c.front-in-None.ensures
          (c.add-in-None.ensures.added bytes h),
      λ remaining. subst (Consumes (ahead c.args.feed.now remaining) (ahead c.use_up-in-None.new.self remaining))
          (ap (λ (l : List ℕ). take (length l) left) c.front-in-None-2.ensures ∙ take-length left ∙ sym (append-nil left))
          (c.use_up-in-None.ensures.used remaining),
    )
