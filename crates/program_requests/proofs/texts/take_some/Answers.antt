use Rattle.std.proofs.Common.{◌≡◌, List, ℕ, ◌++◌, length, take, ap, subst, rules}
use Rattle.std.proofs.lemmas.List.{length-take}
use Rattle.program_requests.specs.Feeds.{left_in, HasFront}
use Rattle.program_requests.proofs.texts.take_some.Goals as goal

pub returns-clause-taken : goal.returns-clause-taken
returns-clause-taken c =
    let left = left_in c.args.feed.now in
    let count = c.min-count.result in
    let whole : length c.front.result.now ≡ length left = ap length c.front.ensures in
    let size : length (take count left) ≡ count = search (rules, length-take count left, whole) in (
      take count left,
      size,
      λ bytes h. subst (λ (l : List ℕ). HasFront c.add.new.self (bytes ++ l)) (ap (take count) c.front-2.ensures)
          (c.add.ensures.added bytes h),
      c.use_up.ensures.used,
    )
