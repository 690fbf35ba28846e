use Rattle.std.proofs.Common.{◌≡◌, ℕ, ◌<◌, length, slice_index}
use Rattle.board.specs.Values.{task_count}
use Rattle.test_texts.proofs.crowds.single_replies.Given as goal

abbrev pub invariant-pushes : goal.invariant-pushes
invariant-pushes l = (length l.replies.items ≡ l._i) × (task_count l.replies.items ≡ l._i)
    × ((i : ℕ) → i < length l.replies.items → 0 < slice_index l.replies.items i)
