use Rattle.std.proofs.Common.{◌≡◌, ℕ, zero, suc, ◌+◌, ◌<◌, List, [], ◌∷◌, ◌++◌, length, slice_index, sym, subst, arith, length-append}
use Rattle.board.specs.Values.{task_count}
use Rattle.board.proofs.Facts.{total-append}
use Rattle.test_texts.proofs.crowds.single_replies.Goals as goal

some_next : (xs : List ℕ) → ((i : ℕ) → i < length xs → 0 < slice_index xs i) → (i : ℕ) → i < length (xs ++ 1 ∷ []) → 0 < slice_index (xs ++ 1 ∷ []) i
some_next [] some zero lt = omega arith
some_next [] some (suc i) lt = absurd (omega arith)
some_next (x ∷ xs) some zero lt = some 0 (omega arith)
some_next (x ∷ xs) some (suc i) lt = some_next xs (λ j near. some (suc j) (omega arith)) i (omega arith)

next : (xs ys : List ℕ) (n : ℕ) → ys ≡ xs ++ 1 ∷ [] → length xs ≡ n → task_count xs ≡ n → ((i : ℕ) → i < length xs → 0 < slice_index xs i)
    → (length ys ≡ n + 1) × (task_count ys ≡ n + 1) × ((i : ℕ) → i < length ys → 0 < slice_index ys i)
next xs ys n is long many some =
    subst (λ (zs : List ℕ). (length zs ≡ n + 1) × (task_count zs ≡ n + 1) × ((i : ℕ) → i < length zs → 0 < slice_index zs i)) (sym is)
    (omega (arith, length-append xs (1 ∷ []), long), omega (arith, total-append (λ r. r) xs (1 ∷ []), many), some_next xs some)

pub pushes-preserved : goal.pushes-preserved
pushes-preserved c = let was = c.pushes.invariant in let push = c.in_ok-push.ensures in
    next c.pushes.replies.items c.push.new.self.items c.pushes._i push.items was.0 was.1 was.2
