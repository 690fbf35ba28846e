-- Many states of a game, in a list.
use Rattle.std.proofs.Common.{
  ◌≡◌,
  ℕ,
  zero,
  suc,
  ◌+◌,
  ◌<◌,
  ◌≤◌,
  List,
  [],
  ◌∷◌,
  ◌++◌,
  length,
  map,
  take,
  get_or,
  get_or-set_same,
  get_or-set_other,
  refl,
  sym,
  subst,
  ap,
  ◌∙◌,
  arith,
  inl,
  inr,
}
use Rattle.std.proofs.Math.ListN.{set}
use Rattle.std.proofs.lemmas.Bool.{cases_eq}
use Rattle.smallvec.specs.SmallVec.{SmallVec}
use Rattle.game.specs.Joints.{joint_at}

pub get_or_any : {A : Type 0} (xs : List A) (k : ℕ) (d e : A) → k < length xs → get_or xs k d ≡ get_or xs k e
get_or_any [] k d e lt = absurd (omega arith)
get_or_any (x ∷ xs) zero d e lt = refl
get_or_any (x ∷ xs) (suc k) d e lt = get_or_any xs k d e (omega arith)

pub set_more : {A : Type 0} (P : ℕ → A → Type 0) (ps : List A) (r : ℕ) (y : A) → r < length ps → P r y
    → ((k : ℕ) (d : A) → k < r → P k (get_or ps k d))
    → (k : ℕ) (d : A) → k < r + 1 → P k (get_or (set ps r y) k d)
set_more {A} P ps r y lt one before k d below = elim (cases_eq k r) [
  | inl same ↦
      subst (λ (p : A). P k p) (sym (ap (λ (i : ℕ). get_or (set ps r y) i d) same ∙ get_or-set_same ps r y d lt))
      (subst (λ (i : ℕ). P i y) (sym same) one)
  | inr other ↦ subst (λ (p : A). P k p) (sym (get_or-set_other ps r k y d other)) (before k d (omega arith))
]

pub set_all : {A : Type 0} (P : A → Type 0) (ps : List A) (n r : ℕ) (y : A) → r < length ps → P y → ((k : ℕ) (d : A) → k < n → P (get_or ps k d))
    → (k : ℕ) (d : A) → k < n → P (get_or (set ps r y) k d)
set_all P ps n r y lt one before k d below = elim (cases_eq k r) [
  | inl same ↦ subst P (sym (ap (λ (i : ℕ). get_or (set ps r y) i d) same ∙ get_or-set_same ps r y d lt)) one
  | inr other ↦ subst P (sym (get_or-set_other ps r k y d other)) (before k d below)
]

pub joint_read : (joints : List (SmallVec ℕ)) (k : ℕ) (j : SmallVec ℕ) → k < length joints → j ≡ get_or joints k j → j.items ≡ joint_at joints k
joint_read [] k j lt e = absurd (omega arith)
joint_read (x ∷ xs) zero j lt e = ap (λ (v : SmallVec ℕ). v.items) e
joint_read (x ∷ xs) (suc k) j lt e = joint_read xs k j (omega arith) e

-- as many elements as joint moves
pub taken_map : {A : Type 0} (f : A → List ℕ) (h : List ℕ → List ℕ) (xs : List A) (joints : List (SmallVec ℕ)) → length joints ≤ length xs
    → ((k : ℕ) (d : A) → k < length joints → f (get_or xs k d) ≡ h (joint_at joints k))
    → map f (take (length joints) xs) ≡ map (λ (j : SmallVec ℕ). h j.items) joints
taken_map f h xs [] few same = refl
taken_map f h [] (j ∷ js) few same = absurd (omega arith)
taken_map f h (x ∷ xs) (j ∷ js) few same =
    ap (λ (s : List ℕ). s ∷ map f (take (length js) xs)) (same 0 x (omega arith))
    ∙ ap (λ (ss : List (List ℕ)). h j.items ∷ ss) (taken_map f h xs js (omega arith) (λ k d lt. same (suc k) d (omega arith)))

pub push_all : {A : Type 0} (P : A → Type 0) (ps : List A) (y : A) → P y → ((k : ℕ) (d : A) → k < length ps → P (get_or ps k d)) → (k : ℕ) (d : A)
    → k < length ps + 1 → P (get_or (ps ++ y ∷ []) k d)
push_all P [] y one all zero d lt = one
push_all P [] y one all (suc k) d lt = absurd (omega arith)
push_all P (p ∷ ps) y one all zero d lt = all 0 d (omega arith)
push_all P (p ∷ ps) y one all (suc k) d lt = push_all P ps y one (λ i e l. all (suc i) e (omega arith)) k d (omega arith)
