-- What is told of roles, copied and written role by role.
use Rattle.std.proofs.Common.{◌≡◌, ℕ, ◌+◌, ◌<◌, Bool, List, length, take, sym, ◌∙◌, ap, subst, arith, inl, inr, get_or, get_or-set_same, get_or-set_other}
use Rattle.std.proofs.Math.ListN.{set, length-set}
use Rattle.std.proofs.lemmas.Bool.{cases_eq}
use Rattle.statement.specs.declared.kind.Kind.{Kind}
use Rattle.ground_instances.specs.Grounds.{texts_at}
use Rattle.game_rules.specs.declared.role_state.RoleState.{RoleState}
use Rattle.game_rules.specs.RuleState.{HasRoleRoom, HaveRoom, AreRead, IsCopied}

pub room_set : (inputs : List (List (List ℕ))) (fs : List RoleState) (r : ℕ) (y : RoleState) → HaveRoom inputs fs → r < length fs
    → HasRoleRoom (length (texts_at inputs r)) y → HaveRoom inputs (set fs r y)
room_set inputs fs r y room lt one = record {
  size = length-set fs r y ∙ room.size;
  each = λ k d below. elim (cases_eq k r) [
    | inl same ↦
        subst (λ (f : RoleState). HasRoleRoom (length (texts_at inputs k)) f)
        (sym (ap (λ (i : ℕ). get_or (set fs r y) i d) same ∙ get_or-set_same fs r y d lt))
        (subst (λ (i : ℕ). HasRoleRoom (length (texts_at inputs i)) y) (sym same) one)
    | inr other ↦ subst (λ (f : RoleState). HasRoleRoom (length (texts_at inputs k)) f) (sym (get_or-set_other fs r k y d other))
        (room.each k d below)
  ];
}

pub read_more : (P : ℕ → RoleState → Type 0) (fs : List RoleState) (r : ℕ) (y : RoleState) → r < length fs → P r y
    → ((k : ℕ) (d : RoleState) → k < r → P k (get_or fs k d))
    → (k : ℕ) (d : RoleState) → k < r + 1 → P k (get_or (set fs r y) k d)
read_more P fs r y lt one before k d below = elim (cases_eq k r) [
  | inl same ↦
      subst (λ (f : RoleState). P k f) (sym (ap (λ (i : ℕ). get_or (set fs r y) i d) same ∙ get_or-set_same fs r y d lt))
      (subst (λ (i : ℕ). P i y) (sym same) one)
  | inr other ↦ subst (λ (f : RoleState). P k f) (sym (get_or-set_other fs r k y d other)) (before k d (omega arith))
]

abbrev pub AreCopied : List RoleState → List RoleState → Type 0
AreCopied from new = (r : ℕ) (d : RoleState) → r < length from → IsCopied (get_or from r d) (get_or new r d)

pub copied_room : (inputs : List (List (List ℕ))) (from new : List RoleState) → HaveRoom inputs from → length new ≡ length inputs
    → AreCopied from new → HaveRoom inputs new
copied_room inputs from new room size copied = record {
  size = size;
  each = λ r d lt.
      let whole = room.size in
      ap (λ (xs : List ℕ). length xs) (copied r d (omega arith)).moves ∙ room.each r d lt;
}

pub copied_read : (kinds : List Kind) (f : ℕ → Bool) (inputs : List (List (List ℕ))) (from new : List RoleState) → HaveRoom inputs from
    → AreCopied from new → AreRead kinds f inputs from → AreRead kinds f inputs new
copied_read kinds f inputs from new a copied read r d lt =
    let whole = a.size in
    let one = copied r d (omega arith) in
    let was = read r d lt in
    let few = was.count in
    let many = ap (λ (xs : List ℕ). length xs) one.moves in
    let same = one.count in
    record {
      goal = one.goal ∙ was.goal;
      count = omega arith;
      legal = ap (λ (n : ℕ). take n (get_or new r d).moves.items) one.count ∙ ap (λ (xs : List ℕ). take (get_or from r d).count xs) one.moves
          ∙ was.legal;
    }
