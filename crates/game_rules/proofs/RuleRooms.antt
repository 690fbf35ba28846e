-- The room of a state of rules.
use Rattle.std.proofs.Common.{◌≡◌, ℕ, ◌<◌, List, length, get_or, get_or-set_same, get_or-set_other, sym, ap, ◌∙◌, inl, inr}
use Rattle.std.proofs.Math.ListN.{set, length-set}
use Rattle.std.proofs.lemmas.Bool.{cases_eq}
use Rattle.ground_instances.specs.Grounds.{texts_at}
use Rattle.game_rules.specs.declared.role_state.RoleState.{RoleState}
use Rattle.game_rules.proofs.Facts.{room_set}
use Rattle.game_rules.specs.declared.rule_many.RuleBase.{RuleBase}
use Rattle.game_rules.specs.declared.rule_pos.MoveMarks.{MoveMarks}
use Rattle.game_rules.specs.RuleRoom.{HasMarkedRoom, HaveMarkedRoom}

-- the room of a state that is read out of a list
pub base_room : (ps : List RuleBase) (k : ℕ) (p : RuleBase) (n : ℕ) → length (get_or ps k p).marks.items ≡ n → p ≡ get_or ps k p
    → length p.marks.items ≡ n
base_room ps k p n e is = ap (λ (q : RuleBase). length q.marks.items) is ∙ e

-- the same of the marks of a role
pub marks_room : (inputs : List (List (List ℕ))) (ms : List MoveMarks) {fs : List RoleState} (r : ℕ) (m : MoveMarks) → m ≡ get_or ms r m
    → r < length inputs → HaveMarkedRoom inputs ms fs → length m.marks.items ≡ length (texts_at inputs r)
marks_room inputs ms r m is lt room = ap (λ (n : MoveMarks). length n.marks.items) is ∙ room.each r m lt

-- the room of all roles, where that of one is written
pub marks_set : (inputs : List (List (List ℕ))) (ms : List MoveMarks) (fs : List RoleState) (r : ℕ) (m : MoveMarks) (f : RoleState)
    → HaveMarkedRoom inputs ms fs → r < length ms → r < length fs → HasMarkedRoom (length (texts_at inputs r)) m f
    → HaveMarkedRoom inputs (set ms r m) (set fs r f)
marks_set inputs ms fs r m f room inside within one = record {
  size = length-set ms r m ∙ room.size;
  each = λ k d below. elim (cases_eq k r) [
    | inl same ↦
        ap (λ (i : ℕ). length (get_or (set ms r m) i d).marks.items) same
        ∙ ap (λ (n : MoveMarks). length n.marks.items) (get_or-set_same ms r m d inside)
        ∙ one.marks ∙ sym (ap (λ (i : ℕ). length (texts_at inputs i)) same)
    | inr other ↦ ap (λ (n : MoveMarks). length n.marks.items) (get_or-set_other ms r k m d other) ∙ room.each k d below
  ];
  roles = room_set inputs fs r f room.roles within one.moves;
}
