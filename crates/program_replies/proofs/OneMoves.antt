-- Games that tell the same have one reply of `moves`.
use Rattle.std.proofs.Common.{ℕ, ◌<◌, ◌≡◌, ◌++◌, ◌∷◌, [], Bool, List, length, get_or, refl, sym, ◌∙◌, ap}
use Rattle.std.specs.Prelude.{All, codes, ◌==◌, if◌then◌else◌}
use Rattle.std.specs.Fmt.{decimal}
use Rattle.std.specs.List.{flat_map, list_any, range_with_len}
use Rattle.std.proofs.lemmas.List.Elements.{All-head, All-tail}
use Rattle.game.proofs.Facts.{all_below, any_alike}
use Rattle.statement.specs.NamedRules.{NamedRules}
use Rattle.statement.specs.Rules.{State, all_roles, is_stuck}
use Rattle.game.specs.SamePlay.{SamePlay}
use Rattle.program_replies.proofs.OneHistory.{some_history, one_history_reply}
use Rattle.statement.specs.Answers.{Reply}
use Rattle.statement.specs.Moving.{goal_line, legal_line, goal_lines, legal_lines, moves_lines, history_reply, IsMovesReply}

-- what is made of a list by two functions that agree on its elements
pub flat_maps_alike : (f e : ℕ → List ℕ) (xs : List ℕ) → All (λ x. f x ≡ e x) xs → flat_map f xs ≡ flat_map e xs
flat_maps_alike f e [] h = refl
flat_maps_alike f e (x ∷ xs) h =
    let P = λ (y : ℕ). f y ≡ e y in
    ap (λ (ys : List ℕ). ys ++ flat_map f xs) (All-head P x xs h) ∙ ap (λ (ys : List ℕ). e x ++ ys) (flat_maps_alike f e xs (All-tail P x xs h))

abbrev lines_by : Bool → Bool → List ℕ → List ℕ → List ℕ
lines_by ended stuck goals legals =
    if ended then codes "state ended" ++ 10 ∷ goals
    else if stuck then codes "state stuck" ++ 10 ∷ legals
    else codes "state open" ++ 10 ∷ legals

module _ (g h : NamedRules) (same : SamePlay g h) where
  goal_alike : (s : State) (r : ℕ) → r < g.rules.roles → goal_line g s r ≡ goal_line h s r
  goal_alike s r lt =
      ap (λ (name : List ℕ). codes "goal " ++ name ++ 32 ∷ decimal (g.rules.goal s r) ++ 10 ∷ []) (same.role_names r lt)
      ∙ ap (λ (v : ℕ). codes "goal " ++ h.role_name r ++ 32 ∷ decimal v ++ 10 ∷ []) (same.goal s r lt)

  legal_alike : (r m : ℕ) → r < g.rules.roles → m < g.rules.moves r → legal_line g r m ≡ legal_line h r m
  legal_alike r m lt known =
      ap (λ (name : List ℕ). codes "legal " ++ name ++ 32 ∷ g.move_name r m ++ 10 ∷ []) (same.role_names r lt)
      ∙ ap (λ (name : List ℕ). codes "legal " ++ h.role_name r ++ 32 ∷ name ++ 10 ∷ []) (same.move_names r m lt known)

  legals_alike : (s : State) (r : ℕ) → r < g.rules.roles → flat_map (legal_line g r) (g.rules.legal s r)
      ≡ flat_map (legal_line h r) (h.rules.legal s r)
  legals_alike s r lt =
      flat_maps_alike (legal_line g r) (legal_line h r) (g.rules.legal s r)
      (λ k d inside. legal_alike r (get_or (g.rules.legal s r) k d) lt (same.known s r lt k d inside))
      ∙ ap (flat_map (legal_line h r)) (same.legal s r lt)

  all_goals_alike : (s : State) → goal_lines g s ≡ goal_lines h s
  all_goals_alike s =
      flat_maps_alike (goal_line g s) (goal_line h s) (all_roles g.rules)
      (all_below (λ r. goal_line g s r ≡ goal_line h s r) g.rules.roles (goal_alike s))
      ∙ ap (λ (n : ℕ). flat_map (goal_line h s) (range_with_len 0 n)) same.roles

  all_legals_alike : (s : State) → legal_lines g s ≡ legal_lines h s
  all_legals_alike s =
      let f = λ (r : ℕ). flat_map (legal_line g r) (g.rules.legal s r) in
      let e = λ (r : ℕ). flat_map (legal_line h r) (h.rules.legal s r) in
      flat_maps_alike f e (all_roles g.rules) (all_below (λ r. f r ≡ e r) g.rules.roles (legals_alike s))
      ∙ ap (λ (n : ℕ). flat_map e (range_with_len 0 n)) same.roles

  stuck_alike : (s : State) → is_stuck g.rules s ≡ is_stuck h.rules s
  stuck_alike s =
      any_alike (λ q. length (g.rules.legal s q) == 0) (λ q. length (h.rules.legal s q) == 0) (all_roles g.rules)
      (all_below _ g.rules.roles (λ q lt. ap (λ (ms : List ℕ). length ms == 0) (same.legal s q lt)))
      ∙ ap (λ (n : ℕ). list_any (λ q. length (h.rules.legal s q) == 0) (range_with_len 0 n)) same.roles

  lines_alike : (s : State) → moves_lines g s ≡ moves_lines h s
  lines_alike s =
      ap (λ (b : Bool). lines_by b (is_stuck g.rules s) (goal_lines g s) (legal_lines g s)) (same.ended s)
      ∙ ap (λ (b : Bool). lines_by (h.rules.ended s) b (goal_lines g s) (legal_lines g s)) (stuck_alike s)
      ∙ ap (λ (goals : List ℕ). lines_by (h.rules.ended s) (is_stuck h.rules s) goals (legal_lines g s)) (all_goals_alike s)
      ∙ ap (lines_by (h.rules.ended s) (is_stuck h.rules s) (goal_lines h s)) (all_legals_alike s)

  pub one_moves : (after : List ℕ) (reply other : Reply) → IsMovesReply g after reply → IsMovesReply h after other → reply ≡ other
  one_moves after reply other p q =
      p.2 ∙ one_history_reply g h same (moves_lines g) (moves_lines h) lines_alike after p.0 q.0 p.1 q.1 ∙ sym q.2

pub some_moves : (g : NamedRules) (after : List ℕ) → (reply : Reply) × IsMovesReply g after reply
some_moves g after =
    let history = some_history g after in
    (history_reply g (moves_lines g) history.0, (history.0, history.1, refl))
