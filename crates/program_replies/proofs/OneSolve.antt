-- Each role and history has one reply to `solve`.
use Rattle.std.proofs.Common.{ℕ, ◌+◌, ◌<◌, ◌≡◌, ◌++◌, ◌∷◌, [], inl, inr, List, Option, Some, None, map, refl, sym, ◌∙◌, ap, subst}
use Rattle.std.specs.Prelude.{All, IfSome, find, codes, slice_index}
use Rattle.std.specs.Fmt.{decimal}
use Rattle.std.specs.List.{range_with_len}
use Rattle.std.proofs.lemmas.List.Elements.{All-head, All-tail}
use Rattle.kif.proofs.Facts.{reads_once}
use Rattle.statement.specs.Tree.{Trees, no_trees, tree, text, name_eq}
use Rattle.game.proofs.Facts.{all_below, maps_alike, finds_alike, found_within, choice_within, line_within, value_alike, choice_alike, line_alike}
use Rattle.statement.specs.declared.at_bound.AtBound.{AtBound}
use Rattle.statement.specs.NamedRules.{NamedRules}
use Rattle.statement.specs.Rules.{State, Turn, IsTurn, all_roles}
use Rattle.game.specs.SamePlay.{SamePlay}
use Rattle.statement.specs.Value.{value, choice_of, line_of}
use Rattle.program_replies.proofs.OneHistory.{some_history, one_history_reply}
use Rattle.program_searches.proofs.MoveFacts.{fault_or_trees, not_fault_and_trees}
use Rattle.statement.specs.Answers.{Reply, refusal}
use Rattle.statement.specs.Checking.{count_line, spaced}
use Rattle.statement.specs.Moving.{history_reply}
use Rattle.statement.specs.Solving.{role_named_in, IsRoleNamed, choice_text, move_line, move_texts, turn_line, turn_lines, solve_lines, IsSolveReply}

-- Roles.

pub some_role : (g : NamedRules) (bytes : List ℕ) → (found : Option ℕ) × IsRoleNamed g bytes found
some_role g bytes =
    elim (fault_or_trees bytes) [
      | inl fault ↦ (None, inl (fault.0, fault.1, fault.2, refl))
      | inr read ↦ (role_named_in g read.0, inr (read.0, read.1, refl))
    ]

role_alike : (g h : NamedRules) → SamePlay g h → (ts : Trees) → role_named_in g ts ≡ role_named_in h ts
role_alike g h same no_trees = refl
role_alike g h same (tree t no_trees) =
    finds_alike (λ r. name_eq (text t) (g.role_name r)) (λ r. name_eq (text t) (h.role_name r)) (all_roles g.rules)
    (all_below (λ r. name_eq (text t) (g.role_name r) ≡ name_eq (text t) (h.role_name r)) g.rules.roles
    (λ r lt. ap (name_eq (text t)) (same.role_names r lt)))
    ∙ ap (λ (n : ℕ). find (λ r. name_eq (text t) (h.role_name r)) (range_with_len 0 n)) same.roles
role_alike g h same (tree t (tree u us)) = refl

pub one_role : (g h : NamedRules) → SamePlay g h → (bytes : List ℕ) (found other : Option ℕ) → IsRoleNamed g bytes found → IsRoleNamed h bytes other
    → found ≡ other
one_role g h same bytes found other (inl p) (inl q) = p.3 ∙ sym q.3
one_role g h same bytes found other (inl p) (inr q) = absurd (not_fault_and_trees bytes p.0 q.0 p.1 p.2 q.1)
one_role g h same bytes found other (inr p) (inl q) = absurd (not_fault_and_trees bytes q.0 p.0 q.1 q.2 p.1)
one_role g h same bytes found other (inr p) (inr q) = p.2 ∙ role_alike g h same p.0 ∙ ap (role_named_in h) (reads_once bytes p.0 q.0 p.1 q.1) ∙ sym q.2

role_within : (g : NamedRules) (ts : Trees) → IfSome (role_named_in g ts) (λ r. r < g.rules.roles)
role_within g no_trees = tt
role_within g (tree t no_trees) =
    found_within (λ r. r < g.rules.roles) (λ r. name_eq (text t) (g.role_name r)) (all_roles g.rules)
    (all_below (λ r. r < g.rules.roles) g.rules.roles (λ r lt. lt))
role_within g (tree t (tree u us)) = tt

pub role_known : (g : NamedRules) (bytes : List ℕ) (found : Option ℕ) → IsRoleNamed g bytes found → IfSome found (λ r. r < g.rules.roles)
role_known g bytes found (inl p) = subst (λ (o : Option ℕ). IfSome o (λ r. r < g.rules.roles)) (sym p.3) tt
role_known g bytes found (inr p) = subst (λ (o : Option ℕ). IfSome o (λ r. r < g.rules.roles)) (sym p.2) (role_within g p.0)

-- Lines.

texts_alike : (g h : NamedRules) → SamePlay g h → (j : Turn) → IsTurn g.rules j → move_texts g j ≡ move_texts h j
texts_alike g h same j turn =
    maps_alike (λ q. g.move_name q (slice_index j q)) (λ q. h.move_name q (slice_index j q)) (all_roles g.rules)
    (all_below (λ q. g.move_name q (slice_index j q) ≡ h.move_name q (slice_index j q)) g.rules.roles
    (λ q lt. same.move_names q (slice_index j q) lt (turn.each_known q lt)))
    ∙ ap (λ (n : ℕ). map (λ q. h.move_name q (slice_index j q)) (range_with_len 0 n)) same.roles

pub turns_alike : (g h : NamedRules) → SamePlay g h → (number : ℕ) (js : List Turn) → All (IsTurn g.rules) js
    → turn_lines g number js ≡ turn_lines h number js
turns_alike g h same number [] all = refl
turns_alike g h same number (j ∷ js) all =
    ap (λ (ts : List (List ℕ)). (codes "line " ++ decimal number ++ spaced ts ++ 10 ∷ []) ++ turn_lines g (number + 1) js)
    (texts_alike g h same j (All-head (IsTurn g.rules) j js all))
    ∙ ap (λ (rest : List ℕ). turn_line h number j ++ rest) (turns_alike g h same (number + 1) js (All-tail (IsTurn g.rules) j js all))

chosen_alike : (g h : NamedRules) → SamePlay g h → (role : ℕ) → role < g.rules.roles → (o : Option ℕ) → IfSome o (λ m. m < g.rules.moves role)
    → choice_text g role o ≡ choice_text h role o
chosen_alike g h same role lt None within = refl
chosen_alike g h same role lt (Some own) within = same.move_names role own lt within

pub lines_alike : (g h : NamedRules) → SamePlay g h → (role : ℕ) → role < g.rules.roles → (depth : ℕ) (at : AtBound) (s : State)
    → solve_lines g role depth at s ≡ solve_lines h role depth at s
lines_alike g h same role lt depth at s =
    ap (λ (v : ℕ). count_line (codes "value") v ++ move_line (choice_text g role (choice_of g.rules role depth at s))
    ++ turn_lines g 1 (line_of g.rules role depth at s))
    (value_alike g h same role lt depth at s)
    ∙ ap (λ (words : List ℕ). count_line (codes "value") (value h.rules role depth at s) ++ move_line words
    ++ turn_lines g 1 (line_of g.rules role depth at s))
    (chosen_alike g h same role lt (choice_of g.rules role depth at s) (choice_within g.rules same.known role depth at s lt)
    ∙ ap (choice_text h role) (choice_alike g h same role lt depth at s))
    ∙ ap (λ (lines : List ℕ). count_line (codes "value") (value h.rules role depth at s)
    ++ move_line (choice_text h role (choice_of h.rules role depth at s)) ++ lines)
    (turns_alike g h same 1 (line_of g.rules role depth at s) (line_within g.rules same.known role depth at s lt)
    ∙ ap (turn_lines h 1) (line_alike g h same role lt depth at s))

-- Replies.

pub some_solve : (g : NamedRules) (role : List ℕ) (depth : ℕ) (at : AtBound) (after : List ℕ)
    → (reply : Reply) × IsSolveReply g role depth at after reply
some_solve g role depth at after = found (some_role g role).0 (some_role g role).1
  where
    found : (o : Option ℕ) → IsRoleNamed g role o → (reply : Reply) × IsSolveReply g role depth at after reply
    found None named = (refusal (codes "S1 NoSuchRole"), inl (named, refl))
    found (Some r) named =
        let ended = some_history g after in
        (history_reply g (solve_lines g r depth at) ended.0, inr (r, (named, ended.0, ended.1, refl)))

-- games that tell the same have the same reply
pub one_solve : (g h : NamedRules) → SamePlay g h → (role : List ℕ) (depth : ℕ) (at : AtBound) (after : List ℕ) (reply other : Reply)
    → IsSolveReply g role depth at after reply → IsSolveReply h role depth at after other → reply ≡ other
one_solve g h same role depth at after reply other (inl p) (inl q) = p.1 ∙ sym q.1
one_solve g h same role depth at after reply other (inl p) (inr q) = let e : None ≡ Some q.0 = one_role g h same role None (Some q.0) p.0 q.1.0 in
    absurd cc
one_solve g h same role depth at after reply other (inr p) (inl q) = let e : Some p.0 ≡ None = one_role g h same role (Some p.0) None p.1.0 q.0 in
    absurd cc
one_solve g h same role depth at after reply other (inr p) (inr q) =
    let e : Some p.0 ≡ Some q.0 = one_role g h same role (Some p.0) (Some q.0) p.1.0 q.1.0 in
    let r : p.0 ≡ q.0 = cc in
    let lt : p.0 < g.rules.roles = role_known g role (Some p.0) p.1.0 in
    p.1.3
    ∙ one_history_reply g h same (solve_lines g p.0 depth at) (solve_lines h q.0 depth at)
    (λ s. lines_alike g h same p.0 lt depth at s ∙ ap (λ (n : ℕ). solve_lines h n depth at s) r) after p.1.1 q.1.1 p.1.2 q.1.2
    ∙ sym q.1.3
