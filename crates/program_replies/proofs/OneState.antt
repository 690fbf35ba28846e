-- Games that tell the same have one reply of `state`.
use Rattle.std.proofs.Common.{ℕ, ◌≡◌, ◌++◌, ◌∷◌, Bool, cond, List, codes, refl, sym, ◌∙◌, ap}
use Rattle.statement.specs.Clause.{Alternative}
use Rattle.statement.specs.NamedRules.{NamedRules}
use Rattle.statement.specs.Rules.{State, is_stuck}
use Rattle.statement.specs.Answers.{Reply}
use Rattle.statement.specs.Moving.{history_reply}
use Rattle.statement.specs.Holding.{true_lines, state_lines, IsStateReply}
use Rattle.game.specs.SamePlay.{SamePlay}
use Rattle.game.proofs.Facts.{stuck_alike}
use Rattle.program_replies.proofs.OneHistory.{some_history, one_history_reply}

abbrev lines_by : Bool → Bool → List ℕ → List ℕ
lines_by ended stuck lines =
    cond ended (codes "state ended" ++ 10 ∷ lines) (cond stuck (codes "state stuck" ++ 10 ∷ lines) (codes "state open" ++ 10 ∷ lines))

state_alike : (rules : List Alternative) (g h : NamedRules) → SamePlay g h → (s : State) → state_lines rules g s ≡ state_lines rules h s
state_alike rules g h same s =
    ap (λ (b : Bool). lines_by b (is_stuck g.rules s) (true_lines rules s)) (same.ended s)
    ∙ ap (λ (b : Bool). lines_by (h.rules.ended s) b (true_lines rules s)) (stuck_alike g h same s)

pub one_state : (rules : List Alternative) (g h : NamedRules) → SamePlay g h → (after : List ℕ) (reply other : Reply)
    → IsStateReply rules g after reply → IsStateReply rules h after other → reply ≡ other
one_state rules g h same after reply other p q =
    p.2 ∙ one_history_reply g h same (state_lines rules g) (state_lines rules h) (state_alike rules g h same) after p.0 q.0 p.1 q.1 ∙ sym q.2

pub some_state : (rules : List Alternative) (g : NamedRules) (after : List ℕ) → (reply : Reply) × IsStateReply rules g after reply
some_state rules g after =
    let history = some_history g after in
    (history_reply g (state_lines rules g) history.0, (history.0, history.1, refl))
