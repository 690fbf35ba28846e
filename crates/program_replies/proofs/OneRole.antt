-- Each role and history has one reply to what is asked for a role.
use Rattle.std.proofs.Common.{ℕ, ◌<◌, ◌≡◌, inl, inr, List, Option, Some, None, codes, refl, sym, ◌∙◌, ap}
use Rattle.statement.specs.NamedRules.{NamedRules}
use Rattle.statement.specs.Rules.{State}
use Rattle.statement.specs.Answers.{Reply, refusal}
use Rattle.statement.specs.Moving.{history_reply}
use Rattle.statement.specs.Solving.{IsRoleNamed}
use Rattle.statement.specs.ForRole.{IsRoleReply}
use Rattle.game.specs.SamePlay.{SamePlay}
use Rattle.program_replies.proofs.OneHistory.{some_history, one_history_reply}
use Rattle.program_replies.proofs.OneSolve.{some_role, one_role, role_known}

pub some_for_role : (g : NamedRules) (role : List ℕ) (lines : ℕ → State → List ℕ) (after : List ℕ)
    → (reply : Reply) × IsRoleReply g role lines after reply
some_for_role g role lines after = found (some_role g role).0 (some_role g role).1
  where
    found : (o : Option ℕ) → IsRoleNamed g role o → (reply : Reply) × IsRoleReply g role lines after reply
    found None named = (refusal (codes "S1 NoSuchRole"), inl (named, refl))
    found (Some r) named =
        let ended = some_history g after in
        (history_reply g (lines r) ended.0, inr (r, (named, ended.0, ended.1, refl)))

-- where the same is told for each role of each state, there is one reply
pub one_for_role : (g h : NamedRules) → SamePlay g h → (role : List ℕ) (lines others : ℕ → State → List ℕ)
    → ((r : ℕ) → r < g.rules.roles → (s : State) → lines r s ≡ others r s) → (after : List ℕ) (reply other : Reply)
    → IsRoleReply g role lines after reply → IsRoleReply h role others after other → reply ≡ other
one_for_role g h same role lines others alike after reply other (inl p) (inl q) = p.1 ∙ sym q.1
one_for_role g h same role lines others alike after reply other (inl p) (inr q) =
    let e : None ≡ Some q.0 = one_role g h same role None (Some q.0) p.0 q.1.0 in
    absurd cc
one_for_role g h same role lines others alike after reply other (inr p) (inl q) =
    let e : Some p.0 ≡ None = one_role g h same role (Some p.0) None p.1.0 q.0 in
    absurd cc
one_for_role g h same role lines others alike after reply other (inr p) (inr q) =
    let e : Some p.0 ≡ Some q.0 = one_role g h same role (Some p.0) (Some q.0) p.1.0 q.1.0 in
    let r : p.0 ≡ q.0 = cc in
    let lt : p.0 < g.rules.roles = role_known g role (Some p.0) p.1.0 in
    p.1.3
    ∙ one_history_reply g h same (lines p.0) (others q.0) (λ s. alike p.0 lt s ∙ ap (λ (n : ℕ). others n s) r) after p.1.1 q.1.1 p.1.2 q.1.2
    ∙ sym q.1.3
