-- Each text of a history leads to one state or fault, and to one reply.
use Rattle.std.proofs.Common.{ℕ, ◌≡◌, ◌++◌, ◌∷◌, inl, inr, List, refl, sym, ◌∙◌, ap, subst}
use Rattle.std.specs.Prelude.{Result, Ok, Err, IfErr}
use Rattle.kif.proofs.Facts.{reads_once}
use Rattle.statement.specs.Tree.{Trees, list_of}
use Rattle.game.proofs.Facts.{role_named, played_alike}
use Rattle.statement.specs.NamedRules.{NamedRules}
use Rattle.statement.specs.Played.{played}
use Rattle.statement.specs.HistoryTexts.{history_fault_words, role_part, IsRoleOf}
use Rattle.statement.specs.Rules.{State}
use Rattle.game.specs.SamePlay.{SamePlay}
use Rattle.statement.specs.declared.history_fault.HistoryFault.{HistoryFault}
use Rattle.statement.specs.declared.history_fault.HistoryFault.TheVariants.{BadForm, NotLegal, Over, Stuck, NoMemory}
use Rattle.program_searches.proofs.MoveFacts.{fault_or_trees, not_fault_and_trees}
use Rattle.statement.specs.Answers.{answer, refusal}
use Rattle.statement.specs.Histories.{IsHistoryOf}
use Rattle.statement.specs.Moving.{history_reply}

pub some_history : (g : NamedRules) (bytes : List ℕ) → (result : Result State HistoryFault) × IsHistoryOf g bytes result
some_history g bytes =
    elim (fault_or_trees bytes) [
      | inl fault ↦ (Err (BadForm 0), inl (fault.0, fault.1, fault.2, refl))
      | inr read ↦ (played g.rules g.move_name (list_of read.0), inr (read.0, read.1, refl))
    ]

-- games that tell the same are led to the same
one_history : (g h : NamedRules) → SamePlay g h → (bytes : List ℕ) (result other : Result State HistoryFault)
    → IsHistoryOf g bytes result → IsHistoryOf h bytes other → result ≡ other
one_history g h same bytes result other (inl p) (inl q) = p.3 ∙ sym q.3
one_history g h same bytes result other (inl p) (inr q) = absurd (not_fault_and_trees bytes p.0 q.0 p.1 p.2 q.1)
one_history g h same bytes result other (inr p) (inl q) = absurd (not_fault_and_trees bytes q.0 p.0 q.1 q.2 p.1)
one_history g h same bytes result other (inr p) (inr q) =
    p.2 ∙ played_alike g h same (list_of p.0)
    ∙ ap (λ (ts : Trees). played h.rules h.move_name (list_of ts)) (reads_once bytes p.0 q.0 p.1 q.1) ∙ sym q.2

-- a fault of a history names a role of the game, if it names one
role_known : (g : NamedRules) (bytes : List ℕ) (result : Result State HistoryFault) → IsHistoryOf g bytes result
    → IfErr result (IsRoleOf g.rules.roles)
role_known g bytes result (inl p) = subst (λ (r : Result State HistoryFault). IfErr r (IsRoleOf g.rules.roles)) (sym p.3) tt
role_known g bytes result (inr p) =
    subst (λ (r : Result State HistoryFault). IfErr r (IsRoleOf g.rules.roles)) (sym p.2) (role_named g.rules g.move_name (list_of p.0))

part_alike : (g h : NamedRules) → SamePlay g h → (fault : HistoryFault) → IsRoleOf g.rules.roles fault
    → role_part g.role_name fault ≡ role_part h.role_name fault
part_alike g h same (BadForm turn) known = refl
part_alike g h same (NotLegal turn role) known = ap (λ (name : List ℕ). 32 ∷ name) (same.role_names role known)
part_alike g h same (Over turn) known = refl
part_alike g h same (Stuck turn) known = refl
part_alike g h same NoMemory known = refl

reply_alike : (g h : NamedRules) → SamePlay g h → (lines others : State → List ℕ) → ((s : State) → lines s ≡ others s)
    → (result : Result State HistoryFault) → IfErr result (IsRoleOf g.rules.roles) → history_reply g lines result ≡ history_reply h others result
reply_alike g h same lines others alike (Ok s) known = ap answer (alike s)
reply_alike g h same lines others alike (Err fault) known =
    ap (λ (part : List ℕ). refusal (history_fault_words fault ++ part)) (part_alike g h same fault known)

-- where the same is told of each state, there is one reply after a history
pub one_history_reply : (g h : NamedRules) → SamePlay g h → (lines others : State → List ℕ) → ((s : State) → lines s ≡ others s)
    → (bytes : List ℕ) (result other : Result State HistoryFault) → IsHistoryOf g bytes result → IsHistoryOf h bytes other
    → history_reply g lines result ≡ history_reply h others other
one_history_reply g h same lines others alike bytes result other p q =
    reply_alike g h same lines others alike result (role_known g bytes result p)
    ∙ ap (history_reply h others) (one_history g h same bytes result other p q)
