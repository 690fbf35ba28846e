-- Each list of items has one reply of `check`.
use Rattle.std.proofs.Common.{ℕ, ◌≡◌, ◌≢◌, ◌⊎◌, inl, inr, List, length, map, refl, sym, ◌∙◌, ap}
use Rattle.std.specs.Prelude.{Option, Some, None}
use Rattle.statement.specs.Tree.{Tree, text}
use Rattle.statement.specs.RuleFaults as rules
use Rattle.statement.specs.Items.{alternatives}
use Rattle.statement.specs.Order.{relations_in_order}
use Rattle.statement.specs.Profile.{ItemFault, Limit, rules_limit, variables_limit, alternatives_limit, roles_limit, bad_form}
use Rattle.statement.specs.Profile.{bad_keyword, too_many, not_safe, recursive, bad_dependence, no_role, item_fault_in, HasNoFault, roles}
use Rattle.statement.specs.RuleFaultTexts.{rule_fault_words}
use Rattle.statement.specs.declared.rule_fault.RuleExcess.{RuleExcess as Excess}
use Rattle.statement.specs.declared.rule_fault.RuleExcess.TheVariants as excesses
use Rattle.statement.specs.declared.rule_fault.RuleFault.{RuleFault}
use Rattle.statement.specs.declared.rule_fault.RuleFault.TheVariants as faults
use Rattle.statement.specs.Answers.{Reply, answer, refusal}
use Rattle.statement.specs.Checking.{check_lines, RefusesItems, IsCheckReply}

-- the checker's names for a limit and a fault
abbrev excess_of : Limit → Excess
excess_of rules_limit = excesses.Rules
excess_of variables_limit = excesses.Variables
excess_of alternatives_limit = excesses.Alternatives
excess_of roles_limit = excesses.Roles

abbrev named : ItemFault → RuleFault
named (bad_form n) = faults.BadForm n
named (bad_keyword n) = faults.BadKeyword n
named (too_many n l) = faults.TooMany n (excess_of l)
named (not_safe n) = faults.Unsafe n
named (recursive n) = faults.Recursive n
named (bad_dependence n) = faults.BadDependence n
named no_role = faults.NoRole

-- a fault by both names
record IsNamed (items : List Tree) (e : RuleFault) : Type 0 where
  fault : ItemFault
  stands : item_fault_in items ≡ Some fault
  same : e ≡ named fault

excess_named : (x : Excess) → (l : Limit) × (rules.limit_of x ≡ l) × (x ≡ excess_of l)
excess_named excesses.Rules = (rules_limit, refl, refl)
excess_named excesses.Variables = (variables_limit, refl, refl)
excess_named excesses.Alternatives = (alternatives_limit, refl, refl)
excess_named excesses.Roles = (roles_limit, refl, refl)

named_of : (items : List Tree) (e : RuleFault) → e ≢ faults.NoMemory → rules.IsRuleFault items e → IsNamed items e
named_of items (faults.BadForm n) other h = record { fault = bad_form n; stands = h; same = refl }
named_of items (faults.BadKeyword n) other h = record { fault = bad_keyword n; stands = h; same = refl }
named_of items (faults.Unsafe n) other h = record { fault = not_safe n; stands = h; same = refl }
named_of items (faults.Recursive n) other h = record { fault = recursive n; stands = h; same = refl }
named_of items (faults.BadDependence n) other h = record { fault = bad_dependence n; stands = h; same = refl }
named_of items faults.NoRole other h = record { fault = no_role; stands = h; same = refl }
named_of items (faults.TooMany n x) other h =
    let limit = excess_named x in
    record {
      fault = too_many n limit.0;
      stands = h ∙ ap (λ (l : Limit). Some (too_many n l)) limit.1;
      same = ap (λ (y : Excess). faults.TooMany n y) limit.2;
    }
named_of items faults.NoMemory other h = absurd (other refl)

limit_named : (l : Limit) → rules.limit_of (excess_of l) ≡ l
limit_named rules_limit = refl
limit_named variables_limit = refl
limit_named alternatives_limit = refl
limit_named roles_limit = refl

stands_as : (items : List Tree) (f : ItemFault) → item_fault_in items ≡ Some f → RefusesItems items (refusal (rule_fault_words (named f)))
stands_as items (bad_form n) h = (faults.BadForm n, (λ e. cc), h, refl)
stands_as items (bad_keyword n) h = (faults.BadKeyword n, (λ e. cc), h, refl)
stands_as items (too_many n l) h =
    (faults.TooMany n (excess_of l), (λ e. cc), h ∙ ap (λ (m : Limit). Some (too_many n m)) (sym (limit_named l)), refl)
stands_as items (not_safe n) h = (faults.Unsafe n, (λ e. cc), h, refl)
stands_as items (recursive n) h = (faults.Recursive n, (λ e. cc), h, refl)
stands_as items (bad_dependence n) h = (faults.BadDependence n, (λ e. cc), h, refl)
stands_as items no_role h = (faults.NoRole, (λ e. cc), h, refl)

abbrev lines_for : List Tree → List ℕ
lines_for items = check_lines (length items) (length (alternatives items)) (length (relations_in_order (alternatives items))) (map text (roles items))

-- items have a fault, with the reply that names it, or they have none
pub some_verdict : (items : List Tree) → ((reply : Reply) × RefusesItems items reply) ⊎ HasNoFault items
some_verdict items = go (item_fault_in items) refl
  where
    go : (found : Option ItemFault) → item_fault_in items ≡ found → ((reply : Reply) × RefusesItems items reply) ⊎ HasNoFault items
    go (Some f) e = inl (refusal (rule_fault_words (named f)), stands_as items f e)
    go None e = inr e

pub some_check : (items : List Tree) → (reply : Reply) × IsCheckReply items reply
some_check items = elim (some_verdict items) [
  | inl refused ↦ (refused.0, inl refused.1)
  | inr lawful ↦ (answer (lines_for items), inr (lawful, refl))
]

one_fault : (items : List Tree) (e f : RuleFault) → IsNamed items e → IsNamed items f → e ≡ f
one_fault items e f p q =
    let same : Some p.fault ≡ Some q.fault = sym p.stands ∙ q.stands in
    let one : p.fault ≡ q.fault = cc in
    p.same ∙ ap named one ∙ sym q.same

no_fault_and_none : (items : List Tree) (e : RuleFault) → IsNamed items e → HasNoFault items → ⊥
no_fault_and_none items e p none =
    let stands = p.stands in
    cc

pub one_refusal : (items : List Tree) (reply other : Reply) → RefusesItems items reply → RefusesItems items other → reply ≡ other
one_refusal items reply other p q =
    let same = one_fault items p.0 q.0 (named_of items p.0 p.1 p.2) (named_of items q.0 q.1 q.2) in
    p.3 ∙ ap (λ e. refusal (rule_fault_words e)) same ∙ sym q.3

pub refused_or_lawful : (items : List Tree) (reply : Reply) → RefusesItems items reply → HasNoFault items → ⊥
refused_or_lawful items reply p none = no_fault_and_none items p.0 (named_of items p.0 p.1 p.2) none

pub one_check : (items : List Tree) (reply other : Reply) → IsCheckReply items reply → IsCheckReply items other → reply ≡ other
one_check items reply other (inl p) (inl q) = one_refusal items reply other p q
one_check items reply other (inl p) (inr q) = absurd (refused_or_lawful items reply p q.0)
one_check items reply other (inr p) (inl q) = absurd (refused_or_lawful items other q p.0)
one_check items reply other (inr p) (inr q) = p.1 ∙ sym q.1
