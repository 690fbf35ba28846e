-- Faults of items, and roles at places.
use Rattle.std.proofs.Common.{ℕ, Bool, true, false, ◌≡◌, ◌<◌, ◌+◌, inl, List, [], ◌∷◌, ◌++◌, map, take, length, get_or, refl, sym, ap, ◌∙◌, append_assoc}
use Rattle.std.specs.Bool.{OnTrue}
use Rattle.std.proofs.lemmas.List.{take_more, map-append}
use Rattle.statement.specs.Tree.{Tree, text}
use Rattle.statement.specs.RuleFaults.{IsRuleFault}
use Rattle.statement.specs.declared.rule_fault.RuleFault.{RuleFault}
use Rattle.statement.specs.declared.rule_fault.RuleFault.TheVariants as rules
use Rattle.rules_profile.specs.Stated.{role_stated, roles_at}
use Rattle.unroll_strata.specs.Lawful.{IsItemsFault}

pub items_fault : (items : List Tree) (fault : RuleFault) → ((n : ℕ) → fault ≡ rules.Recursive n → ⊥) → (fault ≡ rules.NoMemory → ⊥)
    → IsRuleFault items fault → IsItemsFault items fault
items_fault items (rules.BadForm n) r m h = h
items_fault items (rules.BadKeyword n) r m h = h
items_fault items (rules.TooMany n excess) r m h = h
items_fault items (rules.Unsafe n) r m h = h
items_fault items (rules.Recursive n) r m h = absurd (r n refl)
items_fault items (rules.BadDependence n) r m h = inl h
items_fault items rules.NoRole r m h = inl h
items_fault items rules.NoMemory r m h = absurd (m refl)

roles_append : (ts : List Tree) (xs ys : List ℕ) → roles_at ts (xs ++ ys) ≡ roles_at ts xs ++ roles_at ts ys
roles_append ts [] ys = refl
roles_append ts (x ∷ xs) ys =
    ap (λ (us : List Tree). role_stated ts x ++ us) (roles_append ts xs ys) ∙ sym (append_assoc (role_stated ts x) (roles_at ts xs) (roles_at ts ys))

append_none : (us : List Tree) → us ++ [] ≡ us
append_none [] = refl
append_none (u ∷ us) = ap (λ (vs : List Tree). u ∷ vs) (append_none us)

-- one role more
pub one_role : (ts : List Tree) (ps : List ℕ) (i p d : ℕ) (texts : List (List ℕ)) → i < length ps → p ≡ get_or ps i d → i < length texts
    → map text (roles_at ts (take i ps)) ≡ take i texts → map text (role_stated ts p) ≡ get_or texts i [] ∷ []
    → map text (roles_at ts (take (i + 1) ps)) ≡ take (i + 1) texts
one_role ts ps i p d texts h is g so_far here =
    ap (λ (ks : List ℕ). map text (roles_at ts ks)) (take_more ps i d h ∙ ap (λ k. take i ps ++ k ∷ []) (sym is))
    ∙ ap (map text) (roles_append ts (take i ps) (p ∷ []) ∙ ap (λ (us : List Tree). roles_at ts (take i ps) ++ us) (append_none (role_stated ts p)))
    ∙ map-append text (roles_at ts (take i ps)) (role_stated ts p)
    ∙ ap (λ (xs : List (List ℕ)). xs ++ map text (role_stated ts p)) so_far
    ∙ ap (λ (xs : List (List ℕ)). take i texts ++ xs) here ∙ sym (take_more texts i [] g)

-- Tests.

pub on_true : (b : Bool) (P : Type 0) → (b ≡ true → P) → OnTrue b P
on_true true P f = f refl
on_true false P f = tt

pub true_on : (b : Bool) (P : Type 0) → OnTrue b P → b ≡ true → P
true_on true P h e = h
true_on false P h e = absurd (let bad : ⊥ = cc in bad)
