-- How owners and relations that have instances are added.
use Rattle.std.proofs.Common.{ℕ, zero, suc, ◌<◌, Bool, true, ◌≡◌, ◌≢◌, ◌⊎◌, inl, inr, List, length, sym, ap, subst, ◌∙◌, arith, Option, Some, None, get_or, set, replicate}
use Rattle.std.specs.Prelude.{◌||◌, IfSome, is_some}
use Rattle.std.proofs.lemmas.List.{get_or-set_same, get_or-set_other}
use Rattle.statement.specs.Clause.{Alternative, Relation, relation_eq}
use Rattle.statement.specs.Dependence.{IsAmong, is_among}
use Rattle.statement.specs.Kept.{Kept}
use Rattle.rules_profile.proofs.Facts.{or_cases, relation_eq_yes}
use Rattle.unroll_layers.specs.Owners.{IsOf, AsksOnly, owner_of, AreOwners, HasAsking, AllAsk}

pub equal_or : (x y : ℕ) → (x ≡ y) ⊎ (x ≢ y)
equal_or x y = grind arith

-- one more owner
pub owner_added : (tops : List Bool) (kept : List Kept) (owners : List (Option ℕ)) (b : ℕ) (i : Kept) → AreOwners tops kept owners → b < length owners
    → IsAmong i kept → IsOf tops i → AsksOnly i b → AreOwners tops kept (set owners b (Some i.head))
owner_added tops kept owners b i before lt among of asks c v e = go (equal_or c b)
  where
    go : (c ≡ b) ⊎ (c ≢ b) → (j : Kept) × IsAmong j kept × IsOf tops j × AsksOnly j c × (j.head ≡ v)
    go (inl same) =
        let h : Some i.head ≡ Some v = sym (get_or-set_same owners b (Some i.head) None lt) ∙ ap (λ (k : ℕ). owner_of (set owners b (Some i.head)) k) (sym same) ∙ e in
        (i, among, of, subst (λ (k : ℕ). AsksOnly i k) (sym same) asks, cc)
    go (inr other) = before c v (sym (get_or-set_other owners b c (Some i.head) None other) ∙ e)

pub none_owned : (tops : List Bool) (kept : List Kept) (n : ℕ) → AreOwners tops kept (replicate n None)
none_owned tops kept n b v e = absurd (no_owner n b e)
  where
    no_owner : (m c : ℕ) → get_or (replicate m None) c None ≡ Some v → ⊥
    no_owner zero c h = absurd cc
    no_owner (suc m) zero h = absurd cc
    no_owner (suc m) (suc c) h = no_owner m c h

-- one more relation that has an instance
pub asking_added : (rules : List Alternative) (kept : List Kept) (old new : List Relation) (q : Relation)
    → ((p : Relation) → is_among p new ≡ (is_among p old || relation_eq p q)) → HasAsking rules kept q → AllAsk rules kept old → AllAsk rules kept new
asking_added rules kept old new q one here before p a = go (or_cases (is_among p old) (relation_eq p q) (sym (one p) ∙ a))
  where
    go : (is_among p old ≡ true) ⊎ (relation_eq p q ≡ true) → HasAsking rules kept p
    go (inl h) = before p h
    go (inr h) = subst (λ (r : Relation). HasAsking rules kept r) (sym (relation_eq_yes p q h)) here

-- what is asked, where something is
pub some_found : (o : Option ℕ) (P : ℕ → Type 0) → IfSome o P → is_some o ≡ true → (b : ℕ) × P b
some_found None P h e = absurd cc
some_found (Some b) P h e = (b, h)
