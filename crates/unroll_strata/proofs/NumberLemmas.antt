-- Relations by number: what has the number of a known relation is that relation.
use Rattle.std.proofs.Common.{zero, suc, Bool, true, false, cond, ◌≡◌, ◌≤◌, ◌||◌, List, [], ◌∷◌, length, refl, sym, ◌∙◌, arith}
use Rattle.statement.specs.Clause.{Relation, relation_eq}
use Rattle.statement.specs.Dependence.{is_among}
use Rattle.rules_profile.proofs.Facts.{relation_eq_yes}
use Rattle.unroll_strata.specs.Numbering.{number_in}

pub number_within : (known : List Relation) (p : Relation) → number_in known p ≤ length known
number_within [] p = omega arith
number_within (q ∷ qs) p = go (relation_eq p q) (number_within qs p)
  where
    go : (b : Bool) → number_in qs p ≤ length qs → cond b zero (suc (number_in qs p)) ≤ suc (length qs)
    go true h = omega arith
    go false h = omega (arith, h)

pub number_differs : (known : List Relation) (p q : Relation) → is_among p known ≡ true → number_in known p ≡ number_in known q → p ≡ q
number_differs [] p q there same = absurd cc
number_differs (k ∷ ks) p q there same = go (relation_eq p k) (relation_eq q k) refl refl there same (number_differs ks p q)
  where
    go : (a b : Bool) → relation_eq p k ≡ a → relation_eq q k ≡ b → (a || is_among p ks) ≡ true
        → cond a zero (suc (number_in ks p)) ≡ cond b zero (suc (number_in ks q))
        → (is_among p ks ≡ true → number_in ks p ≡ number_in ks q → p ≡ q) → p ≡ q
    go true true e f h s next = relation_eq_yes p k e ∙ sym (relation_eq_yes q k f)
    go true false e f h s next = absurd (let bad : ⊥ = omega (arith, s) in bad)
    go false true e f h s next = absurd (let bad : ⊥ = omega (arith, s) in bad)
    go false false e f h s next = next h (let same : number_in ks p ≡ number_in ks q = omega (arith, s) in same)
