-- Own relations of two kinds, of each of which what holds is what its rules derive.
use Rattle.std.proofs.Common.{Bool, true, ◌||◌, ◌≡◌, ◌⊎◌, inl, inr, List, sym, ◌∙◌}
use Rattle.statement.specs.Clause.{Alternative, Relation, relation_of}
use Rattle.rules_profile.proofs.Facts.{or_cases}
use Rattle.meaning.specs.Extension.{IsAnswered}

module _ (rules out : List Alternative) (own one other : Relation → Bool) (parts : (p : Relation) → own p ≡ (one p || other p)) where
  of_either : (p : Relation) → own p ≡ true → (one p ≡ true) ⊎ (other p ≡ true)
  of_either p is_own = or_cases (one p) (other p) (sym (parts p) ∙ is_own)

  -- what both have, of relations of either kind
  by_either : (A : Type 0) (p : Relation) → own p ≡ true → (one p ≡ true → A) → (other p ≡ true → A) → A
  by_either A p is_own here there = go (of_either p is_own)
    where
      go : (one p ≡ true) ⊎ (other p ≡ true) → A
      go (inl e) = here e
      go (inr e) = there e

  pub together : IsAnswered rules out one → IsAnswered rules out other → IsAnswered rules out own
  together a b = record {
    closed = λ S J base inputs x is_own d.
        by_either _ (relation_of x) is_own (λ e. a.closed S J base inputs x e d) (λ e. b.closed S J base inputs x e d);
    comes = λ x is_own d. by_either _ (relation_of x) is_own (λ e. a.comes x e d) (λ e. b.comes x e d);
    founded = λ S J x is_own h below.
        by_either _ (relation_of x) is_own (λ e. a.founded S J x e h below) (λ e. b.founded S J x e h below);
    still = λ p q is_own fixed d. by_either _ p is_own (λ e. a.still p q e fixed d) (λ e. b.still p q e fixed d);
  }
