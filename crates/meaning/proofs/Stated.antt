-- Whether rules state a relation.
use Rattle.std.proofs.Common.{Bool, true, false, ◌≡◌, ◌⊎◌, inl, inr, List, [], ◌∷◌, refl, sym, ap, ◌∙◌}
use Rattle.statement.specs.Clause.{Alternative, Relation, relation_of, relation_eq}
use Rattle.statement.specs.Dependence.{IsAmong}
use Rattle.statement.specs.Meaning.{StateOfTerms, Joint, Source, now, does, distinct, ordinary, RightAs}
use Rattle.rules_profile.proofs.Facts.{relation_eq_yes, relation_eq_self}
use Rattle.meaning.specs.Possible.{IsStated}

-- some rule has it as its head, or none has
pub stated_or_not : (rules : List Alternative) (p : Relation) → IsStated rules p ⊎ (IsStated rules p → ⊥)
stated_or_not [] p = inr (λ h. absurd h.1)
stated_or_not (rule ∷ rules) p = go (relation_eq (relation_of rule.head) p) refl (stated_or_not rules p)
  where
    go : (b : Bool) → relation_eq (relation_of rule.head) p ≡ b → IsStated rules p ⊎ (IsStated rules p → ⊥)
        → IsStated (rule ∷ rules) p ⊎ (IsStated (rule ∷ rules) p → ⊥)
    go true e rest = inl (rule, inl refl, relation_eq_yes (relation_of rule.head) p e)
    go false e (inl h) = inl (h.0, inr h.1, h.2)
    go false e (inr none) = inr (λ h. out h.0 h.1 h.2)
      where
        out : (r : Alternative) → IsAmong r (rule ∷ rules) → relation_of r.head ≡ p → ⊥
        out r (inl same) heads =
            let one = ap (λ (q : Alternative). relation_of q.head) same in
            let two = ap (λ (q : Relation). relation_eq q p) (sym one ∙ heads) in
            let three = relation_eq_self p in cc
        out r (inr among) heads = none (r, among, heads)

pub along : (S : StateOfTerms) (J : Joint) (A B : Type 0) (k : Source) → (A → B) → RightAs S J A k → RightAs S J B k
along S J A B (now p) e h = h
along S J A B (does r m) e h = h
along S J A B (distinct s t) e h = h
along S J A B ordinary e h = e h
