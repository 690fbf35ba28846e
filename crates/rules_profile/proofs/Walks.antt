-- Chains of dependence, and the induction along them.
use Rattle.std.proofs.Common.{ℕ, zero, suc, ◌≤◌, Bool, true, false, cond, ◌≡◌, ◌⊎◌, List, [], ◌∷◌, length, map, refl, sym, ap, subst, inl, inr, arith}
use Rattle.statement.specs.Clause.{Alternative, Relation, relation_of, relation_eq}
use Rattle.statement.specs.Dependence.{IsAmong, DependsDirectly, DependsIn, Depends, IsAcyclic}
use Rattle.rules_profile.proofs.Equality.{relation_eq_yes, relation_eq_self}

pub chain_then : (rules : List Alternative) (n : ℕ) (p q r : Relation) → DependsIn rules n p q → Depends rules q r → Depends rules p r
chain_then rules zero p q r first rest = (suc rest.0, (q, first, rest.1))
chain_then rules (suc n) p q r first rest =
    let more = chain_then rules n first.0 q r first.2 rest in
    (suc more.0, (first.0, first.1, more.1))

-- the relation heads a rule
abbrev pub IsHead : List Alternative → Relation → Type 0
IsHead rules p = (rule : Alternative) × IsAmong rule rules × (relation_of rule.head ≡ p)

abbrev pub heads_of : List Alternative → List Relation
heads_of rules = map (λ (rule : Alternative). relation_of rule.head) rules

pub length-heads_of : (rules : List Alternative) → length (heads_of rules) ≡ length rules
length-heads_of [] = refl
length-heads_of (rule ∷ rules) = ap suc (length-heads_of rules)

pub IsAmong-heads_of : (rules : List Alternative) (rule : Alternative) → IsAmong rule rules → IsAmong (relation_of rule.head) (heads_of rules)
IsAmong-heads_of [] rule h = absurd h
IsAmong-heads_of (r ∷ rules) rule (inl e) = inl (ap (λ (x : Alternative). relation_of x.head) e)
IsAmong-heads_of (r ∷ rules) rule (inr h) = inr (IsAmong-heads_of rules rule h)

-- the relations of a list but p
abbrev pub without : Relation → List Relation → List Relation
without p [] = []
without p (q ∷ qs) = cond (relation_eq p q) (without p qs) (q ∷ without p qs)

pub length-without_le : (p : Relation) (qs : List Relation) → length (without p qs) ≤ length qs
length-without_le p [] = omega arith
length-without_le p (q ∷ qs) = go (relation_eq p q) (length-without_le p qs)
  where
    go : (b : Bool) → length (without p qs) ≤ length qs → length (cond b (without p qs) (q ∷ without p qs)) ≤ suc (length qs)
    go true h = omega arith
    go false h = omega arith

pub length-without : (p : Relation) (qs : List Relation) → IsAmong p qs → suc (length (without p qs)) ≤ length qs
length-without p [] h = absurd h
length-without p (q ∷ qs) (inl e) =
    let same : relation_eq p q ≡ true = subst (λ (r : Relation). relation_eq p r ≡ true) e (relation_eq_self p) in
    rw same (let le = length-without_le p qs in omega arith)
length-without p (q ∷ qs) (inr h) = go (relation_eq p q) (length-without_le p qs) (length-without p qs h)
  where
    go : (b : Bool) → length (without p qs) ≤ length qs → suc (length (without p qs)) ≤ length qs
        → suc (length (cond b (without p qs) (q ∷ without p qs))) ≤ suc (length qs)
    go true le h' = omega arith
    go false le h' = omega arith

pub IsAmong-without : (p r : Relation) (qs : List Relation) → (r ≡ p → ⊥) → IsAmong r qs → IsAmong r (without p qs)
IsAmong-without p r [] other h = absurd h
IsAmong-without p r (q ∷ qs) other (inl e) = go (relation_eq p q) refl
  where
    go : (b : Bool) → relation_eq p q ≡ b → IsAmong r (cond b (without p qs) (q ∷ without p qs))
    go true same = let k = relation_eq_yes p q same in absurd (other cc)
    go false differ = inl e
IsAmong-without p r (q ∷ qs) other (inr h) = go (relation_eq p q) (IsAmong-without p r qs other h)
  where
    go : (b : Bool) → IsAmong r (without p qs) → IsAmong r (cond b (without p qs) (q ∷ without p qs))
    go true h' = h'
    go false h' = inr h'

-- what holds of each relation that heads no rule, and goes up along dependence, holds of every
-- relation, at no more steps than there are rules
module _ (rules : List Alternative) (acyclic : IsAcyclic rules) (P : ℕ → Relation → Type 0)
    (none : (p : Relation) → (IsHead rules p → ⊥) → P zero p)
    (step : (k : ℕ) (p : Relation) → ((q : Relation) → DependsDirectly rules p q → P k q) → P (suc k) p) where
  pub within : (k : ℕ) (hs : List Relation) → length hs ≤ k → (p : Relation)
      → ((q : Relation) → IsHead rules q → (q ≡ p) ⊎ Depends rules p q → IsAmong q hs) → P k p
  within zero [] le p listed = none p (λ heads. listed p heads (inl refl))
  within zero (h ∷ hs) le p listed = absurd (omega arith)
  within (suc k) hs le p listed =
      step k p (λ q direct.
      let here : IsAmong p hs = listed p (direct.rule, direct.is_rule, direct.heads) (inl refl) in
      let fewer = length-without p hs here in
      within k (without p hs) (omega arith) q (λ r heads reached.
      let below : Depends rules p r = after q r direct reached in
      IsAmong-without p r hs (λ same. acyclic p (subst (λ (x : Relation). Depends rules p x) same below)) (listed r heads (inr below))))
    where
      after : (q r : Relation) → DependsDirectly rules p q → (r ≡ q) ⊎ Depends rules q r → Depends rules p r
      after q r direct (inl same) = (zero, subst (λ (x : Relation). DependsDirectly rules p x) (sym same) direct)
      after q r direct (inr rest) = (suc rest.0, (q, direct, rest.1))

  pub along_dependence : (p : Relation) → P (length rules) p
  along_dependence p =
      let size = length-heads_of rules in
      within (length rules) (heads_of rules) (omega arith) p
      (λ q heads reached. subst (λ (x : Relation). IsAmong x (heads_of rules)) heads.2 (IsAmong-heads_of rules heads.0 heads.1))

pub depends_least : (rules : List Alternative) (R : Relation → Relation → Type 0) → ((p q : Relation) → DependsDirectly rules p q → R p q)
    → ((p q r : Relation) → R p q → R q r → R p r) → (n : ℕ) (p q : Relation) → DependsIn rules n p q → R p q
depends_least rules R direct on zero p q h = direct p q h
depends_least rules R direct on (suc n) p q h = on p h.0 q (direct p h.0 h.1) (depends_least rules R direct on n h.0 q h.2)
