-- The table of dependences has exactly the pairs of `Depends`.
use Rattle.std.proofs.Common.{ℕ, zero, suc, Bool, true, false, cond, ◌&&◌, ◌≡◌, ◌⊎◌, inl, inr, List, [], ◌∷◌, ◌++◌, refl, sym, ap, subst}
use Rattle.kif.proofs.Facts.{both, true_and}
use Rattle.statement.specs.Clause.{Literal, Alternative, Relation, relation_of, relation_eq, atom_of}
use Rattle.statement.specs.Dependence.{IsAmong, is_distinct, is_among, DependsDirectly, DependsIn, Depends, Edge, has_edge, with_edge, body_edges}
use Rattle.statement.specs.Dependence.{direct_edges, edges_on, edges_through, closure, heads_of, once_each, dependences}
use Rattle.rules_profile.proofs.Equality.{relation_eq_yes, relation_eq_self}
use Rattle.rules_profile.proofs.Tests.{or_cases, or_left, or_right}
use Rattle.rules_profile.proofs.Walks.{chain_then}

edge_same : (e : Edge) (p q : Relation) → e.from ≡ p → e.to ≡ q → (relation_eq e.from p && relation_eq e.to q) ≡ true
edge_same e p q f g =
    subst (λ (r : Relation). (relation_eq e.from r && relation_eq e.to q) ≡ true) f
    (subst (λ (r : Relation). (relation_eq e.from e.from && relation_eq e.to r) ≡ true) g
    (true_and (relation_eq e.from e.from) (relation_eq e.to e.to) (relation_eq_self e.from) (relation_eq_self e.to)))

has_cons : (e : Edge) (es : List Edge) (p q : Relation) → has_edge (e ∷ es) p q ≡ true → ((e.from ≡ p) × (e.to ≡ q)) ⊎ (has_edge es p q ≡ true)
has_cons e es p q h =
    elim (or_cases (relation_eq e.from p && relation_eq e.to q) (has_edge es p q) h) [
      | inl k ↦ let b = both (relation_eq e.from p) (relation_eq e.to q) k in inl (relation_eq_yes e.from p b.0, relation_eq_yes e.to q b.1)
      | inr k ↦ inr k
    ]

with_cases : (e : Edge) (es : List Edge) (p q : Relation) → has_edge (with_edge e es) p q ≡ true
    → ((e.from ≡ p) × (e.to ≡ q)) ⊎ (has_edge es p q ≡ true)
with_cases e es p q h = go (has_edge es e.from e.to) h
  where
    go : (b : Bool) → has_edge (cond b es (e ∷ es)) p q ≡ true → ((e.from ≡ p) × (e.to ≡ q)) ⊎ (has_edge es p q ≡ true)
    go true k = inr k
    go false k = has_cons e es p q k

with_new : (e : Edge) (es : List Edge) (p q : Relation) → e.from ≡ p → e.to ≡ q → has_edge (with_edge e es) p q ≡ true
with_new e es p q f g = go (has_edge es e.from e.to) refl
  where
    go : (b : Bool) → has_edge es e.from e.to ≡ b → has_edge (cond b es (e ∷ es)) p q ≡ true
    go true k = subst (λ (r : Relation). has_edge es r q ≡ true) f (subst (λ (r : Relation). has_edge es e.from r ≡ true) g k)
    go false k = or_left _ _ (edge_same e p q f g)

with_old : (e : Edge) (es : List Edge) (p q : Relation) → has_edge es p q ≡ true → has_edge (with_edge e es) p q ≡ true
with_old e es p q h = go (has_edge es e.from e.to)
  where
    go : (b : Bool) → has_edge (cond b es (e ∷ es)) p q ≡ true
    go true = h
    go false = or_right (relation_eq e.from p && relation_eq e.to q) (has_edge es p q) h

on_cases : (p h : Relation) (fs all : List Edge) (a b : Relation) → has_edge (edges_on p h fs all) a b ≡ true
    → (has_edge all a b ≡ true) ⊎ ((p ≡ a) × (has_edge fs h b ≡ true))
on_cases p h [] all a b k = inl k
on_cases p h (f ∷ fs) all a b k = go (relation_eq f.from h) refl k (on_cases p h fs all a b)
  where
    go : (t : Bool) → relation_eq f.from h ≡ t
        → has_edge (cond t (with_edge (record { from = p; to = f.to }) (edges_on p h fs all)) (edges_on p h fs all)) a b ≡ true
        → (has_edge (edges_on p h fs all) a b ≡ true → (has_edge all a b ≡ true) ⊎ ((p ≡ a) × (has_edge fs h b ≡ true)))
        → (has_edge all a b ≡ true) ⊎ ((p ≡ a) × (has_edge (f ∷ fs) h b ≡ true))
    go true e l more = elim (with_cases (record { from = p; to = f.to }) (edges_on p h fs all) a b l) [
      | inl new ↦ inr (new.0, or_left _ _ (edge_same f h b (relation_eq_yes f.from h e) new.1))
      | inr old ↦ elim (more old) [ inl x ↦ inl x | inr y ↦ inr (y.0, or_right (relation_eq f.from h && relation_eq f.to b) (has_edge fs h b) y.1) ]
    ]
    go false e l more = elim (more l) [
      | inl x ↦ inl x
      | inr y ↦
          inr (y.0, or_right (relation_eq f.from h && relation_eq f.to b) (has_edge fs h b) y.1)
    ]

on_old : (p h : Relation) (fs all : List Edge) (a b : Relation) → has_edge all a b ≡ true → has_edge (edges_on p h fs all) a b ≡ true
on_old p h [] all a b k = k
on_old p h (f ∷ fs) all a b k = go (relation_eq f.from h) (on_old p h fs all a b k)
  where
    go : (t : Bool) → has_edge (edges_on p h fs all) a b ≡ true
        → has_edge (cond t (with_edge (record { from = p; to = f.to }) (edges_on p h fs all)) (edges_on p h fs all)) a b ≡ true
    go true l = with_old (record { from = p; to = f.to }) (edges_on p h fs all) a b l
    go false l = l

on_new : (p h : Relation) (fs all : List Edge) (b : Relation) → has_edge fs h b ≡ true → has_edge (edges_on p h fs all) p b ≡ true
on_new p h [] all b k = absurd cc
on_new p h (f ∷ fs) all b k = go (relation_eq f.from h) refl (has_cons f fs h b k) (on_new p h fs all b)
  where
    go : (t : Bool) → relation_eq f.from h ≡ t → ((f.from ≡ h) × (f.to ≡ b)) ⊎ (has_edge fs h b ≡ true)
        → (has_edge fs h b ≡ true → has_edge (edges_on p h fs all) p b ≡ true)
        → has_edge (cond t (with_edge (record { from = p; to = f.to }) (edges_on p h fs all)) (edges_on p h fs all)) p b ≡ true
    go true e (inl s) more = with_new (record { from = p; to = f.to }) (edges_on p h fs all) p b refl s.1
    go true e (inr r) more = with_old (record { from = p; to = f.to }) (edges_on p h fs all) p b (more r)
    go false e (inl s) more = let same : relation_eq f.from h ≡ true =
        subst (λ (r : Relation). relation_eq f.from r ≡ true) s.0 (relation_eq_self f.from) in absurd cc
    go false e (inr r) more = more r

through_cases : (h : Relation) (es all : List Edge) (a b : Relation) → has_edge (edges_through h es all) a b ≡ true
    → (has_edge all a b ≡ true) ⊎ ((has_edge es a h ≡ true) × (has_edge all h b ≡ true))
through_cases h [] all a b k = inl k
through_cases h (e ∷ es) all a b k = go (relation_eq e.to h) refl k (through_cases h es all a b)
  where
    later : (has_edge all a b ≡ true) ⊎ ((has_edge es a h ≡ true) × (has_edge all h b ≡ true))
        → (has_edge all a b ≡ true) ⊎ ((has_edge (e ∷ es) a h ≡ true) × (has_edge all h b ≡ true))
    later (inl x) = inl x
    later (inr y) = inr (or_right (relation_eq e.from a && relation_eq e.to h) (has_edge es a h) y.0, y.1)

    go : (t : Bool) → relation_eq e.to h ≡ t → has_edge (cond t (edges_on e.from h all (edges_through h es all)) (edges_through h es all)) a b ≡ true
        → (has_edge (edges_through h es all) a b ≡ true → (has_edge all a b ≡ true) ⊎ ((has_edge es a h ≡ true) × (has_edge all h b ≡ true)))
        → (has_edge all a b ≡ true) ⊎ ((has_edge (e ∷ es) a h ≡ true) × (has_edge all h b ≡ true))
    go true same l more = elim (on_cases e.from h all (edges_through h es all) a b l) [
      | inl old ↦ later (more old)
      | inr new ↦ inr (or_left _ _ (edge_same e a h new.0 (relation_eq_yes e.to h same)), new.1)
    ]
    go false same l more = later (more l)

through_old : (h : Relation) (es all : List Edge) (a b : Relation) → has_edge all a b ≡ true → has_edge (edges_through h es all) a b ≡ true
through_old h [] all a b k = k
through_old h (e ∷ es) all a b k = go (relation_eq e.to h) (through_old h es all a b k)
  where
    go : (t : Bool) → has_edge (edges_through h es all) a b ≡ true
        → has_edge (cond t (edges_on e.from h all (edges_through h es all)) (edges_through h es all)) a b ≡ true
    go true l = on_old e.from h all (edges_through h es all) a b l
    go false l = l

through_new : (h : Relation) (es all : List Edge) (a b : Relation) → has_edge es a h ≡ true → has_edge all h b ≡ true
    → has_edge (edges_through h es all) a b ≡ true
through_new h [] all a b k l = absurd cc
through_new h (e ∷ es) all a b k l = go (relation_eq e.to h) refl (has_cons e es a h k) (through_new h es all a b)
  where
    go : (t : Bool) → relation_eq e.to h ≡ t → ((e.from ≡ a) × (e.to ≡ h)) ⊎ (has_edge es a h ≡ true)
        → (has_edge es a h ≡ true → has_edge all h b ≡ true → has_edge (edges_through h es all) a b ≡ true)
        → has_edge (cond t (edges_on e.from h all (edges_through h es all)) (edges_through h es all)) a b ≡ true
    go true same (inl s) more = subst (λ (r : Relation). has_edge (edges_on e.from h all (edges_through h es all)) r b ≡ true) s.0
        (on_new e.from h all (edges_through h es all) b l)
    go true same (inr r) more = on_old e.from h all (edges_through h es all) a b (more r l)
    go false same (inl s) more = let k' : relation_eq e.to h ≡ true =
        subst (λ (r : Relation). relation_eq e.to r ≡ true) s.1 (relation_eq_self e.to) in absurd cc
    go false same (inr r) more = more r l

-- any two edges that meet at r are one edge
abbrev Meets : List Edge → Relation → Type 0
Meets es r = (p q : Relation) → has_edge es p r ≡ true → has_edge es r q ≡ true → has_edge es p q ≡ true

meets_now : (h : Relation) (es : List Edge) → Meets (edges_through h es es) h
meets_now h es p q k l = through_new h es es p q (into (through_cases h es es p h k)) (out (through_cases h es es h q l))
  where
    into : (has_edge es p h ≡ true) ⊎ ((has_edge es p h ≡ true) × (has_edge es h h ≡ true)) → has_edge es p h ≡ true
    into (inl x) = x
    into (inr y) = y.0

    out : (has_edge es h q ≡ true) ⊎ ((has_edge es h h ≡ true) × (has_edge es h q ≡ true)) → has_edge es h q ≡ true
    out (inl x) = x
    out (inr y) = y.1

meets_still : (h r : Relation) (es : List Edge) → Meets es r → Meets (edges_through h es es) r
meets_still h r es m p q k l = go (through_cases h es es p r k) (through_cases h es es r q l)
  where
    go : (has_edge es p r ≡ true) ⊎ ((has_edge es p h ≡ true) × (has_edge es h r ≡ true)) → (has_edge es r q ≡ true)
        ⊎ ((has_edge es r h ≡ true) × (has_edge es h q ≡ true))
        → has_edge (edges_through h es es) p q ≡ true
    go (inl x) (inl y) = through_old h es es p q (m p q x y)
    go (inl x) (inr y) = through_new h es es p q (m p h x y.0) y.1
    go (inr x) (inl y) = through_new h es es p q x.0 (m h q x.1 y)
    go (inr x) (inr y) = through_new h es es p q x.0 y.1

closure_old : (hs : List Relation) (es : List Edge) (p q : Relation) → has_edge es p q ≡ true → has_edge (closure hs es) p q ≡ true
closure_old [] es p q k = k
closure_old (h ∷ hs) es p q k = closure_old hs (edges_through h es es) p q (through_old h es es p q k)

closure_still : (hs : List Relation) (es : List Edge) (r : Relation) → Meets es r → Meets (closure hs es) r
closure_still [] es r m = m
closure_still (h ∷ hs) es r m = closure_still hs (edges_through h es es) r (meets_still h r es m)

closure_meets : (hs : List Relation) (es : List Edge) (r : Relation) → IsAmong r hs → Meets (closure hs es) r
closure_meets [] es r a = absurd a
closure_meets (h ∷ hs) es r (inl e) =
    closure_still hs (edges_through h es es) r (subst (λ (x : Relation). Meets (edges_through h es es) x) (sym e) (meets_now h es))
closure_meets (h ∷ hs) es r (inr a) = closure_meets hs (edges_through h es es) r a

closure_sound : (D : Relation → Relation → Type 0) → ((p q r : Relation) → D p q → D q r → D p r) → (hs : List Relation) (es : List Edge)
    → ((p q : Relation) → has_edge es p q ≡ true → D p q) → (p q : Relation) → has_edge (closure hs es) p q ≡ true → D p q
closure_sound D trans [] es s p q k = s p q k
closure_sound D trans (h ∷ hs) es s p q k =
    closure_sound D trans hs (edges_through h es es)
    (λ a b l. step a b (through_cases h es es a b l)) p q k
  where
    step : (a b : Relation) → (has_edge es a b ≡ true) ⊎ ((has_edge es a h ≡ true) × (has_edge es h b ≡ true)) → D a b
    step a b (inl x) = s a b x
    step a b (inr y) = trans a h b (s a h y.0) (s h b y.1)

body_sound : (rules : List Alternative) (rule : Alternative) → IsAmong rule rules → (ls : List Literal)
    → ((l : Literal) → IsAmong l ls → IsAmong l rule.body)
    → (p q : Relation) → has_edge (body_edges (relation_of rule.head) ls) p q ≡ true → DependsDirectly rules p q
body_sound rules rule a [] sub p q k = absurd cc
body_sound rules rule a (l ∷ ls) sub p q k = go (is_distinct (relation_of (atom_of l))) refl k (body_sound rules rule a ls (λ m b. sub m (inr b)) p q)
  where
    go : (t : Bool) → is_distinct (relation_of (atom_of l)) ≡ t
        → has_edge (cond t (body_edges (relation_of rule.head) ls)
        (with_edge (record { from = relation_of rule.head; to = relation_of (atom_of l) }) (body_edges (relation_of rule.head) ls))) p q ≡ true
        → (has_edge (body_edges (relation_of rule.head) ls) p q ≡ true → DependsDirectly rules p q) → DependsDirectly rules p q
    go true e m more = more m
    go false e m more =
        elim (with_cases (record { from = relation_of rule.head; to = relation_of (atom_of l) }) (body_edges (relation_of rule.head) ls) p q m) [
          | inl s ↦ record {
            rule = rule;
            literal = l;
            is_rule = a;
            heads = s.0;
            in_body = sub l (inl refl);
            names = s.1;
            not_distinct =
                subst (λ (r : Relation). is_distinct r ≡ false) s.1 e;
          }
          | inr r ↦ more r
        ]

body_complete : (p : Relation) (ls : List Literal) (l : Literal) → IsAmong l ls → is_distinct (relation_of (atom_of l)) ≡ false
    → has_edge (body_edges p ls) p (relation_of (atom_of l)) ≡ true
body_complete p [] l a d = absurd a
body_complete p (m ∷ ls) l (inl e) d = let f : is_distinct (relation_of (atom_of m)) ≡ false =
    subst (λ (x : Literal). is_distinct (relation_of (atom_of x)) ≡ false) e d in
    rw f (with_new (record { from = p; to = relation_of (atom_of m) }) (body_edges p ls) p (relation_of (atom_of l)) refl
    (ap (λ (x : Literal). relation_of (atom_of x)) (sym e)))
body_complete p (m ∷ ls) l (inr a) d = go (is_distinct (relation_of (atom_of m))) (body_complete p ls l a d)
  where
    go : (t : Bool) → has_edge (body_edges p ls) p (relation_of (atom_of l)) ≡ true
        → has_edge (cond t (body_edges p ls) (with_edge (record { from = p; to = relation_of (atom_of m) }) (body_edges p ls))) p
        (relation_of (atom_of l)) ≡ true
    go true k = k
    go false k = with_old (record { from = p; to = relation_of (atom_of m) }) (body_edges p ls) p (relation_of (atom_of l)) k

edge_append : (es fs : List Edge) (p q : Relation) → has_edge (es ++ fs) p q ≡ true → (has_edge es p q ≡ true) ⊎ (has_edge fs p q ≡ true)
edge_append [] fs p q k = inr k
edge_append (e ∷ es) fs p q k = elim (or_cases (relation_eq e.from p && relation_eq e.to q) (has_edge (es ++ fs) p q) k) [
  | inl x ↦ inl (or_left _ _ x)
  | inr y ↦ elim (edge_append es fs p q y) [ inl z ↦ inl (or_right (relation_eq e.from p && relation_eq e.to q) (has_edge es p q) z) | inr z ↦ inr z ]
]

edge_left : (es fs : List Edge) (p q : Relation) → has_edge es p q ≡ true → has_edge (es ++ fs) p q ≡ true
edge_left [] fs p q k = absurd cc
edge_left (e ∷ es) fs p q k = elim (or_cases (relation_eq e.from p && relation_eq e.to q) (has_edge es p q) k) [
  | inl x ↦ or_left _ _ x
  | inr y ↦ or_right (relation_eq e.from p && relation_eq e.to q) (has_edge (es ++ fs) p q) (edge_left es fs p q y)
]

edge_right : (es fs : List Edge) (p q : Relation) → has_edge fs p q ≡ true → has_edge (es ++ fs) p q ≡ true
edge_right [] fs p q k = k
edge_right (e ∷ es) fs p q k = or_right (relation_eq e.from p && relation_eq e.to q) (has_edge (es ++ fs) p q) (edge_right es fs p q k)

direct_sound : (rules some : List Alternative) → ((r : Alternative) → IsAmong r some → IsAmong r rules) → (p q : Relation)
    → has_edge (direct_edges some) p q ≡ true → DependsDirectly rules p q
direct_sound rules [] sub p q k = absurd cc
direct_sound rules (rule ∷ some) sub p q k = elim (edge_append (body_edges (relation_of rule.head) rule.body) (direct_edges some) p q k) [
  | inl x ↦ body_sound rules rule (sub rule (inl refl)) rule.body (λ l a. a) p q x
  | inr y ↦ direct_sound rules some (λ r a. sub r (inr a)) p q y
]

direct_rule : (rules : List Alternative) (rule : Alternative) (l : Literal) → IsAmong rule rules → IsAmong l rule.body
    → is_distinct (relation_of (atom_of l)) ≡ false
    → has_edge (direct_edges rules) (relation_of rule.head) (relation_of (atom_of l)) ≡ true
direct_rule [] rule l a b d = absurd a
direct_rule (r ∷ rules) rule l (inl e) b d =
    edge_left (body_edges (relation_of r.head) r.body) (direct_edges rules) _ _
    (subst (λ (x : Alternative). has_edge (body_edges (relation_of x.head) x.body) (relation_of rule.head) (relation_of (atom_of l)) ≡ true) e
    (body_complete (relation_of rule.head) rule.body l b d))
direct_rule (r ∷ rules) rule l (inr a) b d = edge_right (body_edges (relation_of r.head) r.body) (direct_edges rules) _ _
    (direct_rule rules rule l a b d)

direct_complete : (rules : List Alternative) (p q : Relation) → DependsDirectly rules p q → has_edge (direct_edges rules) p q ≡ true
direct_complete rules p q d =
    subst (λ (x : Relation). has_edge (direct_edges rules) x q ≡ true) d.heads
    (subst (λ (x : Relation). has_edge (direct_edges rules) (relation_of d.rule.head) x ≡ true) d.names
    (direct_rule rules d.rule d.literal d.is_rule d.in_body (subst (λ (x : Relation). is_distinct x ≡ false) (sym d.names) d.not_distinct)))

pub is_among_yes : (p : Relation) (ps : List Relation) → is_among p ps ≡ true → IsAmong p ps
is_among_yes p [] h = absurd cc
is_among_yes p (q ∷ ps) h = elim (or_cases (relation_eq p q) (is_among p ps) h) [
  | inl e ↦ inl (relation_eq_yes p q e)
  | inr k ↦ inr (is_among_yes p ps k)
]

pub IsAmong-once_each : (p : Relation) (ps : List Relation) → IsAmong p ps → IsAmong p (once_each ps)
IsAmong-once_each p [] h = absurd h
IsAmong-once_each p (q ∷ ps) h = go (is_among q (once_each ps)) refl h (IsAmong-once_each p ps)
  where
    go : (t : Bool) → is_among q (once_each ps) ≡ t → (p ≡ q) ⊎ IsAmong p ps → (IsAmong p ps → IsAmong p (once_each ps))
        → IsAmong p (cond t (once_each ps) (q ∷ once_each ps))
    go true e (inl s) more = subst (λ (x : Relation). IsAmong x (once_each ps)) (sym s) (is_among_yes q (once_each ps) e)
    go true e (inr a) more = more a
    go false e (inl s) more = inl s
    go false e (inr a) more = inr (more a)

pub heads_complete : (rules : List Alternative) (rule : Alternative) → IsAmong rule rules → IsAmong (relation_of rule.head) (heads_of rules)
heads_complete [] rule a = absurd a
heads_complete (r ∷ rules) rule (inl e) = inl (ap (λ (x : Alternative). relation_of x.head) e)
heads_complete (r ∷ rules) rule (inr a) = inr (heads_complete rules rule a)

head_listed : (rules : List Alternative) (p q : Relation) → DependsDirectly rules p q → IsAmong p (once_each (heads_of rules))
head_listed rules p q d = subst (λ (x : Relation). IsAmong x (once_each (heads_of rules))) d.heads
    (IsAmong-once_each _ (heads_of rules) (heads_complete rules d.rule d.is_rule))

pub table_sound : (rules : List Alternative) (p q : Relation) → has_edge (dependences rules) p q ≡ true → Depends rules p q
table_sound rules p q k =
    closure_sound (Depends rules) (λ a b c x y. chain_then rules x.0 a b c x.1 y) (once_each (heads_of rules)) (direct_edges rules)
    (λ a b l. (zero, direct_sound rules rules (λ r z. z) a b l)) p q k

chain_complete : (rules : List Alternative) (n : ℕ) (p q : Relation) → DependsIn rules n p q
    → (has_edge (dependences rules) p q ≡ true) × IsAmong p (once_each (heads_of rules))
chain_complete rules zero p q d =
    (closure_old (once_each (heads_of rules)) (direct_edges rules) p q (direct_complete rules p q d), head_listed rules p q d)
chain_complete rules (suc n) p q c =
    let rest = chain_complete rules n c.0 q c.2 in
    let first = closure_old (once_each (heads_of rules)) (direct_edges rules) p c.0 (direct_complete rules p c.0 c.1) in
    (closure_meets (once_each (heads_of rules)) (direct_edges rules) c.0 rest.1 p q first rest.0, head_listed rules p c.0 c.1)

pub table_complete : (rules : List Alternative) (p q : Relation) → Depends rules p q → has_edge (dependences rules) p q ≡ true
table_complete rules p q d = (chain_complete rules d.0 p q d.1).0
