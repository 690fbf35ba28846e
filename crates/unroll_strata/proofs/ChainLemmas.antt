-- Chains of arrows between numbers are chains of dependence.
use Rattle.std.proofs.Common.{ℕ, zero, suc, Bool, true, false, cond, ◌≡◌, ◌<◌, ◌⊎◌, inl, inr, List, [], ◌∷◌, map, length, refl, sym, ap, subst, ◌∙◌, arith}
use Rattle.statement.specs.Tree.{Tree}
use Rattle.statement.specs.Clause.{Literal, Alternative, Relation, relation_of, atom_of}
use Rattle.statement.specs.Items.{item_head}
use Rattle.statement.specs.Dependence.{IsAmong, is_among, is_distinct, DependsDirectly, DependsIn}
use Rattle.util_digraph.specs.declared.graph.Arrow.{Arrow}
use Rattle.util_digraph.specs.Graph.{arrow_at, Leads, ReachesIn}
use Rattle.rules.specs.Arrows.{arrows_from}
use Rattle.rules_relations.specs.Asking.{body_literals, asked_relations}
use Rattle.rules_profile.proofs.Facts.{IsAmong-append, IsAmong-append_left, IsAmong-append_right}
use Rattle.unroll_strata.specs.Numbering.{number_in, numbers_in, head_number, item_arrows, items_arrows}
use Rattle.unroll_strata.specs.Resting.{rule_in, rules_in}
use Rattle.unroll_strata.proofs.NumberLemmas.{number_differs}

-- Members of lists.

among_at : (arrows : List Arrow) (k : ℕ) → k < length arrows → IsAmong (arrow_at arrows k) arrows
among_at [] k h = absurd (let bad : ⊥ = omega (arith, h) in bad)
among_at (a ∷ arrows) zero h = inl refl
among_at (a ∷ arrows) (suc k) h = inr (among_at arrows k (omega (arith, h)))

at_among : (arrows : List Arrow) (a : Arrow) → IsAmong a arrows → (k : ℕ) × (k < length arrows) × (arrow_at arrows k ≡ a)
at_among [] a h = absurd h
at_among (b ∷ arrows) a (inl e) = (0, omega arith, sym e)
at_among (b ∷ arrows) a (inr h) = let m = at_among arrows a h in (suc m.0, let l = m.1 in omega (arith, l), m.2)

among_map : {A B : Type 0} (f : A → B) (xs : List A) (y : B) → IsAmong y (map f xs) → (x : A) × IsAmong x xs × (f x ≡ y)
among_map f [] y h = absurd h
among_map f (x ∷ xs) y (inl e) = (x, inl refl, sym e)
among_map f (x ∷ xs) y (inr h) = let m = among_map f xs y h in (m.0, inr m.1, m.2)

pub map_among : {A B : Type 0} (f : A → B) (xs : List A) (x : A) → IsAmong x xs → IsAmong (f x) (map f xs)
map_among f [] x h = absurd h
map_among f (y ∷ ys) x (inl e) = inl (ap f e)
map_among f (y ∷ ys) x (inr h) = inr (map_among f ys x h)

-- Numbers of relations.

-- the relation that has a number of a list
pub record Numbered (known ps : List Relation) (n : ℕ) : Type 0 where
  pub relation : Relation
  pub among : IsAmong relation ps
  pub not_distinct : is_distinct relation ≡ false
  pub number : number_in known relation ≡ n

pub among_numbers : (known ps : List Relation) (n : ℕ) → IsAmong n (numbers_in known ps) → Numbered known ps n
among_numbers known [] n h = absurd h
among_numbers known (p ∷ ps) n h = go (is_distinct p) refl h (λ k. among_numbers known ps n k)
  where
    later : Numbered known ps n → Numbered known (p ∷ ps) n
    later m = record { relation = m.relation; among = inr m.among; not_distinct = m.not_distinct; number = m.number }

    go : (b : Bool) → is_distinct p ≡ b → IsAmong n (cond b (numbers_in known ps) (number_in known p ∷ numbers_in known ps))
        → (IsAmong n (numbers_in known ps) → Numbered known ps n) → Numbered known (p ∷ ps) n
    go true e k next = later (next k)
    go false e (inl f) next = record { relation = p; among = inl refl; not_distinct = e; number = sym f }
    go false e (inr k) next = later (next k)

pub numbers_among : (known ps : List Relation) (q : Relation) → IsAmong q ps → is_distinct q ≡ false → IsAmong (number_in known q) (numbers_in known ps)
numbers_among known [] q h d = absurd h
numbers_among known (p ∷ ps) q h d = go (is_distinct p) refl h (λ k. numbers_among known ps q k d)
  where
    go : (b : Bool) → is_distinct p ≡ b → IsAmong q (p ∷ ps) → (IsAmong q ps → IsAmong (number_in known q) (numbers_in known ps))
        → IsAmong (number_in known q) (cond b (numbers_in known ps) (number_in known p ∷ numbers_in known ps))
    go true e (inl f) next = absurd (let g = ap is_distinct f in let bad : ⊥ = cc in bad)
    go true e (inr k) next = next k
    go false e (inl f) next = inl (ap (number_in known) f)
    go false e (inr k) next = inr (next k)

-- Arrows.

from_head : (head : ℕ) (body : List ℕ) (a : Arrow) → IsAmong a (arrows_from head body) → (a.from ≡ head) × IsAmong a.to body
from_head head [] a h = absurd h
from_head head (b ∷ body) a (inl e) = (ap (λ (x : Arrow). x.from) e, inl (ap (λ (x : Arrow). x.to) e))
from_head head (b ∷ body) a (inr h) = let m = from_head head body a h in (m.0, inr m.1)

to_each : (head : ℕ) (body : List ℕ) (b : ℕ) → IsAmong b body → IsAmong {A = Arrow} (record { from = head; to = b }) (arrows_from head body)
to_each head [] b h = absurd h
to_each head (c ∷ body) b (inl e) = inl (ap (λ (x : ℕ). let a : Arrow = record { from = head; to = x } in a) e)
to_each head (c ∷ body) b (inr h) = inr (to_each head body b h)

-- the item and the relation of its body that an arrow joins
record Joined (known : List Relation) (items : List Tree) (a : Arrow) : Type 0 where
  item : Tree
  among : IsAmong item items
  from : a.from ≡ head_number known item
  to : Numbered known (asked_relations item) a.to

joined : (known : List Relation) (items : List Tree) (a : Arrow) → IsAmong a (items_arrows known items) → Joined known items a
joined known [] a h = absurd h
joined known (t ∷ ts) a h = go (IsAmong-append a (item_arrows known t) (items_arrows known ts) h) (λ k. joined known ts a k)
  where
    go : IsAmong a (item_arrows known t) ⊎ IsAmong a (items_arrows known ts) → (IsAmong a (items_arrows known ts) → Joined known ts a)
        → Joined known (t ∷ ts) a
    go (inl k) next =
        let m = from_head (head_number known t) (numbers_in known (asked_relations t)) a k in
        record { item = t; among = inl refl; from = m.0; to = among_numbers known (asked_relations t) a.to m.1 }
    go (inr k) next = let m = next k in record { item = m.item; among = inr m.among; from = m.from; to = m.to }

joins : (known : List Relation) (items : List Tree) (t : Tree) (q : Relation) → IsAmong t items → IsAmong q (asked_relations t) → is_distinct q ≡ false
    → IsAmong {A = Arrow} (record { from = head_number known t; to = number_in known q }) (items_arrows known items)
joins known [] t q h k d = absurd h
joins known (u ∷ ts) t q (inl e) k d =
    IsAmong-append_left _ (item_arrows known u) (items_arrows known ts)
    (subst (λ (x : Tree). IsAmong {A = Arrow} (record { from = head_number known t; to = number_in known q }) (item_arrows known x)) e
    (to_each (head_number known t) (numbers_in known (asked_relations t)) (number_in known q) (numbers_among known (asked_relations t) q k d)))
joins known (u ∷ ts) t q (inr h) k d =
    IsAmong-append_right _ (item_arrows known u) (items_arrows known ts) (joins known ts t q h k d)

pub arrow_leads : (known : List Relation) (items : List Tree) (t : Tree) (q : Relation) → IsAmong t items → IsAmong q (asked_relations t)
    → is_distinct q ≡ false → Leads (items_arrows known items) (head_number known t) (number_in known q)
arrow_leads known items t q h k d =
    let m = at_among (items_arrows known items) (record { from = head_number known t; to = number_in known q }) (joins known items t q h k d) in
    record { place = m.0; inside = m.1; from = ap (λ (x : Arrow). x.from) m.2; to = ap (λ (x : Arrow). x.to) m.2 }

-- Dependence.

-- all heads are known
abbrev pub AreHeadsKnown : List Relation → List Tree → Type 0
AreHeadsKnown known items = (t : Tree) → IsAmong t items → is_among (relation_of (item_head t)) known ≡ true

-- a relation that stands in a chain
pub record Reached (known : List Relation) (items : List Tree) (m : ℕ) (p : Relation) (n : ℕ) : Type 0 where
  pub relation : Relation
  pub number : number_in known relation ≡ n
  pub depends : DependsIn (rules_in items) m p relation

step : (known : List Relation) (items : List Tree) → AreHeadsKnown known items → (p : Relation) (j : ℕ) → Leads (items_arrows known items) (number_in known p) j
    → Reached known items zero p j
step known items heads p j l =
    let arrows = items_arrows known items in
    let a : Arrow = arrow_at arrows l.place in
    let m = joined known items a (among_at arrows l.place l.inside) in
    let same : relation_of (item_head m.item) ≡ p = number_differs known _ p (heads m.item m.among) (sym m.from ∙ l.from) in
    let x = among_map (λ (y : Literal). relation_of (atom_of y)) (body_literals m.item) m.to.relation m.to.among in
    record {
      relation = m.to.relation;
      number = m.to.number ∙ l.to;
      depends = record {
        rule = rule_in m.item;
        literal = x.0;
        is_rule = map_among rule_in items m.item m.among;
        heads = same;
        in_body = x.1;
        names = x.2;
        not_distinct = m.to.not_distinct;
      };
    }

pub chain_depends : (known : List Relation) (items : List Tree) → AreHeadsKnown known items → (m : ℕ) (p : Relation) (j : ℕ)
    → ReachesIn (items_arrows known items) m (number_in known p) j → Reached known items m p j
chain_depends known items heads zero p j l = step known items heads p j l
chain_depends known items heads (suc m) p j c =
    let first = step known items heads p c.0 c.1 in
    let rest = chain_depends known items heads m first.relation j
    (subst (λ (x : ℕ). ReachesIn (items_arrows known items) m x j) (sym first.number) c.2) in
    record { relation = rest.relation; number = rest.number; depends = (first.relation, first.depends, rest.depends) }

arrow_of : (known : List Relation) (items : List Tree) (p q : Relation) → DependsDirectly (rules_in items) p q
    → Leads (items_arrows known items) (number_in known p) (number_in known q)
arrow_of known items p q d =
    let t = among_map rule_in items d.rule d.is_rule in
    let head : relation_of (item_head t.0) ≡ p = ap (λ (r : Alternative). relation_of r.head) t.2 ∙ d.heads in
    let body : IsAmong d.literal (body_literals t.0) = subst (λ (r : Alternative). IsAmong d.literal r.body) (sym t.2) d.in_body in
    let asked : IsAmong q (asked_relations t.0) =
    subst (λ (x : Relation). IsAmong x (asked_relations t.0)) d.names (map_among (λ (y : Literal). relation_of (atom_of y)) (body_literals t.0) d.literal body) in
    subst (λ (x : Relation). Leads (items_arrows known items) (number_in known x) (number_in known q)) head
    (arrow_leads known items t.0 q t.1 asked d.not_distinct)

pub depends_chain : (known : List Relation) (items : List Tree) (m : ℕ) (p q : Relation) → DependsIn (rules_in items) m p q
    → ReachesIn (items_arrows known items) m (number_in known p) (number_in known q)
depends_chain known items zero p q d = arrow_of known items p q d
depends_chain known items (suc m) p q c =
    (number_in known c.0, arrow_of known items p c.0 c.1, depends_chain known items m c.0 q c.2)
