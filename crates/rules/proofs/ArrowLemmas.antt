-- The graph of what items join is the graph of dependence.
use Rattle.std.proofs.Common.{ℕ, suc, zero, ◌≡◌, ◌<◌, ◌⊎◌, inl, inr, List, [], ◌∷◌, ◌++◌, length, refl, sym, ◌∙◌, ap, subst, arith, get_or}
use Rattle.std.specs.Prelude.{slice_index_or}
use Rattle.statement.specs.Tree.{Tree}
use Rattle.statement.specs.Clause as said
use Rattle.statement.specs.Clause.{relation_of}
use Rattle.statement.specs.Dependence.{IsAmong}
use Rattle.statement.specs.Items.{item_head, item_alternatives, alternatives}
use Rattle.util_digraph.specs.declared.graph.Arrow.{Arrow}
use Rattle.util_digraph.specs.GraphView.{arrows_of, nodes_of}
use Rattle.util_digraph.specs.declared.graph.Graph.{Graph}
use Rattle.rules.specs.declared.item_links.Links.{Links}
use Rattle.rules_clauses.specs.declared.signatures.Signature.{Signature}
use Rattle.util_digraph.specs.Graph.{arrow_at, Leads, ReachesIn, Reaches, IsCyclic, IsReachedFrom}
use Rattle.rules_clauses.specs.Numbers.{NamesDiffer}
use Rattle.rules_clauses.specs.Signatures.{signature_at}
use Rattle.rules_clauses.specs.Store.{Data, relation_at}
use Rattle.rules_clauses.specs.Adding.{AreDifferentSignatures, HaveNames}
use Rattle.rules.specs.Numbering.{IsGraphOf, IsInBodies}
use Rattle.rules.specs.Drafts.{LinkStandsFor, StandForItems}
use Rattle.rules.specs.ItemLinks.{LinksWithin}
use Rattle.rules.specs.Arrows.{arrows_from, arrows_in}
use Rattle.rules_profile.proofs.Facts.{IsAmong-append, IsAmong-append_left, IsAmong-append_right, rule_item, same_head}

-- of all numbers of a body, arrows to the rest are still to be added
pub record Arrowing (start now : Graph) (head : ℕ) (all rest : List ℕ) : Type 0 where
  pub same : arrows_of now ++ arrows_from head rest ≡ arrows_of start ++ arrows_from head all
  pub nodes : nodes_of now ≡ nodes_of start

pub record ArrowingAll (now : Graph) (nodes : ℕ) (all rest : List Links) : Type 0 where
  pub same : arrows_of now ++ arrows_in rest ≡ arrows_in all
  pub counted : nodes_of now ≡ nodes

-- Members by place.

arrow_among : (arrows : List Arrow) (k : ℕ) → k < length arrows → IsAmong (arrow_at arrows k) arrows
arrow_among [] k h = absurd (let bad : ⊥ = omega (arith, h) in bad)
arrow_among (a ∷ arrows) zero h = inl refl
arrow_among (a ∷ arrows) (suc k) h = inr (arrow_among arrows k (omega (arith, h)))

among_arrow : (arrows : List Arrow) (a : Arrow) → IsAmong a arrows → (k : ℕ) × (k < length arrows) × (arrow_at arrows k ≡ a)
among_arrow [] a h = absurd h
among_arrow (b ∷ arrows) a (inl e) = (0, omega arith, sym e)
among_arrow (b ∷ arrows) a (inr h) = let m = among_arrow arrows a h in (suc m.0, let l = m.1 in omega (arith, l), m.2)

number_among : (xs : List ℕ) (x : ℕ) → IsAmong x xs → (i : ℕ) × (i < length xs) × (slice_index_or xs i 0 ≡ x)
number_among [] x h = absurd h
number_among (y ∷ xs) x (inl e) = (0, omega arith, sym e)
number_among (y ∷ xs) x (inr h) = let m = number_among xs x h in (suc m.0, let l = m.1 in omega (arith, l), m.2)

place_among : (xs : List ℕ) (i : ℕ) → i < length xs → IsAmong (slice_index_or xs i 0) xs
place_among [] i h = absurd (let bad : ⊥ = omega (arith, h) in bad)
place_among (x ∷ xs) zero h = inl refl
place_among (x ∷ xs) (suc i) h = inr (place_among xs i (omega (arith, h)))

-- what an arrow from a head says
record From (head : ℕ) (body : List ℕ) (a : Arrow) : Type 0 where
  from : a.from ≡ head
  to : IsAmong a.to body

from_head : (head : ℕ) (body : List ℕ) (a : Arrow) → IsAmong a (arrows_from head body) → From head body a
from_head head [] a h = absurd h
from_head head (b ∷ body) a (inl e) = record { from = ap (λ (x : Arrow). x.from) e; to = inl (ap (λ (x : Arrow). x.to) e) }
from_head head (b ∷ body) a (inr h) = let m = from_head head body a h in record { from = m.from; to = inr m.to }

pub to_each : (head : ℕ) (body : List ℕ) (b : ℕ) → IsAmong b body → IsAmong {A = Arrow} (record { from = head; to = b }) (arrows_from head body)
to_each head [] b h = absurd h
to_each head (c ∷ body) b (inl e) = inl (ap (λ (x : ℕ). let a : Arrow = record { from = head; to = x } in a) e)
to_each head (c ∷ body) b (inr h) = inr (to_each head body b h)

-- the item that an arrow comes from
record Comes (d : Data) (items : List Tree) (a : Arrow) : Type 0 where
  link : Links
  item : Tree
  among : IsAmong item items
  stands : LinkStandsFor d link item
  joins : From link.head link.body.items a

comes : (d : Data) (links : List Links) (items : List Tree) (a : Arrow) → StandForItems d links items → IsAmong a (arrows_in links) → Comes d items a
comes d [] [] a s h = absurd h
comes d [] (t ∷ items) a s h = absurd s
comes d (l ∷ links) [] a s h = absurd s
comes d (l ∷ links) (t ∷ items) a s h = go (IsAmong-append a (arrows_from l.head l.body.items) (arrows_in links) h) (λ k. comes d links items a s.1 k)
  where
    go : IsAmong a (arrows_from l.head l.body.items) ⊎ IsAmong a (arrows_in links) → (IsAmong a (arrows_in links) → Comes d items a)
        → Comes d (t ∷ items) a
    go (inl k) next = record { link = l; item = t; among = inl refl; stands = s.0; joins = from_head l.head l.body.items a k }
    go (inr k) next = let m = next k in record { link = m.link; item = m.item; among = inr m.among; stands = m.stands; joins = m.joins }

record Linked (d : Data) (links : List Links) (t : Tree) : Type 0 where
  link : Links
  stands : LinkStandsFor d link t
  all : (a : Arrow) → IsAmong a (arrows_from link.head link.body.items) → IsAmong a (arrows_in links)

linked : (d : Data) (links : List Links) (items : List Tree) (t : Tree) → StandForItems d links items → IsAmong t items → Linked d links t
linked d [] [] t s h = absurd h
linked d [] (u ∷ items) t s h = absurd s
linked d (l ∷ links) [] t s h = absurd s
linked d (l ∷ links) (u ∷ items) t s (inl e) =
    record {
      link = l;
      stands = subst (λ (x : Tree). LinkStandsFor d l x) (sym e) s.0;
      all = λ a h. IsAmong-append_left a (arrows_from l.head l.body.items) (arrows_in links) h;
    }
linked d (l ∷ links) (u ∷ items) t s (inr h) =
    let m = linked d links items t s.1 h in
    record { link = m.link; stands = m.stands; all = λ a k. IsAmong-append_right a (arrows_from l.head l.body.items) (arrows_in links) (m.all a k) }

in_alternatives : (items : List Tree) (t : Tree) (rule : said.Alternative) → IsAmong t items → IsAmong rule (item_alternatives t)
    → IsAmong rule (alternatives items)
in_alternatives [] t rule h k = absurd h
in_alternatives (u ∷ items) t rule (inl e) k =
    IsAmong-append_left rule (item_alternatives u) (alternatives items) (subst (λ (x : Tree). IsAmong rule (item_alternatives x)) e k)
in_alternatives (u ∷ items) t rule (inr h) k = IsAmong-append_right rule (item_alternatives u) (alternatives items) (in_alternatives items t rule h k)

body_at : (d : Data) (l : Links) (t : Tree) (b : ℕ) → LinkStandsFor d l t → IsAmong b l.body.items
    → (b < length d.signatures) × IsInBodies (item_alternatives t) (relation_at d b)
body_at d l t b s h =
    let p = number_among l.body.items b h in (
      subst (λ (x : ℕ). x < length d.signatures) p.2 (s.body.inside p.0 p.1),
      subst (λ (x : ℕ). IsInBodies (item_alternatives t) (relation_at d x)) p.2 (s.body.sound p.0 p.1),
    )

same_relations : (d : Data) → NamesDiffer d.words → AreDifferentSignatures d.signatures → HaveNames d → (i j : ℕ) → i < length d.signatures
    → j < length d.signatures → relation_at d i ≡ relation_at d j → i ≡ j
same_relations d words signatures there i j h k e =
    let s : Signature = signature_at d.signatures i in
    let t : Signature = signature_at d.signatures j in
    let w : s.word ≡ t.word = words s.word t.word (there i h) (there j k) (ap (λ (r : said.Relation). r.word) e) in
    let a : s.arity ≡ t.arity = ap (λ (r : said.Relation). r.arity) e in
    signatures i j h k (ap (λ (x : ℕ). let g : Signature = record { word = x; arity = s.arity } in g) w
    ∙ ap (λ (x : ℕ). let g : Signature = record { word = t.word; arity = x } in g) a)

pub graph_stands : (d : Data) (links : List Links) (items : List Tree) → NamesDiffer d.words → AreDifferentSignatures d.signatures → HaveNames d
    → StandForItems d links items
    → IsGraphOf (length d.signatures) (λ r. relation_at d r) (arrows_in links) (alternatives items)
graph_stands d links items words signatures there s =
    let arrows : List Arrow = arrows_in links in
    record {
      different = same_relations d words signatures there;
      from_in = λ k h.
          let m = comes d links items (arrow_at arrows k) s (arrow_among arrows k h) in
          subst (λ (x : ℕ). x < length d.signatures) (sym m.joins.from) m.stands.head_in;
      to_in = λ k h.
          let m = comes d links items (arrow_at arrows k) s (arrow_among arrows k h) in
          (body_at d m.link m.item (arrow_at arrows k).to m.stands m.joins.to).0;
      sound = λ k h.
          let m = comes d links items (arrow_at arrows k) s (arrow_among arrows k h) in
          let b = (body_at d m.link m.item (arrow_at arrows k).to m.stands m.joins.to).1 in
          record {
            rule = b.rule;
            literal = b.literal;
            is_rule = in_alternatives items m.item b.rule m.among b.is_rule;
            heads = ap relation_of (same_head (item_head m.item) _ b.rule b.is_rule) ∙ sym m.stands.named
                ∙ ap (λ (r : ℕ). relation_at d r) (sym m.joins.from);
            in_body = b.in_body;
            names = b.names;
            not_distinct = b.not_distinct;
          };
      complete = λ p q x.
          let i = rule_item items x.rule x.is_rule in
          let m = linked d links items i.0 s i.1 in
          let in_bodies : IsInBodies (item_alternatives i.0) q =
          record { rule = x.rule; literal = x.literal; is_rule = i.2; in_body = x.in_body; names = x.names; not_distinct = x.not_distinct } in
          let c = m.stands.body.complete q in_bodies in
          let b : ℕ = slice_index_or m.link.body.items c.0 0 in
          let a : Arrow = record { from = m.link.head; to = b } in
          let k = among_arrow arrows a (m.all a (to_each m.link.head m.link.body.items b (place_among m.link.body.items c.0 c.1))) in
          record {
            place = k.0;
            inside = k.1;
            from = ap (λ (y : Arrow). relation_at d y.from) k.2 ∙ m.stands.named ∙ ap relation_of (sym (same_head (item_head i.0) _ x.rule i.2))
                ∙ x.heads;
            to = ap (λ (y : Arrow). relation_at d y.to) k.2 ∙ c.2;
          };
    }

-- Without cycles no body rests on its head.

pub contained : (xs : List ℕ) (x k : ℕ) → k < length xs → slice_index_or xs k x ≡ x → IsAmong x xs
contained [] x k h e = absurd (let bad : ⊥ = omega (arith, h) in bad)
contained (y ∷ xs) x zero h e = inl (sym e)
contained (y ∷ xs) x (suc k) h e = inr (contained xs x k (omega (arith, h)) e)

pub link_arrows : (links : List Links) (l : Links) (k : ℕ) → k < length links → (a : Arrow)
    → IsAmong a (arrows_from (get_or links k l).head (get_or links k l).body.items) → IsAmong a (arrows_in links)
link_arrows [] l k h a i = absurd (let bad : ⊥ = omega (arith, h) in bad)
link_arrows (m ∷ links) l zero h a i = IsAmong-append_left a (arrows_from m.head m.body.items) (arrows_in links) i
link_arrows (m ∷ links) l (suc k) h a i = IsAmong-append_right a (arrows_from m.head m.body.items) (arrows_in links)
    (link_arrows links l k (omega (arith, h)) a i)

round : (arrows : List Arrow) (head start : ℕ) → Leads arrows head start → (start ≡ head) ⊎ Reaches arrows start head → Reaches arrows head head
round arrows head start a (inl e) = (0, subst (λ (x : ℕ). Leads arrows head x) e a)
round arrows head start a (inr chain) = (suc chain.0, (start, a, chain.1))

pub first_step : (arrows : List Arrow) (head start : ℕ) → IsAmong {A = Arrow} (record { from = head; to = start }) arrows → Leads arrows head start
first_step arrows head start h =
    let p = among_arrow arrows (record { from = head; to = start }) h in
    record { place = p.0; inside = p.1; from = ap (λ (x : Arrow). x.from) p.2; to = ap (λ (x : Arrow). x.to) p.2 }

pub no_link_reached : (arrows : List Arrow) (links : List Links) → arrows ≡ arrows_in links → (IsCyclic arrows → ⊥)
    → (k : ℕ) (l : Links) → k < length links → IsReachedFrom arrows (get_or links k l).body.items (get_or links k l).head → ⊥
no_link_reached arrows links e acyclic k l h r =
    let m : Links = get_or links k l in
    let there : IsAmong r.start m.body.items = contained m.body.items r.start r.is_start.0 r.is_start.1 r.is_start.2 in
    let a = first_step arrows m.head r.start
    (subst (λ (as' : List Arrow). IsAmong {A = Arrow} (record { from = m.head; to = r.start }) as') (sym e)
    (link_arrows links l k h (record { from = m.head; to = r.start }) (to_each m.head m.body.items r.start there))) in
    acyclic (m.head, round arrows m.head r.start a r.leads)

-- In a cycle some body rests on its head.

-- the link that an arrow comes from
record Joins (links : List Links) (a : Arrow) : Type 0 where
  link : Links
  place : ℕ
  inside : place < length links
  joins : (l : Links) → From (get_or links place l).head (get_or links place l).body.items a

joined : (links : List Links) (a : Arrow) → IsAmong a (arrows_in links) → Joins links a
joined [] a h = absurd h
joined (l ∷ links) a h = go (IsAmong-append a (arrows_from l.head l.body.items) (arrows_in links) h) (λ k. joined links a k)
  where
    go : IsAmong a (arrows_from l.head l.body.items) ⊎ IsAmong a (arrows_in links) → (IsAmong a (arrows_in links) → Joins links a)
        → Joins (l ∷ links) a
    go (inl k) next = record { link = l; place = 0; inside = omega arith; joins = λ m. from_head l.head l.body.items a k }
    go (inr k) next = let m = next k in record { link = l; place = suc m.place; inside = (let i = m.inside in omega (arith, i)); joins = m.joins }

first_of_chain : (arrows : List Arrow) (p : ℕ) (m : ℕ) → ReachesIn arrows m p p → (a : ℕ) × (a < length arrows) × ((arrow_at arrows a).from ≡ p)
    × (((arrow_at arrows a).to ≡ p) ⊎ Reaches arrows (arrow_at arrows a).to p)
first_of_chain arrows p zero l = (l.place, l.inside, l.from, inl l.to)
first_of_chain arrows p (suc m) c = let l = c.1 in (l.place, l.inside, l.from, inr (subst (λ (x : ℕ). Reaches arrows x p) (sym l.to) (m, c.2)))

pub containing : (xs : List ℕ) (x : ℕ) → IsAmong x xs → (k : ℕ) × (k < length xs) × (get_or xs k x ≡ x)
containing [] x h = absurd h
containing (y ∷ xs) x (inl e) = (0, omega arith, sym e)
containing (y ∷ xs) x (inr h) = let m = containing xs x h in (suc m.0, let l = m.1 in omega (arith, l), m.2)

pub cyclic_link : (arrows : List Arrow) (links : List Links) → arrows ≡ arrows_in links → IsCyclic arrows
    → ((k : ℕ) (l : Links) → k < length links → IsReachedFrom arrows (get_or links k l).body.items (get_or links k l).head → ⊥) → ⊥
cyclic_link arrows links e cycle none =
    let f = first_of_chain arrows cycle.0 cycle.1.0 cycle.1.1 in
    let a : Arrow = arrow_at arrows f.0 in
    let j = joined links a (subst (λ (as' : List Arrow). IsAmong a as') e (arrow_among arrows f.0 f.1)) in
    let m : Links = get_or links j.place j.link in
    let n = j.joins j.link in
    let same : cycle.0 ≡ m.head = sym f.2 ∙ n.from in
    none j.place j.link j.inside (record { start = a.to; is_start = containing m.body.items a.to n.to; leads = leads a.to m.head same f.3 })
  where
    leads : (start head : ℕ) → cycle.0 ≡ head → (start ≡ cycle.0) ⊎ Reaches arrows start cycle.0 → (start ≡ head) ⊎ Reaches arrows start head
    leads start head same (inl s) = inl (s ∙ same)
    leads start head same (inr r) = inr (subst (λ (x : ℕ). Reaches arrows start x) same r)
