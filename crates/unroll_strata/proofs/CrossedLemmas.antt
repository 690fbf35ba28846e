-- An item rests on itself through a negated atom exactly where the numbers of its relations are crossed.
use Rattle.std.proofs.Common.{ℕ, zero, suc, Bool, true, false, cond, ◌≡◌, ◌<◌, ◌+◌, ◌-◌, ◌⊎◌, inl, inr, List, [], ◌∷◌, map, length, get_or, refl, sym, ap, subst, ◌∙◌, arith, Option, Some, None}
use Rattle.std.specs.Prelude.{All, Contains}
use Rattle.statement.specs.Tree.{Tree, name}
use Rattle.statement.specs.Clause.{Atom, Literal, positive, negative, Relation, relation_of, relation_eq, atom_of}
use Rattle.statement.specs.Items.{item_head}
use Rattle.statement.specs.Dependence.{IsAmong, is_among, is_distinct, Depends, DependsIn}
use Rattle.util_digraph.specs.Graph.{Reaches}
use Rattle.util_digraph.specs.Grouping.{LeadsOn}
use Rattle.rules.specs.declared.item_links.Links.{Links}
use Rattle.rules.specs.ItemLinks.{LinksWithin, IsFirstSuch}
use Rattle.rules_relations.specs.Asking.{body_literals, asked_relations, heads_it, some_item}
use Rattle.rules_profile.proofs.Facts.{relation_eq_self, or_left, or_right}
use Rattle.unroll_strata.specs.Strata.{IsCrossed}
use Rattle.unroll_strata.specs.Numbering.{number_in, numbers_in, negated_among, negated_relations, head_number, items_arrows, negation_of, link_in}
use Rattle.unroll_strata.specs.Resting.{RestsOnItsNegation, rules_in}
use Rattle.unroll_strata.proofs.NumberLemmas.{number_within, number_differs}
use Rattle.unroll_strata.proofs.ChainLemmas.{map_among, Numbered, among_numbers, numbers_among, arrow_leads, AreHeadsKnown, chain_depends, depends_chain}

-- Members of lists.

contains_among : (xs : List ℕ) (x : ℕ) → Contains xs x → IsAmong x xs
contains_among xs x c = go xs c.0 c.1 c.2
  where
    go : (xs : List ℕ) (i : ℕ) → i < length xs → get_or xs i x ≡ x → IsAmong x xs
    go [] i h e = absurd (let bad : ⊥ = omega (arith, h) in bad)
    go (y ∷ ys) zero h e = inl (sym e)
    go (y ∷ ys) (suc i) h e = inr (go ys i (omega (arith, h)) e)

among_contains : (xs : List ℕ) (x : ℕ) → IsAmong x xs → Contains xs x
among_contains xs x h = let m = go xs h in (m.0, m.1, m.2)
  where
    go : (xs : List ℕ) → IsAmong x xs → (i : ℕ) × (i < length xs) × (get_or xs i x ≡ x)
    go [] h = absurd h
    go (y ∷ ys) (inl e) = (0, omega arith, sym e)
    go (y ∷ ys) (inr h) = let m = go ys h in (suc m.0, let l = m.1 in omega (arith, l), m.2)

item_among : (ts : List Tree) (k : ℕ) (t : Tree) → k < length ts → IsAmong (get_or ts k t) ts
item_among [] k t h = absurd (let bad : ⊥ = omega (arith, h) in bad)
item_among (u ∷ ts) zero t h = inl refl
item_among (u ∷ ts) (suc k) t h = inr (item_among ts k t (omega (arith, h)))

-- Negated literals.

negated_atom : (ls : List Literal) (q : Relation) → IsAmong q (negated_among ls) → (x : Atom) × IsAmong (negative x) ls × (relation_of x ≡ q)
negated_atom [] q h = absurd h
negated_atom (positive x ∷ ls) q h = let m = negated_atom ls q h in (m.0, inr m.1, m.2)
negated_atom (negative x ∷ ls) q (inl e) = (x, inl refl, sym e)
negated_atom (negative x ∷ ls) q (inr h) = let m = negated_atom ls q h in (m.0, inr m.1, m.2)

atom_negated : (ls : List Literal) (x : Atom) → IsAmong (negative x) ls → IsAmong (relation_of x) (negated_among ls)
atom_negated [] x h = absurd h
atom_negated (positive y ∷ ls) x (inl e) = absurd (let bad : ⊥ = cc in bad)
atom_negated (positive y ∷ ls) x (inr h) = atom_negated ls x h
atom_negated (negative y ∷ ls) x (inl e) = inl (ap (λ l. relation_of (atom_of l)) e)
atom_negated (negative y ∷ ls) x (inr h) = inr (atom_negated ls x h)

-- Heads.

stated : (items : List Tree) (t : Tree) → IsAmong t items → some_item (heads_it (relation_of (item_head t))) items ≡ true
stated [] t h = absurd h
stated (u ∷ items) t (inl e) =
    or_left _ _ (subst (λ (x : Tree). relation_eq (relation_of (item_head x)) (relation_of (item_head t)) ≡ true) e (relation_eq_self (relation_of (item_head t))))
stated (u ∷ items) t (inr h) = or_right (heads_it (relation_of (item_head t)) u) _ (stated items t h)

pub heads_known : (known : List Relation) (items : List Tree) → ((p : Relation) → is_among p known ≡ some_item (heads_it p) items) → AreHeadsKnown known items
heads_known known items same t h = same (relation_of (item_head t)) ∙ stated items t h

-- One item.

module _ (known : List Relation) (items : List Tree) (heads : AreHeadsKnown known items) (t : Tree) (link : Links)
    (same : link_in link ≡ negation_of known t) (there : IsAmong t items) where
  head_is : link.head ≡ head_number known t
  head_is = ap (λ (x : ℕ × List ℕ). x.0) same

  body_is : link.body.items ≡ numbers_in known (negated_relations t)
  body_is = ap (λ (x : ℕ × List ℕ). x.1) same

  back_to : (q : Relation) → Reaches (items_arrows known items) (number_in known q) (head_number known t) → Depends (rules_in items) q (relation_of (item_head t))
  back_to q c =
      let r = chain_depends known items heads c.0 q (head_number known t) c.1 in
      let e : relation_of (item_head t) ≡ r.relation = number_differs known (relation_of (item_head t)) r.relation (heads t there) (sym r.number) in
      (c.0, subst (λ (x : Relation). DependsIn (rules_in items) c.0 q x) (sym e) r.depends)

  back : (q : Relation) → LeadsOn (items_arrows known items) (number_in known q) (head_number known t)
      → (q ≡ relation_of (item_head t)) ⊎ Depends (rules_in items) q (relation_of (item_head t))
  back q (inl e) = inl (sym (number_differs known (relation_of (item_head t)) q (heads t there) (sym e)))
  back q (inr c) = inr (back_to q c)

  crossed_rests : IsCrossed (items_arrows known items) link → RestsOnItsNegation items t
  crossed_rests c =
      let m : Numbered known (negated_relations t) c.relation =
      among_numbers known (negated_relations t) c.relation (subst (λ (xs : List ℕ). IsAmong c.relation xs) body_is (contains_among link.body.items c.relation c.in_body)) in
      let a = negated_atom (body_literals t) m.relation m.among in
      record {
        atom = a.0;
        in_body = a.1;
        not_distinct = subst (λ (x : Relation). is_distinct x ≡ false) (sym a.2) m.not_distinct;
        back = subst (λ (x : Relation). (x ≡ relation_of (item_head t)) ⊎ Depends (rules_in items) x (relation_of (item_head t))) (sym a.2)
            (back m.relation (subst (λ (x : ℕ). LeadsOn (items_arrows known items) x (head_number known t)) (sym m.number)
            (subst (λ (x : ℕ). LeadsOn (items_arrows known items) c.relation x) head_is c.back)));
      }

  forth : (q : Relation) → (q ≡ relation_of (item_head t)) ⊎ Depends (rules_in items) q (relation_of (item_head t))
      → LeadsOn (items_arrows known items) (number_in known q) (head_number known t)
  forth q (inl e) = inl (ap (number_in known) e)
  forth q (inr d) = inr (d.0, depends_chain known items d.0 q (relation_of (item_head t)) d.1)

  rests_crossed : RestsOnItsNegation items t → IsCrossed (items_arrows known items) link
  rests_crossed r =
      let q : Relation = relation_of r.atom in
      let asked : IsAmong q (asked_relations t) = map_among (λ (y : Literal). relation_of (atom_of y)) (body_literals t) (negative r.atom) r.in_body in
      let negated : IsAmong (number_in known q) (numbers_in known (negated_relations t)) =
      numbers_among known (negated_relations t) q (atom_negated (body_literals t) r.atom r.in_body) r.not_distinct in
      record {
        relation = number_in known q;
        in_body = among_contains link.body.items (number_in known q) (subst (λ (xs : List ℕ). IsAmong (number_in known q) xs) (sym body_is) negated);
        forth = subst (λ (x : ℕ). LeadsOn (items_arrows known items) x (number_in known q)) (sym head_is)
            (inr (0, arrow_leads known items t q there asked r.not_distinct));
        back = subst (λ (x : ℕ). LeadsOn (items_arrows known items) (number_in known q) x) (sym head_is) (forth q r.back);
      }

-- All items.

abbrev first_or : List (ℕ × List ℕ) → ℕ × List ℕ
first_or [] = (0, [])
first_or (x ∷ xs) = x

abbrev rest_of : List (ℕ × List ℕ) → List (ℕ × List ℕ)
rest_of [] = []
rest_of (x ∷ xs) = xs

lengths : (known : List Relation) (ls : List Links) (ts : List Tree) → map link_in ls ≡ map (negation_of known) ts → length ls ≡ length ts
lengths known [] [] e = refl
lengths known [] (t ∷ ts) e = absurd (let bad : ⊥ = cc in bad)
lengths known (l ∷ ls) [] e = absurd (let bad : ⊥ = cc in bad)
lengths known (l ∷ ls) (t ∷ ts) e = ap suc (lengths known ls ts (ap rest_of e))

same_at : (known : List Relation) (ls : List Links) (ts : List Tree) → map link_in ls ≡ map (negation_of known) ts → (k : ℕ) (l : Links) (t : Tree)
    → k < length ts → link_in (get_or ls k l) ≡ negation_of known (get_or ts k t)
same_at known ls [] e k l t h = absurd (let bad : ⊥ = omega (arith, h) in bad)
same_at known [] (u ∷ ts) e k l t h = absurd (let bad : ⊥ = cc in bad)
same_at known (x ∷ ls) (u ∷ ts) e zero l t h = ap first_or e
same_at known (x ∷ ls) (u ∷ ts) e (suc k) l t h = same_at known ls ts (ap rest_of e) k l t (omega (arith, h))

some_link : (ls : List Links) (k : ℕ) → k < length ls → Links
some_link [] k h = absurd (let bad : ⊥ = omega (arith, h) in bad)
some_link (l ∷ ls) k h = l

pub numbers_below : (known ps : List Relation) (i d : ℕ) → i < length (numbers_in known ps) → get_or (numbers_in known ps) i d < length known + 1
numbers_below known [] i d h = absurd (let bad : ⊥ = omega (arith, h) in bad)
numbers_below known (p ∷ ps) i d h = go (is_distinct p) i h (λ j g. numbers_below known ps j d g)
  where
    go : (b : Bool) (i : ℕ) → i < length (cond b (numbers_in known ps) (number_in known p ∷ numbers_in known ps))
        → ((j : ℕ) → j < length (numbers_in known ps) → get_or (numbers_in known ps) j d < length known + 1)
        → get_or (cond b (numbers_in known ps) (number_in known p ∷ numbers_in known ps)) i d < length known + 1
    go true i h next = next i h
    go false zero h next = let w = number_within known p in omega (arith, w)
    go false (suc i) h next = next i (omega (arith, h))

module _ (known : List Relation) (items : List Tree) (heads : AreHeadsKnown known items) (links : List Links)
    (same : map link_in links ≡ map (negation_of known) items) where
  pub links_within : All (LinksWithin (length known + 1)) links
  links_within = λ k l h.
      let there : k < length items = (let e = lengths known links items same in omega (arith, h, e)) in
      let m = same_at known links items same k l (name []) there in
      let t : Tree = get_or items k (name []) in
      record {
        head = subst (λ (x : ℕ). x < length known + 1) (sym (ap (λ (x : ℕ × List ℕ). x.0) m))
            (let w = number_within known (relation_of (item_head t)) in omega (arith, w));
        body = subst (λ (xs : List ℕ). All (λ number. number < length known + 1) xs) (sym (ap (λ (x : ℕ × List ℕ). x.1) m))
            (λ i d g. numbers_below known (negated_relations t) i d g);
      }

  rests : (k : ℕ) (l : Links) (t : Tree) → k < length items → IsCrossed (items_arrows known items) (get_or links k l) → RestsOnItsNegation items (get_or items k t)
  rests k l t h c =
      crossed_rests known items heads (get_or items k t) (get_or links k l) (same_at known links items same k l t h) (item_among items k t h) c

  crosses : (k : ℕ) (l : Links) (t : Tree) → k < length items → RestsOnItsNegation items (get_or items k t) → IsCrossed (items_arrows known items) (get_or links k l)
  crosses k l t h r =
      rests_crossed known items heads (get_or items k t) (get_or links k l) (same_at known links items same k l t h) (item_among items k t h) r

  link_for : (k : ℕ) → k < length items → Links
  link_for k h = some_link links k (let e = lengths known links items same in omega (arith, h, e))

  link_in_reach : (k : ℕ) → k < length items → k < length links
  link_in_reach k h = let e = lengths known links items same in omega (arith, h, e)

  pub first_rests : (found : Option ℕ) → IsFirstSuch (IsCrossed (items_arrows known items)) links found
      → IsFirstSuch (RestsOnItsNegation items) items found
  first_rests None f = λ k t h r. f k (link_for k h) (link_in_reach k h) (crosses k (link_for k h) t h r)
  first_rests (Some i) f =
      let e = lengths known links items same in
      let a = f.counted in
      let b = f.inside in
      record {
        counted = f.counted;
        inside = omega (arith, b, e);
        has = λ t. let h : i - 1 < length items = omega (arith, a, b, e) in rests (i - 1) (link_for (i - 1) h) t h (f.has (link_for (i - 1) h));
        before = λ k t low g r.
            let h : k < length items = omega (arith, a, b, e, g) in f.before k (link_for k h) low g (crosses k (link_for k h) t h r);
      }
