-- The relations that the bodies of an item name are those of its alternatives.
use Rattle.std.proofs.Common.{ℕ, suc, zero, ◌≡◌, ◌<◌, ◌⊎◌, inl, inr, Bool, true, false, cond, List, [], ◌∷◌, length, map, refl, sym, ◌∙◌, ap, subst}
use Rattle.std.proofs.Common.{arith}
use Rattle.std.specs.Prelude.{slice_index_or}
use Rattle.statement.specs.Tree.{Tree}
use Rattle.statement.specs.Clause as said
use Rattle.statement.specs.Clause.{relation_of}
use Rattle.statement.specs.Dependence.{IsAmong, is_distinct}
use Rattle.statement.specs.Items.{item_head, item_alternatives, body_trees, readings_of_all}
use Rattle.rules_clauses.specs.declared.items.Item.{Item}
use Rattle.rules_clauses.specs.Spread.{lists_of}
use Rattle.rules_clauses.specs.Store.{Data, relation_at}
use Rattle.rules_clauses.specs.Adding.{LiteralStandsFor, StandForEach, StandForLists}
use Rattle.rules_clauses.specs.ItemView.{ItemStandsFor}
use Rattle.rules_clauses.specs.Marks.{literal_in}
use Rattle.rules.specs.Bodies.{named_relation, named_relations, all_named_relations, HaveSame}
use Rattle.rules.specs.Numbering.{IsInBodies, AreBodyNumbers}
use Rattle.rules_profile.proofs.Facts.{IsAmong-append, IsAmong-append_left, IsAmong-append_right}

-- what a number of a body's relations says
record Names (d : Data) (r : ℕ) (l : said.Literal) : Type 0 where
  inside : r < length d.signatures
  same : relation_at d r ≡ relation_of (said.atom_of l)
  no_distinct : is_distinct (relation_at d r) ≡ false

one_named : (from : ℕ) (d : Data) (n : ℕ) (l : said.Literal) (r : ℕ) → LiteralStandsFor from d n l → IsAmong r (named_relation d n) → Names d r l
one_named from d n l r s h = go (is_distinct (relation_at d (literal_in d n).atom.relation)) refl h
  where
    go : (b : Bool) → is_distinct (relation_at d (literal_in d n).atom.relation) ≡ b → IsAmong r (cond b [] ((literal_in d n).atom.relation ∷ []))
        → Names d r l
    go true e h2 = absurd h2
    go false e (inl same) =
        subst (λ (k : ℕ). Names d k l) (sym same) (record { inside = s.atom.relation; same = s.atom.same_relation; no_distinct = e })
    go false e (inr h2) = absurd h2

one_there : (from : ℕ) (d : Data) (n : ℕ) (l : said.Literal) → LiteralStandsFor from d n l → is_distinct (relation_of (said.atom_of l)) ≡ false
    → IsAmong (literal_in d n).atom.relation (named_relation d n)
one_there from d n l s e =
    subst (λ (b : Bool). IsAmong (literal_in d n).atom.relation (cond b [] ((literal_in d n).atom.relation ∷ [])))
    (sym (ap is_distinct s.atom.same_relation ∙ e)) (inl refl)

record Sound (d : Data) (r : ℕ) (ls : List said.Literal) : Type 0 where
  literal : said.Literal
  among : IsAmong literal ls
  names : Names d r literal

named_sound : (from : ℕ) (d : Data) (ns : List ℕ) (ls : List said.Literal) (r : ℕ) → StandForEach from d ns ls → IsAmong r (named_relations d ns)
    → Sound d r ls
named_sound from d [] [] r s h = absurd h
named_sound from d [] (l ∷ ls) r s h = absurd s
named_sound from d (n ∷ ns) [] r s h = absurd s
named_sound from d (n ∷ ns) (l ∷ ls) r s h = go (IsAmong-append r (named_relation d n) (named_relations d ns) h)
    (λ k. named_sound from d ns ls r s.1 k)
  where
    go : IsAmong r (named_relation d n) ⊎ IsAmong r (named_relations d ns) → (IsAmong r (named_relations d ns) → Sound d r ls) → Sound d r (l ∷ ls)
    go (inl k) next = record { literal = l; among = inl refl; names = one_named from d n l r s.0 k }
    go (inr k) next = let m = next k in record { literal = m.literal; among = inr m.among; names = m.names }

record Complete (d : Data) (numbers : List ℕ) (q : said.Relation) : Type 0 where
  number : ℕ
  among : IsAmong number numbers
  names : relation_at d number ≡ q

named_complete : (from : ℕ) (d : Data) (ns : List ℕ) (ls : List said.Literal) (l : said.Literal) → StandForEach from d ns ls → IsAmong l ls
    → is_distinct (relation_of (said.atom_of l)) ≡ false
    → Complete d (named_relations d ns) (relation_of (said.atom_of l))
named_complete from d [] [] l s h e = absurd h
named_complete from d [] (k ∷ ls) l s h e = absurd s
named_complete from d (n ∷ ns) [] l s h e = absurd s
named_complete from d (n ∷ ns) (k ∷ ls) l s (inl same) e =
    let f : is_distinct (relation_of (said.atom_of k)) ≡ false =
    subst (λ (x : said.Literal). is_distinct (relation_of (said.atom_of x)) ≡ false) same e in
    record {
      number = (literal_in d n).atom.relation;
      among = IsAmong-append_left _ (named_relation d n) (named_relations d ns) (one_there from d n k s.0 f);
      names = s.0.atom.same_relation ∙ ap (λ (x : said.Literal). relation_of (said.atom_of x)) (sym same);
    }
named_complete from d (n ∷ ns) (k ∷ ls) l s (inr h) e =
    let m = named_complete from d ns ls l s.1 h e in
    record { number = m.number; among = IsAmong-append_right _ (named_relation d n) (named_relations d ns) m.among; names = m.names }

record SoundAll (d : Data) (r : ℕ) (rs : List (List said.Literal)) : Type 0 where
  body : List said.Literal
  among : IsAmong body rs
  sound : Sound d r body

all_sound : (from : ℕ) (d : Data) (lists : List (List ℕ)) (rs : List (List said.Literal)) (r : ℕ) → StandForLists from d lists rs
    → IsAmong r (all_named_relations d lists) → SoundAll d r rs
all_sound from d [] [] r s h = absurd h
all_sound from d [] (b ∷ rs) r s h = absurd s
all_sound from d (ns ∷ lists) [] r s h = absurd s
all_sound from d (ns ∷ lists) (b ∷ rs) r s h =
    go (IsAmong-append r (named_relations d ns) (all_named_relations d lists) h) (λ k. all_sound from d lists rs r s.1 k)
  where
    go : IsAmong r (named_relations d ns) ⊎ IsAmong r (all_named_relations d lists) → (IsAmong r (all_named_relations d lists) → SoundAll d r rs)
        → SoundAll d r (b ∷ rs)
    go (inl k) next = record { body = b; among = inl refl; sound = named_sound from d ns b r s.0 k }
    go (inr k) next = let m = next k in record { body = m.body; among = inr m.among; sound = m.sound }

all_complete : (from : ℕ) (d : Data) (lists : List (List ℕ)) (rs : List (List said.Literal)) (b : List said.Literal) (l : said.Literal)
    → StandForLists from d lists rs → IsAmong b rs → IsAmong l b
    → is_distinct (relation_of (said.atom_of l)) ≡ false → Complete d (all_named_relations d lists) (relation_of (said.atom_of l))
all_complete from d [] [] b l s h k e = absurd h
all_complete from d [] (c ∷ rs) b l s h k e = absurd s
all_complete from d (ns ∷ lists) [] b l s h k e = absurd s
all_complete from d (ns ∷ lists) (c ∷ rs) b l s (inl same) k e =
    let m = named_complete from d ns c l s.0 (subst (λ (x : List said.Literal). IsAmong l x) same k) e in
    record { number = m.number; among = IsAmong-append_left _ (named_relations d ns) (all_named_relations d lists) m.among; names = m.names }
all_complete from d (ns ∷ lists) (c ∷ rs) b l s (inr h) k e =
    let m = all_complete from d lists rs b l s.1 h k e in
    record { number = m.number; among = IsAmong-append_right _ (named_relations d ns) (all_named_relations d lists) m.among; names = m.names }

-- Members by place.

at_among : (xs : List ℕ) (i : ℕ) → i < length xs → IsAmong (slice_index_or xs i 0) xs
at_among [] i h = absurd (let bad : ⊥ = omega (arith, h) in bad)
at_among (x ∷ xs) zero h = inl refl
at_among (x ∷ xs) (suc i) h = inr (at_among xs i (omega (arith, h)))

among_at : (xs : List ℕ) (x : ℕ) → IsAmong x xs → (i : ℕ) × (i < length xs) × (slice_index_or xs i 0 ≡ x)
among_at [] x h = absurd h
among_at (y ∷ xs) x (inl e) = (0, omega arith, sym e)
among_at (y ∷ xs) x (inr h) = let m = among_at xs x h in (suc m.0, let l = m.1 in omega (arith, l), m.2)

pub in_map : (h : said.Atom) (b : List said.Literal) (rs : List (List said.Literal)) → IsAmong b rs
    → IsAmong {A = said.Alternative} (record { head = h; body = b }) (map (λ (x : List said.Literal). record { head = h; body = x }) rs)
in_map h b [] k = absurd k
in_map h b (c ∷ rs) (inl e) = inl (ap (λ (x : List said.Literal). record { head = h; body = x }) e)
in_map h b (c ∷ rs) (inr k) = inr (in_map h b rs k)

pub of_map : (h : said.Atom) (a : said.Alternative) (rs : List (List said.Literal))
    → IsAmong a (map (λ (x : List said.Literal). record { head = h; body = x }) rs) → IsAmong a.body rs
of_map h a [] k = absurd k
of_map h a (c ∷ rs) (inl e) = inl (ap (λ (x : said.Alternative). x.body) e)
of_map h a (c ∷ rs) (inr k) = inr (of_map h a rs k)

-- the numbers are those of the relations in the bodies of the item
pub body_numbers : (d : Data) (i : Item) (t : Tree) → ItemStandsFor d i t
    → AreBodyNumbers (length d.signatures) (λ r. relation_at d r) (item_alternatives t) (all_named_relations d (lists_of i.bodies.items))
body_numbers d i t s =
    let lists : List (List ℕ) = lists_of i.bodies.items in
    let rs : List (List said.Literal) = readings_of_all (body_trees t) in
    let numbers : List ℕ = all_named_relations d lists in
    record {
      inside = λ k h. (all_sound i.variables.from d lists rs (slice_index_or numbers k 0) s.bodies (at_among numbers k h)).sound.names.inside;
      sound = λ k h.
          let m = all_sound i.variables.from d lists rs (slice_index_or numbers k 0) s.bodies (at_among numbers k h) in
          record {
            rule = record { head = item_head t; body = m.body };
            literal = m.sound.literal;
            is_rule = in_map (item_head t) m.body rs m.among;
            in_body = m.sound.among;
            names = sym m.sound.names.same;
            not_distinct = m.sound.names.no_distinct;
          };
      complete = λ q b.
          let m = all_complete i.variables.from d lists rs b.rule.body b.literal s.bodies (of_map (item_head t) b.rule rs b.is_rule) b.in_body
          (subst (λ (x : said.Relation). is_distinct x ≡ false) (sym b.names) b.not_distinct) in
          let p = among_at numbers m.number m.among in
          (p.0, p.1, ap (λ (r : ℕ). relation_at d r) p.2 ∙ m.names ∙ b.names);
    }

-- other numbers that are the same, however often
pub same_body_numbers : (n : ℕ) (name : ℕ → said.Relation) (rules : List said.Alternative) (xs ys : List ℕ) → HaveSame xs ys
    → AreBodyNumbers n name rules ys → AreBodyNumbers n name rules xs
same_body_numbers n name rules xs ys h b =
    record {
      inside = λ i less. let p = place i less in subst (λ (x : ℕ). x < n) p.2 (b.inside p.0 p.1);
      sound = λ i less. let p = place i less in subst (λ (x : ℕ). IsInBodies rules (name x)) p.2 (b.sound p.0 p.1);
      complete = λ q k.
          let j = b.complete q k in
          let p = among_at xs (slice_index_or ys j.0 0) ((h (slice_index_or ys j.0 0)).1 (at_among ys j.0 j.1)) in
          (p.0, p.1, ap name p.2 ∙ j.2);
    }
  where
    place : (i : ℕ) → i < length xs → (j : ℕ) × (j < length ys) × (slice_index_or ys j 0 ≡ slice_index_or xs i 0)
    place i less = among_at ys (slice_index_or xs i 0) ((h (slice_index_or xs i 0)).0 (at_among xs i less))
