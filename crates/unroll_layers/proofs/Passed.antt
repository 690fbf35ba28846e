-- What is known of items that pass all tests, also where layers keep those before.
use Rattle.std.proofs.Common.{ℕ, zero, suc, Bool, true, false, not, ◌&&◌, ◌||◌, ◌≡◌, ◌<◌, ◌≤◌, ◌⊎◌, inl, inr, List, [], ◌∷◌, map, filter, length, refl, sym, ap, subst, ◌∙◌, arith}
use Rattle.std.specs.Prelude.{slice_index_or, nat_lt, ◌==◌, Vec}
use Rattle.std.specs.Bool.{OnTrue}
use Rattle.std.specs.List.{list_all, list_any}
use Rattle.statement.specs.Tree.{Tree}
use Rattle.statement.specs.Clause.{Atom, Literal, positive, Alternative, Relation, relation_of, relation_eq, atom_eq}
use Rattle.statement.specs.Dependence.{IsAmong, is_among}
use Rattle.statement.specs.Items.{atom_in, item_head, item_alternatives, alternatives}
use Rattle.kif.proofs.Facts.{both}
use Rattle.rules_profile.proofs.Facts.{rule_item, same_head, relation_eq_yes, relation_eq_self, atom_eq_yes, IsAmong-append_left, IsAmong-append_right}
use Rattle.meaning.proofs.Facts.{among_filter, among_filter_in}
use Rattle.rules_relations.specs.Asking.{heads_it, some_item}
use Rattle.meaning.specs.Layers.{IsFirst, layered, layer_of, named}
use Rattle.meaning.specs.Names.{name_in, word_in, names_of}
use Rattle.meaning.specs.Stacks.{IsInner, IsCarrying}
use Rattle.unroll_layers.specs.Naming.{in_layer, are_unfit}
use Rattle.unroll_layers.specs.Kinds.{is_plain, is_single, count_own, body_of, heads_one, is_too_many, is_unclear, is_count, is_of_kind}
use Rattle.unroll_layers.specs.Layering.{is_item_of, is_layer, is_next, is_carrying, is_carried_body, are_next, are_layers, is_renamed, is_top_body, is_stray_top, passes}
use Rattle.unroll_layers.proofs.Bodies.{literal_of, rule_of, one_rule, is_rule, plain_single, plain_literal, first_body, inner_body}
use Rattle.unroll_layers.proofs.ItemLaws.{step_rule, first_rule, forth, back, forth_last, back_last}
use Rattle.unroll_layers.proofs.NameLaws.{left_false, right_false, is_there}

no_item : (test : Tree → Bool) (ts : List Tree) (t : Tree) → some_item test ts ≡ false → IsAmong t ts → test t ≡ false
no_item test [] t h a = absurd a
no_item test (u ∷ ts) t h (inl e) = ap test e ∙ left_false (test u) (some_item test ts) h
no_item test (u ∷ ts) t h (inr a) = no_item test ts t (right_false (test u) (some_item test ts) h) a

all_of : (test : Relation → Bool) (ps : List Relation) (p : Relation) → list_all test ps ≡ true → IsAmong p ps → test p ≡ true
all_of test [] p h a = absurd a
all_of test (q ∷ ps) p h (inl e) = ap test e ∙ (both (test q) (list_all test ps) h).0
all_of test (q ∷ ps) p h (inr a) = all_of test ps p (both (test q) (list_all test ps) h).1 a

-- the rule of an item is among those of the list
lone_rule : (items : List Tree) (t : Tree) (rule : Alternative) → IsAmong t items → item_alternatives t ≡ rule ∷ []
    → IsAmong rule (alternatives items)
lone_rule [] t rule a e = absurd a
lone_rule (u ∷ items) t rule (inl s) e =
    IsAmong-append_left rule (item_alternatives u) (alternatives items)
    (subst (λ (rs : List Alternative). IsAmong rule rs) (sym e ∙ ap item_alternatives s) (inl refl))
lone_rule (u ∷ items) t rule (inr a) e = IsAmong-append_right rule (item_alternatives u) (alternatives items) (lone_rule items t rule a e)

head_of_rule : (t : Tree) (rule : Alternative) → IsAmong rule (item_alternatives t) → relation_of rule.head ≡ relation_of (item_head t)
head_of_rule t rule a = ap relation_of (same_head (item_head t) _ rule a)

one_of : (rule : Alternative) (rules : List Alternative) (r : Alternative) → rules ≡ r ∷ [] → IsAmong rule rules → rule ≡ r
one_of rule rules r e a = go (subst (λ (rs : List Alternative). IsAmong rule rs) e a)
  where
    go : IsAmong rule (r ∷ []) → rule ≡ r
    go (inl s) = s
    go (inr none) = absurd none

-- one of the layers behind the first
next_at : (own : List Relation) (p : Relation) (keeps : Bool) (before : List (List ℕ)) (layers : List (List (List ℕ))) (found written : List Tree) (k : ℕ)
    → are_next own p keeps before layers found written ≡ true → k < length layers
    → is_next own p keeps (slice_index_or layers k []) (slice_index_or (before ∷ layers) k []) found written ≡ true
next_at own p keeps before [] found written k h l = absurd (omega arith)
next_at own p keeps before (names ∷ layers) found written zero h l =
    (both (is_next own p keeps names before found written) (are_next own p keeps names layers found written) h).0
next_at own p keeps before (names ∷ layers) found written (suc k) h l =
    next_at own p keeps names layers found written k (both (is_next own p keeps names before found written) (are_next own p keeps names layers found written) h).1
    (let m : k < length layers = omega arith in m)

first_of_two : (a b : Bool) → (a && not b) ≡ false → a ≡ true → b ≡ true
first_of_two true true h e = refl
first_of_two true false h e = absurd (let bad : ⊥ = cc in bad)
first_of_two false b h e = absurd (let bad : ⊥ = cc in bad)

not_right : (b : Bool) → not b ≡ false → b ≡ true
not_right true h = refl
not_right false h = absurd (let bad : ⊥ = cc in bad)

second_of : (a b : Bool) → (a && b) ≡ false → a ≡ true → b ≡ false
second_of true b h e = h
second_of false b h e = absurd (let bad : ⊥ = cc in bad)

pub few : (n : ℕ) → nat_lt 1 n ≡ false → nat_lt 0 n ≡ true → n ≡ 1
few zero h m = absurd (let bad : ⊥ = cc in bad)
few (suc zero) h m = refl
few (suc (suc n)) h m = absurd (grind (arith, h))

none_or_some : (n : ℕ) → (n ≡ 0) ⊎ (nat_lt 0 n ≡ true)
none_or_some zero = inl refl
none_or_some (suc n) = inr (grind arith)

same_number : (m n : ℕ) → (m == n) ≡ true → m ≡ n
same_number m n h = grind (arith, h)

is_number : (m n : ℕ) → m ≡ n → (m == n) ≡ true
is_number m n h = grind (arith, h)

both_ways : (b : Bool) → b ≡ true → b ≡ false → ⊥
both_ways true e f = cc
both_ways false e f = cc

-- a found item has its own in the layer behind one, where one more may stand behind them
next_item : (own : List Relation) (p : Relation) (keeps : Bool) (names before : List (List ℕ)) (found written : List Tree) (t : Tree)
    → is_next own p keeps names before found written ≡ true → IsAmong t found
    → (u : Tree) × IsAmong u (filter (heads_it (in_layer own names p)) written) × (is_item_of own names before t u ≡ true)
next_item own p true names before found written t h a =
    forth_last (is_item_of own names before) (is_carrying (name_in own before p)) found (filter (heads_it (in_layer own names p)) written) t h a
next_item own p false names before found written t h a =
    forth (is_item_of own names before) found (filter (heads_it (in_layer own names p)) written) t h a

-- and each of the layer is one of those, or what carries the one before
back_item : (own : List Relation) (p : Relation) (keeps : Bool) (names before : List (List ℕ)) (found written : List Tree) (u : Tree)
    → is_next own p keeps names before found written ≡ true → IsAmong u (filter (heads_it (in_layer own names p)) written)
    → ((t : Tree) × IsAmong t found × (is_item_of own names before t u ≡ true)) ⊎ ((keeps ≡ true) × (is_carrying (name_in own before p) u ≡ true))
back_item own p true names before found written u h a =
    go (back_last (is_item_of own names before) (is_carrying (name_in own before p)) found (filter (heads_it (in_layer own names p)) written) u h a)
  where
    go : ((t : Tree) × IsAmong t found × (is_item_of own names before t u ≡ true)) ⊎ (is_carrying (name_in own before p) u ≡ true)
        → ((t : Tree) × IsAmong t found × (is_item_of own names before t u ≡ true)) ⊎ ((true ≡ true) × (is_carrying (name_in own before p) u ≡ true))
    go (inl r) = inl r
    go (inr c) = inr (refl, c)
back_item own p false names before found written u h a =
    inl (back (is_item_of own names before) found (filter (heads_it (in_layer own names p)) written) u h a)

-- an item that says so of a relation carries the layer before
carries : (word : ℕ → Relation → List ℕ) (k : ℕ) (p : Relation) (u : Tree) (rule : Alternative) → relation_of rule.head ≡ layer_of word (suc k) p
    → IsAmong rule (item_alternatives u) → is_carrying (word k p) u ≡ true → IsCarrying word k p rule
carries word k p u rule e r h = go (body_of u) refl h
  where
    go : (ts : List Tree) → body_of u ≡ ts → is_carried_body (word k p) (item_head u) ts ≡ true → IsCarrying word k p rule
    go [] b c = absurd (let bad : ⊥ = cc in bad)
    go (v ∷ w ∷ ws) b c = absurd (let bad : ⊥ = cc in bad)
    go (v ∷ []) b c =
        let x : Atom = record { word = p.word; terms = rule.head.terms } in
        let same : relation_of x ≡ p = λ i. record { word = p.word; arity = (e i).arity } in
        let t = both (is_plain v) (atom_eq (atom_in v) (record { word = word k p; terms = (item_head u).terms })) c in
        let s : list_all is_single (body_of u) ≡ true = ap (list_all is_single) b ∙ ap (λ (b : Bool). b && true) (plain_single v t.0) in
        let is : rule ≡ rule_of u = is_rule u rule s r in
        let before : atom_in v ≡ record { word = word k p; terms = (item_head u).terms } = atom_eq_yes (atom_in v) _ t.1 in (
          x,
          same,
          (λ i. record { word = (e i).word; terms = rule.head.terms }) ∙ (λ i. record { word = word (suc k) (sym same i); terms = rule.head.terms }),
          ap (λ (x : Alternative). x.body) is ∙ ap (map literal_of) b ∙ ap (λ (x : Literal). x ∷ []) (plain_literal v t.0 ∙ ap positive before)
              ∙ (λ i. positive (record { word = word k (sym same i); terms = (sym is i).head.terms }) ∷ []),
        )

module _ (keeps : Bool) (own : List Relation) (first_names : List (List ℕ)) (rest : List (List (List ℕ))) (found written : List Tree)
    (fit : are_unfit own (first_names ∷ rest) ≡ false)
    (clear : some_item (is_unclear own keeps) found ≡ false)
    (tops : some_item (is_stray_top own (first_names ∷ rest)) written ≡ false)
    (laid : list_all (λ p. are_layers own p keeps (first_names ∷ rest) found written) own ≡ true)
  where
    abbrev layers : List (List (List ℕ))
    layers = first_names ∷ rest

    abbrev is_own : Relation → Bool
    is_own p = is_among p own

    abbrev word : ℕ → Relation → List ℕ
    word = word_in own layers

    -- a found item of an own relation is clear
    is_clear : (t : Tree) → IsAmong t found → is_own (relation_of (item_head t)) ≡ true
        → (not (list_all is_single (body_of t)) || is_too_many keeps (count_own own (body_of t))) ≡ false
    is_clear t a o =
        second_of (heads_one own t) (not (list_all is_single (body_of t)) || is_too_many keeps (count_own own (body_of t)))
        (no_item (is_unclear own keeps) found t clear a) o

    all_single : (t : Tree) → IsAmong t found → is_own (relation_of (item_head t)) ≡ true → list_all is_single (body_of t) ≡ true
    all_single t a o =
        not_right (list_all is_single (body_of t))
        (left_false (not (list_all is_single (body_of t))) (is_too_many keeps (count_own own (body_of t))) (is_clear t a o))

    pub not_many : (t : Tree) → IsAmong t found → is_own (relation_of (item_head t)) ≡ true → is_too_many keeps (count_own own (body_of t)) ≡ false
    not_many t a o =
        right_false (not (list_all is_single (body_of t))) (is_too_many keeps (count_own own (body_of t))) (is_clear t a o)

    -- an item of a kind
    of_kind : (p : Relation) (inner : Bool) (t : Tree) → IsAmong t (filter (is_of_kind own p inner) found)
        → IsAmong t found × (relation_of (item_head t) ≡ p)
        × (is_count inner (count_own own (body_of t)) ≡ true)
    of_kind p inner t a =
        let f = among_filter (is_of_kind own p inner) t found a in
        let k = both (heads_it p t) (is_count inner (count_own own (body_of t))) f.1 in
        (f.0, relation_eq_yes (relation_of (item_head t)) p k.0, k.1)

    in_kind : (inner : Bool) (t : Tree) → IsAmong t found
        → is_count inner (count_own own (body_of t)) ≡ true
        → IsAmong t (filter (is_of_kind own (relation_of (item_head t)) inner) found)
    in_kind inner t a c =
        among_filter_in (is_of_kind own (relation_of (item_head t)) inner) t found a
        (λ i. relation_eq_self (relation_of (item_head t)) i && c i)

    all_layers : (p : Relation) → is_own p ≡ true
        → (is_layer own p first_names first_names (filter (is_of_kind own p false) found) written ≡ true)
        × (are_next own p keeps first_names rest (filter (is_of_kind own p true) found) written ≡ true)
    all_layers p o =
        both (is_layer own p first_names first_names (filter (is_of_kind own p false) found) written)
        (are_next own p keeps first_names rest (filter (is_of_kind own p true) found) written)
        (all_of (λ p. are_layers own p keeps layers found written) own p laid (is_there p own o))

    first_kind : (t : Tree) → list_all is_single (body_of t) ≡ true → count_own own (body_of t) ≡ 0 → IsFirst is_own (rule_of t)
    first_kind t s n = first_body own (item_head t) (body_of t) s n

    pub inner_kind : (t : Tree) → nat_lt 0 (count_own own (body_of t)) ≡ true → IsInner is_own (rule_of t)
    inner_kind t n = inner_body own (item_head t) (body_of t) n

    not_both : (rule : Alternative) → IsFirst is_own rule → IsInner is_own rule → ⊥
    not_both rule f s = both_ways (is_own (relation_of s.0)) s.2 (f s.0 s.1)

    -- the item of an own rule
    item_of : (rule : Alternative) → IsAmong rule (alternatives found) → is_own (relation_of rule.head) ≡ true
        → (t : Tree) × IsAmong t found × (rule ≡ rule_of t) × (list_all is_single (body_of t) ≡ true)
    item_of rule a o =
        let i = rule_item found rule a in
        let s = all_single i.0 i.1 (ap is_own (sym (head_of_rule i.0 rule i.2)) ∙ o) in
        (i.0, i.1, is_rule i.0 rule s i.2, s)

    -- a rule is one of the first layer, or its item has own atoms
    pub kinds_of : (rule : Alternative) → IsAmong rule (alternatives found) → is_own (relation_of rule.head) ≡ true
        → IsFirst is_own rule
        ⊎ ((t : Tree) × IsAmong t found × (rule ≡ rule_of t) × (list_all is_single (body_of t) ≡ true) × (nat_lt 0 (count_own own (body_of t)) ≡ true))
    kinds_of rule a o = let i = item_of rule a o in go i.0 i.1 i.2 i.3 (none_or_some (count_own own (body_of i.0)))
      where
        go : (t : Tree) → IsAmong t found → rule ≡ rule_of t → list_all is_single (body_of t) ≡ true
            → (count_own own (body_of t) ≡ 0) ⊎ (nat_lt 0 (count_own own (body_of t)) ≡ true) → IsFirst is_own rule
            ⊎ ((t : Tree) × IsAmong t found × (rule ≡ rule_of t) × (list_all is_single (body_of t) ≡ true) × (nat_lt 0 (count_own own (body_of t)) ≡ true))
        go t b e s (inl n) = inl (subst (IsFirst is_own) (sym e) (first_kind t s n))
        go t b e s (inr n) = inr (t, b, e, s, n)

    pub first : (rule : Alternative) → IsAmong rule (alternatives found) → is_own (relation_of rule.head) ≡ true → IsFirst is_own rule
        → IsAmong (layered is_own word 0 rule) (alternatives written)
    first rule a o f = let i = item_of rule a o in go i.0 i.1 i.2 i.3 (none_or_some (count_own own (body_of i.0)))
      where
        go : (t : Tree) → IsAmong t found → rule ≡ rule_of t → list_all is_single (body_of t) ≡ true
            → (count_own own (body_of t) ≡ 0) ⊎ (nat_lt 0 (count_own own (body_of t)) ≡ true) → IsAmong (layered is_own word 0 rule) (alternatives written)
        go t b e s (inr n) = absurd (not_both (rule_of t) (subst (IsFirst is_own) e f) (inner_kind t n))
        go t b e s (inl n) =
            let p : Relation = relation_of (item_head t) in
            let o' : is_own p ≡ true = ap (λ (r : Alternative). is_own (relation_of r.head)) (sym e) ∙ o in
            let test : Tree → Tree → Bool = is_item_of own first_names first_names in
            let u = forth test (filter (is_of_kind own p false) found) (filter (heads_it (in_layer own first_names p)) written) t
            (all_layers p o').0 (in_kind false t b (is_number (count_own own (body_of t)) 0 n)) in
            lone_rule written u.0 (layered is_own word 0 rule) (among_filter (heads_it (in_layer own first_names p)) u.0 written u.1).0
            (first_rule own layers t u.0 s n u.2 ∙ ap (λ (r : Alternative). layered is_own word 0 r ∷ []) (sym e))

    pub next : (k : ℕ) → 1 ≤ k → k < length layers → (rule : Alternative) → IsAmong rule (alternatives found) → is_own (relation_of rule.head) ≡ true
        → IsInner is_own rule → IsAmong (layered is_own word k rule) (alternatives written)
    next zero l m rule a o f = absurd (omega arith)
    next (suc k) l m rule a o f = let i = item_of rule a o in go i.0 i.1 i.2 i.3 (none_or_some (count_own own (body_of i.0)))
      where
        go : (t : Tree) → IsAmong t found → rule ≡ rule_of t → list_all is_single (body_of t) ≡ true
            → (count_own own (body_of t) ≡ 0) ⊎ (nat_lt 0 (count_own own (body_of t)) ≡ true) → IsAmong (layered is_own word (suc k) rule) (alternatives written)
        go t b e s (inl n) = absurd (not_both (rule_of t) (first_kind t s n) (subst (IsInner is_own) e f))
        go t b e s (inr n) =
            let p : Relation = relation_of (item_head t) in
            let o' : is_own p ≡ true = ap (λ (r : Alternative). is_own (relation_of r.head)) (sym e) ∙ o in
            let names : List (List ℕ) = slice_index_or layers (suc k) [] in
            let before : List (List ℕ) = slice_index_or layers k [] in
            let u = next_item own p keeps names before (filter (is_of_kind own p true) found) written t
            (next_at own p keeps first_names rest (filter (is_of_kind own p true) found) written k (all_layers p o').1
            (let q : k < length rest = omega arith in q)) (in_kind true t b n) in
            lone_rule written u.0 (layered is_own word (suc k) rule) (among_filter (heads_it (in_layer own names p)) u.0 written u.1).0
            (step_rule own layers k t u.0 s u.2 ∙ ap (λ (r : Alternative). layered is_own word (suc k) r ∷ []) (sym e))

    -- a written item of a layer heads the relation
    heads_layer : (q : Relation) (rule : Alternative) (u : Tree) → IsAmong u written → IsAmong rule (item_alternatives u)
        → relation_of rule.head ≡ q → IsAmong u (filter (heads_it q) written)
    heads_layer q rule u a r e =
        among_filter_in (heads_it q) u written a
        (ap (λ (p : Relation). relation_eq p q) (sym (head_of_rule u rule r) ∙ e) ∙ relation_eq_self q)

    pub only_first : (p : Relation) → is_own p ≡ true → (rule : Alternative) → IsAmong rule (alternatives written)
        → relation_of rule.head ≡ layer_of word 1 p
        → (r : Alternative) × IsAmong r (alternatives found) × (relation_of r.head ≡ p) × IsFirst is_own r × (rule ≡ layered is_own word 0 r)
    only_first p o rule a e =
        let i = rule_item written rule a in
        let m = back (is_item_of own first_names first_names) (filter (is_of_kind own p false) found) (filter (heads_it (in_layer own first_names p)) written)
        i.0 (all_layers p o).0 (heads_layer (in_layer own first_names p) rule i.0 i.1 i.2 e) in
        let k = of_kind p false m.0 m.1 in
        let n = same_number (count_own own (body_of m.0)) 0 k.2 in
        let s = all_single m.0 k.0 (ap is_own k.1 ∙ o) in (
          rule_of m.0,
          lone_rule found m.0 (rule_of m.0) k.0 (one_rule m.0 s),
          k.1,
          first_kind m.0 s n,
          one_of rule (item_alternatives i.0) (layered is_own word 0 (rule_of m.0)) (first_rule own layers m.0 i.0 s n m.2) i.2,
        )

    -- a rule of a later layer is that of an item with own atoms, or carries the layer before
    pub only_next : (k : ℕ) → 1 ≤ k → k < length layers → (p : Relation) → is_own p ≡ true → (rule : Alternative) → IsAmong rule (alternatives written)
        → relation_of rule.head ≡ layer_of word (suc k) p
        → ((t : Tree) × IsAmong t found × IsAmong (rule_of t) (alternatives found) × (relation_of (item_head t) ≡ p)
        × (list_all is_single (body_of t) ≡ true) × (nat_lt 0 (count_own own (body_of t)) ≡ true) × (rule ≡ layered is_own word k (rule_of t)))
        ⊎ ((keeps ≡ true) × IsCarrying word k p rule)
    only_next zero l m p o rule a e = absurd (omega arith)
    only_next (suc k) l m p o rule a e =
        let i = rule_item written rule a in
        go i.0 i.2
        (back_item own p keeps names before (filter (is_of_kind own p true) found) written i.0
        (next_at own p keeps first_names rest (filter (is_of_kind own p true) found) written k (all_layers p o).1
        (let q : k < length rest = omega arith in q)) (heads_layer (in_layer own names p) rule i.0 i.1 i.2 e))
      where
        names : List (List ℕ)
        names = slice_index_or layers (suc k) []

        before : List (List ℕ)
        before = slice_index_or layers k []

        go : (u : Tree) → IsAmong rule (item_alternatives u)
            → ((t : Tree) × IsAmong t (filter (is_of_kind own p true) found) × (is_item_of own names before t u ≡ true))
            ⊎ ((keeps ≡ true) × (is_carrying (name_in own before p) u ≡ true))
            → ((t : Tree) × IsAmong t found × IsAmong (rule_of t) (alternatives found) × (relation_of (item_head t) ≡ p)
            × (list_all is_single (body_of t) ≡ true) × (nat_lt 0 (count_own own (body_of t)) ≡ true) × (rule ≡ layered is_own word (suc k) (rule_of t)))
            ⊎ ((keeps ≡ true) × IsCarrying word (suc k) p rule)
        go u r (inr c) = inr (c.0, carries word (suc k) p u rule e r c.1)
        go u r (inl b) =
            let d = of_kind p true b.0 b.1 in
            let s = all_single b.0 d.0 (ap is_own d.1 ∙ o) in
            inl (
              b.0,
              d.0,
              lone_rule found b.0 (rule_of b.0) d.0 (one_rule b.0 s),
              d.1,
              s,
              d.2,
              one_of rule (item_alternatives u) (layered is_own word (suc k) (rule_of b.0)) (step_rule own layers k b.0 u s b.2) r,
            )

    -- an atom that some layer has
    some_layer : (all : List (List (List ℕ))) (x : Atom) (u : Tree) → list_any (λ names. is_renamed own names x u) all ≡ true
        → (k : ℕ) × (k < length all) × (atom_in u ≡ named (word_in own all) (suc k) x)
    some_layer [] x u h = absurd (let bad : ⊥ = cc in bad)
    some_layer (names ∷ all) x u h = go (λ k. some_layer all x u k) (is_renamed own names x u) refl h
      where
        later : (k : ℕ) × (k < length all) × (atom_in u ≡ named (word_in own all) (suc k) x)
            → (k : ℕ) × (k < length (names ∷ all)) × (atom_in u ≡ named (word_in own (names ∷ all)) (suc k) x)
        later r = (suc r.0, (let l = r.1 in let m : suc r.0 < length (names ∷ all) = omega (arith, l) in m), r.2)

        go : (list_any (λ names. is_renamed own names x u) all ≡ true → (k : ℕ) × (k < length all) × (atom_in u ≡ named (word_in own all) (suc k) x))
            → (b : Bool) → is_renamed own names x u ≡ b → (b || list_any (λ names. is_renamed own names x u) all) ≡ true
            → (k : ℕ) × (k < length (names ∷ all)) × (atom_in u ≡ named (word_in own (names ∷ all)) (suc k) x)
        go rest true e k = (0, (let m : 0 < length (names ∷ all) = omega arith in m), atom_eq_yes (atom_in u) _ e)
        go rest false e k = later (rest k)

    pub only_top : (rule : Alternative) → IsAmong rule (alternatives written) → is_own (relation_of rule.head) ≡ true
        → (k : ℕ) × (1 ≤ k) × (k ≤ length layers) × (rule.body ≡ positive (named word k rule.head) ∷ [])
    only_top rule a o =
        let i = rule_item written rule a in
        let o' : heads_one own i.0 ≡ true = ap is_own (sym (head_of_rule i.0 rule i.2)) ∙ o in
        let h = first_of_two (heads_one own i.0) (is_top_body own layers (item_head i.0) (body_of i.0))
        (no_item (is_stray_top own layers) written i.0 tops i.1) o' in
        by_body i.0 i.2 (body_of i.0) refl h
      where
        by_body : (u : Tree) → IsAmong rule (item_alternatives u) → (ts : List Tree) → body_of u ≡ ts → is_top_body own layers (item_head u) ts ≡ true
            → (k : ℕ) × (1 ≤ k) × (k ≤ length layers) × (rule.body ≡ positive (named word k rule.head) ∷ [])
        by_body u r [] e h = absurd (let bad : ⊥ = cc in bad)
        by_body u r (v ∷ w ∷ ws) e h = absurd (let bad : ⊥ = cc in bad)
        by_body u r (v ∷ []) e h =
            let p = both (is_plain v) (list_any (λ names. is_renamed own names (item_head u) v) layers) h in
            let s : list_all is_single (body_of u) ≡ true =
            ap (list_all is_single) e ∙ ap (λ (b : Bool). b && true) (plain_single v p.0) in
            let m = some_layer layers (item_head u) v p.1 in
            let is : rule ≡ rule_of u = is_rule u rule s r in
            let l = m.1 in (
              suc m.0,
              (let q : 1 ≤ suc m.0 = omega arith in q),
              (let q : suc m.0 ≤ length layers = omega (arith, l) in q),
              ap (λ (x : Alternative). x.body) is ∙ ap (map literal_of) e ∙ ap (λ (x : Literal). x ∷ []) (plain_literal v p.0 ∙ ap positive m.2)
                  ∙ ap (λ (x : Alternative). positive (named word (suc m.0) x.head) ∷ []) (sym is),
            )

-- what a list of layers that passes says
pub passed : (keeps : Bool) (own : List Relation) (layers : List (List (List ℕ))) (found written : List Tree) → passes keeps own layers found written ≡ true
    → ((length layers == 0) ≡ false) × (are_unfit own layers ≡ false) × (some_item (is_unclear own keeps) found ≡ false)
    × (some_item (is_stray_top own layers) written ≡ false) × (list_all (λ p. are_layers own p keeps layers found written) own ≡ true)
passed keeps own layers found written h =
    five (length layers == 0) (are_unfit own layers) (some_item (is_unclear own keeps) found) (some_item (is_stray_top own layers) written)
    (list_all (λ p. are_layers own p keeps layers found written) own) h
  where
    five : (a b c d e : Bool) → (not a && (not b && (not c && (not d && e)))) ≡ true
        → (a ≡ false) × (b ≡ false) × (c ≡ false) × (d ≡ false) × (e ≡ true)
    five true b c d e k = absurd (let bad : ⊥ = cc in bad)
    five false true c d e k = absurd (let bad : ⊥ = cc in bad)
    five false false true d e k = absurd (let bad : ⊥ = cc in bad)
    five false false false true e k = absurd (let bad : ⊥ = cc in bad)
    five false false false false e k = (refl, refl, refl, refl, k)

pub count_names : {G H : Type 0} (vs : List (Vec (Vec ℕ G) H)) → length (names_of vs) ≡ length vs
count_names [] = refl
count_names (v ∷ vs) = ap suc (count_names vs)

-- what layers of such names say, of names in memory
pub on_passed : {G H : Type 0} (vs : List (Vec (Vec ℕ G) H)) (b c : Bool) (Said : ℕ → Type 0) → b ≡ c → (c ≡ true → Said (length (names_of vs)))
    → OnTrue b (Said (length vs))
on_passed vs true c Said e h = subst Said (count_names vs) (h (sym e))
on_passed vs false c Said e h = tt
