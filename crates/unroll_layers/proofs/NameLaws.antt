-- What the tests of names say: no meaning is given to them, and they differ.
use Rattle.std.proofs.Common.{ℕ, zero, suc, Bool, true, false, ◌||◌, ◌≡◌, ◌<◌, ◌≤◌, inl, inr, List, [], ◌∷◌, ◌++◌, map, length, refl, sym, ap, subst, ◌∙◌, arith}
use Rattle.std.specs.Prelude.{slice_index_or}
use Rattle.std.specs.List.{list_any}
use Rattle.statement.specs.Clause.{Relation, relation_eq}
use Rattle.statement.specs.Dependence.{IsAmong, is_among, is_moving, is_distinct}
use Rattle.rules_profile.proofs.Facts.{relation_eq_yes, relation_eq_self, or_right, IsAmong-append_left, IsAmong-append_right}
use Rattle.meaning.proofs.Facts.{among_map_in}
use Rattle.meaning.specs.Layers.{layer_of}
use Rattle.meaning.specs.Names.{word_in}
use Rattle.unroll_layers.specs.Naming.{in_layer, in_layers, has_meaning, repeats, are_unfit}

pub left_false : (a b : Bool) → (a || b) ≡ false → a ≡ false
left_false true b h = absurd (let bad : ⊥ = cc in bad)
left_false false b h = refl

pub right_false : (a b : Bool) → (a || b) ≡ false → b ≡ false
right_false true b h = absurd (let bad : ⊥ = cc in bad)
right_false false b h = h

pub is_there : (p : Relation) (ps : List Relation) → is_among p ps ≡ true → IsAmong p ps
is_there p [] h = absurd (let bad : ⊥ = cc in bad)
is_there p (q ∷ ps) h = go (λ k. is_there p ps k) (relation_eq p q) refl h
  where
    go : (is_among p ps ≡ true → IsAmong p ps) → (b : Bool) → relation_eq p q ≡ b → (b || is_among p ps) ≡ true → IsAmong p (q ∷ ps)
    go later true e k = inl (relation_eq_yes p q e)
    go later false e k = inr (later k)

none_of : (test : Relation → Bool) (ps : List Relation) (p : Relation) → list_any test ps ≡ false → IsAmong p ps → test p ≡ false
none_of test [] p h a = absurd a
none_of test (q ∷ ps) p h (inl e) = ap test e ∙ left_false (test q) (list_any test ps) h
none_of test (q ∷ ps) p h (inr a) = none_of test ps p (right_false (test q) (list_any test ps) h) a

-- a relation of a layer is one of all
in_all : (own : List Relation) (layers : List (List (List ℕ))) (k : ℕ) (p : Relation) → k < length layers → IsAmong p own
    → IsAmong (in_layer own (slice_index_or layers k []) p) (in_layers own layers)
in_all own [] k p h a = absurd (omega arith)
in_all own (names ∷ layers) zero p h a =
    IsAmong-append_left (in_layer own names p) (map (in_layer own names) own) (in_layers own layers) (among_map_in (in_layer own names) p own a)
in_all own (names ∷ layers) (suc k) p h a =
    IsAmong-append_right (in_layer own (slice_index_or layers k []) p) (map (in_layer own names) own) (in_layers own layers)
    (in_all own layers k p (let m : k < length layers = omega arith in m) a)

-- Lists in which nothing is known or stands twice.

unknown : (known : Relation → Bool) (ps : List Relation) (p : Relation) → repeats known ps ≡ false → IsAmong p ps → known p ≡ false
unknown known [] p h a = absurd a
unknown known (q ∷ ps) p h (inl e) = ap known e ∙ left_false (known q) (repeats (λ r. known r || relation_eq r q) ps) h
unknown known (q ∷ ps) p h (inr a) =
    left_false (known p) (relation_eq p q)
    (unknown (λ r. known r || relation_eq r q) ps p (right_false (known q) (repeats (λ r. known r || relation_eq r q) ps) h) a)

both_ways : (b : Bool) → b ≡ true → b ≡ false → ⊥
both_ways true e f = cc
both_ways false e f = cc

-- the first does not stand behind
not_behind : (known : Relation → Bool) (q : Relation) (ps : List Relation) → repeats known (q ∷ ps) ≡ false → IsAmong q ps → ⊥
not_behind known q ps h a =
    let k = unknown (λ r. known r || relation_eq r q) ps q (right_false (known q) (repeats (λ r. known r || relation_eq r q) ps) h) a in
    both_ways (known q || relation_eq q q) (or_right (known q) (relation_eq q q) (relation_eq_self q)) k

-- two parts of a list have nothing in common
apart : (known : Relation → Bool) (ps qs : List Relation) (p : Relation) → repeats known (ps ++ qs) ≡ false → IsAmong p ps → IsAmong p qs → ⊥
apart known [] qs p h a b = a
apart known (q ∷ ps) qs p h (inl e) b =
    not_behind known q (ps ++ qs) h (IsAmong-append_right q ps qs (subst (λ (r : Relation). IsAmong r qs) e b))
apart known (q ∷ ps) qs p h (inr a) b =
    apart (λ r. known r || relation_eq r q) ps qs p (right_false (known q) (repeats (λ r. known r || relation_eq r q) (ps ++ qs)) h) a b

-- what a part of a list knows before it
front : (known : Relation → Bool) (ps qs : List Relation) → repeats known (ps ++ qs) ≡ false → repeats known ps ≡ false
front known [] qs h = refl
front known (p ∷ ps) qs h =
    let l = left_false (known p) (repeats (λ r. known r || relation_eq r p) (ps ++ qs)) h in
    let r = front (λ r. known r || relation_eq r p) ps qs (right_false (known p) (repeats (λ r. known r || relation_eq r p) (ps ++ qs)) h) in
    (λ i. l i || r i)

behind : (known : Relation → Bool) (ps qs : List Relation) → repeats known (ps ++ qs) ≡ false → (more : Relation → Bool) × (repeats more qs ≡ false)
behind known [] qs h = (known, h)
behind known (p ∷ ps) qs h =
    behind (λ r. known r || relation_eq r p) ps qs (right_false (known p) (repeats (λ r. known r || relation_eq r p) (ps ++ qs)) h)

-- of a map in which nothing stands twice, the same comes of the same alone
one_source : (f : Relation → Relation) (known : Relation → Bool) (ps : List Relation) (p q : Relation) → repeats known (map f ps) ≡ false
    → IsAmong p ps → IsAmong q ps → f p ≡ f q → p ≡ q
one_source f known [] p q h a b e = absurd a
one_source f known (r ∷ ps) p q h (inl a) (inl b) e = a ∙ sym b
one_source f known (r ∷ ps) p q h (inl a) (inr b) e =
    absurd (not_behind known (f r) (map f ps) h (subst (λ (x : Relation). IsAmong x (map f ps)) (sym e ∙ ap f a) (among_map_in f q ps b)))
one_source f known (r ∷ ps) p q h (inr a) (inl b) e =
    absurd (not_behind known (f r) (map f ps) h (subst (λ (x : Relation). IsAmong x (map f ps)) (e ∙ ap f b) (among_map_in f p ps a)))
one_source f known (r ∷ ps) p q h (inr a) (inr b) e =
    one_source f (λ x. known x || relation_eq x (f r)) ps p q
    (right_false (known (f r)) (repeats (λ x. known x || relation_eq x (f r)) (map f ps)) h) a b e

-- no two relations of layers are the same
differ : (known : Relation → Bool) (own : List Relation) (layers : List (List (List ℕ))) (j k : ℕ) (p q : Relation)
    → repeats known (in_layers own layers) ≡ false → j < length layers → k < length layers → IsAmong p own → IsAmong q own
    → in_layer own (slice_index_or layers j []) p ≡ in_layer own (slice_index_or layers k []) q → (j ≡ k) × (p ≡ q)
differ known own [] j k p q h l m a b e = absurd (omega arith)
differ known own (names ∷ layers) zero zero p q h l m a b e =
    (refl, one_source (in_layer own names) known own p q (front known (map (in_layer own names) own) (in_layers own layers) h) a b e)
differ known own (names ∷ layers) zero (suc k) p q h l m a b e =
    absurd (apart known (map (in_layer own names) own) (in_layers own layers) (in_layer own names p) h (among_map_in (in_layer own names) p own a)
    (subst (λ (r : Relation). IsAmong r (in_layers own layers)) (sym e) (in_all own layers k q (let n : k < length layers = omega arith in n) b)))
differ known own (names ∷ layers) (suc j) zero p q h l m a b e =
    absurd (apart known (map (in_layer own names) own) (in_layers own layers) (in_layer own names q) h (among_map_in (in_layer own names) q own b)
    (subst (λ (r : Relation). IsAmong r (in_layers own layers)) e (in_all own layers j p (let n : j < length layers = omega arith in n) a)))
differ known own (names ∷ layers) (suc j) (suc k) p q h l m a b e =
    let r = behind known (map (in_layer own names) own) (in_layers own layers) h in
    let d = differ r.0 own layers j k p q r.1 (let n : j < length layers = omega arith in n) (let n : k < length layers = omega arith in n) a b e in
    (ap suc d.0, d.1)

module _ (own : List Relation) (layers : List (List (List ℕ))) (fit : are_unfit own layers ≡ false) where
  abbrev word : ℕ → Relation → List ℕ
  word = word_in own layers

  own_fit : list_any has_meaning own ≡ false
  own_fit = left_false (list_any has_meaning own) (list_any has_meaning (in_layers own layers) || repeats (λ p. false) (in_layers own layers)) fit

  rest_fit : (list_any has_meaning (in_layers own layers) || repeats (λ p. false) (in_layers own layers)) ≡ false
  rest_fit = right_false (list_any has_meaning own) (list_any has_meaning (in_layers own layers) || repeats (λ p. false) (in_layers own layers)) fit

  pub plain : (p : Relation) → is_among p own ≡ true → (is_moving p ≡ false) × (is_distinct p ≡ false)
  plain p o =
      let h = none_of has_meaning own p own_fit (is_there p own o) in
      (left_false (is_moving p) (is_distinct p) h, right_false (is_moving p) (is_distinct p) h)

  pub plain_layers : (k : ℕ) → 1 ≤ k → k ≤ length layers → (p : Relation) → is_among p own ≡ true
      → (is_moving (layer_of word k p) ≡ false) × (is_distinct (layer_of word k p) ≡ false)
  plain_layers zero l m p o = absurd (omega arith)
  plain_layers (suc k) l m p o =
      let q : Relation = in_layer own (slice_index_or layers k []) p in
      let h = none_of has_meaning (in_layers own layers) q
      (left_false (list_any has_meaning (in_layers own layers)) (repeats (λ p. false) (in_layers own layers)) rest_fit)
      (in_all own layers k p (let n : k < length layers = omega arith in n) (is_there p own o)) in
      (left_false (is_moving q) (is_distinct q) h, right_false (is_moving q) (is_distinct q) h)

  pub once : (j k : ℕ) (p q : Relation) → 1 ≤ j → j ≤ length layers → 1 ≤ k → k ≤ length layers → is_among p own ≡ true → is_among q own ≡ true
      → layer_of word j p ≡ layer_of word k q → (j ≡ k) × (p ≡ q)
  once zero k p q l m l' m' o o' e = absurd (omega arith)
  once (suc j) zero p q l m l' m' o o' e = absurd (omega arith)
  once (suc j) (suc k) p q l m l' m' o o' e =
      let d = differ (λ p. false) own layers j k p q
      (right_false (list_any has_meaning (in_layers own layers)) (repeats (λ p. false) (in_layers own layers)) rest_fit)
      (let n : j < length layers = omega arith in n) (let n : k < length layers = omega arith in n) (is_there p own o) (is_there q own o') e in
      (ap suc d.0, d.1)
