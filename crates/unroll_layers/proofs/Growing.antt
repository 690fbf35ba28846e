-- Sets of relations that grow, and the names of layers at places.
use Rattle.std.proofs.Common.{ℕ, zero, suc, ◌+◌, ◌<◌, ◌≤◌, Bool, true, false, cond, ◌≡◌, ◌⊎◌, inl, inr, List, [], ◌∷◌, ◌++◌, length, map, refl, sym, ap, subst, ◌∙◌, arith, get_or, take}
use Rattle.std.specs.Prelude.{◌||◌, Vec}
use Rattle.std.specs.Bool.{OnTrue}
use Rattle.std.proofs.lemmas.List.{get_or-map, map_more}
use Rattle.statement.specs.Clause.{Relation, relation_eq}
use Rattle.statement.specs.Dependence.{is_among}
use Rattle.rules_profile.proofs.Facts.{relation_eq_yes, relation_eq_self, or_cases, or_left, or_right}
use Rattle.rules_relations.specs.declared.relation.Relation as memory
use Rattle.rules_relations.specs.Relations.{relation_in}
use Rattle.rules.specs.RuleSets.{texts_of}
use Rattle.meaning.specs.Layers.{layer_of}
use Rattle.meaning.specs.Names.{name_in, names_of, word_in}
use Rattle.unroll_layers.specs.ByNumber.{IsPartOf, HasLayer, layer_at, no_relation}

pub among_push : (p : Relation) (ps : List Relation) (q : Relation) → is_among p (ps ++ q ∷ []) ≡ (is_among p ps || relation_eq p q)
among_push p [] q = go (relation_eq p q)
  where
    go : (b : Bool) → (b || false) ≡ b
    go true = refl
    go false = refl
among_push p (r ∷ rs) q = go (relation_eq p r) (is_among p rs) (relation_eq p q) (is_among p (rs ++ q ∷ [])) (among_push p rs q)
  where
    go : (a b c t : Bool) → t ≡ (b || c) → (a || t) ≡ ((a || b) || c)
    go true b c t e = refl
    go false b c t e = e

-- an own relation stands at some place, and its name in a layer at the same
pub named_at : (own : List Relation) (names : List (List ℕ)) (p d : Relation) → length own ≡ length names → is_among p own ≡ true
    → (i : ℕ) × (i < length own) × (get_or own i d ≡ p) × (get_or names i [] ≡ name_in own names p)
named_at [] names p d e a = absurd cc
named_at (q ∷ qs) [] p d e a = absurd (omega (arith, e))
named_at (q ∷ qs) (w ∷ ws) p d e a = go (relation_eq p q) refl a (λ h. named_at qs ws p d (omega (arith, e)) h)
  where
    go : (t : Bool) → relation_eq p q ≡ t → (t || is_among p qs) ≡ true
        → (is_among p qs ≡ true → (i : ℕ) × (i < length qs) × (get_or qs i d ≡ p) × (get_or ws i [] ≡ name_in qs ws p))
        → (i : ℕ) × (i < suc (length qs)) × (get_or (q ∷ qs) i d ≡ p) × (get_or (w ∷ ws) i [] ≡ cond t w (name_in qs ws p))
    go true f h more = (zero, omega arith, sym (relation_eq_yes p q f), refl)
    go false f h more = let m = more h in (suc m.0, let lt = m.1 in omega arith, m.2, m.3)

below_or : (j i : ℕ) → j < i + 1 → (j < i) ⊎ (j ≡ i)
below_or j i h = grind arith

-- one more of the relations of a layer
pub layer_added : (own : List Relation) (names : List (List ℕ)) (i : ℕ) (old new : List Relation) (q : Relation)
    → ((p : Relation) → is_among p new ≡ (is_among p old || relation_eq p q)) → q ≡ layer_at own names i
    → ((j : ℕ) → j < i → is_among (layer_at own names j) old ≡ true) → (j : ℕ) → j < i + 1 → is_among (layer_at own names j) new ≡ true
layer_added own names i old new q one e before j lt = go (below_or j i lt)
  where
    go : (j < i) ⊎ (j ≡ i) → is_among (layer_at own names j) new ≡ true
    go (inl h) = one (layer_at own names j) ∙ or_left _ (relation_eq (layer_at own names j) q) (before j h)
    go (inr h) =
        one (layer_at own names j)
        ∙ or_right (is_among (layer_at own names j) old) _ (subst (λ (p : Relation). relation_eq p q ≡ true) (e ∙ ap (layer_at own names) (sym h))
        (relation_eq_self q))

pub grown_more : (old new : List Relation) (q : Relation) → ((p : Relation) → is_among p new ≡ (is_among p old || relation_eq p q)) → IsPartOf old new
grown_more old new q one p h = one p ∙ or_left _ (relation_eq p q) h

-- all of them
pub layer_whole : (own : List Relation) (names : List (List ℕ)) (set : List Relation) → length own ≡ length names
    → ((j : ℕ) → j < length own → is_among (layer_at own names j) set ≡ true) → HasLayer own names set
layer_whole own names set long all p a =
    let t = named_at own names p no_relation long a in
    subst (λ (q : Relation). is_among q set ≡ true) (ap (λ (q : Relation). let r : Relation = record { word = get_or names t.0 []; arity = q.arity } in r) t.2
    ∙ ap (λ (w : List ℕ). let r : Relation = record { word = w; arity = p.arity } in r) t.3) (all t.0 t.1)

pub set_more : {M : Type 0} (f : M → Relation) (xs : List M) (i : ℕ) (d : M) (old new : List Relation) → i < length xs
    → ((p : Relation) → is_among p new ≡ (is_among p old || relation_eq p (f (get_or xs i d))))
    → ((p : Relation) → is_among p old ≡ is_among p (map f (take i xs))) → (p : Relation) → is_among p new ≡ is_among p (map f (take (i + 1) xs))
set_more f xs i d old new lt one before p =
    one p ∙ ap (λ (b : Bool). b || relation_eq p (f (get_or xs i d))) (before p)
    ∙ sym (ap (is_among p) (map_more f xs i d lt) ∙ among_push p (map f (take i xs)) (f (get_or xs i d)))

-- the relation of a layer that is made at a place
pub layer_here : {G : Type 0} (own : List memory.Relation) (names : List (Vec ℕ G)) (i : ℕ) (d : memory.Relation) (v : Vec ℕ G) (w : List ℕ)
    → i < length own → i < length names → v ≡ get_or names i v → w ≡ v.items
    → record { word = w; arity = (get_or own i d).arity } ≡ layer_at (map relation_in own) (texts_of names) i
layer_here {G} own names i d v w in_own in_names is same =
    ap (λ (u : List ℕ). let r : Relation = record { word = u; arity = (get_or own i d).arity } in r)
    (same ∙ ap (λ (u : Vec ℕ G). u.items) is ∙ sym (get_or-map (λ (u : Vec ℕ G). u.items) names i v [] in_names))
    ∙ ap (λ (q : Relation). let r : Relation = record { word = get_or (texts_of names) i []; arity = q.arity } in r)
    (sym (get_or-map relation_in own i d no_relation in_own))

-- the layers so far, and one more
pub layers_more : (own : List Relation) (names : List (List (List ℕ))) (i : ℕ) (old new : List Relation) → IsPartOf old new
    → ((j : ℕ) → j < i → HasLayer own (get_or names j []) old) → HasLayer own (get_or names i []) new → (j : ℕ) → j < i + 1
    → HasLayer own (get_or names j []) new
layers_more own names i old new grown before here j lt = go (below_or j i lt)
  where
    go : (j < i) ⊎ (j ≡ i) → HasLayer own (get_or names j []) new
    go (inl h) p a = grown (record { word = name_in own (get_or names j []) p; arity = p.arity }) (before j h p a)
    go (inr h) p a = subst (λ (k : ℕ). HasLayer own (get_or names k []) new) (sym h) here p a

pub layers_whole : (own : List Relation) (names : List (List (List ℕ))) (set : List Relation) (n : ℕ)
    → ((j : ℕ) → j < n → HasLayer own (get_or names j []) set) → (k : ℕ) → 1 ≤ k → k ≤ n → (p : Relation) → is_among p own ≡ true
    → is_among (layer_of (word_in own names) k p) set ≡ true
layers_whole own names set n all zero some last p a = absurd (omega (arith, some))
layers_whole own names set n all (suc k) some last p a = all k (omega (arith, last)) p a

pub texts_at : {G H : Type 0} (names : List (Vec (Vec ℕ G) H)) (i : ℕ) (v : Vec (Vec ℕ G) H) (ws : List (Vec ℕ G)) → i < length names
    → v ≡ get_or names i v → ws ≡ v.items → texts_of ws ≡ get_or (names_of names) i []
texts_at {G} {H} names i v ws lt is same =
    ap texts_of (same ∙ ap (λ (u : Vec (Vec ℕ G) H). u.items) is)
    ∙ sym (get_or-map (λ (u : Vec (Vec ℕ G) H). map (λ (w : Vec ℕ G). w.items) u.items) names i v [] lt)

pub if_true : (b : Bool) (P : Type 0) → OnTrue b P → b ≡ true → P
if_true true P h e = h
if_true false P h e = absurd cc

-- one more of a list of relations is in a set
pub all_more : {M : Type 0} (f : M → Relation) (xs : List M) (i : ℕ) (d : M) (set : List Relation) → i < length xs
    → IsPartOf (map f (take i xs)) set → is_among (f (get_or xs i d)) set ≡ true → IsPartOf (map f (take (i + 1) xs)) set
all_more f xs i d set lt before here p a =
    go (or_cases (is_among p (map f (take i xs))) (relation_eq p (f (get_or xs i d)))
    (sym (ap (is_among p) (map_more f xs i d lt) ∙ among_push p (map f (take i xs)) (f (get_or xs i d))) ∙ a))
  where
    go : (is_among p (map f (take i xs)) ≡ true) ⊎ (relation_eq p (f (get_or xs i d)) ≡ true) → is_among p set ≡ true
    go (inl h) = before p h
    go (inr h) = ap (λ (q : Relation). is_among q set) (relation_eq_yes p (f (get_or xs i d)) h) ∙ here
