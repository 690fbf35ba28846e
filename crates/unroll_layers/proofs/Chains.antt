-- The nodes of a way have different slots, so that there are fewer of them than the bound.
use Rattle.std.proofs.Common.{ℕ, suc, pred, ◌<◌, ◌≤◌, Bool, true, false, ◌≡◌, ◌⊎◌, inl, inr, List, [], ◌∷◌, length, map, refl, sym, ap, subst, ◌∙◌, arith, eqb, eqb-true}
use Rattle.std.specs.List.{AllByRecursion, list_any}
use Rattle.std.specs.Prelude.{⊤, slice_index}
use Rattle.std.specs.List.{IsDistinct}
use Rattle.std.proofs.lemmas.List.{length-map}
use Rattle.std.proofs.lemmas.Map.Steps.{length-le_from_distinct_below}
use Rattle.statement.specs.Dependence.{IsAmong}
use Rattle.rules_profile.proofs.Facts.{or_cases}
use Rattle.meaning.specs.InOrder.{AreDistinct}
use Rattle.meaning.proofs.Facts.{among_map_out}
use Rattle.unroll_layers.specs.declared.slot.Slot.{Slot}
use Rattle.unroll_layers.specs.Slotted.{slot_at, number_in, IsPlaced, LeadsOn, IsChain}

-- a number that the test finds is there
found_among : (m : ℕ) (ms : List ℕ) → list_any (eqb m) ms ≡ true → IsAmong m ms
found_among m [] e = absurd cc
found_among m (n ∷ ns) e = go (or_cases (eqb m n) (list_any (eqb m) ns) e) (found_among m ns)
  where
    go : (eqb m n ≡ true) ⊎ (list_any (eqb m) ns ≡ true) → (list_any (eqb m) ns ≡ true → IsAmong m ns) → IsAmong m (n ∷ ns)
    go (inl f) more = inl (eqb-true m n f)
    go (inr f) more = inr (more f)

none_equal : (m : ℕ) (ns : List ℕ) → ((n : ℕ) → IsAmong n ns → m ≡ n → ⊥) → AllByRecursion (λ n. eqb m n ≡ false) ns
none_equal m [] h = tt
none_equal m (n ∷ ns) h = (go (eqb m n) refl, none_equal m ns (λ k a. h k (inr a)))
  where
    go : (b : Bool) → eqb m n ≡ b → b ≡ false
    go true e = absurd (h n (inl refl) (eqb-true m n e))
    go false e = refl

distinct_numbers : (ms : List ℕ) → AreDistinct ms → IsDistinct eqb ms
unfolding IsDistinct
distinct_numbers [] d = tt
distinct_numbers (m ∷ ms) d = (none_equal m ms d.0, distinct_numbers ms d.1)

-- different numbers below a bound are no more than that
few : (ms : List ℕ) (n : ℕ) → AreDistinct ms → ((m : ℕ) → IsAmong m ms → m < n) → length ms ≤ n
few ms n d below = length-le_from_distinct_below ms n (distinct_numbers ms d) (λ m e. below m (found_among m ms e))

-- a node leads on to the first of those behind it, if there are any
abbrev LeadsBefore : List Slot → ℕ → List ℕ → Type 0
LeadsBefore slots v [] = ⊤
LeadsBefore slots v (w ∷ ws) = LeadsOn slots v w

-- a way, the first of its nodes first
abbrev pub IsRising : List Slot → List ℕ → ℕ → List ℕ → Type 0
IsRising slots members bound [] = ⊤
IsRising slots members bound (v ∷ vs) = IsPlaced slots members bound v × (LeadsBefore slots v vs × IsRising slots members bound vs)

module _ (slots : List Slot) (members : List ℕ) (bound : ℕ) where
  abbrev Leads : ℕ → ℕ → Type 0
  Leads v w = LeadsOn slots v w

  abbrev Placed : ℕ → Type 0
  Placed v = IsPlaced slots members bound v

  abbrev Chain : List ℕ → Type 0
  Chain vs = IsChain slots members bound vs

  abbrev slot_number : ℕ → ℕ
  slot_number v = number_in (slot_at slots v)

  -- two steps are one
  two_steps : (u v w : ℕ) → Placed v → Leads u v → Leads v w → Leads u w
  two_steps u v w p (inl s) (inl t) = inl (record { first = s.first ∙ t.first; floor = s.floor ∙ t.floor; ceiling = s.ceiling ∙ t.ceiling })
  two_steps u v w p (inl s) (inr le) = inr (let e = s.ceiling in omega arith)
  two_steps u v w p (inr le) (inl t) = inr (let e = t.floor in omega arith)
  two_steps u v w p (inr le) (inr more) = inr (let b = p.below in omega arith)

  -- each node of a way leads on to the last
  to_last : (w : ℕ) (vs : List ℕ) → Chain (w ∷ vs) → (u : ℕ) → IsAmong u vs → Leads u w
  to_last w [] c u a = absurd a
  to_last w (v ∷ vs) c u (inl e) = subst (λ (x : ℕ). Leads x w) (sym e) (c.1).0
  to_last w (v ∷ vs) c u (inr a) = two_steps u v w ((c.1).1).0 (to_last v vs (c.1).1 u a) (c.1).0

  -- nodes of which one leads on to the other are the same if they have the same slot
  one_slot : (v w : ℕ) → Placed v → Placed w → Leads v w → slot_number v ≡ slot_number w → v ≡ w
  one_slot v w p q (inl s) e =
      let a = p.order in
      let b = q.order in
      let f = s.first in
      let g = s.floor in
      let places : (slot_at slots v).place ≡ (slot_at slots w).place = omega arith in
      sym p.member ∙ ap (λ (k : ℕ). slice_index members k) places ∙ q.member
  one_slot v w p q (inr le) e = let b = p.below in absurd (omega arith)

  placed_among : (vs : List ℕ) → Chain vs → (u : ℕ) → IsAmong u vs → Placed u
  placed_among [] c u a = absurd a
  placed_among (v ∷ vs) c u (inl e) = subst (λ (x : ℕ). Placed x) (sym e) c.0
  placed_among (v ∷ vs) c u (inr a) = placed_among vs (c.1).1 u a

  slots_differ : (vs : List ℕ) → Chain vs → AreDistinct vs → AreDistinct (map slot_number vs)
  slots_differ [] c d = tt
  slots_differ (w ∷ vs) c d = (apart, slots_differ vs (c.1).1 d.1)
    where
      apart : (m : ℕ) → IsAmong m (map slot_number vs) → slot_number w ≡ m → ⊥
      apart m a e =
          let o = among_map_out slot_number m vs a in
          d.0 o.0 o.1 (sym (one_slot o.0 w (placed_among vs (c.1).1 o.0 o.1) c.0 (to_last w vs c o.0 o.1) (sym (e ∙ o.2))))

  -- nodes that have different slots are fewer than the bound
  few_slots : (w : ℕ) (vs : List ℕ) → ((u : ℕ) → IsAmong u (w ∷ vs) → Placed u) → AreDistinct (map slot_number (w ∷ vs)) → suc (length vs) < bound
  few_slots w vs placed d =
      let first = placed w (inl refl) in
      let within = first.within in
      let below = first.below in
      let many : length (map slot_number (w ∷ vs)) ≤ pred bound = few (map slot_number (w ∷ vs)) (pred bound) d under in
      omega (arith, many, length-map vs slot_number)
    where
      under : (m : ℕ) → IsAmong m (map slot_number (w ∷ vs)) → m < pred bound
      under m a =
          let o = among_map_out slot_number m (w ∷ vs) a in
          let p = placed o.0 o.1 in
          let b = p.below in
          let h = p.within in
          let e = o.2 in
          omega arith

  -- the nodes of a way are fewer than the bound
  pub chain_short : (w : ℕ) (vs : List ℕ) → Chain (w ∷ vs) → AreDistinct (w ∷ vs) → suc (length vs) < bound
  chain_short w vs c d = few_slots w vs (placed_among (w ∷ vs) c) (slots_differ (w ∷ vs) c d)

  abbrev Rising : List ℕ → Type 0
  Rising vs = IsRising slots members bound vs

  rising_placed : (vs : List ℕ) → Rising vs → (u : ℕ) → IsAmong u vs → Placed u
  rising_placed [] c u a = absurd a
  rising_placed (v ∷ vs) c u (inl e) = subst (λ (x : ℕ). Placed x) (sym e) c.0
  rising_placed (v ∷ vs) c u (inr a) = rising_placed vs (c.1).1 u a

  -- the first node of a way leads on to each other
  from_first : (v : ℕ) (ws : List ℕ) → Rising (v ∷ ws) → (u : ℕ) → IsAmong u ws → Leads v u
  from_first v [] c u a = absurd a
  from_first v (w ∷ ws) c u (inl e) = subst (λ (x : ℕ). Leads v x) (sym e) (c.1).0
  from_first v (w ∷ ws) c u (inr a) = two_steps v w u ((c.1).1).0 (c.1).0 (from_first w ws (c.1).1 u a)

  rising_differ : (vs : List ℕ) → Rising vs → AreDistinct vs → AreDistinct (map slot_number vs)
  rising_differ [] c d = tt
  rising_differ (v ∷ vs) c d = (apart, rising_differ vs (c.1).1 d.1)
    where
      apart : (m : ℕ) → IsAmong m (map slot_number vs) → slot_number v ≡ m → ⊥
      apart m a e =
          let o = among_map_out slot_number m vs a in
          d.0 o.0 o.1 (one_slot v o.0 c.0 (rising_placed vs (c.1).1 o.0 o.1) (from_first v vs c o.0 o.1) (e ∙ o.2))

  -- the same of a way from its first node on
  pub rising_short : (v : ℕ) (vs : List ℕ) → Rising (v ∷ vs) → AreDistinct (v ∷ vs) → suc (length vs) < bound
  rising_short v vs c d = few_slots v vs (rising_placed (v ∷ vs) c) (rising_differ (v ∷ vs) c d)
