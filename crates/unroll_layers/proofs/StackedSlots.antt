-- What the numbers of an instantiation say of paths through own atoms, where layers keep those before.
use Rattle.std.proofs.Common.{ℕ, zero, suc, ◌<◌, ◌≤◌, Bool, true, false, ◌&&◌, cond, ◌≡◌, ◌⊎◌, inl, inr, List, [], ◌∷◌, length, map, refl, sym, ap, subst, ◌∙◌, arith}
use Rattle.std.proofs.lemmas.List.{length-map}
use Rattle.statement.specs.Tree.{Tree, Trees, no_trees, tree, name_eq}
use Rattle.statement.specs.Words.{w_true, w_does, w_distinct}
use Rattle.statement.specs.Clause.{Atom, Literal, positive, Alternative, Relation, relation_of, count_trees}
use Rattle.statement.specs.Dependence.{IsAmong, IsFixed, is_distinct, is_moving}
use Rattle.statement.specs.Substitution.{atom_under, literal_under}
use Rattle.statement.specs.Meaning.{Source, now, does, distinct, ordinary, source_at, source_of, HoldsAlways}
use Rattle.statement.specs.Listing.{Instance, listing}
use Rattle.statement.specs.Kept.{Kept, number_of, numbered}
use Rattle.meaning.specs.InOrder.{AreDistinct}
use Rattle.meaning.specs.Kept.{HeadsKept, Keeps, PossibleAs}
use Rattle.meaning.specs.Listed.{IsWellFormed, IsKeptInstance}
use Rattle.meaning.proofs.Facts.{among_map_out, relation-under, listing_exact, heads_exact, fixed_decide, always_kept, now_is, does_is}
use Rattle.meaning.specs.Layers.{named, layer_of, layered, layered_literal, IsBrought}
use Rattle.meaning.specs.Stacks.{IsInner, IsCarrying, IsStacked, IsPath, IsEnough}
use Rattle.unroll_layers.specs.Slotted.{LeadsOn}
use Rattle.unroll_layers.specs.Carried.{IsCarrier, IsStackedIn}
use Rattle.unroll_layers.proofs.Chains.{IsRising, rising_short}
use Rattle.unroll_layers.proofs.Numbers.{one_atom, numbers_differ, one_gate}
use Rattle.unroll_layers.proofs.LayeredSlots.{AreLayers, StandsIn, there, back, head_relation, head_listed, named_under, slotted, stands, one_step, own_moves, behind, top_in}

-- Sources.

distinct_at : (w : List ℕ) (ts : Trees) (s t : Tree) → source_at w ts ≡ distinct s t → is_distinct (record { word = w; arity = count_trees ts }) ≡ true
distinct_at w no_trees s t e = absurd (let bad : ⊥ = cc in bad)
distinct_at w (tree p no_trees) s t e = absurd (go (name_eq w w_true) e)
  where
    go : (b : Bool) → cond b (now p) ordinary ≡ distinct s t → ⊥
    go true f = cc
    go false f = cc
distinct_at w (tree p (tree q no_trees)) s t e = go (name_eq w w_does) (name_eq w w_distinct) e
  where
    go : (a b : Bool) → cond a (does p q) (cond b (distinct p q) ordinary) ≡ distinct s t → (b && true) ≡ true
    go true b f = absurd (let bad : ⊥ = cc in bad)
    go false true f = refl
    go false false f = absurd (let bad : ⊥ = cc in bad)
distinct_at w (tree p (tree q (tree r rs))) s t e = absurd (let bad : ⊥ = cc in bad)

-- an atom to whose relation the language gives no meaning is ordinary
plain_source : (x : Atom) → (is_moving (relation_of x) ≡ false) × (is_distinct (relation_of x) ≡ false) → source_of x ≡ ordinary
plain_source x plain = go (source_of x) refl
  where
    go : (k : Source) → source_of x ≡ k → source_of x ≡ ordinary
    go (now p) e =
        let moves = ap (λ (y : Atom). is_moving (relation_of y)) (now_is x p e) in
        let still = plain.0 in absurd (let bad : ⊥ = cc in bad)
    go (does r m) e =
        let moves = ap (λ (y : Atom). is_moving (relation_of y)) (does_is x r m e) in
        let still = plain.0 in absurd (let bad : ⊥ = cc in bad)
    go (distinct s t) e =
        let d = distinct_at x.word x.terms s t e in let other = plain.1 in absurd (let bad : ⊥ = cc in bad)
    go ordinary e = e

-- Rules of one literal.

only_literal : (ls : List Literal) (l : Literal) → IsAmong l ls → length ls ≡ 1 → ls ≡ l ∷ []
only_literal [] l a e = absurd a
only_literal (k ∷ []) l (inl s) e = ap (λ (j : Literal). j ∷ []) (sym s)
only_literal (k ∷ []) l (inr a) e = absurd a
only_literal (k ∷ j ∷ ls) l a e = absurd (omega (arith, e))

-- a rule that leads into a layer, and has one literal, asks an atom of the layer before
next_asks : (rules out : List Alternative) (own : Relation → Bool) (word : ℕ → Relation → List ℕ) (n : ℕ) → IsStacked rules out own word n → (k : ℕ)
    → 1 ≤ k → k < n → (p : Relation) → own p ≡ true → (rule : Alternative) → IsAmong rule out → relation_of rule.head ≡ layer_of word (suc k) p
    → length rule.body ≡ 1 → (z : Atom) × (own (relation_of z) ≡ true) × (rule.body ≡ positive (named word k z) ∷ [])
next_asks rules out own word n is k some last p o rule a heads one = go (is.only_next k some last p o rule a heads)
  where
    Asks : Type 0
    Asks = (z : Atom) × (own (relation_of z) ≡ true) × (rule.body ≡ positive (named word k z) ∷ [])

    inner : (b : Bool) (y : Atom) → b ≡ true → positive (cond b (named word k y) y) ∷ [] ≡ positive (named word k y) ∷ []
    inner true y e = refl
    inner false y e = absurd cc

    go : ((r : Alternative) × IsAmong r rules × (relation_of r.head ≡ p) × IsInner own r × (rule ≡ layered own word k r)) ⊎ IsCarrying word k p rule → Asks
    go (inl s) =
        let r = s.0 in
        let y = (s.3).0 in
        let short : length r.body ≡ 1 = sym (length-map r.body (layered_literal own word k)) ∙ ap (λ (t : Alternative). length t.body) (sym s.4) ∙ one in (
          y,
          (s.3).2,
          ap (λ (t : Alternative). t.body) s.4 ∙ ap (map (layered_literal own word k)) (only_literal r.body (positive y) (s.3).1 short)
              ∙ inner (own (relation_of y)) y (s.3).2,
        )
    go (inr c) = (c.0, ap own c.1 ∙ o, c.3)

module _ (found out : List Alternative) (own : Relation → Bool) (word : ℕ → Relation → List ℕ) (m : ℕ) (w : IsWellFormed out)
    (is : AreLayers out own word (suc m)) (stack : IsStacked found out own word (suc m)) (kept : List Kept)
    (kept_are : kept ≡ map (numbered out) (listing out).kept) (by : IsStackedIn out own word m kept) where
  abbrev number : Atom → ℕ
  number x = number_of x (listing out).atoms

  abbrev IsListed : Instance → Type 0
  IsListed i = IsAmong i (listing out).kept

  abbrev Stands : ℕ → Atom → Type 0
  Stands k x = StandsIn out own word (suc m) w is kept kept_are by.bounded k x

  it_stands : (k : ℕ) → 1 ≤ k → k ≤ suc m → (x : Atom) → own (relation_of x) ≡ true → HeadsKept out (named word k x) → Stands k x
  it_stands k some last x o h = stands out own word (suc m) w is kept kept_are by.bounded k some last x o h

  stands_listed : (k : ℕ) (x : Atom) → Stands k x → IsAmong x (listing out).atoms
  stands_listed k x s = subst (λ (y : Atom). IsAmong y (listing out).atoms) s.heads (head_listed out own word (suc m) w is kept kept_are by.bounded s.instance s.listed)

  -- Paths.

  abbrev Path : List Atom → Atom → Type 0
  Path ys x = IsPath out own word m ys x

  path_own : (ys : List Atom) (x : Atom) → Path ys x → own (relation_of x) ≡ true
  path_own [] x path = path.0
  path_own (y ∷ ys) x path = path.0

  -- where something is brought into the last layer, there is one before
  one_before : (x y : Atom) → own (relation_of y) ≡ true → IsBrought out word m x y → 1 ≤ m
  one_before x y o b =
      let s = slotted out own word (suc m) w is kept kept_are by.bounded b.0 b.1 (suc m) (omega arith) (omega arith) y o b.2 in
      let below = s.placed.below in
      let within = s.placed.within in
      omega arith

  -- what brings something may hold in its layer
  brings_heads : (x y : Atom) → 1 ≤ m → own (relation_of x) ≡ true → IsBrought out word m x y → HeadsKept out (named word m x)
  brings_heads x y some o b = out_of (fixed_decide out w.acyclic (relation_of (named word m x))) asked
    where
      r : IsKeptInstance out b.0
      r = (listing_exact out w b.0).0 b.1

      l : (l : Literal) × IsAmong l r.rule.body × (positive (named word m x) ≡ literal_under r.map l)
      l =
          among_map_out (literal_under r.map) (positive (named word m x)) r.rule.body
          (subst (λ (ls : List Literal). IsAmong (positive (named word m x)) ls) (sym (ap (λ (j : Instance). j.body) r.same)) b.3)

      plain : source_of (named word m x) ≡ ordinary
      plain = plain_source (named word m x) (is.plain_layers m some (omega arith) (relation_of x) o)

      asked : PossibleAs out (IsFixed out (relation_of (named word m x))) (HoldsAlways out (named word m x)) (HeadsKept out (named word m x)) ordinary
      asked =
          subst (λ (k : Source). PossibleAs out (IsFixed out (relation_of (named word m x))) (HoldsAlways out (named word m x))
          (HeadsKept out (named word m x)) k) plain (subst (λ (j : Literal). Keeps out (HeadsKept out) j) (sym l.2) (r.kept.keeps l.0 l.1))

      out_of : IsFixed out (relation_of (named word m x)) ⊎ (IsFixed out (relation_of (named word m x)) → ⊥)
          → PossibleAs out (IsFixed out (relation_of (named word m x))) (HoldsAlways out (named word m x)) (HeadsKept out (named word m x)) ordinary
          → HeadsKept out (named word m x)
      out_of (inl f) h = always_kept out w.acyclic (named word m x) (h.0 f)
      out_of (inr moves) h = h.1 moves

  -- an atom of a path stands in one of the last two layers
  brings_stands : (x y : Atom) → own (relation_of x) ≡ true → own (relation_of y) ≡ true → IsBrought out word m x y → Stands m x
  brings_stands x y own_x own_y b =
      let some = one_before x y own_y b in it_stands m some (omega arith) x own_x (brings_heads x y some own_x b)

  path_stands : (ys : List Atom) (x : Atom) → Path ys x → (k : ℕ) × Stands k x
  path_stands [] x path = (suc m, it_stands (suc m) (omega arith) (omega arith) x path.0 path.1)
  path_stands (y ∷ ys) x path = (m, brings_stands x y path.0 (path_own ys y (path.1).1) (path.1).0)

  -- a step of a path is one by numbers
  path_step : (x y : Atom) → own (relation_of x) ≡ true → own (relation_of y) ≡ true → (b : IsBrought out word m x y)
      → LeadsOn by.bounded.has_slots.slots (number x) (number y)
  path_step x y own_x own_y b =
      one_step out own word (suc m) w is kept kept_are by.bounded m (one_before x y own_y b) (omega arith) y x own_y (brings_stands x y own_x own_y b)
      (it_stands (suc m) (omega arith) (omega arith) y own_y ((heads_exact out w (named word (suc m) y)).1 (b.0, b.1, b.2))) b

  -- the numbers of the atoms of a path are a way
  path_rising : (ys : List Atom) (x : Atom) → Path ys x
      → IsRising by.bounded.has_slots.slots by.bounded.has_slots.members (suc m) (map number (x ∷ ys))
  path_rising [] x path = ((path_stands [] x path).1.placed, (tt, tt))
  path_rising (y ∷ ys) x path = (
    (path_stands (y ∷ ys) x path).1.placed,
    (path_step x y path.0 (path_own ys y (path.1).1) (path.1).0, path_rising ys y (path.1).1),
  )

  -- each atom of a path has a number
  path_listed : (ys : List Atom) (x : Atom) → Path ys x → (z : Atom) → IsAmong z (x ∷ ys) → IsAmong z (listing out).atoms
  path_listed ys x path z (inl e) =
      let s = path_stands ys x path in subst (λ (y : Atom). IsAmong y (listing out).atoms) (sym e) (stands_listed s.0 x s.1)
  path_listed [] x path z (inr a) = absurd a
  path_listed (y ∷ ys) x path z (inr a) = path_listed ys y (path.1).1 z a

  path_short : (ys : List Atom) (x : Atom) → Path ys x → AreDistinct (x ∷ ys) → suc (length ys) ≤ m
  path_short ys x path d =
      let short = rising_short by.bounded.has_slots.slots by.bounded.has_slots.members (suc m) (number x) (map number ys) (path_rising ys x path)
      (numbers_differ (listing out).atoms (x ∷ ys) (path_listed ys x path) d) in
      omega (arith, short, length-map ys number)

  -- What is kept in the layer behind.

  abbrev IsKeptBehind : ℕ → Atom → Type 0
  IsKeptBehind k x = (i : Instance) × IsListed i × (i.head ≡ named word (suc k) x) × (i.body ≡ positive (named word k x) ∷ [])

  abbrev Carries : Instance → ℕ → Type 0
  Carries i b = IsCarrier out by.firsts by.bounded.has_slots.owners (numbered out i) b

  -- the instance behind a carrier
  carrier_of : (k : ℕ) → 1 ≤ k → k ≤ m → (x : Atom) → own (relation_of x) ≡ true → HeadsKept out (named word k x)
      → (i : Instance) × IsListed i × Carries i (number (named word k x))
  carrier_of k some last x o h = (b.0, b.1, carries)
    where
      i : (i : Instance) × IsListed i × (i.head ≡ named word k x)
      i = (heads_exact out w (named word k x)).0 h

      r : IsKeptInstance out i.0
      r = (listing_exact out w i.0).0 i.1

      c : (j : Kept) × IsAmong j kept × IsCarrier out by.firsts by.bounded.has_slots.owners j (number (i.0).head)
      c =
          by.carried (numbered out i.0) (there out own word (suc m) w is kept kept_are by.bounded i.0 i.1)
          (by.mark_befores (i.0).place r.rule r.at k some last (relation_of x) o (head_relation out own word (suc m) w is kept kept_are by.bounded i.0 r ∙ ap relation_of i.2))

      b : (j : Instance) × IsListed j × (c.0 ≡ numbered out j)
      b = back out own word (suc m) w is kept kept_are by.bounded c.0 c.1

      carries : Carries b.0 (number (named word k x))
      carries =
          subst (λ (y : Atom). Carries b.0 (number y)) i.2
          (subst (λ (j : Kept). IsCarrier out by.firsts by.bounded.has_slots.owners j (number (i.0).head)) b.2 c.2)

  -- a carrier that heads an atom of a layer asks that of the layer before
  carrier_asks : (k j : ℕ) → 1 ≤ k → k ≤ suc m → 1 ≤ j → j < suc m → (x : Atom) → own (relation_of x) ≡ true
      → IsAmong (named word k x) (listing out).atoms → (i : Instance) → IsListed i → Carries i (number (named word k x))
      → i.head ≡ named word (suc j) x → IsKeptBehind k x
  carrier_asks k j some last some_before before x o x_there i a c heads =
      (i, a, heads ∙ ap (λ (t : ℕ). named word (suc t) x) layers, body ∙ ap (λ (y : Atom). positive y ∷ []) same)
    where
      r : IsKeptInstance out i
      r = (listing_exact out w i).0 a

      z : (z : Atom) × (own (relation_of z) ≡ true) × (r.rule.body ≡ positive (named word j z) ∷ [])
      z =
          next_asks found out own word (suc m) stack j some_before before (relation_of x) o r.rule r.kept.is_rule
          (head_relation out own word (suc m) w is kept kept_are by.bounded i r ∙ ap relation_of heads) (c.one r.rule r.at)

      asked : Atom
      asked = atom_under r.map z.0

      body : i.body ≡ positive (named word j asked) ∷ []
      body =
          ap (λ (t : Instance). t.body) (sym r.same) ∙ ap (map (literal_under r.map)) z.2
          ∙ ap (λ (y : Atom). positive y ∷ []) (named_under out own word (suc m) w is kept kept_are by.bounded r.map j z.0)

      same : named word j asked ≡ named word k x
      same =
          one_atom (named word j asked) (named word k x) (listing out).atoms x_there
          (one_gate out i (named word j asked) (number (named word k x)) body c.asks).1

      layers : j ≡ k
      layers =
          (is.once j k (relation_of asked) (relation_of x) some_before (omega (arith, before)) some last (ap own (relation-under r.map z.0) ∙ z.1) o
          (ap relation_of same)).0

  -- what may hold in a layer before the last is kept in the one behind it
  kept_behind : (k : ℕ) → 1 ≤ k → k ≤ m → (x : Atom) → own (relation_of x) ≡ true → HeadsKept out (named word k x) → IsKeptBehind k x
  kept_behind k some last x o h = go t.0 t.1 t.2 t.3
    where
      s : Stands k x
      s = it_stands k some (omega (arith, last)) x o h

      c : (i : Instance) × IsListed i × Carries i (number (named word k x))
      c = carrier_of k some last x o h

      x_there : IsAmong (named word k x) (listing out).atoms
      x_there =
          let i = (heads_exact out w (named word k x)).0 h in
          subst (λ (y : Atom). IsAmong y (listing out).atoms) i.2 (head_listed out own word (suc m) w is kept kept_are by.bounded i.0 i.1)

      t : (l : ℕ) × (1 ≤ l) × (l ≤ suc m) × ((c.0).head ≡ named word l x)
      t =
          behind out own word (suc m) w is kept kept_are by.bounded (c.0).head x (head_listed out own word (suc m) w is kept kept_are by.bounded c.0 c.1) (stands_listed k x s)
          ((c.2).same ∙ s.owned)

      go : (l : ℕ) → 1 ≤ l → l ≤ suc m → (c.0).head ≡ named word l x → IsKeptBehind k x
      go zero low high e = absurd (omega (arith, low))
      go (suc zero) low high e =
          let r = (listing_exact out w c.0).0 c.1 in
          let first = by.mark_firsts (c.0).place r.rule r.at 1 (omega arith) (omega arith) (relation_of x) o (head_relation out own word (suc m) w is kept kept_are by.bounded c.0 r ∙ ap relation_of e) in
          let later = (c.2).later in
          absurd (let bad : ⊥ = cc in bad)
      go (suc (suc j)) low high e =
          carrier_asks k (suc j) some (omega (arith, last)) (omega arith) (omega (arith, high)) x o x_there c.0 c.1 c.2 e

  layers_enough : IsEnough out own word m
  layers_enough = record {
    short = path_short;
    tops = top_in out own word (suc m) w is kept kept_are by.bounded;
    carries = kept_behind;
    moves = own_moves out own word (suc m) w is kept kept_are by.bounded;
  }

pub enough : (found out : List Alternative) (own : Relation → Bool) (word : ℕ → Relation → List ℕ) (m : ℕ) → IsWellFormed out
    → IsStacked found out own word (suc m) → (kept : List Kept) → kept ≡ map (numbered out) (listing out).kept → IsStackedIn out own word m kept
    → IsEnough out own word m
enough found out own word m w is kept kept_are by =
    layers_enough found out own word m w
    (record { some = is.some; only_top = is.only_top; once = is.once; plain_layers = is.plain_layers }) is kept kept_are by
