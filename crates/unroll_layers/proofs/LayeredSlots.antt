-- What the numbers of an instantiation say of ways through own atoms.
use Rattle.std.proofs.Common.{ℕ, zero, suc, ◌<◌, ◌≤◌, Bool, true, false, ◌≡◌, inl, inr, List, [], ◌∷◌, length, map, refl, sym, ap, subst, ◌∙◌, arith, Option, Some}
use Rattle.std.proofs.lemmas.List.{length-map}
use Rattle.statement.specs.Tree.{Trees}
use Rattle.statement.specs.Clause.{Atom, Literal, positive, Alternative, Relation, relation_of, atom_of}
use Rattle.statement.specs.Dependence.{IsAmong, DependsDirectly, IsFixed, is_fixed, is_distinct, is_moving}
use Rattle.statement.specs.Substitution.{Map, atom_under, literal_under}
use Rattle.statement.specs.Meaning.{source_of, ordinary}
use Rattle.statement.specs.Listing.{Instance, listing}
use Rattle.statement.specs.Kept.{Kept, number_of, numbered, gate}
use Rattle.rules_profile.proofs.Facts.{fixed_tested}
use Rattle.meaning.specs.InOrder.{AreDistinct}
use Rattle.meaning.specs.Kept.{HeadsKept}
use Rattle.meaning.specs.Listed.{IsWellFormed, IsKeptInstance, IsAlternativeAt}
use Rattle.meaning.proofs.Facts.{among_map_out, among_map_in, relation-under, relation-literal_under, source_under, listing_exact, atoms_exact, heads_exact}
use Rattle.meaning.specs.Layers.{named, layer_of, IsLayered, IsBrought, IsWay, IsBounded}
use Rattle.unroll_layers.specs.Slotted.{IsPlaced, LeadsOn, IsChain}
use Rattle.unroll_layers.specs.Owners.{IsSlotted, LeadsFrom, IsOf, AsksOnly, HasAsking, owner_of}
use Rattle.unroll_layers.specs.ByNumber.{IsBoundedIn}
use Rattle.unroll_layers.proofs.Chains.{chain_short}
use Rattle.unroll_layers.proofs.Numbers.{one_atom, numbers_differ, one_gate, in_gate, of_all}

-- an atom has one owner
one_owner : (o : Option ℕ) (v u : ℕ) → o ≡ Some v → o ≡ Some u → v ≡ u
one_owner o v u e f = cc

-- what layers have, whether or not they keep those before
pub record AreLayers (out : List Alternative) (own : Relation → Bool) (word : ℕ → Relation → List ℕ) (n : ℕ) : Type 0 where
  pub some : 1 ≤ n
  pub only_top : (rule : Alternative) → IsAmong rule out → own (relation_of rule.head) ≡ true
      → (k : ℕ) × (1 ≤ k) × (k ≤ n) × (rule.body ≡ positive (named word k rule.head) ∷ [])
  pub once : (j k : ℕ) (p q : Relation) → 1 ≤ j → j ≤ n → 1 ≤ k → k ≤ n → own p ≡ true → own q ≡ true → layer_of word j p ≡ layer_of word k q
      → (j ≡ k) × (p ≡ q)
  pub plain_layers : (k : ℕ) → 1 ≤ k → k ≤ n → (p : Relation) → own p ≡ true
      → (is_moving (layer_of word k p) ≡ false) × (is_distinct (layer_of word k p) ≡ false)

module _ (out : List Alternative) (own : Relation → Bool) (word : ℕ → Relation → List ℕ) (n : ℕ) (w : IsWellFormed out)
    (is : AreLayers out own word n) (kept : List Kept) (kept_are : kept ≡ map (numbered out) (listing out).kept)
    (by : IsBoundedIn out own word n kept) where
  abbrev number : Atom → ℕ
  number x = number_of x (listing out).atoms

  abbrev IsListed : Instance → Type 0
  IsListed i = IsAmong i (listing out).kept

  pub there : (i : Instance) → IsListed i → IsAmong (numbered out i) kept
  there i a = subst (λ (ks : List Kept). IsAmong (numbered out i) ks) (sym kept_are) (among_map_in (numbered out) i (listing out).kept a)

  pub back : (k : Kept) → IsAmong k kept → (i : Instance) × IsListed i × (k ≡ numbered out i)
  back k a = among_map_out (numbered out) k (listing out).kept (subst (λ (ks : List Kept). IsAmong k ks) kept_are a)

  -- a kept instance heads the relation of its rule
  pub head_relation : (i : Instance) (k : IsKeptInstance out i) → relation_of k.rule.head ≡ relation_of i.head
  head_relation i k = sym (relation-under k.map k.rule.head) ∙ ap (λ (j : Instance). relation_of j.head) k.same

  -- its head has a number
  pub head_listed : (i : Instance) → IsListed i → IsAmong i.head (listing out).atoms
  head_listed i a =
      let k = (listing_exact out w i).0 a in
      let plain = source_under k.map k.rule.head.word k.rule.head.terms (w.heads k.rule k.kept.is_rule) in
      (atoms_exact out w i.head (subst (λ (j : Instance). source_of j.head ≡ ordinary) k.same plain)).1 ((heads_exact out w i.head).1 (i, a, refl))

  -- the name of a layer stays under a map
  pub named_under : (m : Map) (k : ℕ) (x : Atom) → atom_under m (named word k x) ≡ named word k (atom_under m x)
  named_under m k x = ap (λ (p : Relation). record { word = word k p; terms = (atom_under m x).terms }) (sym (relation-under m x))

  -- a kept instance of an own relation asks the atom in some layer
  pub record IsTop (i : Instance) : Type 0 where
    pub layer : ℕ
    pub some : 1 ≤ layer
    pub last : layer ≤ n
    pub body : i.body ≡ positive (named word layer i.head) ∷ []

  top_of : (i : Instance) → IsListed i → own (relation_of i.head) ≡ true → IsTop i
  top_of i a o = record { layer = t.0; some = t.1; last = t.2; body = body }
    where
      k : IsKeptInstance out i
      k = (listing_exact out w i).0 a

      t : (j : ℕ) × (1 ≤ j) × (j ≤ n) × (k.rule.body ≡ positive (named word j k.rule.head) ∷ [])
      t = is.only_top k.rule k.kept.is_rule (ap own (head_relation i k) ∙ o)

      body : i.body ≡ positive (named word t.0 i.head) ∷ []
      body =
          ap (λ (j : Instance). j.body) (sym k.same) ∙ ap (map (literal_under k.map)) t.3
          ∙ ap (λ (x : Atom). positive x ∷ []) (named_under k.map t.0 k.rule.head) ∙ ap (λ (j : Instance). positive (named word t.0 j.head) ∷ []) k.same

  -- a kept instance that heads an atom of a layer is slotted
  pub slotted : (i : Instance) → IsListed i → (k : ℕ) → 1 ≤ k → k ≤ n → (x : Atom) → own (relation_of x) ≡ true → i.head ≡ named word k x
      → IsSlotted by.has_slots.owners by.has_slots.slots by.has_slots.members n (numbered out i)
  slotted i a k some last x o e =
      let r = (listing_exact out w i).0 a in
      by.has_slots.are_slotted (numbered out i) (there i a)
      (by.mark_layers i.place r.rule r.at k some last (relation_of x) o (head_relation i r ∙ ap relation_of e))

  -- an own atom in a layer: the kept instance that asks it there
  pub record StandsIn (k : ℕ) (x : Atom) : Type 0 where
    pub instance : Instance
    pub listed : IsListed instance
    pub heads : instance.head ≡ x
    pub body : instance.body ≡ positive (named word k x) ∷ []
    pub moves : is_fixed out (relation_of (named word k x)) ≡ false
    pub owned : owner_of by.has_slots.owners (number (named word k x)) ≡ Some (number x)
    pub placed : IsPlaced by.has_slots.slots by.has_slots.members n (number x)

  -- the instance behind an owner
  top_stands : (k : ℕ) → 1 ≤ k → k ≤ n → (x : Atom) → own (relation_of x) ≡ true → IsAmong (named word k x) (listing out).atoms → (v : ℕ)
      → owner_of by.has_slots.owners (number (named word k x)) ≡ Some v → IsPlaced by.has_slots.slots by.has_slots.members n v → StandsIn k x
  top_stands k some last x o numbered_there v owned placed = record {
    instance = i;
    listed = listed;
    heads = heads;
    body = t.body ∙ ap (λ (y : Atom). positive y ∷ []) same;
    moves = subst (λ (y : Atom). is_fixed out (relation_of y) ≡ false) same g.0;
    owned = owned ∙ ap Some owner;
    placed = subst (λ (u : ℕ). IsPlaced by.has_slots.slots by.has_slots.members n u) owner placed;
  }
    where
      a : (j : Kept) × IsAmong j kept × IsOf by.tops j × AsksOnly j (number (named word k x)) × (j.head ≡ v)
      a = by.has_slots.are_owners (number (named word k x)) v owned

      b : (i : Instance) × IsListed i × (a.0 ≡ numbered out i)
      b = back a.0 a.1

      i : Instance
      i = b.0

      listed : IsListed i
      listed = b.1

      own_head : own (relation_of i.head) ≡ true
      own_head =
          let r = (listing_exact out w i).0 listed in
          ap own (sym (head_relation i r)) ∙ by.mark_tops i.place r.rule r.at (subst (λ (j : Kept). IsOf by.tops j) b.2 a.2)

      t : IsTop i
      t = top_of i listed own_head

      g : (is_fixed out (relation_of (named word t.layer i.head)) ≡ false) × (number (named word t.layer i.head) ≡ number (named word k x))
      g =
          one_gate out i (named word t.layer i.head) (number (named word k x)) t.body
          (subst (λ (j : Kept). AsksOnly j (number (named word k x))) b.2 a.3)

      same : named word t.layer i.head ≡ named word k x
      same = one_atom (named word t.layer i.head) (named word k x) (listing out).atoms numbered_there g.1

      relation : relation_of i.head ≡ relation_of x
      relation = (is.once t.layer k (relation_of i.head) (relation_of x) t.some t.last some last own_head o (ap relation_of same)).1

      heads : i.head ≡ x
      heads =
          ap (λ (u : List ℕ). let y : Atom = record { word = u; terms = i.head.terms } in y) (ap (λ (p : Relation). p.word) relation)
          ∙ ap (λ (ts : Trees). let y : Atom = record { word = x.word; terms = ts } in y) (ap (λ (y : Atom). y.terms) same)

      owner : v ≡ number x
      owner = sym a.4 ∙ ap (λ (j : Kept). j.head) b.2 ∙ ap number heads

  -- an own atom that may hold in a layer stands there
  pub stands : (k : ℕ) → 1 ≤ k → k ≤ n → (x : Atom) → own (relation_of x) ≡ true → HeadsKept out (named word k x) → StandsIn k x
  stands k some last x o h =
      let i = (heads_exact out w (named word k x)).0 h in
      let s = slotted i.0 i.1 k some last x o i.2 in
      top_stands k some last x o (subst (λ (y : Atom). IsAmong y (listing out).atoms) i.2 (head_listed i.0 i.1)) s.node
      (subst (λ (y : Atom). owner_of by.has_slots.owners (number y) ≡ Some s.node) i.2 s.owned) s.placed

  -- an atom on which an own atom rests stands in some layer
  pub behind : (y x : Atom) → IsAmong y (listing out).atoms → IsAmong x (listing out).atoms
      → owner_of by.has_slots.owners (number y) ≡ Some (number x) → (k : ℕ) × (1 ≤ k) × (k ≤ n) × (y ≡ named word k x)
  behind y x y_there x_there owned = (t.layer, t.some, t.last, sym same ∙ ap (λ (z : Atom). named word t.layer z) heads)
    where
      a : (j : Kept) × IsAmong j kept × IsOf by.tops j × AsksOnly j (number y) × (j.head ≡ number x)
      a = by.has_slots.are_owners (number y) (number x) owned

      b : (i : Instance) × IsListed i × (a.0 ≡ numbered out i)
      b = back a.0 a.1

      t : IsTop b.0
      t =
          let r = (listing_exact out w b.0).0 b.1 in
          top_of b.0 b.1 (ap own (sym (head_relation b.0 r)) ∙ by.mark_tops (b.0).place r.rule r.at (subst (λ (j : Kept). IsOf by.tops j) b.2 a.2))

      same : named word t.layer (b.0).head ≡ y
      same =
          let g = one_gate out b.0 (named word t.layer (b.0).head) (number y) t.body (subst (λ (j : Kept). AsksOnly j (number y)) b.2 a.3) in
          one_atom (named word t.layer (b.0).head) y (listing out).atoms y_there g.1

      heads : (b.0).head ≡ x
      heads = one_atom (b.0).head x (listing out).atoms x_there (sym (ap (λ (j : Kept). j.head) b.2) ∙ a.4)

  abbrev Way : List Atom → Atom → Type 0
  Way ys x = IsWay out own word ys x

  -- what a way leads to may hold in its layer
  way_heads : (ys : List Atom) (x : Atom) → Way ys x → (own (relation_of x) ≡ true) × HeadsKept out (named word (suc (length ys)) x)
  way_heads [] x way = way
  way_heads (y ∷ ys) x way =
      let b = (way.1).0 in (way.0, (heads_exact out w (named word (suc (suc (length ys))) x)).1 (b.0, b.1, b.2))

  way_stands : (ys : List Atom) (x : Atom) → Way ys x → suc (length ys) ≤ n → StandsIn (suc (length ys)) x
  way_stands ys x way last = let h = way_heads ys x way in stands (suc (length ys)) (omega arith) last x h.0 h.1

  -- a step of a way is one by numbers
  pub one_step : (k : ℕ) → 1 ≤ k → suc k ≤ n → (x y : Atom) → own (relation_of x) ≡ true → StandsIn k y → StandsIn (suc k) x → IsBrought out word k y x
      → LeadsOn by.has_slots.slots (number y) (number x)
  one_step k some last x y o below above b =
      let s = slotted b.0 b.1 (suc k) (omega arith) last x o b.2 in
      let node = one_owner (owner_of by.has_slots.owners (number (b.0).head)) s.node (number x) s.owned
      (subst (λ (z : Atom). owner_of by.has_slots.owners (number z) ≡ Some (number x)) (sym b.2) above.owned) in
      subst (λ (v : ℕ). LeadsOn by.has_slots.slots (number y) v) node
      (of_all (LeadsFrom by.has_slots.owners by.has_slots.slots s.node) (gate out b.0) s.steps (number (named word k y), false)
      (in_gate out b.0 (named word k y) b.3 below.moves) (number y) refl below.owned)

  -- the numbers of the atoms of a way are a way
  way_chain : (ys : List Atom) (x : Atom) → Way ys x → suc (length ys) ≤ n → IsChain by.has_slots.slots by.has_slots.members n (map number (x ∷ ys))
  way_chain [] x way last = ((way_stands [] x way last).placed, (tt, tt))
  way_chain (y ∷ ys) x way last =
      let above = way_stands (y ∷ ys) x way last in
      let before = (way.1).1 in
      let below = way_stands ys y before (omega arith) in (
        above.placed,
        (
          one_step (suc (length ys)) (omega arith) last x y way.0 below above (way.1).0,
          way_chain ys y before (omega arith),
        ),
      )

  -- each atom of a way has a number
  way_listed : (ys : List Atom) (x : Atom) → Way ys x → suc (length ys) ≤ n → (z : Atom) → IsAmong z (x ∷ ys) → IsAmong z (listing out).atoms
  way_listed ys x way last z (inl e) =
      let s = way_stands ys x way last in
      subst (λ (y : Atom). IsAmong y (listing out).atoms) (s.heads ∙ sym e) (head_listed s.instance s.listed)
  way_listed [] x way last z (inr a) = absurd a
  way_listed (y ∷ ys) x way last z (inr a) = way_listed ys y (way.1).1 (omega arith) z a

  way_ends : (ys : List Atom) (x : Atom) → Way ys x → AreDistinct (x ∷ ys) → suc (length ys) ≤ n → suc (length ys) < n
  way_ends ys x way d last =
      let short = chain_short by.has_slots.slots by.has_slots.members n (number x) (map number ys) (way_chain ys x way last)
      (numbers_differ (listing out).atoms (x ∷ ys) (way_listed ys x way last) d) in
      omega (arith, short, length-map ys number)

  -- no way is as long as there are layers
  way_short : (ys : List Atom) (x : Atom) → Way ys x → AreDistinct (x ∷ ys) → suc (length ys) < n
  way_short [] x way d = way_ends [] x way d is.some
  way_short (y ∷ ys) x way d =
      let less = way_short ys y (way.1).1 d.1 in
      way_ends (y ∷ ys) x way d (omega (arith, less))

  -- an own relation is not fixed: that of a layer, which one of its instances asks, is not
  pub own_moves : (p : Relation) → own p ≡ true → IsFixed out p → ⊥
  own_moves p o fixed =
      fixed_open (relation_of (named word t.layer i.head))
      (one_gate out i (named word t.layer i.head) (h.3).0 t.body (subst (λ (j : Kept). AsksOnly j (h.3).0) b.2 (h.3).1)).0 direct
    where
      h : HasAsking out kept p
      h = by.asking p o

      b : (i : Instance) × IsListed i × (h.0 ≡ numbered out i)
      b = back h.0 h.1

      i : Instance
      i = b.0

      r : IsKeptInstance out i
      r = (listing_exact out w i).0 b.1

      head_is : relation_of i.head ≡ p
      head_is = sym (head_relation i r) ∙ h.2 r.rule (subst (λ (j : Kept). IsAlternativeAt 0 out j.alternative r.rule) (sym b.2) r.at)

      t : IsTop i
      t = top_of i b.1 (ap own head_is ∙ o)

      l : (l : Literal) × IsAmong l r.rule.body × (positive (named word t.layer i.head) ≡ literal_under r.map l)
      l =
          among_map_out (literal_under r.map) (positive (named word t.layer i.head)) r.rule.body
          (subst (λ (ls : List Literal). IsAmong (positive (named word t.layer i.head)) ls) (sym t.body ∙ sym (ap (λ (j : Instance). j.body) r.same))
          (inl refl))

      direct : DependsDirectly out p (relation_of (named word t.layer i.head))
      direct = record {
        rule = r.rule;
        literal = l.0;
        is_rule = r.kept.is_rule;
        heads = head_relation i r ∙ head_is;
        in_body = l.1;
        names = sym (relation-literal_under r.map l.0) ∙ ap (λ (m : Literal). relation_of (atom_of m)) (sym l.2);
        not_distinct = (is.plain_layers t.layer t.some t.last (relation_of i.head) (ap own head_is ∙ o)).1;
      }

      fixed_open : (q : Relation) → is_fixed out q ≡ false → DependsDirectly out p q → ⊥
      fixed_open q e d =
          let f : IsFixed out q = record { itself = fixed.below q (zero, d); below = λ c chain. fixed.below c (suc chain.0, (q, d, chain.1)) } in
          let k = (fixed_tested out w.acyclic q).1 f in absurd cc

  -- own atoms in layers, by the instances that ask them there
  pub top_in : (k : ℕ) → 1 ≤ k → k ≤ n → (x : Atom) → own (relation_of x) ≡ true → HeadsKept out (named word k x)
      → (i : Instance) × IsAmong i (listing out).kept × (i.head ≡ x) × (i.body ≡ positive (named word k x) ∷ [])
  top_in k some last x o h = let s = stands k some last x o h in (s.instance, s.listed, s.heads, s.body)

  layers_bounded : IsBounded out own word n
  layers_bounded = record { short = way_short; tops = top_in; moves = own_moves }

pub bounded : (found out : List Alternative) (own : Relation → Bool) (word : ℕ → Relation → List ℕ) (n : ℕ) → IsWellFormed out
    → IsLayered found out own word n → (kept : List Kept) → kept ≡ map (numbered out) (listing out).kept → IsBoundedIn out own word n kept
    → IsBounded out own word n
bounded found out own word n w is kept kept_are by =
    layers_bounded out own word n w
    (record { some = is.some; only_top = is.only_top; once = is.once; plain_layers = is.plain_layers }) kept kept_are by
