-- This crate's own: what `run` promises does not rest on it.
-- Relations that rest on themselves, written as layers each of which keeps the ones before: an atom stands in a layer where it is derived in so
-- many steps or fewer.
use Rattle.std.specs.Prelude.{ℕ, suc, ◌≡◌, ◌<◌, ◌≤◌, ◌⊎◌, Bool, true, false, List, [], ◌∷◌, length}
use Rattle.statement.specs.Clause.{Atom, positive, Alternative, Relation, relation_of}
use Rattle.statement.specs.Dependence.{IsAmong, IsFixed, is_distinct, is_moving}
use Rattle.statement.specs.Listing.{Instance, listing}
use Rattle.meaning.specs.Kept.{HeadsKept}
use Rattle.meaning.specs.InOrder.{AreDistinct}
use Rattle.meaning.specs.Layers.{named, layer_of, layered, IsFirst, IsBrought}

-- the body has an own atom
abbrev pub IsInner : (Relation → Bool) → Alternative → Type 0
IsInner own rule = (y : Atom) × IsAmong (positive y) rule.body × (own (relation_of y) ≡ true)

-- the rule says that what is in a layer is in the one behind it
abbrev pub IsCarrying : (ℕ → Relation → List ℕ) → ℕ → Relation → Alternative → Type 0
IsCarrying word k p rule =
    (x : Atom) × (relation_of x ≡ p) × (rule.head ≡ named word (suc k) x) × (rule.body ≡ positive (named word k x) ∷ [])

-- The own relations are written in so many layers. Their rules without own atoms are those of the first layer, and those with such are those of
-- each layer behind it, beside what says that a layer keeps the one before. An own atom holds where it does in some layer.
pub record IsStacked (rules out : List Alternative) (own : Relation → Bool) (word : ℕ → Relation → List ℕ) (n : ℕ) : Type 0 where
  pub some : 1 ≤ n
  pub kinds : (rule : Alternative) → IsAmong rule rules → own (relation_of rule.head) ≡ true → IsFirst own rule ⊎ IsInner own rule
  pub first : (rule : Alternative) → IsAmong rule rules → own (relation_of rule.head) ≡ true → IsFirst own rule
      → IsAmong (layered own word 0 rule) out
  pub next : (k : ℕ) → 1 ≤ k → k < n → (rule : Alternative) → IsAmong rule rules → own (relation_of rule.head) ≡ true → IsInner own rule
      → IsAmong (layered own word k rule) out
  pub only_first : (p : Relation) → own p ≡ true → (rule : Alternative) → IsAmong rule out → relation_of rule.head ≡ layer_of word 1 p
      → (r : Alternative) × IsAmong r rules × (relation_of r.head ≡ p) × IsFirst own r × (rule ≡ layered own word 0 r)
  pub only_next : (k : ℕ) → 1 ≤ k → k < n → (p : Relation) → own p ≡ true → (rule : Alternative) → IsAmong rule out
      → relation_of rule.head ≡ layer_of word (suc k) p
      → ((r : Alternative) × IsAmong r rules × (relation_of r.head ≡ p) × IsInner own r × (rule ≡ layered own word k r))
      ⊎ IsCarrying word k p rule
  pub only_top : (rule : Alternative) → IsAmong rule out → own (relation_of rule.head) ≡ true
      → (k : ℕ) × (1 ≤ k) × (k ≤ n) × (rule.body ≡ positive (named word k rule.head) ∷ [])
  -- the names of layers differ
  pub once : (j k : ℕ) (p q : Relation) → 1 ≤ j → j ≤ n → 1 ≤ k → k ≤ n → own p ≡ true → own q ≡ true → layer_of word j p ≡ layer_of word k q
      → (j ≡ k) × (p ≡ q)
  -- the rules of the language give no meaning to own relations, nor to the names of layers
  pub plain : (p : Relation) → own p ≡ true → (is_moving p ≡ false) × (is_distinct p ≡ false)
  pub plain_layers : (k : ℕ) → 1 ≤ k → k ≤ n → (p : Relation) → own p ≡ true
      → (is_moving (layer_of word k p) ≡ false) × (is_distinct (layer_of word k p) ≡ false)

-- A path from an own atom up through others, the nearest first: each brings the one behind it from the last layer but one into the last.
abbrev pub IsPath : List Alternative → (Relation → Bool) → (ℕ → Relation → List ℕ) → ℕ → List Atom → Atom → Type 0
IsPath out own word m [] x = (own (relation_of x) ≡ true) × HeadsKept out (named word (suc m) x)
IsPath out own word m (y ∷ ys) x = (own (relation_of x) ≡ true) × (IsBrought out word m x y × IsPath out own word m ys y)

-- There is one layer more than `m`. Paths through different atoms pass at most so many; what may hold in a layer may hold, and in the layer
-- behind it, by kept instances that say so; and no own relation is fixed.
pub record IsEnough (out : List Alternative) (own : Relation → Bool) (word : ℕ → Relation → List ℕ) (m : ℕ) : Type 0 where
  pub short : (ys : List Atom) (x : Atom) → IsPath out own word m ys x → AreDistinct (x ∷ ys) → suc (length ys) ≤ m
  pub tops : (k : ℕ) → 1 ≤ k → k ≤ suc m → (x : Atom) → own (relation_of x) ≡ true → HeadsKept out (named word k x)
      → (i : Instance) × IsAmong i (listing out).kept × (i.head ≡ x) × (i.body ≡ positive (named word k x) ∷ [])
  pub carries : (k : ℕ) → 1 ≤ k → k ≤ m → (x : Atom) → own (relation_of x) ≡ true → HeadsKept out (named word k x)
      → (i : Instance) × IsAmong i (listing out).kept × (i.head ≡ named word (suc k) x) × (i.body ≡ positive (named word k x) ∷ [])
  pub moves : (p : Relation) → own p ≡ true → IsFixed out p → ⊥
