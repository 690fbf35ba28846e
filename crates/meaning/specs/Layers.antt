-- This crate's own: what `run` promises does not rest on it.
-- Relations that rest on themselves, written as layers: an atom stands in a layer where it is derived in so many steps through atoms of these
-- relations, which are called own.
use Rattle.std.specs.Prelude.{ℕ, suc, ◌≡◌, ◌<◌, ◌≤◌, ◌⊎◌, Bool, true, false, cond, List, [], ◌∷◌, length, map}
use Rattle.statement.specs.Clause.{Atom, Literal, positive, negative, Alternative, Relation, relation_of}
use Rattle.statement.specs.Dependence.{IsAmong, IsFixed, is_distinct, is_moving}
use Rattle.statement.specs.Listing.{Instance, listing}
use Rattle.meaning.specs.Kept.{HeadsKept}
use Rattle.meaning.specs.InOrder.{AreDistinct}

-- `word` tells the name that a relation has in a layer, which are numbered from 1

-- the atom under the name that its relation has in a layer
abbrev pub named : (ℕ → Relation → List ℕ) → ℕ → Atom → Atom
named word k x = record { word = word k (relation_of x); terms = x.terms }

abbrev pub layer_of : (ℕ → Relation → List ℕ) → ℕ → Relation → Relation
layer_of word k p = record { word = word k p; arity = p.arity }

-- a literal, in which an own atom is one of a layer
abbrev pub layered_literal : (Relation → Bool) → (ℕ → Relation → List ℕ) → ℕ → Literal → Literal
layered_literal own word k (positive x) = positive (cond (own (relation_of x)) (named word k x) x)
layered_literal own word k (negative x) = negative x

-- a rule that leads from a layer into the one behind it
abbrev pub layered : (Relation → Bool) → (ℕ → Relation → List ℕ) → ℕ → Alternative → Alternative
layered own word k rule = record { head = named word (suc k) rule.head; body = map (layered_literal own word k) rule.body }

-- the body has no own atom, but behind a `not`
abbrev pub IsFirst : (Relation → Bool) → Alternative → Type 0
IsFirst own rule = (y : Atom) → IsAmong (positive y) rule.body → own (relation_of y) ≡ false

-- the body has one own atom, and behind a `not` perhaps others
abbrev pub IsStep : (Relation → Bool) → Alternative → Type 0
IsStep own rule =
    (y : Atom) × IsAmong (positive y) rule.body × (own (relation_of y) ≡ true)
    × ((z : Atom) → IsAmong (positive z) rule.body → own (relation_of z) ≡ true → z ≡ y)

-- The own relations are written in so many layers. Each of their rules has one own atom or none. Those with none are those of the first layer,
-- those with one those of each layer behind it, and an own atom holds where it does in some layer.
pub record IsLayered (rules out : List Alternative) (own : Relation → Bool) (word : ℕ → Relation → List ℕ) (n : ℕ) : Type 0 where
  pub some : 1 ≤ n
  pub kinds : (rule : Alternative) → IsAmong rule rules → own (relation_of rule.head) ≡ true → IsFirst own rule ⊎ IsStep own rule
  pub first : (rule : Alternative) → IsAmong rule rules → own (relation_of rule.head) ≡ true → IsFirst own rule
      → IsAmong (layered own word 0 rule) out
  pub next : (k : ℕ) → 1 ≤ k → k < n → (rule : Alternative) → IsAmong rule rules → own (relation_of rule.head) ≡ true → IsStep own rule
      → IsAmong (layered own word k rule) out
  pub only_first : (p : Relation) → own p ≡ true → (rule : Alternative) → IsAmong rule out → relation_of rule.head ≡ layer_of word 1 p
      → (r : Alternative) × IsAmong r rules × (relation_of r.head ≡ p) × IsFirst own r × (rule ≡ layered own word 0 r)
  pub only_next : (k : ℕ) → 1 ≤ k → k < n → (p : Relation) → own p ≡ true → (rule : Alternative) → IsAmong rule out
      → relation_of rule.head ≡ layer_of word (suc k) p
      → (r : Alternative) × IsAmong r rules × (relation_of r.head ≡ p) × IsStep own r × (rule ≡ layered own word k r)
  pub only_top : (rule : Alternative) → IsAmong rule out → own (relation_of rule.head) ≡ true
      → (k : ℕ) × (1 ≤ k) × (k ≤ n) × (rule.body ≡ positive (named word k rule.head) ∷ [])
  -- the names of layers differ
  pub once : (j k : ℕ) (p q : Relation) → 1 ≤ j → j ≤ n → 1 ≤ k → k ≤ n → own p ≡ true → own q ≡ true → layer_of word j p ≡ layer_of word k q
      → (j ≡ k) × (p ≡ q)
  -- the rules of the language give no meaning to own relations, nor to the names of layers
  pub plain : (p : Relation) → own p ≡ true → (is_moving p ≡ false) × (is_distinct p ≡ false)
  pub plain_layers : (k : ℕ) → 1 ≤ k → k ≤ n → (p : Relation) → own p ≡ true
      → (is_moving (layer_of word k p) ≡ false) × (is_distinct (layer_of word k p) ≡ false)

-- a kept instance brings the second atom into the layer behind one, by the first in that one
abbrev pub IsBrought : List Alternative → (ℕ → Relation → List ℕ) → ℕ → Atom → Atom → Type 0
IsBrought out word k y x =
    (i : Instance) × IsAmong i (listing out).kept × (i.head ≡ named word (suc k) x) × IsAmong (positive (named word k y)) i.body

-- A way to an own atom through others, the last of them first: the first stands in the first layer, and each is brought into its layer by the
-- one before it.
abbrev pub IsWay : List Alternative → (Relation → Bool) → (ℕ → Relation → List ℕ) → List Atom → Atom → Type 0
IsWay out own word [] x = (own (relation_of x) ≡ true) × HeadsKept out (named word 1 x)
IsWay out own word (y ∷ ys) x = (own (relation_of x) ≡ true) × (IsBrought out word (suc (length ys)) y x × IsWay out own word ys y)

-- Ways through different atoms are shorter than there are layers; what may hold in a layer may hold, by a kept instance that says so; and no
-- own relation is fixed.
pub record IsBounded (out : List Alternative) (own : Relation → Bool) (word : ℕ → Relation → List ℕ) (n : ℕ) : Type 0 where
  pub short : (ys : List Atom) (x : Atom) → IsWay out own word ys x → AreDistinct (x ∷ ys) → suc (length ys) < n
  pub tops : (k : ℕ) → 1 ≤ k → k ≤ n → (x : Atom) → own (relation_of x) ≡ true → HeadsKept out (named word k x)
      → (i : Instance) × IsAmong i (listing out).kept × (i.head ≡ x) × (i.body ≡ positive (named word k x) ∷ [])
  pub moves : (p : Relation) → own p ≡ true → IsFixed out p → ⊥
