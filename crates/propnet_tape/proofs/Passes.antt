-- Passes over gates: what a pass leaves alone, and what a further gate adds.
use Rattle.std.proofs.Common.{
  ◌≡◌,
  ◌≢◌,
  ℕ,
  suc,
  zero,
  ◌+◌,
  ◌*◌,
  ◌<◌,
  ◌≤◌,
  ◌%◌,
  Bool,
  not,
  ◌&&◌,
  List,
  [],
  ◌∷◌,
  ◌++◌,
  length,
  get_or,
  All,
  refl,
  sym,
  ◌∙◌,
  ap,
  arith,
  ◌⊎◌,
  inl,
  inr,
}
use Rattle.std.proofs.lemmas.Bool.Decides.{nat_tests}
use Rattle.std.proofs.lemmas.Bool.{cases_eq, cases_lt}
use Rattle.propnet_tape.specs.Values.{written, pass, slots, InOrder}
use Rattle.propnet_tape.specs.declared.gates.Gate.{Gate}

pub written_same : (v : ℕ → Bool) (s : ℕ) (x : Bool) (l : ℕ) → l ≡ s → written v s x l ≡ x
written_same v s x l h = grind (arith, nat_tests)

pub written_not : (v : ℕ → Bool) (s : ℕ) (x : Bool) (l : ℕ) → l ≡ s + 1 → written v s x l ≡ not x
written_not v s x l h = grind (arith, nat_tests)

pub written_below : (v : ℕ → Bool) (s : ℕ) (x : Bool) (l : ℕ) → l < s → written v s x l ≡ v l
written_below v s x l h = grind (arith, nat_tests)

pub written_other : (v : ℕ → Bool) (s : ℕ) (x : Bool) (l : ℕ) → l ≢ s → l ≢ s + 1 → written v s x l ≡ v l
written_other v s x l h k = grind (arith, nat_tests)

pub written_at : (v w : ℕ → Bool) (s : ℕ) (x y : Bool) (l : ℕ) → v l ≡ w l → x ≡ y → written v s x l ≡ written w s y l
written_at v w s x y l h e = rw (h, e) refl

-- passes over equal values
pub pass_same : (s : ℕ) (gs : List Gate) (v w : ℕ → Bool) → ((l : ℕ) → v l ≡ w l) → (l : ℕ) → pass s gs v l ≡ pass s gs w l
pass_same s [] v w h l = h l
pass_same s (g ∷ gs) v w h l =
    let e : (v g.a && v g.b) ≡ (w g.a && w g.b) = rw (h g.a, h g.b) refl in
    pass_same (s + 2) gs (written v s (v g.a && v g.b)) (written w s (w g.a && w g.b))
    (λ k. written_at v w s (v g.a && v g.b) (w g.a && w g.b) k (h k) e) l

-- slots below the first that is written stay
pub pass_below : (s : ℕ) (gs : List Gate) (v : ℕ → Bool) (l : ℕ) → l < s → pass s gs v l ≡ v l
pass_below s [] v l h = refl
pass_below s (g ∷ gs) v l h =
    pass_below (s + 2) gs (written v s (v g.a && v g.b)) l (omega arith) ∙ written_below v s (v g.a && v g.b) l h

pub pass_append : (s : ℕ) (gs hs : List Gate) (v : ℕ → Bool) (l : ℕ)
    → pass s (gs ++ hs) v l ≡ pass (slots s gs) hs (pass s gs v) l
pass_append s [] hs v l = let e : slots s [] ≡ s = omega arith in rw e refl
pass_append s (g ∷ gs) hs v l =
    let e : slots (s + 2) gs ≡ slots s (g ∷ gs) = omega arith in
    pass_append (s + 2) gs hs (written v s (v g.a && v g.b)) l ∙ ap (λ (n : ℕ). pass n hs (pass s (g ∷ gs) v) l) e

-- further gates leave all earlier slots alone
pub pass_keeps : (s : ℕ) (gs hs : List Gate) (v : ℕ → Bool) (l : ℕ) → l < slots s gs → pass s (gs ++ hs) v l ≡ pass s gs v l
pass_keeps s gs hs v l h = pass_append s gs hs v l ∙ pass_below (slots s gs) hs (pass s gs v) l h

-- the slot of one more gate
pub pass_more : (s : ℕ) (gs : List Gate) (g : Gate) (v : ℕ → Bool)
    → pass s (gs ++ (g ∷ [])) v (slots s gs) ≡ (pass s gs v g.a && pass s gs v g.b)
pass_more s gs g v =
    pass_append s gs (g ∷ []) v (slots s gs)
    ∙ written_same (pass s gs v) (slots s gs) (pass s gs v g.a && pass s gs v g.b) (slots s gs) refl

-- slots 2k and 2k + 1 are each other's negation
pub pass_pairs : (s : ℕ) (gs : List Gate) (v : ℕ → Bool) → s % 2 ≡ 0
    → ((l : ℕ) → l % 2 ≡ 0 → v (l + 1) ≡ not (v l))
    → (l : ℕ) → l % 2 ≡ 0 → pass s gs v (l + 1) ≡ not (pass s gs v l)
pass_pairs s [] v e h l k = h l k
pass_pairs s (g ∷ gs) v e h l k =
    pass_pairs (s + 2) gs (written v s (v g.a && v g.b)) (omega arith)
    (λ m j. written_pair v s (v g.a && v g.b) e m j (h m j)) l k
  where
    written_pair : (v : ℕ → Bool) (s : ℕ) (x : Bool) → s % 2 ≡ 0 → (l : ℕ) → l % 2 ≡ 0 → v (l + 1) ≡ not (v l)
        → written v s x (l + 1) ≡ not (written v s x l)
    written_pair v s x e l k h = grind (arith, nat_tests)

-- a gate's slot is the and of the slots that it reads
pub pass_solves : (s : ℕ) (gs : List Gate) (v : ℕ → Bool) → InOrder s gs → (i : ℕ) (g : Gate) → i < length gs → g ≡ get_or gs i g
    → pass s gs v (s + 2 * i) ≡ (pass s gs v g.a && pass s gs v g.b)
pass_solves s [] v o i g h e = absurd (omega arith)
pass_solves s (f ∷ gs) v o zero g h e =
    let x : Bool = v f.a && v f.b in
    let w : ℕ → Bool = written v s (v f.a && v f.b) in
    let i : s + 2 * 0 ≡ s = omega arith in
    let a : pass (s + 2) gs w f.a ≡ v f.a = pass_below (s + 2) gs w f.a (omega (arith, o.0)) ∙ written_below v s x f.a o.0 in
    let b : pass (s + 2) gs w f.b ≡ v f.b = pass_below (s + 2) gs w f.b (omega (arith, o.1)) ∙ written_below v s x f.b o.1 in
    let c : pass (s + 2) gs w s ≡ x = pass_below (s + 2) gs w s (omega arith) ∙ written_same v s x s refl in
    rw (e, i) (c ∙ sym (rw (a, b) refl))
pass_solves s (f ∷ gs) v o (suc i) g h e =
    let n : s + 2 * suc i ≡ (s + 2) + 2 * i = omega arith in
    rw n (pass_solves (s + 2) gs (written v s (v f.a && v f.b)) o.2 i g (omega arith) e)

-- what the gates read is within the slots
pub order_within : (s : ℕ) (gs : List Gate) (n : ℕ) → InOrder s gs → slots s gs ≤ n → All (λ g. (g.a < n) × (g.b < n)) gs
order_within s [] n o h = λ k d l. absurd (omega arith)
order_within s (g ∷ gs) n (a, b, o) h = λ k d l. at_place s g gs n a b h (order_within (s + 2) gs n o (omega arith)) k d l
  where
    at_place : (s : ℕ) (g : Gate) (gs : List Gate) (n : ℕ) → g.a < s → g.b < s → slots s (g ∷ gs) ≤ n
        → All (λ g. (g.a < n) × (g.b < n)) gs → All (λ g. (g.a < n) × (g.b < n)) (g ∷ gs)
    at_place s g gs n a b h r zero d l = (omega arith, omega arith)
    at_place s g gs n a b h r (suc k) d l = r k d (omega arith)

-- passes over values that agree below the first slot that is written
written_agree : (v w : ℕ → Bool) (s : ℕ) (x y : Bool) (l : ℕ) → x ≡ y → l < s + 2 → (l < s → v l ≡ w l)
    → (l < s) ⊎ (s ≤ l) → (l ≡ s) ⊎ (l ≢ s) → written v s x l ≡ written w s y l
written_agree v w s x y l e h f (inl a) b = written_below v s x l a ∙ (f a ∙ sym (written_below w s y l a))
written_agree v w s x y l e h f (inr a) (inl b) = written_same v s x l b ∙ (e ∙ sym (written_same w s y l b))
written_agree v w s x y l e h f (inr a) (inr b) =
    let c : l ≡ s + 1 = omega arith in
    written_not v s x l c ∙ (ap not e ∙ sym (written_not w s y l c))

pub pass_agree : (s : ℕ) (gs : List Gate) (v w : ℕ → Bool) → InOrder s gs → ((l : ℕ) → l < s → v l ≡ w l)
    → (l : ℕ) → l < slots s gs → pass s gs v l ≡ pass s gs w l
pass_agree s [] v w o h l k = h l (omega arith)
pass_agree s (g ∷ gs) v w (a, b, o) h l k =
    let e : (v g.a && v g.b) ≡ (w g.a && w g.b) = rw (h g.a a, h g.b b) refl in
    pass_agree (s + 2) gs (written v s (v g.a && v g.b)) (written w s (w g.a && w g.b)) o
    (λ m i. written_agree v w s (v g.a && v g.b) (w g.a && w g.b) m e i (h m) (cases_lt m s) (cases_eq m s)) l (omega arith)
