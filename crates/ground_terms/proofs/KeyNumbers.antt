-- Keys by number: finding one, and adding one.
use Rattle.std.proofs.Common.{ℕ, suc, zero, ◌≡◌, ◌<◌, ◌⊎◌, inl, inr, Bool, true, false, cond, List, [], ◌∷◌, ◌++◌, length, refl, sym, ◌∙◌, ap, subst, arith, ◌||◌, get_or}
use Rattle.statement.specs.Tree.{name_eq}
use Rattle.kif.proofs.Facts.{name_eq_yes, name_eq_self}
use Rattle.statement.specs.Safety.{is_name_in}
use Rattle.ground_terms.specs.Keys.{with_key}
use Rattle.util_interner.specs.KeyLists.{key_at}
use Rattle.rules_profile.proofs.Facts.{or_left, or_right}

pub is_in : (ws : List (List ℕ)) (w : List ℕ) (k : ℕ) → k < length ws → key_at ws k ≡ w → is_name_in w ws ≡ true
is_in [] w k h e = absurd (let bad : ⊥ = omega (arith, h) in bad)
is_in (x ∷ ws) w zero h e = or_left (name_eq w x) (is_name_in w ws) (subst (λ (y : List ℕ). name_eq w y ≡ true) (sym e) (name_eq_self w))
is_in (x ∷ ws) w (suc k) h e = or_right (name_eq w x) (is_name_in w ws) (is_in ws w k (omega (arith, h)) e)

other_name : (w x : List ℕ) → (x ≡ w → ⊥) → name_eq w x ≡ false
other_name w x other = go (name_eq w x) refl
  where
    go : (b : Bool) → name_eq w x ≡ b → name_eq w x ≡ false
    go true e = absurd (other (sym (name_eq_yes w x e)))
    go false e = e

or_none : (a b : Bool) → a ≡ false → b ≡ false → (a || b) ≡ false
or_none true b h k = h
or_none false b h k = k

pub not_in : (ws : List (List ℕ)) (w : List ℕ) → ((k : ℕ) → k < length ws → key_at ws k ≡ w → ⊥) → is_name_in w ws ≡ false
not_in [] w none = refl
not_in (x ∷ ws) w none =
    or_none (name_eq w x) (is_name_in w ws) (other_name w x (none 0 (omega arith))) (not_in ws w (λ k h e. none (suc k) (omega (arith, h)) e))

pub with_known : (ws : List (List ℕ)) (w : List ℕ) (k : ℕ) → k < length ws → key_at ws k ≡ w → ws ≡ with_key ws w
with_known ws w k h e = ap (λ (b : Bool). cond b ws (ws ++ w ∷ [])) (sym (is_in ws w k h e))

last_word : (ws : List (List ℕ)) (w : List ℕ) → (length ws < length (ws ++ w ∷ [])) × (key_at (ws ++ w ∷ []) (length ws) ≡ w)
last_word [] w = (omega arith, refl)
last_word (x ∷ ws) w = (let h = (last_word ws w).0 in omega (arith, h), (last_word ws w).1)

-- a new key has the number that comes next
pub with_new : (ws new : List (List ℕ)) (w : List ℕ) (n : ℕ) → ((k : ℕ) → k < length ws → key_at ws k ≡ w → ⊥) → new ≡ with_key ws w → n ≡ length ws
    → (n < length new) × (key_at new n ≡ w)
with_new ws new w n none e f =
    let g : new ≡ ws ++ w ∷ [] = e ∙ ap (λ (b : Bool). cond b ws (ws ++ w ∷ [])) (not_in ws w none) in
    subst (λ (xs : List (List ℕ)). (n < length xs) × (key_at xs n ≡ w)) (sym g)
    (subst (λ (k : ℕ). (k < length (ws ++ w ∷ [])) × (key_at (ws ++ w ∷ []) k ≡ w)) (sym f) (last_word ws w))

-- what a list with one more at its end has at a number
pub last_or_before : {A : Type 0} (xs : List A) (x d : A) (k : ℕ) → k < length (xs ++ x ∷ [])
    → ((k < length xs) × (get_or (xs ++ x ∷ []) k d ≡ get_or xs k d)) ⊎ ((k ≡ length xs) × (get_or (xs ++ x ∷ []) k d ≡ x))
last_or_before [] x d zero h = inr (refl, refl)
last_or_before [] x d (suc k) h = absurd (let bad : ⊥ = omega (arith, h) in bad)
last_or_before (y ∷ ys) x d zero h = inl (omega arith, refl)
last_or_before (y ∷ ys) x d (suc k) h = go (last_or_before ys x d k (omega (arith, h)))
  where
    go : ((k < length ys) × (get_or (ys ++ x ∷ []) k d ≡ get_or ys k d)) ⊎ ((k ≡ length ys) × (get_or (ys ++ x ∷ []) k d ≡ x))
        → ((suc k < length (y ∷ ys)) × (get_or ((y ∷ ys) ++ x ∷ []) (suc k) d ≡ get_or (y ∷ ys) (suc k) d))
        ⊎ ((suc k ≡ length (y ∷ ys)) × (get_or ((y ∷ ys) ++ x ∷ []) (suc k) d ≡ x))
    go (inl e) = inl (let f = e.0 in omega (arith, f), e.1)
    go (inr e) = inr (ap (λ (n : ℕ). suc n) e.0, e.1)

-- a list of different things, with one more at its end
pub more_different : {A : Type 0} (xs : List A) (x d : A) → ((k : ℕ) → k < length xs → get_or xs k d ≡ x → ⊥)
    → ((i j : ℕ) → i < length xs → j < length xs → get_or xs i d ≡ get_or xs j d → i ≡ j)
    → (i j : ℕ) → i < length (xs ++ x ∷ []) → j < length (xs ++ x ∷ []) → get_or (xs ++ x ∷ []) i d ≡ get_or (xs ++ x ∷ []) j d → i ≡ j
more_different xs x d none old i j h k e = go (last_or_before xs x d i h) (last_or_before xs x d j k)
  where
    go : ((i < length xs) × (get_or (xs ++ x ∷ []) i d ≡ get_or xs i d)) ⊎ ((i ≡ length xs) × (get_or (xs ++ x ∷ []) i d ≡ x))
        → ((j < length xs) × (get_or (xs ++ x ∷ []) j d ≡ get_or xs j d)) ⊎ ((j ≡ length xs) × (get_or (xs ++ x ∷ []) j d ≡ x)) → i ≡ j
    go (inl a) (inl b) = old i j a.0 b.0 (sym a.1 ∙ e ∙ b.1)
    go (inl a) (inr b) = absurd (none i a.0 (sym a.1 ∙ e ∙ b.1))
    go (inr a) (inl b) = absurd (none j b.0 (sym b.1 ∙ sym e ∙ a.1))
    go (inr a) (inr b) = a.0 ∙ sym b.0

pub true_or_false : (b : Bool) → b ≡ true → b ≡ false → ⊥
true_or_false b e f = let g = sym e ∙ f in absurd cc

pub with_next : (ws new : List (List ℕ)) (w : List ℕ) → ((k : ℕ) → k < length ws → key_at ws k ≡ w → ⊥) → new ≡ ws ++ w ∷ [] → new ≡ with_key ws w
with_next ws new w none e = e ∙ ap (λ (b : Bool). cond b ws (ws ++ w ∷ [])) (sym (not_in ws w none))
