-- Names by number: finding one, and adding one.
use Rattle.std.proofs.Common.{ℕ, suc, zero, ◌≡◌, ◌+◌, ◌<◌, ◌≤◌, ◌⊎◌, inl, inr, Bool, true, false, cond, List, [], ◌∷◌, ◌++◌, length, refl, sym}
use Rattle.std.proofs.Common.{◌∙◌, ap, subst, arith, Option, Some, None, ◌||◌, ◌==◌, eqb-true, eq-eqb, drop, get_or}
use Rattle.std.specs.Prelude.{MatchOption, slice_index, position}
use Rattle.std.specs.List.{position_from}
use Rattle.std.proofs.lemmas.Iterator.Adapters.{position_from-zero}
use Rattle.std.proofs.lemmas.List.Quantifiers.{position-Some}
use Rattle.std.proofs.lemmas.List.{append-nil, drop-append-le}
use Rattle.statement.specs.Tree.{name_eq}
use Rattle.kif.proofs.Facts.{name_eq_yes, name_eq_self}
use Rattle.statement.specs.Safety.{is_name_in}
use Rattle.rules_clauses.specs.Numbers.{BeginsWith, word_at, with_word, NamesDiffer, is_number_in, with_fresh}
use Rattle.rules_clauses.specs.Adding.{StandOnce}
use Rattle.rules_profile.proofs.Facts.{or_left, or_right}

not_here : (b : Bool) (i : ℕ) (o : Option ℕ) → cond b (Some i) o ≡ None → (b ≡ false) × (o ≡ None)
not_here true i o e = absurd cc
not_here false i o e = (refl, e)

pub is_in : (ws : List (List ℕ)) (w : List ℕ) (k : ℕ) → k < length ws → word_at ws k ≡ w → is_name_in w ws ≡ true
is_in [] w k h e = absurd (let bad : ⊥ = omega (arith, h) in bad)
is_in (x ∷ ws) w zero h e = or_left (name_eq w x) (is_name_in w ws) (subst (λ (y : List ℕ). name_eq w y ≡ true) (sym e) (name_eq_self w))
is_in (x ∷ ws) w (suc k) h e = or_right (name_eq w x) (is_name_in w ws) (is_in ws w k (omega (arith, h)) e)

other_name : (w x : List ℕ) → (x ≡ w → ⊥) → name_eq w x ≡ false
other_name w x other = go (name_eq w x) refl
  where
    go : (b : Bool) → name_eq w x ≡ b → name_eq w x ≡ false
    go true e = absurd (other (sym (name_eq_yes w x e)))
    go false e = e

pub or_none : (a b : Bool) → a ≡ false → b ≡ false → (a || b) ≡ false
or_none true b h k = h
or_none false b h k = k

pub not_in : (ws : List (List ℕ)) (w : List ℕ) → ((k : ℕ) → k < length ws → word_at ws k ≡ w → ⊥) → is_name_in w ws ≡ false
not_in [] w none = refl
not_in (x ∷ ws) w none =
    or_none (name_eq w x) (is_name_in w ws) (other_name w x (none 0 (omega arith))) (not_in ws w (λ k h e. none (suc k) (omega (arith, h)) e))

pub with_known : (ws : List (List ℕ)) (w : List ℕ) (k : ℕ) → k < length ws → word_at ws k ≡ w → ws ≡ with_word ws w
with_known ws w k h e = ap (λ (b : Bool). cond b ws (ws ++ w ∷ [])) (sym (is_in ws w k h e))

pub with_next : (ws new : List (List ℕ)) (w : List ℕ) → ((k : ℕ) → k < length ws → word_at ws k ≡ w → ⊥) → new ≡ ws ++ w ∷ [] → new ≡ with_word ws w
with_next ws new w none e = e ∙ ap (λ (b : Bool). cond b ws (ws ++ w ∷ [])) (sym (not_in ws w none))

last_word : (ws : List (List ℕ)) (w : List ℕ) → (length ws < length (ws ++ w ∷ [])) × (word_at (ws ++ w ∷ []) (length ws) ≡ w)
last_word [] w = (omega arith, refl)
last_word (x ∷ ws) w = (let h = (last_word ws w).0 in omega (arith, h), (last_word ws w).1)

-- a new name has the number that comes next
pub with_new : (ws new : List (List ℕ)) (w : List ℕ) (n : ℕ) → ((k : ℕ) → k < length ws → word_at ws k ≡ w → ⊥) → new ≡ with_word ws w → n ≡ length ws
    → (n < length new) × (word_at new n ≡ w)
with_new ws new w n none e f =
    let g : new ≡ ws ++ w ∷ [] = e ∙ ap (λ (b : Bool). cond b ws (ws ++ w ∷ [])) (not_in ws w none) in
    subst (λ (xs : List (List ℕ)). (n < length xs) × (word_at xs n ≡ w)) (sym g)
    (subst (λ (k : ℕ). (k < length (ws ++ w ∷ [])) × (word_at (ws ++ w ∷ []) k ≡ w)) (sym f) (last_word ws w))

pub with_word-Begins : (ws : List (List ℕ)) (w : List ℕ) → BeginsWith ws (with_word ws w)
with_word-Begins ws w = go (is_name_in w ws)
  where
    go : (b : Bool) → BeginsWith ws (cond b ws (ws ++ w ∷ []))
    go true = ([], sym (append-nil ws))
    go false = (w ∷ [], refl)

at_end : (k n : ℕ) → k < suc n → (k < n) ⊎ (k ≡ n)
at_end k n h = grind arith

-- what a list with one more at its end has at a number
pub last_or_before : {A : Type 0} (xs : List A) (x d : A) (k : ℕ) → k < length (xs ++ x ∷ [])
    → ((k < length xs) × (get_or (xs ++ x ∷ []) k d ≡ get_or xs k d)) ⊎ ((k ≡ length xs) × (get_or (xs ++ x ∷ []) k d ≡ x))
last_or_before [] x d zero h = inr (refl, refl)
last_or_before [] x d (suc k) h = absurd (let bad : ⊥ = omega (arith, h) in bad)
last_or_before (y ∷ ys) x d zero h = inl (omega arith, refl)
last_or_before (y ∷ ys) x d (suc k) h = go (last_or_before ys x d k (omega (arith, h)))
  where
    go : ((k < length ys) × (get_or (ys ++ x ∷ []) k d ≡ get_or ys k d)) ⊎ ((k ≡ length ys) × (get_or (ys ++ x ∷ []) k d ≡ x))
        → ((suc k < length (y ∷ ys)) × (get_or ((y ∷ ys) ++ x ∷ []) (suc k) d ≡ get_or (y ∷ ys) (suc k) d))
        ⊎ ((suc k ≡ length (y ∷ ys)) × (get_or ((y ∷ ys) ++ x ∷ []) (suc k) d ≡ x))
    go (inl e) = inl (let f = e.0 in omega (arith, f), e.1)
    go (inr e) = inr (ap (λ (n : ℕ). suc n) e.0, e.1)

-- a list of different things, with one more at its end
pub more_different : {A : Type 0} (xs : List A) (x d : A) → ((k : ℕ) → k < length xs → get_or xs k d ≡ x → ⊥)
    → ((i j : ℕ) → i < length xs → j < length xs → get_or xs i d ≡ get_or xs j d → i ≡ j)
    → (i j : ℕ) → i < length (xs ++ x ∷ []) → j < length (xs ++ x ∷ []) → get_or (xs ++ x ∷ []) i d ≡ get_or (xs ++ x ∷ []) j d → i ≡ j
more_different xs x d none old i j h k e = go (last_or_before xs x d i h) (last_or_before xs x d j k)
  where
    go : ((i < length xs) × (get_or (xs ++ x ∷ []) i d ≡ get_or xs i d)) ⊎ ((i ≡ length xs) × (get_or (xs ++ x ∷ []) i d ≡ x))
        → ((j < length xs) × (get_or (xs ++ x ∷ []) j d ≡ get_or xs j d)) ⊎ ((j ≡ length xs) × (get_or (xs ++ x ∷ []) j d ≡ x)) → i ≡ j
    go (inl a) (inl b) = old i j a.0 b.0 (sym a.1 ∙ e ∙ b.1)
    go (inl a) (inr b) = absurd (none i a.0 (sym a.1 ∙ e ∙ b.1))
    go (inr a) (inl b) = absurd (none j b.0 (sym b.1 ∙ sym e ∙ a.1))
    go (inr a) (inr b) = a.0 ∙ sym b.0

pub true_or_false : (b : Bool) → b ≡ true → b ≡ false → ⊥
true_or_false b e f = let g = sym e ∙ f in absurd cc

pub with_word-AreDifferent : (ws : List (List ℕ)) (w : List ℕ) → NamesDiffer ws → NamesDiffer (with_word ws w)
with_word-AreDifferent ws w old = go (is_name_in w ws) refl
  where
    go : (b : Bool) → is_name_in w ws ≡ b → NamesDiffer (cond b ws (ws ++ w ∷ []))
    go true e = old
    go false e = more_different ws w [] (λ k h same. true_or_false (is_name_in w ws) (is_in ws w k h same) e) old

-- The same of numbers.

never_number : (x i : ℕ) (xs : List ℕ) → position_from (λ y. x == y) i xs ≡ None → is_number_in x xs ≡ false
never_number x i [] e = refl
never_number x i (y ∷ ys) e =
    let h = not_here (x == y) i (position_from (λ z. x == z) (i + 1) ys) e in or_none (x == y) (is_number_in x ys) h.0 (never_number x (i + 1) ys h.1)

number_in : (x : ℕ) (xs : List ℕ) (k : ℕ) → k < length xs → slice_index xs k ≡ x → is_number_in x xs ≡ true
number_in x [] k h e = absurd (let bad : ⊥ = omega (arith, h) in bad)
number_in x (y ∷ ys) zero h e = or_left (x == y) (is_number_in x ys) (eq-eqb x y (sym e))
number_in x (y ∷ ys) (suc k) h e = or_right (x == y) (is_number_in x ys) (number_in x ys k (omega (arith, h)) e)

-- what a search for a number has told
pub seen_number : (xs : List ℕ) (x : ℕ) (r : Option ℕ) → r ≡ position (λ y. x == y) xs
    → MatchOption r (is_number_in x xs ≡ false) (λ k. (k < length xs) × (slice_index xs k ≡ x) × (is_number_in x xs ≡ true))
seen_number xs x None e = never_number x 0 xs (sym (position_from-zero (λ y. x == y) xs) ∙ sym e)
seen_number xs x (Some k) e =
    let f = position-Some (λ y. x == y) xs k 0 (sym e) in
    let same : slice_index xs k ≡ x = sym (eqb-true x (slice_index xs k) f.1) in
    (f.0, same, number_in x xs k f.0 same)

pub number_there : (xs : List ℕ) (from x : ℕ) → is_number_in x (drop from xs) ≡ true → with_fresh from xs x ≡ xs
number_there xs from x h = ap (λ (b : Bool). cond b xs (xs ++ x ∷ [])) h

pub number_new : (xs : List ℕ) (from x : ℕ) → is_number_in x (drop from xs) ≡ false → with_fresh from xs x ≡ xs ++ x ∷ []
number_new xs from x h = ap (λ (b : Bool). cond b xs (xs ++ x ∷ [])) h

pub with_fresh-Begins : (from : ℕ) (xs : List ℕ) (x : ℕ) → BeginsWith xs (with_fresh from xs x)
with_fresh-Begins from xs x = go (is_number_in x (drop from xs))
  where
    go : (b : Bool) → BeginsWith xs (cond b xs (xs ++ x ∷ []))
    go true = ([], sym (append-nil xs))
    go false = (x ∷ [], refl)

pub with_fresh-StandOnce : (from : ℕ) (xs : List ℕ) (x : ℕ) → from ≤ length xs → StandOnce (drop from xs)
    → StandOnce (drop from (with_fresh from xs x))
with_fresh-StandOnce from xs x h old = go (is_number_in x (drop from xs)) refl
  where
    go : (b : Bool) → is_number_in x (drop from xs) ≡ b → StandOnce (drop from (cond b xs (xs ++ x ∷ [])))
    go true e = old
    go false e =
        subst (λ (ys : List ℕ). StandOnce ys) (sym (drop-append-le from xs (x ∷ []) h))
        (more_different (drop from xs) x 0 (λ k l same. true_or_false (is_number_in x (drop from xs)) (number_in x (drop from xs) k l same) e) old)
