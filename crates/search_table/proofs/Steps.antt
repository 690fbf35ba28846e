-- Each step of the tables keeps their rule.
use Rattle.std.proofs.Common.{ap, ◌≡◌, ◌≢◌, ℕ, zero, suc, ◌<◌, List, [], ◌∷◌, All, map, replicate, length, slice_index, slice_set, sym, refl, ◌∙◌, subst, arith, length-set, get_or-set_same, get_or-set_other}
use Rattle.std.proofs.lemmas.List.{length-map, length-replicate}
use mathlib.Core.Logic.{dite}
use mathlib.Core.Option.{Option, some, none}
use lib.ListN.{get_elem?}
use native.Mathlib.Decide.{ℕ_discrete}
use Rattle.atomic_table.specs.Table.{State, Me, keeps, takes, gives, opening, rest, Allows, Arrives}
use Rattle.atomic_table.proofs.Lists.{set_here, set_else}
use Rattle.search_table.specs.Sharing.{AreGuarded, Holds}

front : {S : Type 0} → S → List (ℕ × S) → S
front x [] = x
front x (p ∷ l) = p.1

at_home : {S : Type 0} (right : S → Type 0) (xs : List S) → All right xs → (i : ℕ) → i < length xs
    → (x : S) × (get_elem? (map (λ x. some x) xs) i ≡ some (some x)) × right x
at_home right [] all i within = absurd (omega arith)
at_home right (x ∷ xs) all zero within = (x, refl, all 0 x within)
at_home right (x ∷ xs) all (suc i) within = at_home right xs (λ j d h. all (suc j) d (omega (arith, h))) i (omega (arith, within))

pub all_one : {S : Type 0} (right : S → Type 0) (x : S) → right x → All right (x ∷ [])
all_one right x here zero d h = here
all_one right x here (suc i) d h = absurd (omega arith)

module _ {S V : Type 0} (right : S → Type 0) where
  -- a word is written, and the home of its value with it: the other values stay as they are
  elsewhere : (s : State S V) → AreGuarded right s → (i n : ℕ) (home : Option S) (views : List V) → i < length s.words
      → (n ≡ 0 → (x : S) × (home ≡ some x) × right x)
      → AreGuarded right record { words = slice_set s.words i n; homes = slice_set s.homes i home; views = views }
  elsewhere s g i n home views within here = let long = g.sized in record {
    sized = length-set s.words i n ∙ long ∙ sym (length-set s.homes i home);
    home = λ j inside free. dite (ℕ_discrete j i)
        (λ same. let zero_here : n ≡ 0 = sym (get_or-set_same s.words i n 0 within) ∙ subst (λ (k : ℕ). slice_index (slice_set s.words i n) k ≡ 0) same free in
        let t = here zero_here in (
          t.0,
          subst (λ (k : ℕ). get_elem? (slice_set s.homes i home) k ≡ some (some t.0)) (sym same)
              (set_here s.homes i home (omega (arith, long, within)) ∙ subst (λ (h : Option S). some h ≡ some (some t.0)) (sym t.1) refl),
          t.2,
        ))
        (λ other. let t = g.home j (omega (arith, inside, length-set s.words i n))
        (sym (get_or-set_other s.words i j n 0 other) ∙ free) in
        (t.0, set_else s.homes i j home other ∙ t.1, t.2));
  }

  -- a word is written, and no value moves
  written : (s : State S V) → AreGuarded right s → (i n : ℕ) (views : List V) → i < length s.words → n ≢ 0
      → AreGuarded right record { words = slice_set s.words i n; homes = s.homes; views = views }
  written s g i n views within some_thing = record {
    sized = length-set s.words i n ∙ g.sized;
    home = λ j inside free. dite (ℕ_discrete j i)
        (λ same. absurd (some_thing (sym (get_or-set_same s.words i n 0 within) ∙ subst (λ (k : ℕ). slice_index (slice_set s.words i n) k ≡ 0) same free)))
        (λ other. g.home j (omega (arith, inside, length-set s.words i n)) (sym (get_or-set_other s.words i j n 0 other) ∙ free));
  }

  pub takes_one : (count i : ℕ) (v : V) → i < count → Arrives {V = V} (AreGuarded right) count i (λ _. 1) (λ r m. r ≡ 0 → Holds right i m)
  takes_one count i v within s g same _ = let inside : i < length s.words = omega (arith, within, same, g.sized) in
      dite (ℕ_discrete (slice_index s.words i) 0)
      (λ free. let t = g.home i inside free in
      (v, takes i t.0, t.1, elsewhere s g i 1 none _ inside (λ e. absurd (omega arith)), λ _. (t.0, refl, t.2)))
      (λ held. (v, keeps, tt, written s g i 1 _ inside (λ e. absurd (omega arith)), λ e. absurd (held e)))

  me_is : (me : Me S V) (i : ℕ) (x : S) → me.1 ≡ (i, x) ∷ [] → (me.0, (i, x) ∷ []) ≡ me
  me_is me i x e = ap (λ (l : List (ℕ × S)). (me.0, l)) (sym e)

  pub gives_back : (count id i : ℕ) (me : Me S V) → i < count → Holds right i me
      → Allows (AreGuarded right) count id me i (λ _. 0) (λ _ _. Unit {0})
  gives_back count id i me within held = let t = held in
      subst (λ (x : Me S V). Allows (AreGuarded right) count id x i (λ _. 0) (λ _ _. Unit {0})) (me_is me i t.0 t.1)
      (λ s g same _ _. let inside : i < length s.words = omega (arith, within, same, g.sized) in
      (me.0, gives, tt, elsewhere s g i 0 (some t.0) _ inside (λ _. (t.0, refl, t.2)), tt))

  -- what a seat has at the front of its values is the one that it has
  pub one_held : (i : ℕ) (me : Me S V) (x : S) → Holds right i me → me.1 ≡ (i, x) ∷ rest me.1 → (rest me.1 ≡ []) × right x
  unfolding front
  one_held i me x held e = let t = held in (
    ap (λ (l : List (ℕ × S)). rest l) t.1,
    subst right (ap (λ (l : List (ℕ × S)). front t.0 l) (sym t.1) ∙ ap (λ (l : List (ℕ × S)). front t.0 l) e) t.2,
  )

  pub opens : (count : ℕ) (xs : List S) (v : V) → length xs ≡ count → All right xs → AreGuarded right (opening (replicate count 0) xs v)
  opens count xs v same all = record {
    sized = length-replicate {A = ℕ} count 0 ∙ sym same ∙ sym (length-map xs (λ x. some x));
    home = λ i within free. at_home right xs all i (omega (arith, within, same, length-replicate {A = ℕ} count 0));
  }
