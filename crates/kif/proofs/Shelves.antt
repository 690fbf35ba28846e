-- What a reader has read of lists that are not closed yet, as plain data.
use Rattle.std.proofs.Common.{ℕ, suc, ◌+◌, ◌≡◌, ◌≤◌, ◌⊎◌, inl, inr, List, [], ◌∷◌, ◌++◌, take, drop, length, refl, sym, ap, ◌∙◌, arith, append_assoc}
use Rattle.std.proofs.Common.{length-append}
use Rattle.kif.specs.declared.reader.Open.{Open}
use Rattle.statement.specs.Tree.{Tree}

-- an open list: where it was opened, and the trees that stand before it in the list around it
pub record Shelf : Type 0 where
  pub start : ℕ
  pub before : List Tree

abbrev pub trees_before : List Shelf → List Tree
trees_before [] = []
trees_before (f ∷ fs) = f.before ++ trees_before fs

-- how the reader keeps open lists, where n trees stand before all of them
abbrev pub opens_from : ℕ → List Shelf → List Open
opens_from n [] = []
opens_from n (f ∷ fs) = record { start = f.start; before = n + length f.before } ∷ opens_from (n + length f.before) fs

-- the reader's trees are those before the open lists, and then those of the innermost
pub record IsShelved (os : List Open) (ts : List Tree) (fs : List Shelf) (us : List Tree) : Type 0 where
  pub opened : os ≡ opens_from 0 fs
  pub trees : ts ≡ trees_before fs ++ us

append_none : {X : Type 0} (xs : List X) → xs ++ [] ≡ xs
append_none [] = refl
append_none {X} (x ∷ xs) = ap (λ (l : List X). x ∷ l) (append_none xs)

pub length-opens : (n : ℕ) (fs : List Shelf) → length (opens_from n fs) ≡ length fs
length-opens n [] = refl
length-opens n (f ∷ fs) = ap suc (length-opens (n + length f.before) fs)

trees_before_last : (fs : List Shelf) (f : Shelf) → trees_before (fs ++ f ∷ []) ≡ trees_before fs ++ f.before
trees_before_last [] f = append_none f.before
trees_before_last (g ∷ fs) f = ap (λ (l : List Tree). g.before ++ l) (trees_before_last fs f) ∙ sym (append_assoc g.before (trees_before fs) f.before)

abbrev last_open : ℕ → List Shelf → Shelf → Open
last_open n fs f = record { start = f.start; before = n + length (trees_before fs ++ f.before) }

opens_last : (n : ℕ) (fs : List Shelf) (f : Shelf) → opens_from n (fs ++ f ∷ []) ≡ opens_from n fs ++ last_open n fs f ∷ []
opens_last n [] f = refl
opens_last n (g ∷ fs) f =
    let size = length-append g.before (trees_before fs ++ f.before) in
    let same : (n + length g.before) + length (trees_before fs ++ f.before) ≡ n + length (g.before ++ (trees_before fs ++ f.before)) = omega arith in
    let whole = ap (λ (l : List Tree). n + length l) (sym (append_assoc g.before (trees_before fs) f.before)) in
    ap (λ (l : List Open). record { start = g.start; before = n + length g.before } ∷ l) (opens_last (n + length g.before) fs f)
    ∙ ap (λ (m : ℕ). record {
      start = g.start;
      before =
          n + length g.before;
    } ∷ (opens_from (n + length g.before) fs ++ record { start = f.start; before = m } ∷ [])) (same ∙ whole)

pub none_shelved : IsShelved [] [] [] []
none_shelved = record { opened = refl; trees = refl }

pub add_shelved : (os : List Open) (ts : List Tree) (fs : List Shelf) (us : List Tree) (t : Tree) → IsShelved os ts fs us
    → IsShelved os (ts ++ t ∷ []) fs (us ++ t ∷ [])
add_shelved os ts fs us t h = record {
  opened = h.opened;
  trees = ap (λ (l : List Tree). l ++ t ∷ []) h.trees ∙ append_assoc (trees_before fs) us (t ∷ []);
}

pub open_shelved : (os : List Open) (ts : List Tree) (fs : List Shelf) (us : List Tree) (start : ℕ) → IsShelved os ts fs us
    → IsShelved (os ++ record { start = start; before = length ts } ∷ []) ts (fs ++ record { start = start; before = us } ∷ []) []
open_shelved os ts fs us start h =
    let f : Shelf = record { start = start; before = us } in
    record {
      opened = ap (λ (l : List Open). l ++ record { start = start; before = length ts } ∷ []) h.opened
          ∙ ap (λ (m : ℕ). opens_from 0 fs ++ record { start = start; before = m } ∷ []) (ap length h.trees
          ∙ (let e : length (trees_before fs ++ us) ≡ 0 + length (trees_before fs ++ us) = omega arith in e))
          ∙ sym (opens_last 0 fs f);
      trees = h.trees ∙ sym (trees_before_last fs f) ∙ sym (append_none (trees_before (fs ++ f ∷ [])));
    }

-- the innermost open list is closed
pub record IsClosed (os : List Open) (o : Open) (ts : List Tree) (fs : List Shelf) (us : List Tree) : Type 0 where
  pub around : List Shelf
  pub inner : Shelf
  pub split : fs ≡ around ++ inner ∷ []
  pub fits : o.before ≤ length ts
  pub shelved : IsShelved os (take o.before ts) around inner.before
  pub within : drop o.before ts ≡ us

pub last_of : (fs : List Shelf) → (fs ≡ []) ⊎ ((gs : List Shelf) × (f : Shelf) × (fs ≡ gs ++ f ∷ []))
last_of [] = inl refl
last_of (g ∷ fs) = go (last_of fs)
  where
    go : (fs ≡ []) ⊎ ((gs : List Shelf) × (f : Shelf) × (fs ≡ gs ++ f ∷ [])) → (g ∷ fs ≡ [])
        ⊎ ((gs : List Shelf) × (f : Shelf) × (g ∷ fs ≡ gs ++ f ∷ []))
    go (inl e) = inr ([], g, ap (λ (l : List Shelf). g ∷ l) e)
    go (inr h) = inr (g ∷ h.0, h.1, ap (λ (l : List Shelf). g ∷ l) h.2)

same_last : (xs ys : List Open) (x y : Open) → xs ++ x ∷ [] ≡ ys ++ y ∷ [] → (xs ≡ ys) × (x ≡ y)
same_last [] [] x y e = (refl, cc)
same_last [] (v ∷ ys) x y e = absurd (let size = ap length e in let more = length-append ys (y ∷ []) in omega arith)
same_last (u ∷ xs) [] x y e = absurd (let size = ap length e in let more = length-append xs (x ∷ []) in omega arith)
same_last (u ∷ xs) (v ∷ ys) x y e =
    let first : u ≡ v = cc in
    let rest : xs ++ x ∷ [] ≡ ys ++ y ∷ [] = cc in
    let h = same_last xs ys x y rest in
    let same = h.0 in
    (cc, h.1)

take_front : (xs ys : List Tree) → take (length xs) (xs ++ ys) ≡ xs
take_front [] ys = refl
take_front (x ∷ xs) ys = ap (λ (l : List Tree). x ∷ l) (take_front xs ys)

drop_front : (xs ys : List Tree) → drop (length xs) (xs ++ ys) ≡ ys
drop_front [] ys = refl
drop_front (x ∷ xs) ys = drop_front xs ys

pub close_shelved : (os : List Open) (o : Open) (ts : List Tree) (fs : List Shelf) (us : List Tree) → IsShelved (os ++ o ∷ []) ts fs us
    → IsClosed os o ts fs us
close_shelved os o ts fs us h = go (last_of fs)
  where
    by_last : (gs : List Shelf) (f : Shelf) → fs ≡ gs ++ f ∷ [] → IsClosed os o ts fs us
    by_last gs f e =
        let same = same_last os (opens_from 0 gs) o (last_open 0 gs f) (h.opened ∙ ap (opens_from 0) e ∙ opens_last 0 gs f) in
        let front = trees_before gs ++ f.before in
        let at : o.before ≡ length front = ap (λ (p : Open). p.before) same.1 ∙ (let z : 0 + length front ≡ length front = omega arith in z) in
        let whole : ts ≡ front ++ us = h.trees ∙ ap (λ (l : List Shelf). trees_before l ++ us) e
        ∙ ap (λ (l : List Tree). l ++ us) (trees_before_last gs f) in
        let size = ap length whole in
        let parts = length-append front us in
        record {
          around = gs;
          inner = f;
          split = e;
          fits = omega arith;
          shelved = record {
            opened = same.0;
            trees = ap (λ (n : ℕ). take n ts) at ∙ ap (take (length front)) whole ∙ take_front front us;
          };
          within = ap (λ (n : ℕ). drop n ts) at ∙ ap (drop (length front)) whole ∙ drop_front front us;
        }

    go : (fs ≡ []) ⊎ ((gs : List Shelf) × (f : Shelf) × (fs ≡ gs ++ f ∷ [])) → IsClosed os o ts fs us
    go (inl e) = absurd (let size = ap length (h.opened ∙ ap (opens_from 0) e) in let more = length-append os (o ∷ []) in omega arith)
    go (inr l) = by_last l.0 l.1 l.2
