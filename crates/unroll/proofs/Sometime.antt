-- What play comes to by numbers, and how one more mark is right.
use Rattle.std.proofs.Common.{ℕ, zero, suc, ◌+◌, ◌≤◌, Bool, true, false, ◌≡◌, ◌≢◌, ◌⊎◌, inl, inr, List, [], ◌∷◌, refl, sym, subst, ◌∙◌, arith}
use Rattle.std.specs.Prelude.{slice_set, replicate}
use Rattle.std.specs.List.{All}
use Rattle.std.specs.Bool.{OnTrue}
use Rattle.std.proofs.lemmas.List.{get_or-set_other}
use Rattle.statement.specs.Dependence.{IsAmong}
use Rattle.statement.specs.Kept.{Kept}
use Rattle.statement.specs.declared.kind.Kind.{Kind}
use Rattle.statement.specs.declared.kind.Kind.TheVariants.{Now, Next}
use Rattle.unroll.specs.ReachedByNumber.{kind_in, IsReachedIn, IsReachedSometime}
use Rattle.unroll.specs.Marks.{IsMarked, AreReached, AsksMarked}

equal_or : (x y : ℕ) → (x ≡ y) ⊎ (x ≢ y)
equal_or x y = grind arith

pub of_all : {A : Type 0} (P : A → Type 0) (xs : List A) → All P xs → (x : A) → IsAmong x xs → P x
of_all P [] h x a = absurd a
of_all {A} P (y ∷ ys) h x (inl e) = subst (λ (z : A). P z) (sym e) (h zero y (omega arith))
of_all P (y ∷ ys) h x (inr a) = of_all P ys (λ k d lt. h (suc k) d (omega arith)) x a

pub none_marked : (many k : ℕ) → IsMarked (replicate many false) k → ⊥
none_marked zero k h = absurd cc
none_marked (suc many) zero h = absurd cc
none_marked (suc many) (suc k) h = none_marked many k h

module _ (kinds : List Kind) (kept : List Kept) where
  abbrev In : ℕ → ℕ → Type 0
  In n k = IsReachedIn kinds kept n k

  -- what is needed of a literal
  abbrev Fits : ℕ → ℕ × Bool → Type 0
  Fits n r = (r.1 ≡ false) × ((j : ℕ) × (kind_in kinds r.0 ≡ Now j) × IsReachedIn kinds kept n j)

  pub later : (n m k : ℕ) → n ≤ m → In n k → In m k
  later zero m k le d = absurd d
  later (suc n) zero k le d = absurd (omega (arith, le))
  later (suc n) (suc m) k le d =
      (d.0, d.1, d.2, λ r a. let b = d.3 r a in (b.0, ((b.1).0, (b.1).1, later n m (b.1).0 (omega (arith, le)) (b.1).2)))

  fits_later : (n m : ℕ) → n ≤ m → (r : ℕ × Bool) → Fits n r → Fits m r
  fits_later n m le r b = (b.0, ((b.1).0, (b.1).1, later n m (b.1).0 le (b.1).2))

  module _ (marks : List Bool) (reached : AreReached kinds kept marks) where
    one_fits : (r : ℕ × Bool) → AsksMarked kinds marks r → (n : ℕ) × Fits n r
    one_fits r h = let s = reached h.0 h.2 in (s.0, ((h.1).0, (h.0, (h.1).1, s.1)))

    -- all literals, after one number of turns
    all_fit : (rs : List (ℕ × Bool)) → ((r : ℕ × Bool) → IsAmong r rs → AsksMarked kinds marks r)
        → (n : ℕ) × ((r : ℕ × Bool) → IsAmong r rs → Fits n r)
    all_fit [] h = (zero, λ r no_one. absurd no_one)
    all_fit (r ∷ rs) h =
        let a = one_fits r (h r (inl refl)) in
        let b = all_fit rs (λ s in_rest. h s (inr in_rest)) in
        (a.0 + b.0, λ s among. go a.0 b.0 a.1 b.1 s among)
      where
        go : (i j : ℕ) → Fits i r → ((s : ℕ × Bool) → IsAmong s rs → Fits j s) → (s : ℕ × Bool) → IsAmong s (r ∷ rs) → Fits (i + j) s
        go i j one rest s (inl e) =
            fits_later i (i + j) (omega arith) s (subst (λ (q : ℕ × Bool). Fits i q) (sym e) one)
        go i j one rest s (inr among) = fits_later j (i + j) (omega arith) s (rest s among)

    pub brought_sometime : (i : Kept) (k : ℕ) → IsAmong i kept → kind_in kinds i.head ≡ Next k → All (AsksMarked kinds marks) i.body
        → IsReachedSometime kinds kept k
    brought_sometime i k a e all =
        let b = all_fit i.body (λ r among. of_all (AsksMarked kinds marks) i.body all r among) in
        (suc b.0, (i, a, e, b.1))

    -- with a mark for what an instance brings
    pub with_mark : (i : Kept) (k : ℕ) → IsAmong i kept → kind_in kinds i.head ≡ Next k → All (AsksMarked kinds marks) i.body
        → AreReached kinds kept (slice_set marks k true)
    with_mark i k a e all l h = go (equal_or l k)
      where
        go : (l ≡ k) ⊎ (l ≢ k) → IsReachedSometime kinds kept l
        go (inl same) = subst (λ (m : ℕ). IsReachedSometime kinds kept m) (sym same) (brought_sometime i k a e all)
        go (inr other) = reached l (sym (get_or-set_other marks k l true false other) ∙ h)

-- what is so where a test holds
pub on_true : (b : Bool) (P Q : Type 0) → OnTrue b P → (P → Q) → OnTrue b Q
on_true true P Q h f = f h
on_true false P Q h f = h
