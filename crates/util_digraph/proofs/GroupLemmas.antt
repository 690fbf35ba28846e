-- Each step of the walk that finds the components of a graph.
use Rattle.std.proofs.Common.{ℕ, zero, suc, ◌≡◌, ◌+◌, ◌-◌, ◌*◌, ◌<◌, ◌≤◌, ◌⊎◌, inl, inr, List, [], ◌∷◌, ◌++◌, length, get_or, set, take, replicate}
use Rattle.std.proofs.Common.{refl, sym, ◌∙◌, ap, subst, arith, add-one, length-append, Option, Some, None}
use Rattle.std.specs.List.{sum_by}
use Rattle.std.specs.Option.{option_to_list}
use Rattle.std.proofs.lemmas.List.{get_or-set_same, get_or-set_other, length-set, get_or-take, get_or_past, length-take, get_or-replicate}
use Rattle.std.proofs.lemmas.List.{length-replicate}
use Rattle.std.proofs.lemmas.List.Folds.{sum_by-replicate}
use Rattle.std.proofs.lemmas.List.Sums.{sum_by-set}
use Rattle.std.proofs.Math.ListN.{get_or-append}
use Rattle.std.proofs.Math.Seq.{get_or-append_seam}
use Rattle.util_digraph.specs.declared.components.Walk.{Walk}
use Rattle.util_digraph.specs.declared.graph.Arrow.{Arrow}
use Rattle.util_digraph.specs.Graph.{arrow_at, Leads, ReachesIn, Reaches, AreLinked}
use Rattle.util_digraph.specs.Grouping.{LeadsOn, AreComponents, IsOpen, StandsBehind, ComesBehind, IsPassed, unseen, Grouping, IsWalk, work_left, StartsCut}
use Rattle.util_digraph.specs.Grouping.{AreNumberedFrom, IsLookedAt, numbered, opened, joined}
use Rattle.util_digraph.proofs.GraphLemmas.{same_or, last_or}
use Rattle.util_digraph.proofs.Search.{three, sum-set, read_nat, read_arrow}

-- Ways.

then_reaches : (arrows : List Arrow) (n p q r : ℕ) → ReachesIn arrows n p q → Reaches arrows q r → Reaches arrows p r
then_reaches arrows zero p q r a c = (suc c.0, (q, a, c.1))
then_reaches arrows (suc n) p q r a c = let more = then_reaches arrows n a.0 q r a.2 c in (suc more.0, (a.0, a.1, more.1))

pub then_on : (arrows : List Arrow) (p q r : ℕ) → LeadsOn arrows p q → LeadsOn arrows q r → LeadsOn arrows p r
then_on arrows p q r (inl e) c = subst (λ (x : ℕ). LeadsOn arrows x r) (sym e) c
then_on arrows p q r (inr a) (inl e) = inr (subst (λ (x : ℕ). Reaches arrows p x) e a)
then_on arrows p q r (inr a) (inr c) = inr (then_reaches arrows a.0 p q r a.1 c)

pub one_on : (arrows : List Arrow) (p q : ℕ) → Leads arrows p q → LeadsOn arrows p q
one_on arrows p q l = inr (zero, l)

less_or : (a b : ℕ) → (a < b) ⊎ (b ≤ a)
less_or a b = grind arith

no_or : (a : ℕ) → (a ≡ 0) ⊎ (0 < a)
no_or a = grind arith

-- A node is opened.

module _ (arrows : List Arrow) (n m : ℕ) (ends places open' starts pending numbers : List ℕ) (count : ℕ) (q : ℕ) (q_in : q < n)
    (new_node : get_or places q 0 ≡ 0)
    (w : Grouping arrows n m ends places open' starts pending numbers count) (leads : (p : ℕ) → IsOpen n places numbers p → LeadsOn arrows p q) where
  at_q : get_or (set places q (length open' + 1)) q 0 ≡ length open' + 1
  at_q = get_or-set_same places q (length open' + 1) 0 (let g = w.places_are in omega (arith, g, q_in))

  at_same : (p : ℕ) → p ≡ q → get_or (set places q (length open' + 1)) p 0 ≡ length open' + 1
  at_same p e = ap (λ (x : ℕ). get_or (set places q (length open' + 1)) x 0) e ∙ at_q

  at_other : (p : ℕ) → (p ≡ q → ⊥) → get_or (set places q (length open' + 1)) p 0 ≡ get_or places p 0
  at_other p o = get_or-set_other places q p (length open' + 1) 0 o

  was_open : (p : ℕ) → (p ≡ q → ⊥) → IsOpen n (set places q (length open' + 1)) numbers p → IsOpen n places numbers p
  was_open p o h = record { inside = h.inside; unnumbered = h.unnumbered; placed = (let g = h.placed in let e = at_other p o in omega (arith, g, e)) }

  not_q : (p : ℕ) → IsOpen n places numbers p → p ≡ q → ⊥
  not_q p h e = let g = h.placed in let f = ap (λ (x : ℕ). get_or places x 0) e in omega (arith, g, f, new_node)

  pub still_open : (p : ℕ) → IsOpen n places numbers p → IsOpen n (set places q (length open' + 1)) numbers p
  still_open p h = record {
    inside = h.inside;
    unnumbered = h.unnumbered;
    placed =
        (let g = h.placed in let e = at_other p (not_q p h) in omega (arith, g, e));
  }

  q_open : IsOpen n (set places q (length open' + 1)) numbers q
  q_open = record { inside = q_in; unnumbered = w.hidden q q_in new_node; placed = (let e = at_q in omega (arith, e)) }

  old_place : (xs : List ℕ) (x i : ℕ) → i < length xs → get_or (xs ++ x ∷ []) i 0 ≡ get_or xs i 0
  old_place xs x i h = get_or-append xs (x ∷ []) 0 i h

  new_place : (xs : List ℕ) (x i : ℕ) → i ≡ length xs → get_or (xs ++ x ∷ []) i 0 ≡ x
  new_place xs x i e = ap (λ (j : ℕ). get_or (xs ++ x ∷ []) j 0) e ∙ get_or-append_seam xs x [] 0

  longer : (xs : List ℕ) (x : ℕ) → length (xs ++ x ∷ []) ≡ length xs + 1
  longer xs x = grind (arith, length-append)

  nearer : (xs : List ℕ) (x i : ℕ) → i < length (xs ++ x ∷ []) → (i < length xs) ⊎ (i ≡ length xs)
  nearer xs x i h = last_or i (length xs) (let e = longer xs x in omega (arith, e, h))

  started : (p : ℕ) → p < m → (p ≡ q) ⊎ (p ≡ q → ⊥) → 0 < get_or (set places q (length open' + 1)) p 0
  started p h (inl e) = let f = at_same p e in omega (arith, f)
  started p h (inr o) = let f = at_other p o in let g = w.started p h in omega (arith, f, g)

  hidden : (p : ℕ) → p < n → get_or (set places q (length open' + 1)) p 0 ≡ 0 → (p ≡ q) ⊎ (p ≡ q → ⊥) → get_or numbers p 0 ≡ 0
  hidden p h none (inl e) = absurd (let f = at_same p e in let bad : ⊥ = omega (arith, f, none) in bad)
  hidden p h none (inr o) = w.hidden p h (sym (at_other p o) ∙ none)

  fresh : (p k : ℕ) → p < n → get_or (set places q (length open' + 1)) p 0 ≡ 0 → k < length arrows → get_or ends p 0 ≤ k → (p ≡ q) ⊎ (p ≡ q → ⊥)
      → (arrow_at arrows k).from ≡ p → ⊥
  fresh p k h none k_in past (inl e) = absurd (let f = at_same p e in let bad : ⊥ = omega (arith, f, none) in bad)
  fresh p k h none k_in past (inr o) = w.fresh p k h (sym (at_other p o) ∙ none) k_in past

  listed : (p : ℕ) → IsOpen n (set places q (length open' + 1)) numbers p → (p ≡ q) ⊎ (p ≡ q → ⊥)
      → (get_or (set places q (length open' + 1)) p 0 ≤ length (open' ++ q ∷ []))
      × (get_or (open' ++ q ∷ []) (get_or (set places q (length open' + 1)) p 0 - 1) 0 ≡ p)
  listed p h (inl e) =
      let f = at_same p e in let g = longer open' q in
      (omega (arith, f, g), new_place open' q (get_or (set places q (length open' + 1)) p 0 - 1) (omega (arith, f)) ∙ sym e)
  listed p h (inr o) =
      let f = at_other p o in let g = longer open' q in let old = w.listed p (was_open p o h) in
      let less = old.0 in let some = (was_open p o h).placed in (
        omega (arith, f, g, less),
        ap (λ (x : ℕ). get_or (open' ++ q ∷ []) (x - 1) 0) f ∙ old_place open' q (get_or places p 0 - 1) (omega (arith, less, some)) ∙ old.1,
      )

  are_open : (i : ℕ) → (i < length open') ⊎ (i ≡ length open')
      → IsOpen n (set places q (length open' + 1)) numbers (get_or (open' ++ q ∷ []) i 0)
      × (get_or (set places q (length open' + 1)) (get_or (open' ++ q ∷ []) i 0) 0 ≡ i + 1)
  are_open i (inl h) =
      let old = w.are_open i h in
      let P : ℕ → Type 0 = λ x. IsOpen n (set places q (length open' + 1)) numbers x × (get_or (set places q (length open' + 1)) x 0 ≡ i + 1) in
      subst P (sym (old_place open' q i h)) (
        still_open (get_or open' i 0) old.0,
        at_other (get_or open' i 0) (not_q (get_or open' i 0) old.0)
            ∙ old.1,
      )
  are_open i (inr e) =
      let P : ℕ → Type 0 = λ x. IsOpen n (set places q (length open' + 1)) numbers x × (get_or (set places q (length open' + 1)) x 0 ≡ i + 1) in
      subst P (sym (new_place open' q i e)) (q_open, at_q ∙ (let f : length open' + 1 ≡ i + 1 = omega (arith, e) in f))

  first_start : (0 < length starts) ⊎ (length starts ≡ 0) → get_or (starts ++ length open' ∷ []) 0 0 ≡ 0
  first_start (inl h) = old_place starts (length open') 0 h ∙ w.first_start h
  first_start (inr none) = new_place starts (length open') 0 (sym none) ∙ no_open (no_or (length open'))
    where
      no_open : (length open' ≡ 0) ⊎ (0 < length open') → length open' ≡ 0
      no_open (inl e) = e
      no_open (inr some) = absurd (let g = w.some_start some in let bad : ⊥ = omega (arith, g, none) in bad)

  start_in : (xs : List ℕ) → ((j : ℕ) → j < length xs → get_or xs j 0 < length open') → (j : ℕ) → (j < length xs) ⊎ (j ≡ length xs)
      → get_or (xs ++ length open' ∷ []) j 0 < length (open' ++ q ∷ [])
  start_in xs inside j (inl h) = let e = old_place xs (length open') j h in let g = inside j h in let f = longer open' q in omega (arith, e, g, f)
  start_in xs inside j (inr h) = let e = new_place xs (length open') j h in let f = longer open' q in omega (arith, e, f)

  rising : (xs : List ℕ) → ((j : ℕ) → j < length xs → get_or xs j 0 < length open')
      → ((i j : ℕ) → i < j → j < length xs → get_or xs i 0 < get_or xs j 0)
      → (i j : ℕ) → i < j → (j < length xs) ⊎ (j ≡ length xs) → get_or (xs ++ length open' ∷ []) i 0 < get_or (xs ++ length open' ∷ []) j 0
  rising xs inside up i j lt (inl h) =
      let e = old_place xs (length open') i (omega (arith, lt, h)) in let f = old_place xs (length open') j h in let g = up i j lt h in
      omega (arith, e, f, g)
  rising xs inside up i j lt (inr h) =
      let i_in : i < length xs = omega (arith, lt, h) in
      let e = old_place xs (length open') i i_in in let f = new_place xs (length open') j h in let g = inside i i_in in omega (arith, e, f, g)

  forward : (p r : ℕ) → IsOpen n (set places q (length open' + 1)) numbers p → IsOpen n (set places q (length open' + 1)) numbers r
      → get_or (set places q (length open' + 1)) p 0 ≤ get_or (set places q (length open' + 1)) r 0
      → (p ≡ q) ⊎ (p ≡ q → ⊥) → (r ≡ q) ⊎ (r ≡ q → ⊥) → LeadsOn arrows p r
  forward p r h k le (inl e) (inl f) = inl (e ∙ sym f)
  forward p r h k le (inl e) (inr o) =
      absurd (let a = at_same p e in let b = at_other r o in let c = (w.listed r (was_open r o k)).0 in let bad : ⊥ = omega (arith, a, b, c, le) in
      bad)
  forward p r h k le (inr o) (inl f) = subst (λ (x : ℕ). LeadsOn arrows p x) (sym f) (leads p (was_open p o h))
  forward p r h k le (inr o) (inr v) =
      w.forward p r (was_open p o h) (was_open r v k) (let a = at_other p o in let b = at_other r v in omega (arith, a, b, le))

  back : (p r : ℕ) → IsOpen n (set places q (length open' + 1)) numbers p → IsOpen n (set places q (length open' + 1)) numbers r
      → get_or (set places q (length open' + 1)) p 0 ≤ get_or (set places q (length open' + 1)) r 0
      → ((j : ℕ) → j < length (starts ++ length open' ∷ []) → get_or (starts ++ length open' ∷ []) j 0 < get_or (set places q (length open' + 1)) r 0
      → get_or (starts ++ length open' ∷ []) j 0 < get_or (set places q (length open' + 1)) p 0)
      → (p ≡ q) ⊎ (p ≡ q → ⊥) → (r ≡ q) ⊎ (r ≡ q → ⊥) → LeadsOn arrows r p
  back p r h k le one (inl e) (inl f) = inl (f ∙ sym e)
  back p r h k le one (inl e) (inr o) =
      absurd (let a = at_same p e in let b = at_other r o in let c = (w.listed r (was_open r o k)).0 in let bad : ⊥ = omega (arith, a, b, c, le) in
      bad)
  back p r h k le one (inr o) (inl f) =
      absurd (
      let a = at_other p o in let b = at_same r f in let c = (w.listed p (was_open p o h)).0 in
      let here = new_place starts (length open') (length starts) refl in let g = longer starts (length open') in
      let less = one (length starts) (omega (arith, g)) (omega (arith, here, b)) in
      let bad : ⊥ = omega (arith, here, less, a, c) in bad)
  back p r h k le one (inr o) (inr v) =
      let a = at_other p o in let b = at_other r v in let g = longer starts (length open') in
      w.back p r (was_open p o h) (was_open r v k) (omega (arith, a, b, le))
      (λ j j_in less.
      let e = old_place starts (length open') j j_in in
      let f = one j (omega (arith, j_in, g)) (omega (arith, e, less, b)) in omega (arith, e, f, a))

  passed : (p y : ℕ) → IsPassed places starts numbers p y → (p ≡ q → ⊥)
      → IsPassed (set places q (length open' + 1)) (starts ++ length open' ∷ []) numbers p y
  passed p y s o = record {
    numbered = s.numbered;
    standing = λ none some. go none (let e = at_other p o in
        omega (arith, e, some)) (s.standing none (let e = at_other p o in omega (arith, e, some)));
  }
    where
      go : get_or numbers p 0 ≡ 0 → 0 < get_or places p 0 → ComesBehind places starts numbers p y
          → ComesBehind (set places q (length open' + 1)) (starts ++ length open' ∷ []) numbers p y
      go none some (inl h) = inl h
      go none some (inr b) = inr (
        (let e = at_other y not_y in let g = b.0 in omega (arith, e, g)),
        λ j j_in less. behind j (nearer starts (length open') j j_in) less,
      )
        where
          not_y : y ≡ q → ⊥
          not_y e = let g = b.0 in let f = ap (λ (x : ℕ). get_or places x 0) e in omega (arith, g, f, new_node)

          behind : (j : ℕ) → (j < length starts) ⊎ (j ≡ length starts)
              → get_or (starts ++ length open' ∷ []) j 0 < get_or (set places q (length open' + 1)) p 0
              → get_or (starts ++ length open' ∷ []) j 0 < get_or (set places q (length open' + 1)) y 0
          behind j (inl h) less =
              let e = old_place starts (length open') j h in let a = at_other p o in let f = at_other y not_y in
              let more = b.1 j h (omega (arith, e, less, a)) in omega (arith, e, f, more)
          behind j (inr last) less =
              absurd (low (new_place starts (length open') j last) (at_other p o) (less_or p n))
            where
              low : get_or (starts ++ length open' ∷ []) j 0 ≡ length open' → get_or (set places q (length open' + 1)) p 0 ≡ get_or places p 0
                  → (p < n) ⊎ (n ≤ p) → ⊥
              low e a (inl inside) = let c = (w.listed p (record { inside = inside; unnumbered = none; placed = some })).0 in
                  omega (arith, e, a, c, less)
              low e a (inr outside) = let z = get_or_past places p 0 (let g = w.places_are in omega (arith, g, outside)) in omega (arith, z, some)

  pub opened_group : Grouping arrows n m ends (set places q (length open' + 1)) (open' ++ q ∷ []) (starts ++ length open' ∷ [])
      (pending ++ length open' ∷ []) numbers count
  opened_group = record {
    ends_are = w.ends_are;
    places_are = length-set places q (length open' + 1) ∙ w.places_are;
    numbers_are = w.numbers_are;
    end_in = w.end_in;
    end_own = w.end_own;
    started = λ p h. started p h (same_or p q);
    hidden = λ p h none. hidden p h none (same_or p q);
    fresh = λ p k h none k_in past. fresh p k h none k_in past (same_or p q);
    listed = λ p h. listed p h (same_or p q);
    are_open = λ i h. are_open i (nearer open' q i h);
    some_start = λ h. (let e = longer starts (length open') in omega (arith, e));
    first_start = λ h. first_start (some_or (length starts));
    start_in = λ j h. start_in starts w.start_in j (nearer starts (length open') j h);
    rising_starts = λ i j lt h. rising starts w.start_in w.rising_starts i j lt (nearer starts (length open') j h);
    forward = λ p r h k le. forward p r h k le (same_or p q) (same_or r q);
    back = λ p r h k le one. back p r h k le one (same_or p q) (same_or r q);
    passed = λ k h past. at_arrow k h past (same_or (arrow_at arrows k).from q);
    pending_in = λ j h. start_in pending w.pending_in j (nearer pending (length open') j h);
    rising_pending = λ i j lt h. rising pending w.pending_in w.rising_pending i j lt (nearer pending (length open') j h);
    waiting = λ p h more. waiting p h more (same_or p q);
    at_most = w.at_most;
    together = w.together;
    settled = w.settled;
    room =
        let a = sum_by-set unseen places q (length open' + 1) 0 (let g = w.places_are in omega (arith, g, q_in)) in
        let b : unseen (get_or places q 0) ≡ 1 = ap unseen new_node in
        let c : unseen (length open' + 1) ≡ 0 = ap unseen (add-one (length open')) in
        let d = longer starts (length open') in
        let e = w.room in
        sums (sum_by unseen (set places q (length open' + 1))) (sum_by unseen places) (unseen (get_or places q 0)) (unseen (length open' + 1)) count
        (length starts) (length (starts ++ length open' ∷ [])) n a b c d e;
  }
    where
      some_or : (a : ℕ) → (0 < a) ⊎ (a ≡ 0)
      some_or a = grind arith

      sums : (s' s u v c t t' n : ℕ) → s' + u ≡ s + v → u ≡ 1 → v ≡ 0 → t' ≡ t + 1 → c + t + s ≤ n → c + t' + s' ≤ n
      sums s' s u v c t t' n a b d e f = omega arith

      at_arrow : (k : ℕ) → k < length arrows → get_or ends (arrow_at arrows k).from 0 ≤ k → ((arrow_at arrows k).from ≡ q)
          ⊎ ((arrow_at arrows k).from ≡ q → ⊥)
          → IsPassed (set places q (length open' + 1)) (starts ++ length open' ∷ []) numbers (arrow_at arrows k).from (arrow_at arrows k).to
      at_arrow k h past (inl e) = absurd (w.fresh q k q_in new_node h (let f = ap (λ (x : ℕ). get_or ends x 0) e in omega (arith, f, past)) e)
      at_arrow k h past (inr o) = passed (arrow_at arrows k).from (arrow_at arrows k).to (w.passed k h past) o

      waiting : (p : ℕ) → IsOpen n (set places q (length open' + 1)) numbers p → 0 < get_or ends p 0 → (p ≡ q) ⊎ (p ≡ q → ⊥)
          → (j : ℕ) × (j < length (pending ++ length open' ∷ []))
          × (get_or (pending ++ length open' ∷ []) j 0 + 1 ≡ get_or (set places q (length open' + 1)) p 0)
      waiting p h more (inl e) =
          let f = at_same p e in let g = new_place pending (length open') (length pending) refl in let l = longer pending (length open') in
          (length pending, omega (arith, l), omega (arith, f, g))
      waiting p h more (inr o) =
          let old = w.waiting p (was_open p o h) more in let f = at_other p o in let inside = old.1 in let here = old.2 in
          let g = old_place pending (length open') old.0 inside in let l = longer pending (length open') in
          (old.0, omega (arith, l, inside), omega (arith, f, g, here))

-- Groups are joined.

module _ (arrows : List Arrow) (n m : ℕ) (ends places open' starts pending numbers : List ℕ) (count : ℕ) (starts' : List ℕ) (x y : ℕ)
    (w : Grouping arrows n m ends places open' starts pending numbers count) (x_open : IsOpen n places numbers x) (y_open : IsOpen n places numbers y)
    (top : (j : ℕ) → j < length starts → get_or starts j 0 < get_or places x 0) (leads : LeadsOn arrows x y)
    (cut : StartsCut starts starts' (get_or places y 0 - 1)) where
  behind_y : (j : ℕ) → length starts' ≤ j → j < length starts → get_or places y 0 ≤ get_or starts j 0
  behind_y j h k = let g = cut.behind j h k in omega (arith, g)

  kept_in : (j : ℕ) → j < length starts' → j < length starts
  kept_in j h = let g = cut.fewer in omega (arith, h, g)

  -- a node behind y in its new group leads to the newest
  to_newest : (r : ℕ) → IsOpen n places numbers r → (get_or places r 0 ≤ get_or places x 0) ⊎ (get_or places x 0 < get_or places r 0)
      → LeadsOn arrows r x
  to_newest r h (inl le) = w.forward r x h x_open le
  to_newest r h (inr less) = w.back x r x_open h (omega (arith, less)) (λ j j_in _. top j j_in)

  y_leads : (p r : ℕ) → IsOpen n places numbers p → get_or places y 0 < get_or places r 0
      → ((j : ℕ) → j < length starts' → get_or starts' j 0 < get_or places r 0 → get_or starts' j 0 < get_or places p 0)
      → (get_or places y 0 ≤ get_or places p 0) ⊎ (get_or places p 0 < get_or places y 0) → LeadsOn arrows y p
  y_leads p r h less one (inl le) = w.forward y p y_open h le
  y_leads p r h less one (inr before) = w.back p y h y_open (omega (arith, before)) (λ j j_in under. go j j_in under (less_or j (length starts')))
    where
      go : (j : ℕ) → j < length starts → get_or starts j 0 < get_or places y 0 → (j < length starts') ⊎ (length starts' ≤ j)
          → get_or starts j 0 < get_or places p 0
      go j j_in under (inl k) = let e = cut.kept j k in let g = one j k (omega (arith, e, under, less)) in omega (arith, e, g)
      go j j_in under (inr k) = absurd (let g = behind_y j k j_in in let bad : ⊥ = omega (arith, g, under) in bad)

  back_joined : (p r : ℕ) → IsOpen n places numbers p → IsOpen n places numbers r → get_or places p 0 ≤ get_or places r 0
      → ((j : ℕ) → j < length starts' → get_or starts' j 0 < get_or places r 0 → get_or starts' j 0 < get_or places p 0)
      → (get_or places y 0 < get_or places r 0) ⊎ (get_or places r 0 ≤ get_or places y 0) → LeadsOn arrows r p
  back_joined p r h k le one (inl less) =
      then_on arrows r x p (to_newest r k (at_or (get_or places r 0) (get_or places x 0)))
      (then_on arrows x y p leads (y_leads p r h less one (at_or (get_or places y 0) (get_or places p 0))))
    where
      at_or : (a b : ℕ) → (a ≤ b) ⊎ (b < a)
      at_or a b = grind arith
  back_joined p r h k le one (inr low) = w.back p r h k le (λ j j_in under. go j j_in under (less_or j (length starts')))
    where
      go : (j : ℕ) → j < length starts → get_or starts j 0 < get_or places r 0 → (j < length starts') ⊎ (length starts' ≤ j)
          → get_or starts j 0 < get_or places p 0
      go j j_in under (inl k) = let e = cut.kept j k in let g = one j k (omega (arith, e, under)) in omega (arith, e, g)
      go j j_in under (inr k) = absurd (let g = behind_y j k j_in in let bad : ⊥ = omega (arith, g, under, low) in bad)

  passed_joined : (p z : ℕ) → IsPassed places starts numbers p z → IsPassed places starts' numbers p z
  passed_joined p z s = record { numbered = s.numbered; standing = λ none some. go (s.standing none some) }
    where
      go : ComesBehind places starts numbers p z → ComesBehind places starts' numbers p z
      go (inl h) = inl h
      go (inr b) =
          inr (b.0, λ j j_in under. (let e = cut.kept j j_in in let g = b.1 j (kept_in j j_in) (omega (arith, e, under)) in omega (arith, e, g)))

  rising_joined : (i j : ℕ) → i < j → j < length starts' → get_or starts' i 0 < get_or starts' j 0
  rising_joined i j lt h =
      let e = cut.kept i (omega (arith, lt, h)) in let f = cut.kept j h in let g = w.rising_starts i j lt (kept_in j h) in omega (arith, e, f, g)

  pub joined_groups : Grouping arrows n m ends places open' starts' pending numbers count
  joined_groups = record {
    ends_are = w.ends_are;
    places_are = w.places_are;
    numbers_are = w.numbers_are;
    end_in = w.end_in;
    end_own = w.end_own;
    started = w.started;
    hidden = w.hidden;
    fresh = w.fresh;
    listed = w.listed;
    are_open = w.are_open;
    some_start = λ h. cut.some;
    first_start = λ h. cut.kept 0 h ∙ w.first_start (kept_in 0 h);
    start_in = λ j h. (let e = cut.kept j h in let g = w.start_in j (kept_in j h) in omega (arith, e, g));
    rising_starts = rising_joined;
    forward = w.forward;
    back = λ p r h k le one. back_joined p r h k le one (less_or (get_or places y 0) (get_or places r 0));
    passed = λ k h past. passed_joined _ _ (w.passed k h past);
    pending_in = w.pending_in;
    rising_pending = w.rising_pending;
    waiting = w.waiting;
    at_most = w.at_most;
    together = w.together;
    settled = w.settled;
    room = (let g = w.room in let h = cut.fewer in fewer count (length starts) (length starts') (sum_by unseen places) n g h);
  }
    where
      fewer : (c t t' s n : ℕ) → c + t + s ≤ n → t' ≤ t → c + t' + s ≤ n
      fewer c t t' s n h k = omega arith

  pub follows_joined : ComesBehind places starts' numbers x y
  follows_joined = inr (y_open.placed, λ j j_in _. low j j_in (same_or j (length starts' - 1)))
    where
      low : (j : ℕ) → j < length starts' → (j ≡ length starts' - 1) ⊎ (j ≡ length starts' - 1 → ⊥) → get_or starts' j 0 < get_or places y 0
      low j h (inl e) = let f = ap (λ (i : ℕ). get_or starts' i 0) e in let g = cut.last in let p = y_open.placed in omega (arith, f, g, p)
      low j h (inr o) = let r = rising_joined j (length starts' - 1) (omega (arith, h, o)) (omega (arith, h)) in let g = cut.last in
          omega (arith, r, g)

-- An arrow was followed.

module _ (arrows : List Arrow) (ends0 before : List ℕ) (l : AreLinked arrows ends0 before) (m : ℕ) (ends places open' starts pending numbers : List ℕ)
    (count : ℕ) (node end next : ℕ)
    (w : Grouping arrows (length ends0) m ends places open' starts pending numbers count) (here : IsOpen (length ends0) places numbers node)
    (end_is : get_or ends node 0 ≡ end) (some : 0 < end)
    (next_is : get_or before (end - 1) 0 ≡ next) (follows : ComesBehind places starts numbers node (arrow_at arrows (end - 1)).to) where
  next_at : (p : ℕ) → p ≡ node → get_or (set ends node next) p 0 ≡ next
  next_at p e = ap (λ (x : ℕ). get_or (set ends node next) x 0) e
      ∙ get_or-set_same ends node next 0 (let g = w.ends_are in let h = here.inside in omega (arith, g, h))

  next_off : (p : ℕ) → (p ≡ node → ⊥) → get_or (set ends node next) p 0 ≡ get_or ends p 0
  next_off p o = get_or-set_other ends node p next 0 o

  from_at : (i j : ℕ) → i ≡ j → (arrow_at arrows i).from ≡ (arrow_at arrows j).from
  from_at i j e = ap (λ (x : ℕ). (arrow_at arrows x).from) e

  arrow_in : end - 1 < length arrows
  arrow_in = let h = w.end_in node here.inside in omega (arith, h, end_is, some)

  arrow_own : (arrow_at arrows (end - 1)).from ≡ node
  arrow_own = from_at (end - 1) (get_or ends node 0 - 1) (omega (arith, end_is)) ∙ w.end_own node here.inside (omega (arith, end_is, some))

  end_in' : (p : ℕ) → p < length ends0 → (p ≡ node) ⊎ (p ≡ node → ⊥) → get_or (set ends node next) p 0 ≤ length arrows
  end_in' p h (inl e) = let f = next_at p e in let g = l.before_in (end - 1) arrow_in in omega (arith, f, g, next_is, arrow_in)
  end_in' p h (inr o) = let f = next_off p o in let g = w.end_in p h in omega (arith, f, g)

  end_own' : (p : ℕ) → p < length ends0 → 0 < get_or (set ends node next) p 0 → (p ≡ node) ⊎ (p ≡ node → ⊥)
      → (arrow_at arrows (get_or (set ends node next) p 0 - 1)).from ≡ p
  end_own' p h more (inl e) =
      let f = next_at p e in
      from_at (get_or (set ends node next) p 0 - 1) (get_or before (end - 1) 0 - 1) (omega (arith, f, next_is))
      ∙ l.before_own (end - 1) arrow_in (omega (arith, f, next_is, more)) ∙ arrow_own ∙ sym e
  end_own' p h more (inr o) =
      let f = next_off p o in from_at (get_or (set ends node next) p 0 - 1) (get_or ends p 0 - 1) (omega (arith, f))
      ∙ w.end_own p h (omega (arith, f, more))

  node_passed : (k : ℕ) → (arrow_at arrows k).from ≡ node → ComesBehind places starts numbers node (arrow_at arrows k).to
      → IsPassed places starts numbers (arrow_at arrows k).from (arrow_at arrows k).to
  node_passed k e f = record {
    numbered = λ h. absurd (let g = ap (λ (x : ℕ). get_or numbers x 0) e in let none = here.unnumbered in let bad : ⊥ = omega (arith, h, g, none) in
        bad);
    standing = λ _ _. subst (λ (x : ℕ). ComesBehind places starts numbers x (arrow_at arrows k).to) (sym e) f;
  }

  passed' : (k : ℕ) → k < length arrows → get_or (set ends node next) (arrow_at arrows k).from 0 ≤ k
      → ((arrow_at arrows k).from ≡ node) ⊎ ((arrow_at arrows k).from ≡ node → ⊥)
      → IsPassed places starts numbers (arrow_at arrows k).from (arrow_at arrows k).to
  passed' k h past (inl e) = go (three k end some)
    where
      go : (k < end - 1) ⊎ ((k ≡ end - 1) ⊎ (end ≤ k)) → IsPassed places starts numbers (arrow_at arrows k).from (arrow_at arrows k).to
      go (inl less) = absurd (let f = next_at (arrow_at arrows k).from e in
          l.before_gap (end - 1) k arrow_in (omega (arith, f, next_is, past)) less (e ∙ sym arrow_own))
      go (inr (inl same)) = node_passed k e (subst (λ (x : ℕ). ComesBehind places starts numbers node (arrow_at arrows x).to) (sym same) follows)
      go (inr (inr more)) = w.passed k h (let f = ap (λ (x : ℕ). get_or ends x 0) e in omega (arith, f, end_is, more))
  passed' k h past (inr o) = let f = next_off (arrow_at arrows k).from o in w.passed k h (omega (arith, f, past))

  waiting' : (p : ℕ) → IsOpen (length ends0) places numbers p → 0 < get_or (set ends node next) p 0 → (p ≡ node) ⊎ (p ≡ node → ⊥)
      → (j : ℕ) × (j < length pending) × (get_or pending j 0 + 1 ≡ get_or places p 0)
  waiting' p h more (inl e) = w.waiting p h (let f = ap (λ (x : ℕ). get_or ends x 0) e in omega (arith, f, end_is, some))
  waiting' p h more (inr o) = w.waiting p h (let f = next_off p o in omega (arith, f, more))

  fresh' : (p k : ℕ) → p < length ends0 → get_or places p 0 ≡ 0 → k < length arrows → get_or (set ends node next) p 0 ≤ k
      → (p ≡ node) ⊎ (p ≡ node → ⊥) → (arrow_at arrows k).from ≡ p → ⊥
  fresh' p k h none k_in past (inl e) = absurd (let f = ap (λ (x : ℕ). get_or places x 0) e in let g = here.placed in let bad : ⊥ =
      omega (arith, f, g, none) in bad)
  fresh' p k h none k_in past (inr o) = let f = next_off p o in w.fresh p k h none k_in (omega (arith, f, past))

  settled' : (p : ℕ) → p < length ends0 → 0 < get_or numbers p 0 → (p ≡ node) ⊎ (p ≡ node → ⊥) → get_or (set ends node next) p 0 ≡ 0
  settled' p h some' (inl e) = absurd (let f = ap (λ (x : ℕ). get_or numbers x 0) e in let g = here.unnumbered in let bad : ⊥ =
      omega (arith, f, g, some') in bad)
  settled' p h some' (inr o) = next_off p o ∙ w.settled p h some'

  pub followed : Grouping arrows (length ends0) m (set ends node next) places open' starts pending numbers count
  followed = record {
    ends_are = length-set ends node next ∙ w.ends_are;
    places_are = w.places_are;
    numbers_are = w.numbers_are;
    end_in = λ p h. end_in' p h (same_or p node);
    end_own = λ p h more. end_own' p h more (same_or p node);
    started = w.started;
    hidden = w.hidden;
    fresh = λ p k h none k_in past. fresh' p k h none k_in past (same_or p node);
    listed = w.listed;
    are_open = w.are_open;
    some_start = w.some_start;
    first_start = w.first_start;
    start_in = w.start_in;
    rising_starts = w.rising_starts;
    forward = w.forward;
    back = w.back;
    passed = λ k h past. passed' k h past (same_or (arrow_at arrows k).from node);
    pending_in = w.pending_in;
    rising_pending = w.rising_pending;
    waiting = λ p h more. waiting' p h more (same_or p node);
    at_most = w.at_most;
    together = w.together;
    settled = λ p h some'. settled' p h some' (same_or p node);
    room = w.room;
  }

-- A pending place is taken away.

module _ (arrows : List Arrow) (n m : ℕ) (ends places open' starts pending numbers : List ℕ) (count : ℕ) (place : ℕ)
    (w : Grouping arrows n m ends places open' starts (pending ++ place ∷ []) numbers count) (none : get_or ends (get_or open' place 0) 0 ≡ 0) where
  kept_place : (i : ℕ) → i < length pending → get_or (pending ++ place ∷ []) i 0 ≡ get_or pending i 0
  kept_place i h = get_or-append pending (place ∷ []) 0 i h

  more_in : (i : ℕ) → i < length pending → i < length (pending ++ place ∷ [])
  more_in i h = grind (arith, length-append)

  waiting-less : (p : ℕ) → IsOpen n places numbers p → 0 < get_or ends p 0 → (j : ℕ) → j < length (pending ++ place ∷ [])
      → get_or (pending ++ place ∷ []) j 0 + 1 ≡ get_or places p 0
      → (j < length pending) ⊎ (j ≡ length pending) → (i : ℕ) × (i < length pending) × (get_or pending i 0 + 1 ≡ get_or places p 0)
  waiting-less p h more j j_in e (inl k) = let f = kept_place j k in (j, k, omega (arith, e, f))
  waiting-less p h more j j_in e (inr last) =
      let f = ap (λ (i : ℕ). get_or (pending ++ place ∷ []) i 0) last in
      let g = get_or-append_seam pending place [] 0 in
      let same : get_or places p 0 - 1 ≡ place = omega (arith, e, f, g) in
      let node : get_or open' place 0 ≡ p = ap (λ (i : ℕ). get_or open' i 0) (sym same) ∙ (w.listed p h).1 in
      absurd (let z = ap (λ (x : ℕ). get_or ends x 0) node in let bad : ⊥ = omega (arith, z, none, more) in bad)

  pub taken : Grouping arrows n m ends places open' starts pending numbers count
  taken = record {
    ends_are = w.ends_are;
    places_are = w.places_are;
    numbers_are = w.numbers_are;
    end_in = w.end_in;
    end_own = w.end_own;
    started = w.started;
    hidden = w.hidden;
    fresh = w.fresh;
    listed = w.listed;
    are_open = w.are_open;
    some_start = w.some_start;
    first_start = w.first_start;
    start_in = w.start_in;
    rising_starts = w.rising_starts;
    forward = w.forward;
    back = w.back;
    passed = w.passed;
    pending_in = λ j h. (let e = kept_place j h in let g = w.pending_in j (more_in j h) in omega (arith, e, g));
    rising_pending = λ i j lt h. (let e = kept_place i (omega (arith, lt, h)) in let f = kept_place j h in let g =
        w.rising_pending i j lt (more_in j h) in omega (arith, e, f, g));
    waiting = λ p h more. (let s = w.waiting p h more in
        waiting-less p h more s.0 s.1 s.2 (last_or s.0 (length pending) (let g = s.1 in grind (arith, length-append, g))));
    at_most = w.at_most;
    together = w.together;
    settled = w.settled;
    room = w.room;
  }

-- The last group gets a number.

module _ (arrows : List Arrow) (n m : ℕ) (ends places open' starts pending numbers : List ℕ) (count start : ℕ) (numbers' : List ℕ)
    (w : Grouping arrows n m ends places open' (starts ++ start ∷ []) pending numbers count)
    (to_in : (k : ℕ) → k < length arrows → (arrow_at arrows k).to < n)
    (low : (j : ℕ) → j < length pending → get_or pending j 0 < start) (s : AreNumberedFrom numbers numbers' open' start (count + 1)) where
  count_starts : length (starts ++ start ∷ []) ≡ length starts + 1
  count_starts = grind (arith, length-append)

  last_start : get_or (starts ++ start ∷ []) (length starts) 0 ≡ start
  last_start = get_or-append_seam starts start [] 0

  old_start : (j : ℕ) → j < length starts → get_or (starts ++ start ∷ []) j 0 ≡ get_or starts j 0
  old_start j h = get_or-append starts (start ∷ []) 0 j h

  below_start : (j : ℕ) → j < length starts → get_or starts j 0 < start
  below_start j h = let g = w.rising_starts j (length starts) h (omega (arith, count_starts)) in let e = old_start j h in
      omega (arith, g, e, last_start)

  start_inside : start < length open'
  start_inside = let g = w.start_in (length starts) (omega (arith, count_starts)) in omega (arith, g, last_start)

  -- the nodes of the group
  number_new : (p : ℕ) → IsOpen n places numbers p → start < get_or places p 0 → get_or numbers' p 0 ≡ count + 1
  number_new p h more =
      let g = w.listed p h in let less = g.0 in
      ap (λ (x : ℕ). get_or numbers' x 0) (sym g.1) ∙ s.here (get_or places p 0 - 1) (omega (arith, more)) (omega (arith, less, more))

  number_old : (p : ℕ) → (IsOpen n places numbers p → start < get_or places p 0 → ⊥) → get_or numbers' p 0 ≡ get_or numbers p 0
  number_old p not_new = s.others p (λ i h k e.
      let a = w.are_open i k in let at = a.1 in
      let f = ap (λ (x : ℕ). get_or places x 0) e in
      not_new (subst (λ (x : ℕ). IsOpen n places numbers x) e a.0) (omega (arith, f, at, h)))

  number_kept : (p : ℕ) → 0 < get_or numbers p 0 → get_or numbers' p 0 ≡ get_or numbers p 0
  number_kept p some = number_old p (λ h _. (let e = h.unnumbered in omega (arith, e, some)))

  settled_new : (p : ℕ) → IsOpen n places numbers p → start < get_or places p 0 → get_or ends p 0 ≡ 0
  settled_new p h more = go (no_or (get_or ends p 0))
    where
      go : (get_or ends p 0 ≡ 0) ⊎ (0 < get_or ends p 0) → get_or ends p 0 ≡ 0
      go (inl e) = e
      go (inr some) = absurd (let x = w.waiting p h some in let at = x.2 in let g = low x.0 x.1 in let bad : ⊥ = omega (arith, at, g, more) in bad)

  -- which case a node is in
  data Case (p : ℕ) : Type 0 where
    is_old : 0 < get_or numbers p 0 → get_or numbers' p 0 ≡ get_or numbers p 0 → Case p
    is_new : IsOpen n places numbers p → start < get_or places p 0 → get_or numbers' p 0 ≡ count + 1 → Case p
    is_kept : get_or numbers p 0 ≡ 0 → (IsOpen n places numbers p → get_or places p 0 ≤ start) → get_or numbers' p 0 ≡ 0 → Case p

  case_of : (p : ℕ) → p < n → Case p
  case_of p p_in = go (no_or (get_or numbers p 0)) (no_or (get_or places p 0)) (less_or start (get_or places p 0))
    where
      go : (get_or numbers p 0 ≡ 0) ⊎ (0 < get_or numbers p 0) → (get_or places p 0 ≡ 0) ⊎ (0 < get_or places p 0)
          → (start < get_or places p 0) ⊎ (get_or places p 0 ≤ start) → Case p
      go (inr some) b c = is_old some (number_kept p some)
      go (inl none) (inl hidden) c = is_kept none (λ h. (let g = h.placed in omega (arith, g, hidden)))
          (number_old p (λ h _. (let g = h.placed in omega (arith, g, hidden))) ∙ none)
      go (inl none) (inr placed) (inl more) =
          let h : IsOpen n places numbers p = record { inside = p_in; unnumbered = none; placed = placed } in is_new h more (number_new p h more)
      go (inl none) (inr placed) (inr less) = is_kept none (λ _. less) (number_old p (λ _ more. omega (arith, more, less)) ∙ none)

  was : (p : ℕ) → IsOpen n places numbers' p → IsOpen n places numbers p × (get_or places p 0 ≤ start)
  was p h = go (case_of p h.inside)
    where
      go : Case p → IsOpen n places numbers p × (get_or places p 0 ≤ start)
      go (is_old some e) = absurd (let g = h.unnumbered in let bad : ⊥ = omega (arith, g, e, some) in bad)
      go (is_new o more e) = absurd (let g = h.unnumbered in let bad : ⊥ = omega (arith, g, e) in bad)
      go (is_kept none less e) = let o : IsOpen n places numbers p = record { inside = h.inside; unnumbered = none; placed = h.placed } in (o, less o)

  is_still : (p : ℕ) → IsOpen n places numbers p → get_or places p 0 ≤ start → IsOpen n places numbers' p
  is_still p h less = record { inside = h.inside; unnumbered = number_old p (λ _ more. omega (arith, more, less)) ∙ h.unnumbered; placed = h.placed }

  size_taken : length (take start open') ≡ start
  size_taken = let h = start_inside in grind (arith, length-take, h)

  taken_at : (i : ℕ) → i < start → get_or (take start open') i 0 ≡ get_or open' i 0
  taken_at i h = get_or-take start open' i 0 h

  listed_left : (p : ℕ) → IsOpen n places numbers' p → (get_or places p 0 ≤ length (take start open'))
      × (get_or (take start open') (get_or places p 0 - 1) 0 ≡ p)
  listed_left p h =
      let o = was p h in let less = o.1 in let some = h.placed in let old = w.listed p o.0 in
      (omega (arith, less, size_taken), taken_at (get_or places p 0 - 1) (omega (arith, less, some)) ∙ old.1)

  open_left : (i : ℕ) → i < length (take start open') → IsOpen n places numbers' (get_or (take start open') i 0)
      × (get_or places (get_or (take start open') i 0) 0 ≡ i + 1)
  open_left i h =
      let i_in : i < start = omega (arith, h, size_taken) in
      let a = w.are_open i (let g = start_inside in omega (arith, g, i_in)) in let at = a.1 in
      let P : ℕ → Type 0 = λ x. IsOpen n places numbers' x × (get_or places x 0 ≡ i + 1) in
      subst P (sym (taken_at i i_in)) (is_still (get_or open' i 0) a.0 (omega (arith, at, i_in)), a.1)

  back_left : (p q : ℕ) → IsOpen n places numbers' p → IsOpen n places numbers' q → get_or places p 0 ≤ get_or places q 0
      → ((j : ℕ) → j < length starts → get_or starts j 0 < get_or places q 0 → get_or starts j 0 < get_or places p 0) → LeadsOn arrows q p
  back_left p q h k le one = let o = was p h in let v = was q k in let less = v.1 in
      w.back p q o.0 v.0 le (λ j j_in under. go j under less (last_or j (length starts) (omega (arith, j_in, count_starts))))
    where
      go : (j : ℕ) → get_or (starts ++ start ∷ []) j 0 < get_or places q 0 → get_or places q 0 ≤ start → (j < length starts) ⊎ (j ≡ length starts)
          → get_or (starts ++ start ∷ []) j 0 < get_or places p 0
      go j under less (inl h) = let e = old_start j h in let g = one j h (omega (arith, e, under)) in omega (arith, e, g)
      go j under less (inr last) = absurd (let e = ap (λ (i : ℕ). get_or (starts ++ start ∷ []) i 0) last in let bad : ⊥ =
          omega (arith, e, last_start, under, less) in bad)

  -- an arrow that was followed
  behind_new : (q : ℕ) → q < n → 0 < get_or places q 0 → start < get_or places q 0 → Case q
      → (0 < get_or numbers' q 0) × (get_or numbers' q 0 ≤ count + 1)
  behind_new q q_in some more (is_old g e) = (omega (arith, g, e), (let h = w.at_most q q_in in omega (arith, h, e)))
  behind_new q q_in some more (is_new o _ e) = (omega (arith, e), omega (arith, e))
  behind_new q q_in some more (is_kept none less e) =
      absurd (let g = less (record { inside = q_in; unnumbered = none; placed = some }) in let bad : ⊥ = omega (arith, g, more) in bad)

  numbered_now : (q : ℕ) → q < n → 0 < get_or numbers q 0 → (0 < get_or numbers' q 0) × (get_or numbers' q 0 ≤ count)
  numbered_now q q_in some = let e = number_kept q some in let h = w.at_most q q_in in (omega (arith, e, some), omega (arith, e, h))

  start_behind : (p q : ℕ) → start < get_or places p 0 → StandsBehind places (starts ++ start ∷ []) p q → start < get_or places q 0
  start_behind p q more b = let g = b.1 (length starts) (omega (arith, count_starts)) (omega (arith, last_start, more)) in
      omega (arith, g, last_start)

  left_behind : (p q : ℕ) → q < n → StandsBehind places (starts ++ start ∷ []) p q → Case q → ComesBehind places starts numbers' p q
  left_behind p q q_in b (is_old some e) = inl (omega (arith, e, some))
  left_behind p q q_in b (is_new o more e) = inl (omega (arith, e))
  left_behind p q q_in b (is_kept none less e) =
      inr (
        b.0,
        λ j j_in under. (let f = old_start j j_in in let g = b.1 j (omega (arith, j_in, count_starts)) (omega (arith, f, under)) in
            omega (arith, f, g)),
      )

  passed_left : (p q : ℕ) → p < n → q < n → IsPassed places (starts ++ start ∷ []) numbers p q → Case p → IsPassed places starts numbers' p q
  passed_left p q p_in q_in x (is_old some e) = record {
    numbered = λ _. (let g = x.numbered some in let a = g.0 in let b = g.1 in let f = number_kept q a in
        (omega (arith, f, a), omega (arith, f, b, e)));
    standing = λ none. absurd (let bad : ⊥ = omega (arith, e, none, some) in bad);
  }
  passed_left p q p_in q_in x (is_new o more e) = record {
    numbered = λ _. go (x.standing o.unnumbered o.placed);
    standing = λ none. absurd (let bad : ⊥ = omega (arith, e, none) in bad);
  }
    where
      go : ComesBehind places (starts ++ start ∷ []) numbers p q → (0 < get_or numbers' q 0) × (get_or numbers' q 0 ≤ get_or numbers' p 0)
      go (inl h) = let g = numbered_now q q_in h in let b = g.1 in (g.0, omega (arith, b, e))
      go (inr b) = let g = behind_new q q_in b.0 (start_behind p q more b) (case_of q q_in) in let c = g.1 in (g.0, omega (arith, c, e))
  passed_left p q p_in q_in x (is_kept none less e) = record {
    numbered = λ some. absurd (let bad : ⊥ = omega (arith, e, some) in bad);
    standing = λ _ placed. go (x.standing none placed);
  }
    where
      go : ComesBehind places (starts ++ start ∷ []) numbers p q → ComesBehind places starts numbers' p q
      go (inl h) = inl (numbered_now q q_in h).0
      go (inr b) = left_behind p q q_in b (case_of q q_in)

  -- the nodes of the group lead to each other
  in_group : (p q : ℕ) → IsOpen n places numbers p → IsOpen n places numbers q → start < get_or places p 0
      → (get_or places p 0 ≤ get_or places q 0) ⊎ (get_or places q 0 < get_or places p 0)
      → start < get_or places q 0 → LeadsOn arrows p q
  in_group p q h k more (inl le) more' = w.forward p q h k le
  in_group p q h k more (inr less) more' =
      w.back q p k h (omega (arith, less)) (λ j j_in _. low_start j (last_or j (length starts) (omega (arith, j_in, count_starts))))
    where
      low_start : (j : ℕ) → (j < length starts) ⊎ (j ≡ length starts) → get_or (starts ++ start ∷ []) j 0 < get_or places q 0
      low_start j (inl g) = let e = old_start j g in let f = below_start j g in omega (arith, e, f, more')
      low_start j (inr last) = let e = ap (λ (i : ℕ). get_or (starts ++ start ∷ []) i 0) last in omega (arith, e, last_start, more')

  le_or : (a b : ℕ) → (a ≤ b) ⊎ (b < a)
  le_or a b = grind arith

  together_left : (p q : ℕ) → p < n → q < n → 0 < get_or numbers' p 0 → get_or numbers' p 0 ≡ get_or numbers' q 0 → Case p → Case q
      → LeadsOn arrows p q
  together_left p q p_in q_in some same (is_old a e) (is_old b f) = w.together p q p_in q_in a (sym e ∙ same ∙ f)
  together_left p q p_in q_in some same (is_old a e) (is_new k more f) =
      absurd (let g = w.at_most p p_in in let bad : ⊥ = omega (arith, g, e, f, same) in bad)
  together_left p q p_in q_in some same (is_new h more e) (is_old b f) =
      absurd (let g = w.at_most q q_in in let bad : ⊥ = omega (arith, g, e, f, same) in bad)
  together_left p q p_in q_in some same (is_new h more e) (is_new k more' f) =
      in_group p q h k more (le_or (get_or places p 0) (get_or places q 0)) more'
  together_left p q p_in q_in some same (is_kept _ _ e) d = absurd (let bad : ⊥ = omega (arith, e, some) in bad)
  together_left p q p_in q_in some same (is_old a e) (is_kept _ _ f) = absurd (let bad : ⊥ = omega (arith, f, same, some) in bad)
  together_left p q p_in q_in some same (is_new h more e) (is_kept _ _ f) = absurd (let bad : ⊥ = omega (arith, f, same, some) in bad)

  at_most_left : (p : ℕ) → p < n → Case p → get_or numbers' p 0 ≤ count + 1
  at_most_left p p_in (is_old a e) = let g = w.at_most p p_in in omega (arith, g, e)
  at_most_left p p_in (is_new h more e) = omega (arith, e)
  at_most_left p p_in (is_kept _ _ e) = omega (arith, e)

  settled_left : (p : ℕ) → p < n → 0 < get_or numbers' p 0 → Case p → get_or ends p 0 ≡ 0
  settled_left p p_in some (is_old a e) = w.settled p p_in a
  settled_left p p_in some (is_new h more e) = settled_new p h more
  settled_left p p_in some (is_kept _ _ e) = absurd (let bad : ⊥ = omega (arith, e, some) in bad)

  some_left : 0 < length (take start open') → (0 < length starts) ⊎ (length starts ≡ 0) → 0 < length starts
  some_left h (inl some) = some
  some_left h (inr none) =
      absurd (
      let a = w.first_start (omega (arith, count_starts)) in
      let b = ap (λ (i : ℕ). get_or (starts ++ start ∷ []) i 0) none in
      let bad : ⊥ = omega (arith, a, b, last_start, h, size_taken) in bad)

  pub group_closed : ((p : ℕ) → p < length arrows → (arrow_at arrows p).from < n)
      → Grouping arrows n m ends places (take start open') starts pending numbers' (count + 1)
  group_closed from_in = record {
    ends_are = w.ends_are;
    places_are = w.places_are;
    numbers_are = s.length_is ∙ w.numbers_are;
    end_in = w.end_in;
    end_own = w.end_own;
    started = w.started;
    hidden = λ p h none. number_old p (λ o _. (let g = o.placed in omega (arith, g, none))) ∙ w.hidden p h none;
    fresh = w.fresh;
    listed = listed_left;
    are_open = open_left;
    some_start = λ h. some_left h (some_or (length starts));
    first_start = λ h. sym (old_start 0 h) ∙ w.first_start (omega (arith, count_starts));
    start_in = λ j h. (let g = below_start j h in omega (arith, g, size_taken));
    rising_starts = λ i j lt h. (let e = old_start i (omega (arith, lt, h)) in let f = old_start j h in let g =
        w.rising_starts i j lt (omega (arith, h, count_starts)) in omega (arith, e, f, g));
    forward = λ p q h k le. w.forward p q (was p h).0 (was q k).0 le;
    back = back_left;
    passed = λ k h past. passed_left (arrow_at arrows k).from (arrow_at arrows k).to (from_in k h) (to_in k h) (w.passed k h past)
        (case_of (arrow_at arrows k).from (from_in k h));
    pending_in = λ j h. (let g = low j h in omega (arith, g, size_taken));
    rising_pending = w.rising_pending;
    waiting = λ p h more. w.waiting p (was p h).0 more;
    at_most = λ p h. at_most_left p h (case_of p h);
    together = λ p q h k some same. together_left p q h k some same (case_of p h) (case_of q k);
    settled = λ p h some. settled_left p h some (case_of p h);
    room = (let g = w.room in sums count (length starts) (length (starts ++ start ∷ [])) (sum_by unseen places) n g count_starts);
  }
    where
      some_or : (a : ℕ) → (0 < a) ⊎ (a ≡ 0)
      some_or a = grind arith

      sums : (c t t' s n : ℕ) → c + t' + s ≤ n → t' ≡ t + 1 → c + 1 + t + s ≤ n
      sums c t t' s n h e = omega arith

-- All is done.

module _ (arrows : List Arrow) (n : ℕ) (ends places open' starts pending numbers : List ℕ) (count : ℕ)
    (w : Grouping arrows n n ends places open' starts pending numbers count) (none : length open' ≡ 0)
    (from_in : (k : ℕ) → k < length arrows → (arrow_at arrows k).from < n) where
  numbered_all : (p : ℕ) → p < n → 0 < get_or numbers p 0
  numbered_all p h = go (no_or (get_or numbers p 0))
    where
      go : (get_or numbers p 0 ≡ 0) ⊎ (0 < get_or numbers p 0) → 0 < get_or numbers p 0
      go (inr some) = some
      go (inl zero') = absurd (
          let placed = w.started p h in
          let g = (w.listed p (record { inside = h; unnumbered = zero'; placed = placed })).0 in let bad : ⊥ = omega (arith, g, none, placed) in bad)

  falls_once : (p q : ℕ) → Leads arrows p q → get_or numbers q 0 ≤ get_or numbers p 0
  falls_once p q l =
      let k_from = from_in l.place l.inside in
      let some = numbered_all (arrow_at arrows l.place).from k_from in
      let zero' = w.settled (arrow_at arrows l.place).from k_from some in
      let g = ((w.passed l.place l.inside (omega (arith, zero'))).numbered some).1 in
      let a = ap (λ (x : ℕ). get_or numbers x 0) l.from in let b = ap (λ (x : ℕ). get_or numbers x 0) l.to in
      omega (arith, g, a, b)

  falls_along : (i p q : ℕ) → ReachesIn arrows i p q → get_or numbers q 0 ≤ get_or numbers p 0
  falls_along zero p q l = falls_once p q l
  falls_along (suc i) p q c = let a = falls_once p c.0 c.1 in let b = falls_along i c.0 q c.2 in omega (arith, a, b)

  falls_on : (p q : ℕ) → LeadsOn arrows p q → get_or numbers q 0 ≤ get_or numbers p 0
  falls_on p q (inl e) = let f = ap (λ (x : ℕ). get_or numbers x 0) e in omega (arith, f)
  falls_on p q (inr c) = falls_along c.0 p q c.1

  pub all_numbered : AreComponents arrows n numbers
  all_numbered = record {
    length_is = w.numbers_are;
    exact = λ p q h k. (
      (λ same. (w.together p q h k (numbered_all p h) same, w.together q p k h (numbered_all q k) (sym same))),
      (λ both. (let a = falls_on p q both.0 in let b = falls_on q p both.1 in omega (arith, a, b))),
    );
  }

-- The same at the values that the code reads.

pub record Cutting (old new : List ℕ) (place : ℕ) : Type 0 where
  pub some : 0 < length new
  pub fewer : length new ≤ length old
  pub kept : (j : ℕ) → j < length new → get_or new j 0 ≡ get_or old j 0
  pub behind : (j : ℕ) → length new ≤ j → j < length old → place < get_or old j 0

-- the nodes of a range have the number
pub record NumberedTo (old new nodes : List ℕ) (from to number : ℕ) : Type 0 where
  pub length_is : length new ≡ length old
  pub here : (i : ℕ) → from ≤ i → i < to → get_or new (get_or nodes i 0) 0 ≡ number
  pub others : (p : ℕ) → ((i : ℕ) → from ≤ i → i < to → get_or nodes i 0 ≡ p → ⊥) → get_or new p 0 ≡ get_or old p 0

abbrev zeros : ℕ → List ℕ
zeros n = replicate n 0

length-zeros : (n : ℕ) → length (zeros n) ≡ n
length-zeros n = let zero' : ℕ = 0 in length-replicate n zero'

-- nothing was seen
pub fresh_walk : (arrows : List Arrow) (ends0 before : List ℕ) → AreLinked arrows ends0 before → (ends places numbers : List ℕ) (n : ℕ)
    → n ≡ length ends0 → ends ≡ ends0
    → places ≡ zeros n → numbers ≡ zeros n → Grouping arrows (length ends0) 0 ends places [] [] [] numbers 0
fresh_walk arrows ends0 before l ends places numbers n n_is e f g = record {
  ends_are = ap (λ (xs : List ℕ). length xs) e;
  places_are = ap (λ (xs : List ℕ). length xs) f ∙ length-zeros n ∙ n_is;
  numbers_are = ap (λ (xs : List ℕ). length xs) g ∙ length-zeros n ∙ n_is;
  end_in = λ p h. (let a = at_end p in let b = l.end_in p h in omega (arith, a, b));
  end_own = λ p h some. ap (λ (x : ℕ). (arrow_at arrows (x - 1)).from) (at_end p) ∙ l.end_own p h (let a = at_end p in omega (arith, a, some));
  started = λ p h. absurd (let bad : ⊥ = omega (arith, h) in bad);
  hidden = λ p h _. zero_at numbers g p;
  fresh = λ p k h _ k_in past. l.end_gap p k h (let a = at_end p in omega (arith, a, past)) k_in;
  listed = λ p h. absurd (let a = h.placed in let b = zero_at places f p in let bad : ⊥ = omega (arith, a, b) in bad);
  are_open = λ i h. absurd (let bad : ⊥ = omega (arith, h) in bad);
  some_start = λ h. h;
  first_start = λ h. absurd (let bad : ⊥ = omega (arith, h) in bad);
  start_in = λ j h. absurd (let bad : ⊥ = omega (arith, h) in bad);
  rising_starts = λ i j lt h. absurd (let bad : ⊥ = omega (arith, h) in bad);
  forward = λ p q h k le. absurd (let a = h.placed in let b = zero_at places f p in let bad : ⊥ = omega (arith, a, b) in bad);
  back = λ p q h k le one. absurd (let a = h.placed in let b = zero_at places f p in let bad : ⊥ = omega (arith, a, b) in bad);
  passed = λ k h past. record {
    numbered = λ some. absurd (let b = zero_at numbers g (arrow_at arrows k).from in let bad : ⊥ = omega (arith, some, b) in bad);
    standing = λ _ some. absurd (let b = zero_at places f (arrow_at arrows k).from in let bad : ⊥ = omega (arith, some, b) in bad);
  };
  pending_in = λ j h. absurd (let bad : ⊥ = omega (arith, h) in bad);
  rising_pending = λ i j lt h. absurd (let bad : ⊥ = omega (arith, h) in bad);
  waiting = λ p h more. absurd (let a = h.placed in let b = zero_at places f p in let bad : ⊥ = omega (arith, a, b) in bad);
  at_most = λ p h. (let b = zero_at numbers g p in omega (arith, b));
  together = λ p q h k some same. absurd (let b = zero_at numbers g p in let bad : ⊥ = omega (arith, b, some) in bad);
  settled = λ p h some. absurd (let b = zero_at numbers g p in let bad : ⊥ = omega (arith, b, some) in bad);
  room =
      let a : sum_by unseen places ≡ n * 1 = ap (λ (xs : List ℕ). sum_by unseen xs) f ∙ sum_by-replicate unseen n 0 in
      omega (arith, a, n_is);
}
  where
    at_end : (p : ℕ) → get_or ends p 0 ≡ get_or ends0 p 0
    at_end p = ap (λ (xs : List ℕ). get_or xs p 0) e

    zero_at : (xs : List ℕ) → xs ≡ zeros n → (p : ℕ) → get_or xs p 0 ≡ 0
    zero_at xs s p = ap (λ (ys : List ℕ). get_or ys p 0) s ∙ go (less_or p n)
      where
        go : (p < n) ⊎ (n ≤ p) → get_or (zeros n) p 0 ≡ 0
        go (inl h) = get_or-replicate n p 0 0 h
        go (inr h) = get_or_past (zeros n) p 0 (let a = length-zeros n in omega (arith, a, h))

pub same_walk : (arrows : List Arrow) (n m : ℕ) (ends places open' starts pending numbers : List ℕ) (count : ℕ)
    (ends' places' open'' starts' pending' numbers' : List ℕ) (count' : ℕ)
    → ends' ≡ ends → places' ≡ places → open'' ≡ open' → starts' ≡ starts → pending' ≡ pending → numbers' ≡ numbers → count' ≡ count
    → Grouping arrows n m ends places open' starts pending numbers count → Grouping arrows n m ends' places' open'' starts' pending' numbers' count'
same_walk arrows n m ends places open' starts pending numbers count ends' places' open'' starts' pending' numbers' count' a b c d e f g w =
    subst (λ (x : ℕ). Grouping arrows n m ends' places' open'' starts' pending' numbers' x) (sym g)
    (subst (λ (x : List ℕ). Grouping arrows n m ends' places' open'' starts' pending' x count) (sym f)
    (subst (λ (x : List ℕ). Grouping arrows n m ends' places' open'' starts' x numbers count) (sym e)
    (subst (λ (x : List ℕ). Grouping arrows n m ends' places' open'' x pending numbers count) (sym d)
    (subst (λ (x : List ℕ). Grouping arrows n m ends' places' x starts pending numbers count) (sym c)
    (subst (λ (x : List ℕ). Grouping arrows n m ends' x open' starts pending numbers count) (sym b)
    (subst (λ (x : List ℕ). Grouping arrows n m x places open' starts pending numbers count) (sym a) w))))))

pub closed_at : (arrows : List Arrow) (ends0 before : List ℕ) → AreLinked arrows ends0 before → (m : ℕ) (old new : Walk) (start : ℕ)
    → IsWalk arrows (length ends0) m old
    → ((j : ℕ) → j < length old.pending.items → get_or old.pending.items j 0 < start) → old.starts.items ≡ new.starts.items ++ start ∷ []
    → new.open_nodes.items ≡ take start old.open_nodes.items
    → AreNumberedFrom old.numbers.items new.numbers.items old.open_nodes.items start (old.count + 1) → new.count ≡ old.count + 1
    → new.ends.items ≡ old.ends.items
    → new.places.items ≡ old.places.items → new.pending.items ≡ old.pending.items → IsWalk arrows (length ends0) m new
closed_at arrows ends0 before l m old new start w low e f s g a b d =
    same_walk arrows (length ends0) m _ _ _ _ _ _ _ _ _ _ _ _ _ _ a b f refl d refl g
    (group_closed arrows (length ends0) m old.ends.items old.places.items old.open_nodes.items new.starts.items old.pending.items old.numbers.items
    old.count start new.numbers.items
    (subst (λ (x : List ℕ). Grouping arrows (length ends0) m old.ends.items old.places.items old.open_nodes.items x old.pending.items
    old.numbers.items old.count) e w) l.to_in low s l.from_in)

-- the newest node that is pending, and its newest arrow
pub record IsNewest (arrows : List Arrow) (n : ℕ) (w : Walk) (node : ℕ) : Type 0 where
  pub is_open : IsOpen n w.places.items w.numbers.items node
  pub top : (j : ℕ) → j < length w.starts.items → get_or w.starts.items j 0 < get_or w.places.items node 0

pub newest : (arrows : List Arrow) (n m : ℕ) (w : Walk) (k start place node : ℕ) → IsWalk arrows n m w → 0 < length w.open_nodes.items
    → k ≡ length w.starts.items → start ≡ get_or w.starts.items (k - 1) start
    → start ≤ place → place < length w.open_nodes.items → node ≡ get_or w.open_nodes.items place node → IsNewest arrows n w node
newest arrows n m w k start place node v some len start_read le inside node_read = record {
  is_open = subst (λ (x : ℕ). IsOpen n w.places.items w.numbers.items x) node_is a.0;
  top = λ j h. top j h (same_or j (length w.starts.items - 1));
}
  where
    node_is : get_or w.open_nodes.items place 0 ≡ node
    node_is = read_nat w.open_nodes.items place node inside node_read

    a : IsOpen n w.places.items w.numbers.items (get_or w.open_nodes.items place 0)
        × (get_or w.places.items (get_or w.open_nodes.items place 0) 0 ≡ place + 1)
    a = v.are_open place inside

    placed : get_or w.places.items node 0 ≡ place + 1
    placed = ap (λ (x : ℕ). get_or w.places.items x 0) (sym node_is) ∙ a.1

    last : get_or w.starts.items (length w.starts.items - 1) 0 ≡ start
    last =
        ap (λ (i : ℕ). get_or w.starts.items i 0) (let e : length w.starts.items - 1 ≡ k - 1 = omega (arith, len) in e)
        ∙ read_nat w.starts.items (k - 1) start (let g = v.some_start some in omega (arith, g, len)) start_read

    top : (j : ℕ) → j < length w.starts.items → (j ≡ length w.starts.items - 1) ⊎ (j ≡ length w.starts.items - 1 → ⊥)
        → get_or w.starts.items j 0 < get_or w.places.items node 0
    top j h (inl e) = let f = ap (λ (i : ℕ). get_or w.starts.items i 0) e in omega (arith, f, last, le, placed)
    top j h (inr o) = let g = v.rising_starts j (length w.starts.items - 1) (omega (arith, o, h)) (omega (arith, h)) in
        omega (arith, g, last, le, placed)

-- the arrow before an end
pub record IsNext (arrows : List Arrow) (ends0 before : List ℕ) (ends : List ℕ) (node end next target : ℕ) : Type 0 where
  pub some : 0 < end
  pub end_is : get_or ends node 0 ≡ end
  pub next_is : get_or before (end - 1) 0 ≡ next
  pub target_is : (arrow_at arrows (end - 1)).to ≡ target
  pub target_in : target < length ends0
  pub leads : Leads arrows node target
  pub less : next < end

pub next_arrow : (arrows : List Arrow) (ends0 before : List ℕ) → AreLinked arrows ends0 before → (m : ℕ) (w : Walk) (node end next : ℕ) (a : Arrow)
    → IsWalk arrows (length ends0) m w → node < length ends0
    → end ≡ get_or w.ends.items node end → (end ≡ 0 → ⊥) → a ≡ get_or arrows (end - 1) a → next ≡ get_or before (end - 1) next
    → IsNext arrows ends0 before w.ends.items node end next a.to
next_arrow arrows ends0 before l m w node end next a v node_in end_read positive arrow_read next_read = record {
  some = omega (arith, positive);
  end_is = end_is;
  next_is = next_is;
  target_is = target_is;
  target_in = (let h = l.to_in (end - 1) inside in omega (arith, h, target_is));
  leads = record { place = end - 1; inside = inside; from = from; to = target_is };
  less = (let h = l.before_in (end - 1) inside in omega (arith, h, next_is, positive));
}
  where
    end_is : get_or w.ends.items node 0 ≡ end
    end_is = read_nat w.ends.items node end (let g = v.ends_are in omega (arith, g, node_in)) end_read

    inside : end - 1 < length arrows
    inside = let h = v.end_in node node_in in omega (arith, h, end_is, positive)

    next_is : get_or before (end - 1) 0 ≡ next
    next_is = read_nat before (end - 1) next (let g = l.same_length in omega (arith, g, inside)) next_read

    target_is : (arrow_at arrows (end - 1)).to ≡ a.to
    target_is = ap (λ (x : Arrow). x.to) (read_arrow arrows (end - 1) a inside arrow_read)

    from : (arrow_at arrows (end - 1)).from ≡ node
    from = ap (λ (x : ℕ). (arrow_at arrows (x - 1)).from) (sym end_is) ∙ v.end_own node node_in (omega (arith, end_is, positive))

pub next_inside : (arrows : List Arrow) (ends0 before : List ℕ) → AreLinked arrows ends0 before → (m : ℕ) (w : Walk) (node end : ℕ)
    → IsWalk arrows (length ends0) m w → node < length ends0
    → end ≡ get_or w.ends.items node end → (end ≡ 0 → ⊥) → end - 1 < length before
next_inside arrows ends0 before l m w node end v node_in end_read positive =
    let e = read_nat w.ends.items node end (let g = v.ends_are in omega (arith, g, node_in)) end_read in
    let h = v.end_in node node_in in let g = l.same_length in omega (arith, h, g, e, positive)

-- a node leads wherever the newest is led to from
to_top : (arrows : List Arrow) (n m : ℕ) (w : Walk) (node p : ℕ) → IsWalk arrows n m w → IsNewest arrows n w node
    → IsOpen n w.places.items w.numbers.items p → LeadsOn arrows p node
to_top arrows n m w node p v t h = go (less_or (get_or w.places.items node 0) (get_or w.places.items p 0))
  where
    go : (get_or w.places.items node 0 < get_or w.places.items p 0) ⊎ (get_or w.places.items p 0 ≤ get_or w.places.items node 0)
        → LeadsOn arrows p node
    go (inr le) = v.forward p node h t.is_open le
    go (inl less) = v.back node p t.is_open h (omega (arith, less)) (λ j j_in _. t.top j j_in)

-- what is known once it was seen where an arrow leads
record Looked (arrows : List Arrow) (n m : ℕ) (ends : List ℕ) (new : Walk) (node target : ℕ) : Type 0 where
  walk : Grouping arrows n m ends new.places.items new.open_nodes.items new.starts.items new.pending.items new.numbers.items new.count
  is_open : IsOpen n new.places.items new.numbers.items node
  follows : ComesBehind new.places.items new.starts.items new.numbers.items node target

same_open : (n : ℕ) (places numbers places' numbers' : List ℕ) (p : ℕ) → places' ≡ places → numbers' ≡ numbers → IsOpen n places numbers p
    → IsOpen n places' numbers' p
same_open n places numbers places' numbers' p a b h = record {
  inside = h.inside;
  unnumbered = ap (λ (xs : List ℕ). get_or xs p 0) b ∙ h.unnumbered;
  placed = (let e = ap (λ (xs : List ℕ). get_or xs p 0) a in let g = h.placed in omega (arith, e, g));
}

looked : (arrows : List Arrow) (n m : ℕ) (old new : Walk) (node target : ℕ) → IsWalk arrows n m old → IsNewest arrows n old node
    → Leads arrows node target → target < n → IsLookedAt old new target
    → Looked arrows n m old.ends.items new node target
looked arrows n m old new node target v t leads target_in (numbered some a b c d e f) = record {
  walk = same_walk arrows n m _ _ _ _ _ _ _ _ _ _ _ _ _ _ refl a b c d e f v;
  is_open = same_open n _ _ _ _ node a e t.is_open;
  follows = inl (let g = ap (λ (xs : List ℕ). get_or xs target 0) e in omega (arith, g, some));
}
looked arrows n m old new node target v t leads target_in (opened none a b c d e f) = record {
  walk =
      same_walk arrows n m _ _ _ _ _ _ _ _ _ _ _ _ _ _ refl a b c d e f
      (opened_group arrows n m old.ends.items old.places.items old.open_nodes.items old.starts.items old.pending.items old.numbers.items old.count
      target target_in none v ways);
  is_open = same_open n (set old.places.items target (length old.open_nodes.items + 1)) old.numbers.items _ _ node a e
      (still_open arrows n m old.ends.items old.places.items old.open_nodes.items old.starts.items old.pending.items old.numbers.items old.count
      target target_in none v ways node t.is_open);
  follows = inr (
    (let g = at_target in omega (arith, g)),
    λ j j_in _. low j (last_or j (length old.starts.items) (let g = ap (λ (xs : List ℕ). length xs) c in grind (arith, length-append, g, j_in))),
  );
}
  where
    ways : (p : ℕ) → IsOpen n old.places.items old.numbers.items p → LeadsOn arrows p target
    ways p h = then_on arrows p node target (to_top arrows n m old node p v t h) (one_on arrows node target leads)

    at_target : get_or new.places.items target 0 ≡ length old.open_nodes.items + 1
    at_target = ap (λ (xs : List ℕ). get_or xs target 0) a
        ∙ get_or-set_same old.places.items target (length old.open_nodes.items + 1) 0 (let g = v.places_are in omega (arith, g, target_in))

    low : (j : ℕ) → (j < length old.starts.items) ⊎ (j ≡ length old.starts.items) → get_or new.starts.items j 0 < get_or new.places.items target 0
    low j (inl h) =
        let g = ap (λ (xs : List ℕ). get_or xs j 0) c in let i = get_or-append old.starts.items (length old.open_nodes.items ∷ []) 0 j h in let k =
        v.start_in j h in omega (arith, g, i, k, at_target)
    low j (inr h) =
        let g = ap (λ (xs : List ℕ). get_or xs j 0) c in
        let i = ap (λ (x : ℕ). get_or (old.starts.items ++ length old.open_nodes.items ∷ []) x 0) h in
        let k = get_or-append_seam old.starts.items (length old.open_nodes.items) [] 0 in omega (arith, g, i, k, at_target)
looked arrows n m old new node target v t leads target_in (joined none some cut a b d e f) = record {
  walk =
      same_walk arrows n m _ _ _ _ _ _ _ _ _ _ _ _ _ _ refl a b refl d e f
      (joined_groups arrows n m old.ends.items old.places.items old.open_nodes.items old.starts.items old.pending.items old.numbers.items old.count
      new.starts.items node target v t.is_open target_open t.top
      (one_on arrows node target leads) cut);
  is_open = same_open n _ _ _ _ node a e t.is_open;
  follows = subst (λ (x : List ℕ). ComesBehind x new.starts.items new.numbers.items node target) (sym a)
      (subst (λ (x : List ℕ). ComesBehind old.places.items new.starts.items x node target) (sym e)
      (follows_joined arrows n m old.ends.items old.places.items old.open_nodes.items old.starts.items old.pending.items old.numbers.items old.count
      new.starts.items node target v t.is_open target_open t.top
      (one_on arrows node target leads) cut));
}
  where
    target_open : IsOpen n old.places.items old.numbers.items target
    target_open = record { inside = target_in; unnumbered = none; placed = some }

pub followed_at : (arrows : List Arrow) (ends0 before : List ℕ) → AreLinked arrows ends0 before → (m : ℕ) (old new : Walk) (node end next target : ℕ)
    → IsWalk arrows (length ends0) m old
    → IsNewest arrows (length ends0) old node → IsNext arrows ends0 before old.ends.items node end next target → IsLookedAt old new target
    → new.ends.items ≡ old.ends.items
    → Grouping arrows (length ends0) m (set new.ends.items node next) new.places.items new.open_nodes.items new.starts.items new.pending.items
    new.numbers.items new.count
followed_at arrows ends0 before l m old new node end next target v t a look e =
    let k = looked arrows (length ends0) m old new node target v t a.leads a.target_in look in
    subst (λ (xs : List ℕ). Grouping arrows (length ends0) m (set xs node next) new.places.items new.open_nodes.items new.starts.items
    new.pending.items new.numbers.items new.count) (sym e)
    (followed arrows ends0 before l m old.ends.items new.places.items new.open_nodes.items new.starts.items new.pending.items new.numbers.items
    new.count node end next k.walk k.is_open a.end_is a.some a.next_is
    (subst (λ (x : ℕ). ComesBehind new.places.items new.starts.items new.numbers.items node x) (sym a.target_is) k.follows))

-- What is left to do falls.

looked_work : (n : ℕ) (old new : Walk) (target : ℕ) → target < length old.places.items → IsLookedAt old new target
    → length new.pending.items + (length new.starts.items + 3 * sum_by unseen new.places.items) ≤ length old.pending.items +
    (length old.starts.items + 3 * sum_by unseen old.places.items)
looked_work n old new target target_in (numbered some a b c d e f) =
    let p = ap (λ (xs : List ℕ). length xs) d in let s = ap (λ (xs : List ℕ). length xs) c in let u = ap (λ (xs : List ℕ). sum_by unseen xs) a in
    omega (arith, p, s, u)
looked_work n old new target target_in (opened none a b c d e f) =
    let p = ap (λ (xs : List ℕ). length xs) d ∙ length-append old.pending.items (length old.open_nodes.items ∷ []) in
    let s = ap (λ (xs : List ℕ). length xs) c ∙ length-append old.starts.items (length old.open_nodes.items ∷ []) in
    let u = ap (λ (xs : List ℕ). sum_by unseen xs) a in
    let g = sum_by-set unseen old.places.items target (length old.open_nodes.items + 1) 0 target_in in
    let h : unseen (get_or old.places.items target 0) ≡ 1 = ap unseen none in
    let i : unseen (length old.open_nodes.items + 1) ≡ 0 = ap unseen (add-one (length old.open_nodes.items)) in
    omega (arith, p, s, u, g, h, i)
looked_work n old new target target_in (joined none some cut a b d e f) =
    let p = ap (λ (xs : List ℕ). length xs) d in let s = cut.fewer in let u = ap (λ (xs : List ℕ). sum_by unseen xs) a in omega (arith, p, s, u)

pub followed_work : (arrows : List Arrow) (ends0 before : List ℕ) (m : ℕ) (old new : Walk) (node end next target : ℕ)
    → IsWalk arrows (length ends0) m old → node < length ends0
    → IsNext arrows ends0 before old.ends.items node end next target → IsLookedAt old new target → new.ends.items ≡ old.ends.items
    → work_left (set new.ends.items node next) new.places.items new.starts.items new.pending.items < work_left old.ends.items old.places.items
    old.starts.items old.pending.items
followed_work arrows ends0 before m old new node end next target v node_in a look e =
    let s : sum_by (λ (x : ℕ). x) (set old.ends.items node next) + get_or old.ends.items node 0 ≡ sum_by (λ (x : ℕ). x) old.ends.items + next =
    sum-set old.ends.items node next (let g = v.ends_are in omega (arith, g, node_in)) in
    let same : sum_by (λ (x : ℕ). x) (set new.ends.items node next) ≡ sum_by (λ (x : ℕ). x) (set old.ends.items node next) =
    ap (λ (xs : List ℕ). sum_by (λ (x : ℕ). x) (set xs node next)) e in
    let more = looked_work (length ends0) old new target (let g = v.places_are in let h = a.target_in in omega (arith, g, h)) look in
    let less = a.less in let at = a.end_is in
    totals _ _ _ _ _ _ _ _ same s at less more
  where
    totals : (x x' y r r' old_end end' new_end : ℕ) → x ≡ x' → x' + old_end ≡ y + new_end → old_end ≡ end' → new_end < end' → r' ≤ r → x + r' < y + r
    totals x x' y r r' old_end end' new_end a b c d e = omega arith

pub taken_at_last : (arrows : List Arrow) (n m : ℕ) (old new : Walk) (r : Option ℕ) (place node end : ℕ) → IsWalk arrows n m old
    → 0 < length old.pending.items → get_or old.pending.items (length old.pending.items - 1) 0 ≡ place
    → node ≡ get_or old.open_nodes.items place node → end ≡ get_or old.ends.items node end → end ≡ 0 → (pending : List ℕ)
    → old.pending.items ≡ pending ++ option_to_list r → length pending + 1 ≡ length old.pending.items
    → Grouping arrows n m old.ends.items old.places.items old.open_nodes.items old.starts.items pending old.numbers.items old.count
taken_at_last arrows n m old new None place node end v some at node_read end_read none pending e shorter =
    absurd (let g = ap (λ (xs : List ℕ). length xs) e in let h = length-append pending [] in let bad : ⊥ = omega (arith, g, h, shorter) in bad)
taken_at_last arrows n m old new (Some x) place node end v some at node_read end_read none pending e shorter =
    taken arrows n m old.ends.items old.places.items old.open_nodes.items old.starts.items pending old.numbers.items old.count x
    (subst (λ (xs : List ℕ). Grouping arrows n m old.ends.items old.places.items old.open_nodes.items old.starts.items xs old.numbers.items old.count)
    e v)
    (subst (λ (y : ℕ). get_or old.ends.items (get_or old.open_nodes.items y 0) 0 ≡ 0) (sym same) zero_end)
  where
    same : x ≡ place
    same = sym (get_or-append_seam pending x [] 0) ∙ ap (λ (xs : List ℕ). get_or xs (length pending) 0) (sym e)
        ∙ ap (λ (i : ℕ). get_or old.pending.items i 0) (let g : length pending ≡ length old.pending.items - 1 = omega (arith, shorter) in g) ∙ at

    inside : place < length old.open_nodes.items
    inside = let g = v.pending_in (length old.pending.items - 1) (omega (arith, some)) in omega (arith, g, at)

    node_is : get_or old.open_nodes.items place 0 ≡ node
    node_is = read_nat old.open_nodes.items place node inside node_read

    zero_end : get_or old.ends.items (get_or old.open_nodes.items place 0) 0 ≡ 0
    zero_end =
        let a = (v.are_open place inside).0 in let node_in = a.inside in
        let size = v.ends_are in
        ap (λ (y : ℕ). get_or old.ends.items y 0) node_is
        ∙ read_nat old.ends.items node end (let f = node_is in omega (arith, size, node_in, f)) end_read ∙ none

-- the root
pub with_root : (arrows : List Arrow) (n m : ℕ) (w : Walk) → IsWalk arrows n m w → 0 < get_or w.places.items m 0 → IsWalk arrows n (m + 1) w
with_root arrows n m w v some = record {
  started = λ p h. started p (last_or p m h);
  ends_are = v.ends_are;
  places_are = v.places_are;
  numbers_are = v.numbers_are;
  end_in = v.end_in;
  end_own = v.end_own;
  hidden = v.hidden;
  fresh = v.fresh;
  listed = v.listed;
  are_open = v.are_open;
  some_start = v.some_start;
  first_start = v.first_start;
  start_in = v.start_in;
  rising_starts = v.rising_starts;
  forward = v.forward;
  back = v.back;
  passed = v.passed;
  pending_in = v.pending_in;
  rising_pending = v.rising_pending;
  waiting = v.waiting;
  at_most = v.at_most;
  together = v.together;
  settled = v.settled;
  room = v.room;
}
  where
    started : (p : ℕ) → (p < m) ⊎ (p ≡ m) → 0 < get_or w.places.items p 0
    started p (inl h) = v.started p h
    started p (inr e) = let f = ap (λ (x : ℕ). get_or w.places.items x 0) e in omega (arith, f, some)

pub rooted_walk : (arrows : List Arrow) (n m : ℕ) (old new : Walk) → m < n → IsWalk arrows n m old → length old.open_nodes.items ≡ 0
    → get_or old.places.items m 0 ≡ 0
    → new.places.items ≡ set old.places.items m (length old.open_nodes.items + 1) → new.open_nodes.items ≡ old.open_nodes.items ++ m ∷ []
    → new.starts.items ≡ old.starts.items ++ length old.open_nodes.items ∷ []
    → new.pending.items ≡ old.pending.items ++ length old.open_nodes.items ∷ [] → new.ends.items ≡ old.ends.items
    → new.numbers.items ≡ old.numbers.items → new.count ≡ old.count → IsWalk arrows n (m + 1) new
rooted_walk arrows n m old new m_in v idle none a b c d e f g =
    with_root arrows n m new
    (same_walk arrows n m _ _ _ _ _ _ _ _ _ _ _ _ _ _ e a b c d f g
    (opened_group arrows n m old.ends.items old.places.items old.open_nodes.items old.starts.items old.pending.items old.numbers.items old.count m
    m_in none v
    (λ p h. absurd (let k = (v.listed p h).0 in let l = h.placed in let bad : ⊥ = omega (arith, k, l, idle) in bad))))
    (let h = ap (λ (xs : List ℕ). get_or xs m 0) a
    ∙ get_or-set_same old.places.items m (length old.open_nodes.items + 1) 0 (let k = v.places_are in omega (arith, k, m_in)) in omega (arith, h))

pub read_zero : (xs : List ℕ) (i x : ℕ) → i < length xs → x ≡ get_or xs i x → x ≤ 0 → get_or xs i 0 ≡ 0
read_zero xs i x h e le = read_nat xs i x h e ∙ (let z : x ≡ 0 = omega (arith, le) in z)

pub low_in : (xs ys : List ℕ) (start : ℕ) → xs ≡ ys → ((j : ℕ) → j < length xs → get_or xs j 0 < start) → (j : ℕ) → j < length ys
    → get_or ys j 0 < start
low_in xs ys start e low = subst (λ (zs : List ℕ). (j : ℕ) → j < length zs → get_or zs j 0 < start) e low

-- what is pending last
pub record IsLast (pending : List ℕ) (start place : ℕ) : Type 0 where
  pub some : 0 < length pending
  pub from_start : start ≤ place
  pub here : get_or pending (length pending - 1) 0 ≡ place

pub last_in : (xs ys : List ℕ) (start place : ℕ) → xs ≡ ys → (0 < length xs) × (start ≤ place) × (get_or xs (length xs - 1) 0 ≡ place)
    → IsLast ys start place
last_in xs ys start place e h = subst (λ (zs : List ℕ). IsLast zs start place) e (record { some = h.0; from_start = h.1; here = h.2 })

pub place_inside : (arrows : List Arrow) (n m : ℕ) (w : Walk) (start place : ℕ) → IsWalk arrows n m w → IsLast w.pending.items start place
    → place < length w.open_nodes.items
place_inside arrows n m w start place v t =
    let some = t.some in let at = t.here in let g = v.pending_in (length w.pending.items - 1) (omega (arith, some)) in omega (arith, g, at)

pub numbered_walk : (arrows : List Arrow) (ends0 before : List ℕ) → AreLinked arrows ends0 before → (m : ℕ) (w : Walk) (n : ℕ) → n ≡ length ends0
    → length ends0 ≡ m → IsWalk arrows (length ends0) m w → length w.open_nodes.items ≡ 0
    → AreComponents arrows n w.numbers.items
numbered_walk arrows ends0 before l m w n n_is whole v idle =
    subst (λ (x : ℕ). AreComponents arrows x w.numbers.items) (sym n_is)
    (all_numbered arrows (length ends0) w.ends.items w.places.items w.open_nodes.items w.starts.items w.pending.items w.numbers.items w.count
    (subst (λ (x : ℕ). IsWalk arrows (length ends0) x w) (sym whole) v) idle l.from_in)
