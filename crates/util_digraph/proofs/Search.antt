-- The search that marks what is reached from some starts.
use Rattle.std.proofs.Common.{ℕ, zero, suc, ◌≡◌, ◌+◌, ◌-◌, ◌<◌, ◌≤◌, ◌⊎◌, inl, inr, Bool, true, false, cond, List, [], ◌∷◌, ◌++◌, length, get_or, set, take, replicate}
use Rattle.std.proofs.Common.{refl, sym, ◌∙◌, ap, subst, arith, rules, length-append, Option, Some, None}
use Rattle.std.specs.Prelude.{Contains, ◌==◌}
use Rattle.std.specs.Option.{option_to_list}
use Rattle.std.specs.List.{sum_by}
use Rattle.std.proofs.lemmas.List.{get_or-set_same, get_or-set_other, length-set, length-take, length-replicate}
use Rattle.std.proofs.lemmas.Grind.{get_or_default_zero}
use Rattle.std.proofs.lemmas.List.Elements.{Contains-get_or}
use Rattle.std.proofs.lemmas.List.Sums.{sum_by-set}
use Rattle.std.proofs.Math.ListN.{get_or-append}
use Rattle.std.proofs.Math.Seq.{get_or-append_seam}
use Rattle.util_digraph.specs.declared.graph.Arrow.{Arrow}
use Rattle.util_digraph.specs.Graph.{arrow_at, Leads, ReachesIn, Reaches, AreLinked, IsReachedFrom, ReachedMarked, Stands}
use Rattle.util_digraph.proofs.GraphLemmas.{same_or, last_or}

-- Chains of arrows.

pub reaches_then : (arrows : List Arrow) (n : ℕ) (p q r : ℕ) → ReachesIn arrows n p q → Leads arrows q r → Reaches arrows p r
reaches_then arrows zero p q r first last = (1, (q, first, last))
reaches_then arrows (suc n) p q r first last =
    let more = reaches_then arrows n first.0 q r first.2 last in (suc more.0, (first.0, first.1, more.1))

reached_on : (arrows : List Arrow) (starts : List ℕ) (p q : ℕ) → IsReachedFrom arrows starts p → Leads arrows p q → IsReachedFrom arrows starts q
reached_on arrows starts p q r l = record { start = r.start; is_start = r.is_start; leads = go r.leads }
  where
    go : (r.start ≡ p) ⊎ Reaches arrows r.start p → (r.start ≡ q) ⊎ Reaches arrows r.start q
    go (inl e) = inr (zero, subst (λ (x : ℕ). Leads arrows x q) (sym e) l)
    go (inr c) = inr (reaches_then arrows c.0 r.start p q c.1 l)

pub stands_more : (xs : List ℕ) (y p : ℕ) → Stands xs p → Stands (xs ++ y ∷ []) p
stands_more xs y p s = (s.0, grind (arith, length-append, s.1), get_or-append xs (y ∷ []) 0 s.0 s.1 ∙ s.2)

pub stands_last : (xs : List ℕ) (y : ℕ) → Stands (xs ++ y ∷ []) y
stands_last xs y = (length xs, grind (arith, length-append), get_or-append_seam xs y [] 0)

pub stands_cases : (xs : List ℕ) (y p : ℕ) → Stands (xs ++ y ∷ []) p → Stands xs p ⊎ (p ≡ y)
stands_cases xs y p s = go (last_or s.0 (length xs) (let h = s.1 in grind (arith, length-append, h)))
  where
    go : (s.0 < length xs) ⊎ (s.0 ≡ length xs) → Stands xs p ⊎ (p ≡ y)
    go (inl h) = inl (s.0, h, sym (get_or-append xs (y ∷ []) 0 s.0 h) ∙ s.2)
    go (inr e) = inr (sym s.2 ∙ ap (λ (i : ℕ). get_or (xs ++ y ∷ []) i 0) e ∙ get_or-append_seam xs y [] 0)

-- One more mark.

pub mark_here : (marks : List Bool) (q : ℕ) → get_or marks q false ≡ true → get_or (set marks q true) q false ≡ true
mark_here [] q h = absurd cc
mark_here (b ∷ bs) zero h = refl
mark_here (b ∷ bs) (suc q) h = mark_here bs q h

pub mark_stays : (marks : List Bool) (q p : ℕ) → get_or marks p false ≡ true → get_or (set marks q true) p false ≡ true
mark_stays marks q p h = go (same_or p q)
  where
    go : (p ≡ q) ⊎ (p ≡ q → ⊥) → get_or (set marks q true) p false ≡ true
    go (inl e) =
        subst (λ (x : ℕ). get_or (set marks q true) x false ≡ true) (sym e) (mark_here marks q (subst (λ (x : ℕ). get_or marks x false ≡ true) e h))
    go (inr o) = get_or-set_other marks q p true false o ∙ h

pub mark_again : (marks : List Bool) (q : ℕ) → get_or marks q false ≡ true → set marks q true ≡ marks
mark_again [] q h = refl
mark_again (b ∷ bs) zero h = ap (λ (x : Bool). x ∷ bs) (sym h)
mark_again (b ∷ bs) (suc q) h = ap (λ (x : List Bool). b ∷ x) (mark_again bs q h)

pub mark_cases : (marks : List Bool) (q p : ℕ) → get_or (set marks q true) p false ≡ true → (p ≡ q) ⊎ (get_or marks p false ≡ true)
mark_cases marks q p h = go (same_or p q)
  where
    go : (p ≡ q) ⊎ (p ≡ q → ⊥) → (p ≡ q) ⊎ (get_or marks p false ≡ true)
    go (inl e) = inl e
    go (inr o) = inr (sym (get_or-set_other marks q p true false o) ∙ h)

-- m starts are marked; arrows behind the ends lead from marked nodes to marked nodes, and marked
-- nodes with arrows before their end are pending
pub record Searching (arrows : List Arrow) (starts : List ℕ) (n m : ℕ) (marks : List Bool) (ends pending : List ℕ) : Type 0 where
  pub marks_are : length marks ≡ n
  pub ends_are : length ends ≡ n
  pub end_in : (p : ℕ) → p < n → get_or ends p 0 ≤ length arrows
  pub end_own : (p : ℕ) → p < n → 0 < get_or ends p 0 → (arrow_at arrows (get_or ends p 0 - 1)).from ≡ p
  pub open_in : (i : ℕ) → i < length pending → get_or pending i 0 < n
  pub open_marked : (i : ℕ) → i < length pending → get_or marks (get_or pending i 0) false ≡ true
  pub seen_from : (k : ℕ) → k < length arrows → get_or ends (arrow_at arrows k).from 0 ≤ k → get_or marks (arrow_at arrows k).from false ≡ true
  pub seen_to : (k : ℕ) → k < length arrows → get_or ends (arrow_at arrows k).from 0 ≤ k → get_or marks (arrow_at arrows k).to false ≡ true
  pub waiting : (p : ℕ) → p < n → get_or marks p false ≡ true → 0 < get_or ends p 0 → Stands pending p
  pub sound : (p : ℕ) → p < n → get_or marks p false ≡ true → IsReachedFrom arrows starts p
  pub started : (i : ℕ) → i < m → get_or marks (get_or starts i 0) false ≡ true

pub marked : (arrows : List Arrow) (starts : List ℕ) (n m : ℕ) (marks : List Bool) (ends pending : List ℕ) (q : ℕ) → q < n
    → IsReachedFrom arrows starts q
    → Searching arrows starts n m marks ends pending → Searching arrows starts n m (set marks q true) ends (pending ++ q ∷ [])
marked arrows starts n m marks ends pending q q_in r s = record {
  marks_are = length-set marks q true ∙ s.marks_are;
  ends_are = s.ends_are;
  end_in = s.end_in;
  end_own = s.end_own;
  open_in = λ i h. open_in i (last_or i (length pending) (grind (arith, length-append, h)));
  open_marked = λ i h. open_marked i (last_or i (length pending) (grind (arith, length-append, h)));
  seen_from = λ k h past. mark_stays marks q (arrow_at arrows k).from (s.seen_from k h past);
  seen_to = λ k h past. mark_stays marks q (arrow_at arrows k).to (s.seen_to k h past);
  waiting = λ p h mark more. waiting p h more (mark_cases marks q p mark);
  sound = λ p h mark. sound p h (mark_cases marks q p mark);
  started = λ i h. mark_stays marks q (get_or starts i 0) (s.started i h);
}
  where
    open_in : (i : ℕ) → (i < length pending) ⊎ (i ≡ length pending) → get_or (pending ++ q ∷ []) i 0 < n
    open_in i (inl h) = omega (arith, get_or-append pending (q ∷ []) 0 i h, s.open_in i h)
    open_in i (inr e) = omega (arith, ap (λ (j : ℕ). get_or (pending ++ q ∷ []) j 0) e, get_or-append_seam pending q [] 0, q_in)

    open_marked : (i : ℕ) → (i < length pending) ⊎ (i ≡ length pending) → get_or (set marks q true) (get_or (pending ++ q ∷ []) i 0) false ≡ true
    open_marked i (inl h) = ap (λ (x : ℕ). get_or (set marks q true) x false) (get_or-append pending (q ∷ []) 0 i h)
        ∙ mark_stays marks q (get_or pending i 0) (s.open_marked i h)
    open_marked i (inr e) =
        ap (λ (x : ℕ). get_or (set marks q true) x false) (ap (λ (j : ℕ). get_or (pending ++ q ∷ []) j 0) e ∙ get_or-append_seam pending q [] 0)
        ∙ get_or-set_same marks q true false (let l = s.marks_are in omega (arith, l, q_in))

    waiting : (p : ℕ) → p < n → 0 < get_or ends p 0 → (p ≡ q) ⊎ (get_or marks p false ≡ true) → Stands (pending ++ q ∷ []) p
    waiting p h more (inl e) = subst (λ (x : ℕ). Stands (pending ++ q ∷ []) x) (sym e) (stands_last pending q)
    waiting p h more (inr mark) = stands_more pending q p (s.waiting p h mark more)

    sound : (p : ℕ) → p < n → (p ≡ q) ⊎ (get_or marks p false ≡ true) → IsReachedFrom arrows starts p
    sound p h (inl e) = subst (λ (x : ℕ). IsReachedFrom arrows starts x) (sym e) r
    sound p h (inr mark) = s.sound p h mark

pub three : (k e : ℕ) → 0 < e → (k < e - 1) ⊎ ((k ≡ e - 1) ⊎ (e ≤ k))
three k e h = grind arith

pub marked_once : (arrows : List Arrow) (starts : List ℕ) (n m : ℕ) (marks : List Bool) (ends pending : List ℕ) (q : ℕ) → q < n
    → IsReachedFrom arrows starts q
    → Searching arrows starts n m marks ends pending
    → Searching arrows starts n m (set marks q true) ends (cond (get_or marks q false) pending (pending ++ q ∷ []))
marked_once arrows starts n m marks ends pending q q_in r s = go (get_or marks q false) refl
  where
    go : (b : Bool) → get_or marks q false ≡ b → Searching arrows starts n m (set marks q true) ends (cond b pending (pending ++ q ∷ []))
    go true e = subst (λ (x : List Bool). Searching arrows starts n m x ends pending) (sym (mark_again marks q e)) s
    go false e = marked arrows starts n m marks ends pending q q_in r s

-- goes on behind the newest arrow of a pending node that was not looked at, to a marked node
pub looked : (arrows : List Arrow) (ends0 before : List ℕ) → AreLinked arrows ends0 before
    → (starts : List ℕ) (m : ℕ) (marks : List Bool) (ends pending : List ℕ) (node : ℕ)
    → node < length ends0 → Stands pending node → get_or marks node false ≡ true → 0 < get_or ends node 0
    → get_or marks (arrow_at arrows (get_or ends node 0 - 1)).to false ≡ true
    → Searching arrows starts (length ends0) m marks ends pending
    → Searching arrows starts (length ends0) m marks (set ends node (get_or before (get_or ends node 0 - 1) 0)) pending
looked arrows ends0 before l starts m marks ends pending node node_in opened node_marked some to_marked s = record {
  marks_are = s.marks_are;
  ends_are = length-set ends node next ∙ s.ends_are;
  end_in = λ p h. end_in p h (same_or p node);
  end_own = λ p h more. end_own p h more (same_or p node);
  open_in = s.open_in;
  open_marked = s.open_marked;
  seen_from = λ k h past. seen_from k h past (same_or (arrow_at arrows k).from node);
  seen_to = λ k h past. seen_to k h past (same_or (arrow_at arrows k).from node);
  waiting = λ p h mark more. waiting p h mark more (same_or p node);
  sound = s.sound;
  started = s.started;
}
  where
    newest : ℕ
    newest = get_or ends node 0 - 1

    next : ℕ
    next = get_or before newest 0

    inside : newest < length arrows
    inside = let e = s.end_in node node_in in omega (arith, e, some)

    here : get_or (set ends node next) node 0 ≡ next
    here = get_or-set_same ends node next 0 (let e = s.ends_are in omega (arith, e, node_in))

    there : (p : ℕ) → (p ≡ node → ⊥) → get_or (set ends node next) p 0 ≡ get_or ends p 0
    there p o = get_or-set_other ends node p next 0 o

    at : (p : ℕ) → p ≡ node → get_or (set ends node next) p 0 ≡ next
    at p e = ap (λ (x : ℕ). get_or (set ends node next) x 0) e ∙ here

    own : (arrow_at arrows newest).from ≡ node
    own = s.end_own node node_in some

    end_in : (p : ℕ) → p < length ends0 → (p ≡ node) ⊎ (p ≡ node → ⊥) → get_or (set ends node next) p 0 ≤ length arrows
    end_in p h (inl e) = omega (arith, at p e, l.before_in newest inside, inside)
    end_in p h (inr o) = omega (arith, there p o, s.end_in p h)

    from_at : (i j : ℕ) → i ≡ j → (arrow_at arrows i).from ≡ (arrow_at arrows j).from
    from_at i j e = ap (λ (x : ℕ). (arrow_at arrows x).from) e

    end_own : (p : ℕ) → p < length ends0 → 0 < get_or (set ends node next) p 0 → (p ≡ node) ⊎ (p ≡ node → ⊥)
        → (arrow_at arrows (get_or (set ends node next) p 0 - 1)).from ≡ p
    end_own p h more (inl e) =
        from_at (get_or (set ends node next) p 0 - 1) (next - 1) (omega (arith, at p e)) ∙ l.before_own newest inside (omega (arith, at p e, more))
        ∙ own ∙ sym e
    end_own p h more (inr o) =
        from_at (get_or (set ends node next) p 0 - 1) (get_or ends p 0 - 1) (omega (arith, there p o))
        ∙ s.end_own p h (omega (arith, there p o, more))

    -- an arrow of the node behind the new end is the newest, or was looked at
    behind : (k : ℕ) → k < length arrows → get_or (set ends node next) (arrow_at arrows k).from 0 ≤ k → (arrow_at arrows k).from ≡ node
        → (k ≡ newest) ⊎ (get_or ends (arrow_at arrows k).from 0 ≤ k)
    behind k h past e = go (three k (get_or ends node 0) some)
      where
        go : (k < get_or ends node 0 - 1) ⊎ ((k ≡ get_or ends node 0 - 1) ⊎ (get_or ends node 0 ≤ k))
            → (k ≡ newest) ⊎ (get_or ends (arrow_at arrows k).from 0 ≤ k)
        go (inl less) = absurd (l.before_gap newest k inside (omega (arith, at (arrow_at arrows k).from e, past)) less (e ∙ sym own))
        go (inr (inl same)) = inl same
        go (inr (inr more)) = inr (omega (arith, ap (λ (x : ℕ). get_or ends x 0) e, more))

    seen_from : (k : ℕ) → k < length arrows → get_or (set ends node next) (arrow_at arrows k).from 0 ≤ k
        → ((arrow_at arrows k).from ≡ node) ⊎ ((arrow_at arrows k).from ≡ node → ⊥)
        → get_or marks (arrow_at arrows k).from false ≡ true
    seen_from k h past (inl e) = ap (λ (x : ℕ). get_or marks x false) e ∙ node_marked
    seen_from k h past (inr o) = s.seen_from k h (omega (arith, there (arrow_at arrows k).from o, past))

    seen_to : (k : ℕ) → k < length arrows → get_or (set ends node next) (arrow_at arrows k).from 0 ≤ k
        → ((arrow_at arrows k).from ≡ node) ⊎ ((arrow_at arrows k).from ≡ node → ⊥)
        → get_or marks (arrow_at arrows k).to false ≡ true
    seen_to k h past (inl e) = elim (behind k h past e) [
      | inl same ↦ ap (λ (x : ℕ). get_or marks (arrow_at arrows x).to false) same ∙ to_marked
      | inr old ↦ s.seen_to k h old
    ]
    seen_to k h past (inr o) = s.seen_to k h (omega (arith, there (arrow_at arrows k).from o, past))

    waiting : (p : ℕ) → p < length ends0 → get_or marks p false ≡ true → 0 < get_or (set ends node next) p 0 → (p ≡ node) ⊎ (p ≡ node → ⊥)
        → Stands pending p
    waiting p h mark more (inl e) = subst (λ (x : ℕ). Stands pending x) (sym e) opened
    waiting p h mark more (inr o) = s.waiting p h mark (omega (arith, there p o, more))

-- a pending node without arrows before its end is done
pub closed : (arrows : List Arrow) (starts : List ℕ) (n m : ℕ) (marks : List Bool) (ends pending : List ℕ) (node : ℕ) → get_or ends node 0 ≡ 0
    → Searching arrows starts n m marks ends (pending ++ node ∷ []) → Searching arrows starts n m marks ends pending
closed arrows starts n m marks ends pending node none s = record {
  marks_are = s.marks_are;
  ends_are = s.ends_are;
  end_in = s.end_in;
  end_own = s.end_own;
  open_in = λ i h. (let w = s.open_in i (grind (arith, length-append, h)) in omega (arith, w, get_or-append pending (node ∷ []) 0 i h));
  open_marked = λ i h. ap (λ (x : ℕ). get_or marks x false) (sym (get_or-append pending (node ∷ []) 0 i h))
      ∙ s.open_marked i (grind (arith, length-append, h));
  seen_from = s.seen_from;
  seen_to = s.seen_to;
  waiting = λ p h mark more. waiting p more (stands_cases pending node p (s.waiting p h mark more));
  sound = s.sound;
  started = s.started;
}
  where
    waiting : (p : ℕ) → 0 < get_or ends p 0 → Stands pending p ⊎ (p ≡ node) → Stands pending p
    waiting p more (inl h) = h
    waiting p more (inr e) = absurd (let f = ap (λ (x : ℕ). get_or ends x 0) e in omega (arith, f, none, more))

-- What is left to do: a pending node is to be closed, an unmarked one to be opened and closed, and
-- arrows before the ends are to be looked at.
abbrev pub weight : Bool → ℕ
weight marked' = cond marked' 0 2

abbrev pub work : List Bool → List ℕ → List ℕ → ℕ
work marks ends pending = length pending + sum_by weight marks + sum_by (λ x. x) ends

pub unmarked : (n p : ℕ) → get_or (replicate n false) p false ≡ false
unmarked zero p = refl
unmarked (suc n) zero = refl
unmarked (suc n) (suc p) = unmarked n p

-- nothing is marked yet
pub begun : (arrows : List Arrow) (ends0 before : List ℕ) → AreLinked arrows ends0 before → (starts : List ℕ) (marks : List Bool)
    (ends pending : List ℕ) (n : ℕ) → n ≡ length ends0 → marks ≡ replicate n false → ends ≡ ends0 → pending ≡ []
    → Searching arrows starts (length ends0) 0 marks ends pending
begun arrows ends0 before l starts marks ends pending n n_is e f g =
    subst (λ (x : List ℕ). Searching arrows starts (length ends0) 0 marks ends x) (sym g)
    (subst (λ (x : List ℕ). Searching arrows starts (length ends0) 0 marks x []) (sym f)
    (subst (λ (x : List Bool). Searching arrows starts (length ends0) 0 x ends0 []) (sym e) record {
      marks_are = length-replicate n false ∙ n_is;
      ends_are = refl;
      end_in = l.end_in;
      end_own = l.end_own;
      open_in = λ i h. absurd (let bad : ⊥ = omega (arith, h) in bad);
      open_marked = λ i h. absurd (let bad : ⊥ = omega (arith, h) in bad);
      seen_from = λ k h past. absurd (l.end_gap (arrow_at arrows k).from k (l.from_in k h) past h refl);
      seen_to = λ k h past. absurd (l.end_gap (arrow_at arrows k).from k (l.from_in k h) past h refl);
      waiting = λ p h mark more. absurd (let u = unmarked n p in let bad : ⊥ = cc in bad);
      sound = λ p h mark. absurd (let u = unmarked n p in let bad : ⊥ = cc in bad);
      started = λ i h. absurd (let bad : ⊥ = omega (arith, h) in bad);
    }))

-- nothing is pending: the marks are closed under arrows
pub all_marked : (arrows : List Arrow) (ends0 before : List ℕ) → AreLinked arrows ends0 before → (starts : List ℕ)
    → ((i : ℕ) → i < length starts → get_or starts i 0 < length ends0)
    → (marks : List Bool) (ends : List ℕ) → Searching arrows starts (length ends0) (length starts) marks ends []
    → ReachedMarked arrows starts (length ends0) marks
all_marked arrows ends0 before l starts starts_in marks ends s = record {
  length_is = s.marks_are;
  exact = λ p h. (s.sound p h, λ r. whole p r r.leads);
}
  where
    settled : (p : ℕ) → p < length ends0 → get_or marks p false ≡ true → get_or ends p 0 ≡ 0
    settled p h mark = go (same_or (get_or ends p 0) 0)
      where
        go : (get_or ends p 0 ≡ 0) ⊎ (get_or ends p 0 ≡ 0 → ⊥) → get_or ends p 0 ≡ 0
        go (inl e) = e
        go (inr o) = let w = s.waiting p h mark (omega (arith, o)) in absurd (let i = w.1 in omega (arith, i))

    step : (p q : ℕ) → Leads arrows p q → get_or marks p false ≡ true → get_or marks q false ≡ true
    step p q a mark =
        let p_in : p < length ends0 = (let f = l.from_in a.place a.inside in let e = a.from in omega (arith, f, e)) in
        let none : get_or ends (arrow_at arrows a.place).from 0 ≡ 0 = ap (λ (x : ℕ). get_or ends x 0) a.from ∙ settled p p_in mark in
        ap (λ (x : ℕ). get_or marks x false) (sym a.to) ∙ s.seen_to a.place a.inside (omega (arith, none))

    along : (n p q : ℕ) → ReachesIn arrows n p q → get_or marks p false ≡ true → get_or marks q false ≡ true
    along zero p q a mark = step p q a mark
    along (suc n) p q c mark = along n c.0 q c.2 (step p c.0 c.1 mark)

    start_marked : (p : ℕ) → Contains starts p → get_or marks p false ≡ true
    start_marked p c = ap (λ (x : ℕ). get_or marks x false) (sym same) ∙ s.started c.0 c.1
      where
        same : get_or starts c.0 0 ≡ p
        same = sym (get_or_default_zero starts c.0 p c.1) ∙ c.2

    whole : (p : ℕ) (r : IsReachedFrom arrows starts p) → (r.start ≡ p) ⊎ Reaches arrows r.start p → get_or marks p false ≡ true
    whole p r (inl e) = ap (λ (x : ℕ). get_or marks x false) (sym e) ∙ start_marked r.start r.is_start
    whole p r (inr c) = along c.0 r.start p c.1 (start_marked r.start r.is_start)

-- The same at the values that the loop reads.

-- the newest pending node
pub record IsTop (pending : List ℕ) (node : ℕ) : Type 0 where
  pub some : 0 < length pending
  pub here : get_or pending (length pending - 1) 0 ≡ node

pub is_top : (pending : List ℕ) (k node : ℕ) → 0 < length pending → k ≡ length pending → node ≡ get_or pending (k - 1) node → IsTop pending node
is_top pending k node some e read =
    let less : length pending - 1 < length pending = omega (arith, some) in
    record {
      some = some;
      here = sym (get_or_default_zero pending (length pending - 1) node less)
          ∙ ap (λ (i : ℕ). get_or pending i node) (let f : length pending - 1 ≡ k - 1 = omega (arith, e) in f) ∙ sym read;
    }

top_stands : (pending : List ℕ) (node : ℕ) → IsTop pending node → Stands pending node
top_stands pending node t = (length pending - 1, (let s = t.some in omega (arith, s)), t.here)

stands_on : (b : Bool) (pending : List ℕ) (q p : ℕ) → Stands pending p → Stands (cond b pending (pending ++ q ∷ [])) p
stands_on true pending q p s = s
stands_on false pending q p s = stands_more pending q p s

pub read_nat : (xs : List ℕ) (i x : ℕ) → i < length xs → x ≡ get_or xs i x → get_or xs i 0 ≡ x
read_nat xs i x h e = sym (get_or_default_zero xs i x h) ∙ sym e

pub read_arrow : (arrows : List Arrow) (i : ℕ) (a : Arrow) → i < length arrows → a ≡ get_or arrows i a → arrow_at arrows i ≡ a
read_arrow [] i a h e = absurd (let bad : ⊥ = omega (arith, h) in bad)
read_arrow (b ∷ bs) zero a h e = sym e
read_arrow (b ∷ bs) (suc i) a h e = read_arrow bs i a (omega (arith, h)) e

-- one arrow is looked at
pub record IsLook (arrows : List Arrow) (ends0 before : List ℕ) (marks : List Bool) (ends pending : List ℕ) (node end next target : ℕ) : Type 0 where
  pub linked : AreLinked arrows ends0 before
  pub top : IsTop pending node
  pub node_in : node < length ends0
  pub end_is : get_or ends node 0 ≡ end
  pub some : 0 < end
  pub inside : end - 1 < length arrows
  pub next_is : get_or before (end - 1) 0 ≡ next
  pub target_is : (arrow_at arrows (end - 1)).to ≡ target

pub look : (arrows : List Arrow) (ends0 before : List ℕ) (starts : List ℕ) (m : ℕ) (marks : List Bool) (ends pending : List ℕ) (k node end next : ℕ)
    (a : Arrow)
    → AreLinked arrows ends0 before → Searching arrows starts (length ends0) m marks ends pending
    → 0 < length pending → k ≡ length pending → node ≡ get_or pending (k - 1) node → end ≡ get_or ends node end → (end ≡ 0 → ⊥)
    → a ≡ get_or arrows (end - 1) a → next ≡ get_or before (end - 1) next
    → IsLook arrows ends0 before marks ends pending node end next a.to
look arrows ends0 before starts m marks ends pending k node end next a l s some len node_read end_read positive arrow_read next_read =
    record {
      linked = l;
      top = top;
      node_in = node_in;
      end_is = end_is;
      some = omega (arith, positive);
      inside = inside;
      next_is = read_nat before (end - 1) next (let e = l.same_length in omega (arith, inside, e)) next_read;
      target_is = ap (λ (x : Arrow). x.to) (read_arrow arrows (end - 1) a inside arrow_read);
    }
  where
    top : IsTop pending node
    top = is_top pending k node some len node_read

    node_in : node < length ends0
    node_in = (let h = s.open_in (length pending - 1) (omega (arith, some)) in let e = top.here in omega (arith, h, e))

    end_is : get_or ends node 0 ≡ end
    end_is = read_nat ends node end (let e = s.ends_are in omega (arith, e, node_in)) end_read

    inside : end - 1 < length arrows
    inside = (let h = s.end_in node node_in in omega (arith, h, end_is, positive))

pub looked_at : (arrows : List Arrow) (ends0 before : List ℕ) (starts : List ℕ) (m : ℕ) (marks : List Bool) (ends pending : List ℕ)
    (node end next target : ℕ)
    → IsLook arrows ends0 before marks ends pending node end next target → Searching arrows starts (length ends0) m marks ends pending
    → (marks' : List Bool) (pending' : List ℕ) → marks' ≡ set marks target true
    → pending' ≡ cond (get_or marks target false) pending (pending ++ target ∷ [])
    → Searching arrows starts (length ends0) m marks' (set ends node next) pending'
looked_at arrows ends0 before starts m marks ends pending node end next target i s marks' pending' e f =
    let target_in : target < length ends0 = (let h = i.linked.to_in (end - 1) i.inside in let t = i.target_is in omega (arith, h, t)) in
    let node_marked : get_or marks node false ≡ true =
    ap (λ (x : ℕ). get_or marks x false) (sym i.top.here) ∙ s.open_marked (length pending - 1) (let h = i.top.some in omega (arith, h)) in
    let leads : Leads arrows node target = record {
      place = end - 1;
      inside = i.inside;
      from = ap (λ (x : ℕ). (arrow_at arrows (x - 1)).from) (sym i.end_is)
          ∙ s.end_own node i.node_in (let h = i.some in let g = i.end_is in omega (arith, h, g));
      to = i.target_is;
    } in
    let noted = marked_once arrows starts (length ends0) m marks ends pending target target_in
    (reached_on arrows starts node target (s.sound node i.node_in node_marked) leads) s in
    let target_marked : get_or (set marks target true) target false ≡ true =
    get_or-set_same marks target true false (let g = s.marks_are in omega (arith, g, target_in)) in
    let next_is : get_or before (get_or ends node 0 - 1) 0 ≡ next = ap (λ (x : ℕ). get_or before (x - 1) 0) i.end_is ∙ i.next_is in
    let to_is : (arrow_at arrows (get_or ends node 0 - 1)).to ≡ target = ap (λ (x : ℕ). (arrow_at arrows (x - 1)).to) i.end_is ∙ i.target_is in
    let done = looked arrows ends0 before i.linked starts m (set marks target true) ends
    (cond (get_or marks target false) pending (pending ++ target ∷ [])) node i.node_in
    (stands_on (get_or marks target false) pending target node (top_stands pending node i.top)) (mark_stays marks target node node_marked)
    (let h = i.some in let g = i.end_is in omega (arith, h, g)) (ap (λ (x : ℕ). get_or (set marks target true) x false) to_is
    ∙ target_marked) noted in
    subst (λ (x : List Bool). Searching arrows starts (length ends0) m x (set ends node next) pending') (sym e)
    (subst (λ (x : List ℕ). Searching arrows starts (length ends0) m (set marks target true) (set ends node next) x) (sym f)
    (subst (λ (x : ℕ). Searching arrows starts (length ends0) m (set marks target true) (set ends node x)
    (cond (get_or marks target false) pending (pending ++ target ∷ []))) next_is done))

pub sum-set : (xs : List ℕ) (i y : ℕ) → i < length xs → sum_by (λ x. x) (set xs i y) + get_or xs i 0 ≡ sum_by (λ x. x) xs + y
sum-set xs i y h = sum_by-set (λ (x : ℕ). x) xs i y 0 h

pub weight-set : (marks : List Bool) (q : ℕ) → q < length marks
    → sum_by weight (set marks q true) + weight (get_or marks q false) ≡ sum_by weight marks
weight-set marks q h = sum_by-set weight marks q true false h ∙ omega arith

noted_work : (b : Bool) (pending : List ℕ) (q : ℕ) → length (cond b pending (pending ++ q ∷ [])) ≤ length pending + weight b
noted_work true pending q = omega arith
noted_work false pending q = grind (arith, length-append)

pub work_falls : (arrows : List Arrow) (ends0 before : List ℕ) (starts : List ℕ) (m : ℕ) (marks : List Bool) (ends pending : List ℕ)
    (node end next target : ℕ)
    → IsLook arrows ends0 before marks ends pending node end next target → Searching arrows starts (length ends0) m marks ends pending
    → (marks' : List Bool) (pending' : List ℕ) → marks' ≡ set marks target true
    → pending' ≡ cond (get_or marks target false) pending (pending ++ target ∷ [])
    → work marks' (set ends node next) pending' < work marks ends pending
work_falls arrows ends0 before starts m marks ends pending node end next target i s marks' pending' e f =
    let target_in : target < length marks = (let h = i.linked.to_in (end - 1) i.inside in let t = i.target_is in let g = s.marks_are in
    omega (arith, h, t, g)) in
    let less : next < end = (let h = i.linked.before_in (end - 1) i.inside in let g = i.next_is in let p = i.some in omega (arith, h, g, p)) in
    let a : sum_by (λ x. x) (set ends node next) + get_or ends node 0 ≡ sum_by (λ x. x) ends + next =
    sum-set ends node next (let g = s.ends_are in let h = i.node_in in omega (arith, g, h)) in
    let b : sum_by weight marks' + weight (get_or marks target false) ≡ sum_by weight marks =
    ap (λ (x : List Bool). sum_by weight x + weight (get_or marks target false)) e ∙ weight-set marks target target_in in
    let d : length pending' ≤ length pending + weight (get_or marks target false) =
    (let g = ap length f in let h = noted_work (get_or marks target false) pending target in omega (arith, g, h)) in
    let k = i.end_is in
    totals (length pending') (sum_by weight marks') (sum_by (λ x. x) (set ends node next)) (length pending) (sum_by weight marks)
    (sum_by (λ x. x) ends) (weight (get_or marks target false)) next end (get_or ends node 0) k less a b d
  where
    totals : (p' w' t' p w t x new end' old : ℕ) → old ≡ end' → new < end' → t' + old ≡ t + new → w' + x ≡ w → p' ≤ p + x → p' + w' + t' < p + w + t
    totals p' w' t' p w t x new end' old same lower sum marks_sum longer = omega arith

-- a node without arrows before its end is taken off
pub closed_pop : (arrows : List Arrow) (starts : List ℕ) (n m : ℕ) (marks : List Bool) (ends pending pending' : List ℕ) (r : Option ℕ)
    (k node end : ℕ)
    → Searching arrows starts n m marks ends pending → 0 < length pending → k ≡ length pending → node ≡ get_or pending (k - 1) node
    → end ≡ get_or ends node end → end ≡ 0
    → pending ≡ pending' ++ option_to_list r → length pending' + 1 ≡ length pending → Searching arrows starts n m marks ends pending'
closed_pop arrows starts n m marks ends pending pending' None k node end s some len node_read end_read none e shorter =
    absurd (let g = ap length e in let h = length-append pending' [] in let bad : ⊥ = omega (arith, g, h, shorter) in bad)
closed_pop arrows starts n m marks ends pending pending' (Some v) k node end s some len node_read end_read none e shorter =
    closed arrows starts n m marks ends pending' v zero_end (subst (λ (x : List ℕ). Searching arrows starts n m marks ends x) e s)
  where
    top : IsTop pending node
    top = is_top pending k node some len node_read

    node_in : node < n
    node_in = (let h = s.open_in (length pending - 1) (omega (arith, some)) in let g = top.here in omega (arith, h, g))

    same : v ≡ node
    same = sym (get_or-append_seam pending' v [] 0) ∙ ap (λ (x : List ℕ). get_or x (length pending') 0) (sym e)
        ∙ ap (λ (i : ℕ). get_or pending i 0) (let f : length pending' ≡ length pending - 1 = omega (arith, shorter) in f) ∙ top.here

    zero_end : get_or ends v 0 ≡ 0
    zero_end = ap (λ (x : ℕ). get_or ends x 0) same ∙ read_nat ends node end (let g = s.ends_are in omega (arith, g, node_in)) end_read ∙ none

-- the newest pending node is a node
pub node_inside : (arrows : List Arrow) (starts : List ℕ) (n m : ℕ) (marks : List Bool) (ends pending : List ℕ) (k node : ℕ)
    → Searching arrows starts n m marks ends pending → 0 < length pending → k ≡ length pending → node ≡ get_or pending (k - 1) node → node < n
node_inside arrows starts n m marks ends pending k node s some len node_read =
    let h = s.open_in (length pending - 1) (omega (arith, some)) in
    let e = (is_top pending k node some len node_read).here in omega (arith, h, e)

pub is_some : (b : Bool) (n : ℕ) → b ≡ false → b ≡ (n == 0) → 0 < n
is_some b n e f = search rules

pub is_none : (b : Bool) (n : ℕ) → b ≡ true → b ≡ (n == 0) → n ≡ 0
is_none b n e f = search rules

pub one_shorter : (pending pending' : List ℕ) (n : ℕ) → n ≡ length pending → pending' ≡ take (n - 1) pending → 0 < length pending
    → length pending' + 1 ≡ length pending
one_shorter pending pending' n e f some =
    let g = ap length f in
    let h = length-take (n - 1) pending in omega (arith, e, g, h, some)

pub before_inside : (arrows : List Arrow) (ends0 before : List ℕ) (starts : List ℕ) (m : ℕ) (marks : List Bool) (ends pending : List ℕ)
    (k node end : ℕ)
    → AreLinked arrows ends0 before → Searching arrows starts (length ends0) m marks ends pending
    → 0 < length pending → k ≡ length pending → node ≡ get_or pending (k - 1) node → end ≡ get_or ends node end → (end ≡ 0 → ⊥)
    → end - 1 < length before
before_inside arrows ends0 before starts m marks ends pending k node end l s some len node_read end_read positive =
    let top = is_top pending k node some len node_read in
    let node_in : node < length ends0 = (let h = s.open_in (length pending - 1) (omega (arith, some)) in let e = top.here in omega (arith, h, e)) in
    let end_is : get_or ends node 0 ≡ end = read_nat ends node end (let e = s.ends_are in omega (arith, e, node_in)) end_read in
    let h = s.end_in node node_in in let g = l.same_length in omega (arith, h, end_is, positive, g)

-- what the arrow before the end leads to is a node
pub target_inside : (arrows : List Arrow) (ends0 before : List ℕ) (starts : List ℕ) (m : ℕ) (marks : List Bool) (ends pending : List ℕ)
    (k node end : ℕ) (a : Arrow)
    → AreLinked arrows ends0 before → Searching arrows starts (length ends0) m marks ends pending
    → 0 < length pending → k ≡ length pending → node ≡ get_or pending (k - 1) node → end ≡ get_or ends node end → (end ≡ 0 → ⊥)
    → a ≡ get_or arrows (end - 1) a → a.to < length ends0
target_inside arrows ends0 before starts m marks ends pending k node end a l s some len node_read end_read positive arrow_read =
    let in_before = before_inside arrows ends0 before starts m marks ends pending k node end l s some len node_read end_read positive in
    let inside : end - 1 < length arrows = (let e = l.same_length in omega (arith, in_before, e)) in
    let same : (arrow_at arrows (end - 1)).to ≡ a.to = ap (λ (x : Arrow). x.to) (read_arrow arrows (end - 1) a inside arrow_read) in
    let h = l.to_in (end - 1) inside in omega (arith, h, same)

-- one more start
pub started_more : (arrows : List Arrow) (starts : List ℕ) (n m : ℕ) (marks : List Bool) (ends pending : List ℕ) → m < length starts
    → get_or starts m 0 < n
    → Searching arrows starts n m marks ends pending → (marks' : List Bool) (pending' : List ℕ) → marks' ≡ set marks (get_or starts m 0) true
    → pending' ≡ cond (get_or marks (get_or starts m 0) false) pending (pending ++ get_or starts m 0 ∷ [])
    → Searching arrows starts n (m + 1) marks' ends pending'
started_more arrows starts n m marks ends pending inside start_in s marks' pending' e f =
    let is_start : IsReachedFrom arrows starts (get_or starts m 0) =
    record { start = get_or starts m 0; is_start = Contains-get_or starts m 0 inside; leads = inl refl } in
    let t = marked_once arrows starts n m marks ends pending (get_or starts m 0) start_in is_start s in
    let u = subst (λ (x : List Bool). Searching arrows starts n m x ends pending') (sym e)
    (subst (λ (x : List ℕ). Searching arrows starts n m (set marks (get_or starts m 0) true) ends x) (sym f) t) in
    more u (ap (λ (x : List Bool). get_or x (get_or starts m 0) false) e
    ∙ get_or-set_same marks (get_or starts m 0) true false (let g = s.marks_are in omega (arith, g, start_in)))
  where
    more : Searching arrows starts n m marks' ends pending' → get_or marks' (get_or starts m 0) false ≡ true
        → Searching arrows starts n (m + 1) marks' ends pending'
    more u last = record {
      marks_are = u.marks_are;
      ends_are = u.ends_are;
      end_in = u.end_in;
      end_own = u.end_own;
      open_in = u.open_in;
      open_marked = u.open_marked;
      seen_from = u.seen_from;
      seen_to = u.seen_to;
      waiting = u.waiting;
      sound = u.sound;
      started = λ i h. started i (last_or i m h);
    }
      where
        started : (i : ℕ) → (i < m) ⊎ (i ≡ m) → get_or marks' (get_or starts i 0) false ≡ true
        started i (inl h) = u.started i h
        started i (inr g) = ap (λ (x : ℕ). get_or marks' (get_or starts x 0) false) g ∙ last

pub all_marked_at : (arrows : List Arrow) (ends0 before : List ℕ) → AreLinked arrows ends0 before → (starts : List ℕ)
    → ((i : ℕ) → i < length starts → get_or starts i 0 < length ends0)
    → (marks : List Bool) (ends pending : List ℕ) (n : ℕ) → n ≡ length ends0 → length pending ≡ 0
    → Searching arrows starts (length ends0) (length starts) marks ends pending
    → ReachedMarked arrows starts n marks
all_marked_at arrows ends0 before l starts starts_in marks ends [] n e none s =
    subst (λ (x : ℕ). ReachedMarked arrows starts x marks) (sym e) (all_marked arrows ends0 before l starts starts_in marks ends s)
all_marked_at arrows ends0 before l starts starts_in marks ends (x ∷ pending) n e none s = absurd (let bad : ⊥ = omega (arith, none) in bad)
