-- The walk that lists each node behind all that it leads to.
use Rattle.std.proofs.Common.{ℕ, zero, suc, ◌≡◌, ◌+◌, ◌-◌, ◌<◌, ◌≤◌, ◌⊎◌, inl, inr, Bool, true, false, cond, List, [], ◌∷◌, ◌++◌, length, get_or, set, replicate}
use Rattle.std.proofs.Common.{refl, sym, ◌∙◌, ap, subst, arith, length-append, Option, Some, None}
use Rattle.std.specs.List.{sum_by}
use Rattle.std.specs.Option.{option_to_list}
use Rattle.std.proofs.lemmas.List.{get_or-set_same, get_or-set_other, length-set, length-replicate}
use Rattle.std.proofs.Math.ListN.{get_or-append}
use Rattle.std.proofs.Math.Seq.{get_or-append_seam}
use Rattle.util_digraph.specs.declared.graph.Arrow.{Arrow}
use Rattle.util_digraph.specs.Graph.{arrow_at, Leads, Reaches, AreLinked, Stands, IsCyclic, IsOrder}
use Rattle.util_digraph.specs.Walk.{Walking}
use Rattle.util_digraph.proofs.GraphLemmas.{same_or, last_or}
use Rattle.util_digraph.proofs.Search.{mark_stays, mark_cases, mark_again, stands_more, stands_last, stands_cases, three, weight, work, sum-set}
use Rattle.util_digraph.proofs.Search.{weight-set, IsTop, is_top, read_nat, read_arrow, unmarked}

not_both : (b : Bool) → b ≡ true → b ≡ false → ⊥
not_both b e f = absurd cc

-- a node that was not seen is put behind the way, if an arrow leads to it from its end
pub seen_more : (arrows : List Arrow) (n m : ℕ) (seen done : List Bool) (ends pending order : List ℕ) (q : ℕ) → q < n
    → (0 < length pending → Leads arrows (get_or pending (length pending - 1) 0) q)
    → Walking arrows n m seen done ends pending order → Walking arrows n m (set seen q true) done ends (pending ++ q ∷ []) order
seen_more arrows n m seen done ends pending order q q_in leads w = record {
  seen_are = length-set seen q true ∙ w.seen_are;
  done_are = w.done_are;
  ends_are = w.ends_are;
  end_in = w.end_in;
  end_own = w.end_own;
  pending_in = λ i h. pending_in i (last_or i (length pending) (grind (arith, length-append, h)));
  chain = λ i h. chain i (last_or (i + 1) (length pending) (grind (arith, length-append, h)));
  waiting = λ p h mark open'. waiting p h open' (mark_cases seen q p mark);
  passed = w.passed;
  started = λ p h. mark_stays seen q p (w.started p h);
  listed = w.listed;
  inside = w.inside;
  back = w.back;
}
  where
    old : (i : ℕ) → i < length pending → get_or (pending ++ q ∷ []) i 0 ≡ get_or pending i 0
    old i h = get_or-append pending (q ∷ []) 0 i h

    new : (i : ℕ) → i ≡ length pending → get_or (pending ++ q ∷ []) i 0 ≡ q
    new i e = ap (λ (j : ℕ). get_or (pending ++ q ∷ []) j 0) e ∙ get_or-append_seam pending q [] 0

    pending_in : (i : ℕ) → (i < length pending) ⊎ (i ≡ length pending) → get_or (pending ++ q ∷ []) i 0 < n
    pending_in i (inl h) = let e = old i h in let g = w.pending_in i h in omega (arith, e, g)
    pending_in i (inr e) = let g = new i e in omega (arith, g, q_in)

    from_to : (a b c d : ℕ) → a ≡ c → b ≡ d → Leads arrows c d → Leads arrows a b
    from_to a b c d e f l = record { place = l.place; inside = l.inside; from = l.from ∙ sym e; to = l.to ∙ sym f }

    chain : (i : ℕ) → (i + 1 < length pending) ⊎ (i + 1 ≡ length pending)
        → Leads arrows (get_or (pending ++ q ∷ []) i 0) (get_or (pending ++ q ∷ []) (i + 1) 0)
    chain i (inl h) = from_to _ _ _ _ (old i (omega (arith, h))) (old (i + 1) h) (w.chain i h)
    chain i (inr e) =
        from_to _ _ _ _ (old i (omega (arith, e)) ∙ ap (λ (j : ℕ). get_or pending j 0) (let f : i ≡ length pending - 1 = omega (arith, e) in f))
        (new (i + 1) e) (leads (omega (arith, e)))

    waiting : (p : ℕ) → p < n → get_or done p false ≡ false → (p ≡ q) ⊎ (get_or seen p false ≡ true) → Stands (pending ++ q ∷ []) p
    waiting p h undone (inl e) = subst (λ (x : ℕ). Stands (pending ++ q ∷ []) x) (sym e) (stands_last pending q)
    waiting p h undone (inr mark) = stands_more pending q p (w.waiting p h mark undone)

-- the newest arrow that was not followed leads to what is done
pub passed_on : (arrows : List Arrow) (ends0 before : List ℕ) (m : ℕ) (seen done : List Bool) (ends pending order : List ℕ) (node end next : ℕ)
    → AreLinked arrows ends0 before → node < length ends0 → get_or ends node 0 ≡ end → 0 < end → end - 1 < length arrows
    → get_or before (end - 1) 0 ≡ next
    → get_or done (arrow_at arrows (end - 1)).to false ≡ true
    → Walking arrows (length ends0) m seen done ends pending order → Walking arrows (length ends0) m seen done (set ends node next) pending order
passed_on arrows ends0 before m seen done ends pending order node end next l node_in end_is some inside next_is target_done w = record {
  seen_are = w.seen_are;
  done_are = w.done_are;
  ends_are = length-set ends node next ∙ w.ends_are;
  end_in = λ p h. end_in p h (same_or p node);
  end_own = λ p h more. end_own p h more (same_or p node);
  pending_in = w.pending_in;
  chain = w.chain;
  waiting = w.waiting;
  passed = λ k h past. passed k h past (same_or (arrow_at arrows k).from node);
  started = w.started;
  listed = w.listed;
  inside = w.inside;
  back = w.back;
}
  where
    at : (p : ℕ) → p ≡ node → get_or (set ends node next) p 0 ≡ next
    at p e = ap (λ (x : ℕ). get_or (set ends node next) x 0) e ∙ get_or-set_same ends node next 0 (let g = w.ends_are in omega (arith, g, node_in))

    there : (p : ℕ) → (p ≡ node → ⊥) → get_or (set ends node next) p 0 ≡ get_or ends p 0
    there p o = get_or-set_other ends node p next 0 o

    from_at : (i j : ℕ) → i ≡ j → (arrow_at arrows i).from ≡ (arrow_at arrows j).from
    from_at i j e = ap (λ (x : ℕ). (arrow_at arrows x).from) e

    own : (arrow_at arrows (end - 1)).from ≡ node
    own = from_at (end - 1) (get_or ends node 0 - 1) (omega (arith, end_is)) ∙ w.end_own node node_in (omega (arith, end_is, some))

    end_in : (p : ℕ) → p < length ends0 → (p ≡ node) ⊎ (p ≡ node → ⊥) → get_or (set ends node next) p 0 ≤ length arrows
    end_in p h (inl e) = let f = at p e in let g = l.before_in (end - 1) inside in omega (arith, f, g, next_is, inside)
    end_in p h (inr o) = let f = there p o in let g = w.end_in p h in omega (arith, f, g)

    end_own : (p : ℕ) → p < length ends0 → 0 < get_or (set ends node next) p 0 → (p ≡ node) ⊎ (p ≡ node → ⊥)
        → (arrow_at arrows (get_or (set ends node next) p 0 - 1)).from ≡ p
    end_own p h more (inl e) =
        let f = at p e in
        from_at (get_or (set ends node next) p 0 - 1) (get_or before (end - 1) 0 - 1) (omega (arith, f, next_is))
        ∙ l.before_own (end - 1) inside (omega (arith, f, next_is, more)) ∙ own ∙ sym e
    end_own p h more (inr o) =
        let f = there p o in from_at (get_or (set ends node next) p 0 - 1) (get_or ends p 0 - 1) (omega (arith, f))
        ∙ w.end_own p h (omega (arith, f, more))

    passed : (k : ℕ) → k < length arrows → get_or (set ends node next) (arrow_at arrows k).from 0 ≤ k
        → ((arrow_at arrows k).from ≡ node) ⊎ ((arrow_at arrows k).from ≡ node → ⊥)
        → get_or done (arrow_at arrows k).to false ≡ true
    passed k h past (inl e) = go (three k end some)
      where
        go : (k < end - 1) ⊎ ((k ≡ end - 1) ⊎ (end ≤ k)) → get_or done (arrow_at arrows k).to false ≡ true
        go (inl less) = absurd (let f = at (arrow_at arrows k).from e in
            l.before_gap (end - 1) k inside (omega (arith, f, next_is, past)) less (e ∙ sym own))
        go (inr (inl same)) = ap (λ (x : ℕ). get_or done (arrow_at arrows x).to false) same ∙ target_done
        go (inr (inr more)) = let f = ap (λ (x : ℕ). get_or ends x 0) e in w.passed k h (omega (arith, f, end_is, more))
    passed k h past (inr o) = let f = there (arrow_at arrows k).from o in w.passed k h (omega (arith, f, past))

-- the newest node is done, and is listed
pub finished : (arrows : List Arrow) (n m : ℕ) (seen done : List Bool) (ends pending order : List ℕ) (node : ℕ) → node < n → get_or ends node 0 ≡ 0
    → ((k : ℕ) → k < length arrows → (arrow_at arrows k).to < n)
    → Walking arrows n m seen done ends (pending ++ node ∷ []) order → Walking arrows n m seen (set done node true) ends pending (order ++ node ∷ [])
finished arrows n m seen done ends pending order node node_in none to_in w = record {
  seen_are = w.seen_are;
  done_are = length-set done node true ∙ w.done_are;
  ends_are = w.ends_are;
  end_in = w.end_in;
  end_own = w.end_own;
  pending_in = λ i h. (let e = kept i h in let g = w.pending_in i (longer i h) in omega (arith, e, g));
  chain = λ i h. from_to _ _ _ _ (kept i (omega (arith, h))) (kept (i + 1) h) (w.chain i (longer (i + 1) h));
  waiting = λ p h mark undone. waiting p h mark undone (same_or p node);
  passed = λ k h past. mark_stays done node (arrow_at arrows k).to (w.passed k h past);
  started = w.started;
  listed = λ p h mark. listed p h (mark_cases done node p mark);
  inside = λ j h. inside j (last_or j (length order) (grind (arith, length-append, h)));
  back = λ j k h k_in e. back j k k_in e (last_or j (length order) (grind (arith, length-append, h)));
}
  where
    longer : (i : ℕ) → i < length pending → i < length (pending ++ node ∷ [])
    longer i h = grind (arith, length-append)

    kept : (i : ℕ) → i < length pending → get_or (pending ++ node ∷ []) i 0 ≡ get_or pending i 0
    kept i h = get_or-append pending (node ∷ []) 0 i h

    from_to : (a b c d : ℕ) → c ≡ a → d ≡ b → Leads arrows c d → Leads arrows a b
    from_to a b c d e f l = record { place = l.place; inside = l.inside; from = l.from ∙ e; to = l.to ∙ f }

    waiting : (p : ℕ) → p < n → get_or seen p false ≡ true → get_or (set done node true) p false ≡ false → (p ≡ node) ⊎ (p ≡ node → ⊥)
        → Stands pending p
    waiting p h mark undone (inl e) =
        absurd (not_both (get_or (set done node true) p false)
        (ap (λ (x : ℕ). get_or (set done node true) x false) e
        ∙ get_or-set_same done node true false (let g = w.done_are in omega (arith, g, node_in))) undone)
    waiting p h mark undone (inr o) =
        elim (stands_cases pending node p (w.waiting p h mark (sym (get_or-set_other done node p true false o) ∙ undone))) [
          | inl s ↦ s
          | inr e ↦
              absurd (o e)
        ]

    old : (i : ℕ) → i < length order → get_or (order ++ node ∷ []) i 0 ≡ get_or order i 0
    old i h = get_or-append order (node ∷ []) 0 i h

    new : (i : ℕ) → i ≡ length order → get_or (order ++ node ∷ []) i 0 ≡ node
    new i e = ap (λ (j : ℕ). get_or (order ++ node ∷ []) j 0) e ∙ get_or-append_seam order node [] 0

    listed : (p : ℕ) → p < n → (p ≡ node) ⊎ (get_or done p false ≡ true) → Stands (order ++ node ∷ []) p
    listed p h (inl e) = subst (λ (x : ℕ). Stands (order ++ node ∷ []) x) (sym e) (stands_last order node)
    listed p h (inr mark) = stands_more order node p (w.listed p h mark)

    inside : (j : ℕ) → (j < length order) ⊎ (j ≡ length order) → get_or (order ++ node ∷ []) j 0 < n
    inside j (inl h) = let e = old j h in let g = w.inside j h in omega (arith, e, g)
    inside j (inr e) = let g = new j e in omega (arith, g, node_in)

    back : (j k : ℕ) → k < length arrows → (arrow_at arrows k).from ≡ get_or (order ++ node ∷ []) j 0 → (j < length order) ⊎ (j ≡ length order)
        → (i : ℕ) × (i < j) × (get_or (order ++ node ∷ []) i 0 ≡ (arrow_at arrows k).to)
    back j k k_in e (inl h) = let b = w.back j k h k_in (e ∙ old j h) in (b.0, b.1, old b.0 (let g = b.1 in omega (arith, g, h)) ∙ b.2)
    back j k k_in e (inr last) =
        let from_node : (arrow_at arrows k).from ≡ node = e ∙ new j last in
        let target_done = w.passed k k_in (let f = ap (λ (x : ℕ). get_or ends x 0) from_node in omega (arith, f, none)) in
        let s = w.listed (arrow_at arrows k).to (to_in k k_in) target_done in
        (s.0, (let g = s.1 in omega (arith, g, last)), old s.0 s.1 ∙ s.2)

-- an arrow that leads back onto the way closes a cycle
pub cyclic : (arrows : List Arrow) (pending : List ℕ)
    → ((i : ℕ) → i + 1 < length pending → Leads arrows (get_or pending i 0) (get_or pending (i + 1) 0))
    → (target : ℕ) → Stands pending target → Leads arrows (get_or pending (length pending - 1) 0) target → IsCyclic arrows
cyclic arrows pending chain target s last = (target, subst (λ (x : ℕ). Reaches arrows x target) s.2 (go (length pending - 1 - s.0) s.0 s.1 refl))
  where
    go : (d i : ℕ) → i < length pending → length pending - 1 - i ≡ d → Reaches arrows (get_or pending i 0) target
    go zero i h e =
        (zero, subst (λ (x : ℕ). Leads arrows (get_or pending x 0) target) (let f : length pending - 1 ≡ i = omega (arith, e, h) in f) last)
    go (suc d) i h e = let more = go d (i + 1) (omega (arith, e, h)) (omega (arith, e, h)) in
        (suc more.0, (get_or pending (i + 1) 0, chain i (omega (arith, e, h)), more.1))

-- nothing is pending, and all nodes were seen
-- nothing is seen yet
pub fresh_walking : (arrows : List Arrow) (ends0 before : List ℕ) → AreLinked arrows ends0 before → (seen done : List Bool)
    (ends pending order : List ℕ) (n : ℕ) → n ≡ length ends0 → seen ≡ replicate n false → done ≡ replicate n false → ends ≡ ends0 → pending ≡ []
    → order ≡ [] → Walking arrows (length ends0) 0 seen done ends pending order
fresh_walking arrows ends0 before l seen done ends pending order n n_is e f g h i =
    subst (λ (x : List ℕ). Walking arrows (length ends0) 0 seen done ends pending x) (sym i)
    (subst (λ (x : List ℕ). Walking arrows (length ends0) 0 seen done ends x []) (sym h)
    (subst (λ (x : List ℕ). Walking arrows (length ends0) 0 seen done x [] []) (sym g)
    (subst (λ (x : List Bool). Walking arrows (length ends0) 0 seen x ends0 [] []) (sym f)
    (subst (λ (x : List Bool). Walking arrows (length ends0) 0 x (replicate n false) ends0 [] []) (sym e) record {
      seen_are = length-replicate n false ∙ n_is;
      done_are = length-replicate n false ∙ n_is;
      ends_are = refl;
      end_in = l.end_in;
      end_own = l.end_own;
      pending_in = λ j k. absurd (let bad : ⊥ = omega (arith, k) in bad);
      chain = λ j k. absurd (let bad : ⊥ = omega (arith, k) in bad);
      waiting = λ p k mark _. absurd (let u = unmarked n p in let bad : ⊥ = cc in bad);
      passed = λ k k_in past. absurd (l.end_gap (arrow_at arrows k).from k (l.from_in k k_in) past k_in refl);
      started = λ p k. absurd (let bad : ⊥ = omega (arith, k) in bad);
      listed = λ p k mark. absurd (let u = unmarked n p in let bad : ⊥ = cc in bad);
      inside = λ j k. absurd (let bad : ⊥ = omega (arith, k) in bad);
      back = λ j k j_in. absurd (let bad : ⊥ = omega (arith, j_in) in bad);
    }))))

pub ordered : (arrows : List Arrow) (n m : ℕ) (seen done : List Bool) (ends pending order : List ℕ) → n ≤ m → pending ≡ []
    → Walking arrows n m seen done ends pending order → IsOrder arrows n order
ordered arrows n m seen done ends pending order whole idle w = record {
  inside = w.inside;
  all = λ p h. w.listed p h (is_done p h (get_or done p false) refl);
  back = w.back;
}
  where
    is_done : (p : ℕ) → p < n → (b : Bool) → get_or done p false ≡ b → get_or done p false ≡ true
    is_done p h true e = e
    is_done p h false e = let s = w.waiting p h (w.started p (omega (arith, h, whole))) e in
        absurd (let i = s.1 in let g = ap length idle in let bad : ⊥ = omega (arith, i, g) in bad)

-- The same at the values that the loop reads.

read_bool : (xs : List Bool) (i : ℕ) (b : Bool) → i < length xs → b ≡ get_or xs i b → get_or xs i false ≡ b
read_bool [] i b h e = absurd (let bad : ⊥ = omega (arith, h) in bad)
read_bool (x ∷ xs) zero b h e = sym e
read_bool (x ∷ xs) (suc i) b h e = read_bool xs i b (omega (arith, h)) e

-- the newest pending node, and up to which end its arrows are still to be followed
pub record IsNode (n : ℕ) (ends pending : List ℕ) (node end : ℕ) : Type 0 where
  pub top : IsTop pending node
  pub node_in : node < n
  pub end_is : get_or ends node 0 ≡ end

pub newest_node : (arrows : List Arrow) (n m : ℕ) (seen done : List Bool) (ends pending order : List ℕ) (k node end : ℕ)
    → Walking arrows n m seen done ends pending order
    → 0 < length pending → k ≡ length pending → node ≡ get_or pending (k - 1) node → end ≡ get_or ends node end → IsNode n ends pending node end
newest_node arrows n m seen done ends pending order k node end w some len node_read end_read =
    record { top = top; node_in = node_in; end_is = read_nat ends node end (let g = w.ends_are in omega (arith, g, node_in)) end_read }
  where
    top : IsTop pending node
    top = is_top pending k node some len node_read

    node_in : node < n
    node_in = (let h = w.pending_in (length pending - 1) (omega (arith, some)) in let e = top.here in omega (arith, h, e))

-- the newest of its arrows that is still to be followed
pub record IsArrow (arrows : List Arrow) (ends0 : List ℕ) (node end target : ℕ) : Type 0 where
  pub some : 0 < end
  pub inside : end - 1 < length arrows
  pub target_is : (arrow_at arrows (end - 1)).to ≡ target
  pub target_in : target < length ends0
  pub leads : Leads arrows node target

pub newest_arrow : (arrows : List Arrow) (ends0 before : List ℕ) (m : ℕ) (seen done : List Bool) (ends pending order : List ℕ) (node end : ℕ)
    (a : Arrow) → AreLinked arrows ends0 before
    → Walking arrows (length ends0) m seen done ends pending order → IsNode (length ends0) ends pending node end → (end ≡ 0 → ⊥)
    → a ≡ get_or arrows (end - 1) a
    → IsArrow arrows ends0 node end a.to
newest_arrow arrows ends0 before m seen done ends pending order node end a l w t positive read =
    record {
      some = omega (arith, positive);
      inside = inside;
      target_is = target_is;
      target_in = (let h = l.to_in (end - 1) inside in omega (arith, h, target_is));
      leads = record { place = end - 1; inside = inside; from = from; to = target_is };
    }
  where
    inside : end - 1 < length arrows
    inside = let h = w.end_in node t.node_in in let e = t.end_is in omega (arith, h, e, positive)

    target_is : (arrow_at arrows (end - 1)).to ≡ a.to
    target_is = ap (λ (x : Arrow). x.to) (read_arrow arrows (end - 1) a inside read)

    from : (arrow_at arrows (end - 1)).from ≡ node
    from = ap (λ (x : ℕ). (arrow_at arrows (x - 1)).from) (sym t.end_is) ∙ w.end_own node t.node_in (let e = t.end_is in omega (arith, e, positive))

pub inside_before : (arrows : List Arrow) (ends0 before : List ℕ) (node end target : ℕ) → AreLinked arrows ends0 before
    → IsArrow arrows ends0 node end target → end - 1 < length before
inside_before arrows ends0 before node end target l a = let h = a.inside in let e = l.same_length in omega (arith, h, e)

pub passed_at : (arrows : List Arrow) (ends0 before : List ℕ) (m : ℕ) (seen done : List Bool) (ends pending order : List ℕ) (node end next target : ℕ)
    (b : Bool)
    → AreLinked arrows ends0 before → Walking arrows (length ends0) m seen done ends pending order → IsNode (length ends0) ends pending node end
    → IsArrow arrows ends0 node end target
    → b ≡ get_or done target b → b ≡ true → next ≡ get_or before (end - 1) next
    → Walking arrows (length ends0) m seen done (set ends node next) pending order
passed_at arrows ends0 before m seen done ends pending order node end next target b l w t a read is_true next_read =
    passed_on arrows ends0 before m seen done ends pending order node end next l t.node_in t.end_is a.some a.inside
    (read_nat before (end - 1) next (inside_before arrows ends0 before node end target l a) next_read)
    (ap (λ (x : ℕ). get_or done x false) a.target_is ∙ read_bool done target b (let h = a.target_in in let g = w.done_are in omega (arith, h, g)) read
    ∙ is_true) w

pub passed_work : (arrows : List Arrow) (ends0 before : List ℕ) (m : ℕ) (seen done : List Bool) (ends pending order : List ℕ)
    (node end next target : ℕ)
    → AreLinked arrows ends0 before → Walking arrows (length ends0) m seen done ends pending order → IsNode (length ends0) ends pending node end
    → IsArrow arrows ends0 node end target
    → next ≡ get_or before (end - 1) next → work seen (set ends node next) pending < work seen ends pending
passed_work arrows ends0 before m seen done ends pending order node end next target l w t a next_read =
    let less : next < end = (let h = l.before_in (end - 1) a.inside in let g =
    read_nat before (end - 1) next (inside_before arrows ends0 before node end target l a) next_read in let p = a.some in
    omega (arith, h, g, p)) in
    let sum = sum-set ends node next (let g = w.ends_are in let h = t.node_in in omega (arith, g, h)) in
    totals (length pending) (sum_by weight seen) (sum_by (λ (x : ℕ). x) (set ends node next)) (sum_by (λ (x : ℕ). x) ends) next end
    (get_or ends node 0) t.end_is less sum
  where
    totals : (p w t' t new end' old : ℕ) → old ≡ end' → new < end' → t' + old ≡ t + new → p + w + t' < p + w + t
    totals p w t' t new end' old same lower total = omega arith

pub cyclic_at : (arrows : List Arrow) (ends0 : List ℕ) (m : ℕ) (seen done : List Bool) (ends pending order : List ℕ) (node end target : ℕ)
    (b d : Bool)
    → Walking arrows (length ends0) m seen done ends pending order → IsNode (length ends0) ends pending node end
    → IsArrow arrows ends0 node end target
    → d ≡ get_or done target d → d ≡ false → b ≡ get_or seen target b → b ≡ true → IsCyclic arrows
cyclic_at arrows ends0 m seen done ends pending order node end target b d w t a done_read is_false seen_read is_true =
    cyclic arrows pending w.chain target
    (w.waiting target a.target_in (read_bool seen target b (let h = a.target_in in let g = w.seen_are in omega (arith, h, g)) seen_read ∙ is_true)
    (read_bool done target d (let h = a.target_in in let g = w.done_are in omega (arith, h, g)) done_read ∙ is_false))
    (subst (λ (x : ℕ). Leads arrows x target) (sym t.top.here) a.leads)

pub seen_at : (arrows : List Arrow) (ends0 : List ℕ) (m : ℕ) (seen done : List Bool) (ends pending order : List ℕ) (node end target : ℕ)
    → Walking arrows (length ends0) m seen done ends pending order → IsNode (length ends0) ends pending node end
    → IsArrow arrows ends0 node end target
    → (pending' : List ℕ) → pending' ≡ pending ++ target ∷ [] → Walking arrows (length ends0) m (set seen target true) done ends pending' order
seen_at arrows ends0 m seen done ends pending order node end target w t a pending' e =
    subst (λ (x : List ℕ). Walking arrows (length ends0) m (set seen target true) done ends x order) (sym e)
    (seen_more arrows (length ends0) m seen done ends pending order target a.target_in
    (λ h. subst (λ (x : ℕ). Leads arrows x target) (sym t.top.here) a.leads) w)

pub seen_work : (arrows : List Arrow) (ends0 : List ℕ) (m : ℕ) (seen done : List Bool) (ends pending order : List ℕ) (node end target : ℕ) (b : Bool)
    → Walking arrows (length ends0) m seen done ends pending order → IsArrow arrows ends0 node end target → b ≡ get_or seen target b → b ≡ false
    → (pending' : List ℕ) → pending' ≡ pending ++ target ∷ [] → work (set seen target true) ends pending' < work seen ends pending
seen_work arrows ends0 m seen done ends pending order node end target b w a read is_false pending' e =
    let inside : target < length seen = (let h = a.target_in in let g = w.seen_are in omega (arith, h, g)) in
    let two : weight (get_or seen target false) ≡ 2 = ap weight (read_bool seen target b inside read ∙ is_false) in
    let sum = weight-set seen target inside in
    let longer : length pending' ≡ length pending + 1 = ap length e ∙ grind (arith, length-append) in
    totals (length pending) (length pending') (sum_by weight (set seen target true)) (sum_by weight seen) (sum_by (λ (x : ℕ). x) ends)
    (weight (get_or seen target false)) two sum longer
  where
    totals : (p p' w' w t x : ℕ) → x ≡ 2 → w' + x ≡ w → p' ≡ p + 1 → p' + w' + t < p + w + t
    totals p p' w' w t x two sum longer = omega arith

pub finished_pop : (arrows : List Arrow) (ends0 before : List ℕ) (m : ℕ) (seen done : List Bool) (ends pending pending' order order' : List ℕ)
    (r : Option ℕ) (node end : ℕ)
    → AreLinked arrows ends0 before → Walking arrows (length ends0) m seen done ends pending order → IsNode (length ends0) ends pending node end
    → end ≡ 0
    → pending ≡ pending' ++ option_to_list r → length pending' + 1 ≡ length pending → order' ≡ order ++ node ∷ []
    → Walking arrows (length ends0) m seen (set done node true) ends pending' order'
finished_pop arrows ends0 before m seen done ends pending pending' order order' None node end l w t none e shorter f =
    absurd (let g = ap length e in let h = length-append pending' [] in let bad : ⊥ = omega (arith, g, h, shorter) in bad)
finished_pop arrows ends0 before m seen done ends pending pending' order order' (Some v) node end l w t none e shorter f =
    subst (λ (x : List ℕ). Walking arrows (length ends0) m seen (set done node true) ends pending' x) (sym f)
    (finished arrows (length ends0) m seen done ends pending' order node t.node_in (t.end_is ∙ none) l.to_in
    (subst (λ (x : ℕ). Walking arrows (length ends0) m seen done ends (pending' ++ x ∷ []) order) same
    (subst (λ (x : List ℕ). Walking arrows (length ends0) m seen done ends x order) e w)))
  where
    same : v ≡ node
    same = sym (get_or-append_seam pending' v [] 0) ∙ ap (λ (x : List ℕ). get_or x (length pending') 0) (sym e)
        ∙ ap (λ (i : ℕ). get_or pending i 0) (let g : length pending' ≡ length pending - 1 = omega (arith, shorter) in g) ∙ t.top.here
