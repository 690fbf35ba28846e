-- Marks by number, and going through kept instances.
use Rattle.std.proofs.Common.{◌≡◌, ℕ, ◌+◌, ◌<◌, ◌≤◌, Bool, true, false, cond, not, ◌&&◌, ◌||◌, List, [], ◌∷◌, length, drop, suc, refl, sym, ◌∙◌, ap, subst, arith, inl, inr, get_or, get_or-set_same, get_or-set_other, ne_eqb, eq-eqb, le-ltb}
use Rattle.std.specs.Prelude.{All, filter, ◌==◌, nat_lt}
use Rattle.std.specs.List.{range_with_len}
use Rattle.std.proofs.Math.ListN.{set, length-set}
use Rattle.std.proofs.lemmas.Bool.{cases_eq}
use Rattle.std.proofs.lemmas.List.{get_or_past, drop_more}
use Rattle.statement.specs.declared.kind.Kind.{Kind}
use Rattle.statement.specs.Kept.{Kept}
use Rattle.ground_instances.specs.Fits.{IsKeptWithin}
use Rattle.statement.specs.Rules.{State, Turn}
use Rattle.statement.specs.GameNumbers.{stands_in}
use Rattle.game_rules.specs.GroundFacts.{blank}
use Rattle.game_rules.specs.RulePlay.{marked, kind_at, is_given, is_right, all_right, found_by, holds}
use Rattle.game_rules.specs.Marks.{AreMarks, with_heads}
use Rattle.game_rules.proofs.Facts.{filters_agree}

pub marked_are : (bs : List Bool) (n : ℕ) (f : ℕ → Bool) → AreMarks bs n f → marked bs ≡ filter f (range_with_len 0 n)
marked_are bs n f m =
    ap (λ (k : ℕ). filter (λ (i : ℕ). get_or bs i false) (range_with_len 0 k)) m.size
    ∙ filters_agree (λ i. get_or bs i false) f 0 n (λ k from to. m.each k (omega arith))

-- one mark more
pub mark_more : (f : ℕ → Bool) (old new : List Bool) (k : ℕ) (b : Bool) → k < length old → new ≡ set old k b → b ≡ f k
    → ((i : ℕ) → i < k → get_or old i false ≡ f i) → (i : ℕ) → i < k + 1 → get_or new i false ≡ f i
mark_more f old new k b within written here before i below =
    elim (cases_eq i k) [
      | inl same ↦ rw (written, same) (get_or-set_same old k b false within ∙ here)
      | inr other ↦ rw written (get_or-set_other old k i b false other ∙ before i (omega arith))
    ]

-- Bodies.

pub same_right : (f g : ℕ → Bool) (n : ℕ) (ls : List (ℕ × Bool)) → ((k : ℕ) → k < n → f k ≡ g k) → All (λ (l : ℕ × Bool). l.0 < n) ls
    → all_right f ls ≡ all_right g ls
same_right f g n [] h within = refl
same_right f g n (l ∷ ls) h within =
    let below : l.0 < n = within 0 l (omega arith) in
    let here : f l.0 ≡ g l.0 = h l.0 below in
    let rest : all_right f ls ≡ all_right g ls = same_right f g n ls h (λ k d lt. within (suc k) d (omega arith)) in
    ap (λ (b : Bool). cond l.1 (not b) b && all_right f ls) here ∙ ap (λ (b : Bool). cond l.1 (not (g l.0)) (g l.0) && b) rest

pub or_more : (a b c : Bool) → (a || (b || c)) ≡ (b || (a || c))
or_more true true c = refl
or_more true false c = refl
or_more false true c = refl
or_more false false c = refl

-- a head more is right
pub head_more : (kinds : List Kind) (s : State) (j : Turn) (found : List ℕ) (marks : List Bool) (n head : ℕ) → head < n
    → AreMarks marks n (is_right kinds s j found)
    → AreMarks (set marks head true) n (is_right kinds s j (head ∷ found))
head_more kinds s j found marks n head below m = record {
  size = length-set marks head true ∙ m.size;
  each = λ k lt. elim (cases_eq k head) [
    | inl same ↦
        let here : (head == k) ≡ true = eq-eqb head k (sym same) in
        let size : length marks ≡ n = m.size in
        ap (λ (i : ℕ). get_or (set marks head true) i false) same ∙ get_or-set_same marks head true false (omega arith)
        ∙ sym (ap (λ (b : Bool). is_given s j (kind_at kinds k) || (b || stands_in k found)) here
        ∙ or_more (is_given s j (kind_at kinds k)) true (stands_in k found))
    | inr other ↦
        let here : (head == k) ≡ false = ne_eqb head k (λ e. other (sym e)) in
        get_or-set_other marks head k true false other ∙ m.each k lt
        ∙ sym (ap (λ (b : Bool). is_given s j (kind_at kinds k) || (b || stands_in k found)) here)
  ];
}

-- going through the instances marks what is found
pub heads_hold : (kinds : List Kind) (s : State) (j : Turn) (n : ℕ) (kept : List Kept) (found : List ℕ) (marks : List Bool)
    → All (IsKeptWithin n) kept
    → AreMarks marks n (is_right kinds s j found) → AreMarks (with_heads marks kept) n (is_right kinds s j (found_by kinds s j found kept))
heads_hold kinds s j n [] found marks within m = m
heads_hold kinds s j n (k ∷ ks) found marks within m =
    let here : IsKeptWithin n k = within 0 k (omega arith) in
    let same : all_right (λ (i : ℕ). get_or marks i false) k.body ≡ all_right (is_right kinds s j found) k.body =
    same_right (λ i. get_or marks i false) (is_right kinds s j found) n k.body m.each here.1 in
    let below = here.0 in
    step (all_right (λ (i : ℕ). get_or marks i false) k.body) (all_right (is_right kinds s j found) k.body) same
    (heads_hold kinds s j n ks (k.head ∷ found) (set marks k.head true) (λ i d lt. within (suc i) d (omega arith))
    (head_more kinds s j found marks n k.head below m))
    (heads_hold kinds s j n ks found marks (λ i d lt. within (suc i) d (omega arith)) m)
  where
    step : (b c : Bool) → b ≡ c
        → AreMarks (with_heads (set marks k.head true) ks) n (is_right kinds s j (found_by kinds s j (k.head ∷ found) ks))
        → AreMarks (with_heads marks ks) n (is_right kinds s j (found_by kinds s j found ks))
        → AreMarks (with_heads (cond b (set marks k.head true) marks) ks) n
        (is_right kinds s j (found_by kinds s j (cond c (k.head ∷ found) found) ks))
    step true true e more less = more
    step false false e more less = less
    step true false e more less = absurd cc
    step false true e more less = absurd cc

-- one instance more
pub heads_behind : (first marks new : List Bool) (ks : List Kept) (p head : ℕ) (body : List (ℕ × Bool)) → p < length ks
    → ((d : Kept) → head ≡ (get_or ks p d).head) → ((d : Kept) → body ≡ (get_or ks p d).body)
    → new ≡ cond (all_right (λ n. get_or marks n false) body) (set marks head true) marks → with_heads first ks ≡ with_heads marks (drop p ks)
    → with_heads first ks ≡ with_heads new (drop (p + 1) ks)
heads_behind first marks new ks p head body below heads bodies written left =
    let k = get_or ks p blank in
    left
    ∙ ap (with_heads marks) (drop_more ks p blank below)
    ∙ ap (λ (b : List (ℕ × Bool)). with_heads (cond (all_right (λ n. get_or marks n false) b) (set marks k.head true) marks) (drop (p + 1) ks))
    (sym (bodies blank))
    ∙ ap (λ (h : ℕ). with_heads (cond (all_right (λ n. get_or marks n false) body) (set marks h true) marks) (drop (p + 1) ks)) (sym (heads blank))
    ∙ ap (λ (ms : List Bool). with_heads ms (drop (p + 1) ks)) (sym written)

-- marks where nothing is found
pub none_found : (bs : List Bool) (n m : ℕ) → length bs ≡ m → m ≡ n → ((k : ℕ) → k < m → get_or bs k false ≡ false)
    → AreMarks bs n (λ k. stands_in k [])
none_found bs n m size same none = record { size = size ∙ same; each = λ k below. none k (omega (arith, below, same)) }

-- marks of what is found by the instances are marks of what holds
pub kept_holds : (kinds : List Kind) (kept : List Kept) (s : State) (j : Turn) (marks new : List Bool) → All (IsKeptWithin (length kinds)) kept
    → AreMarks marks (length kinds) (is_right kinds s j []) → new ≡ with_heads marks kept → AreMarks new (length kinds) (holds kinds kept s j)
kept_holds kinds kept s j marks new within given written =
    subst (λ (bs : List Bool). AreMarks bs (length kinds) (holds kinds kept s j)) (sym written)
    (heads_hold kinds s j (length kinds) kept [] marks within given)

pub past_marks : (bs : List Bool) (p : ℕ) → length bs ≤ p → get_or bs p false ≡ nat_lt p (length bs)
past_marks bs p l = get_or_past bs p false l ∙ sym (le-ltb p (length bs) l)
