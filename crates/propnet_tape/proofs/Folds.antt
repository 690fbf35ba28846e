-- The and and the or of many literals.
use Rattle.std.proofs.Common.{
  ◌≡◌,
  ◌≢◌,
  set,
  get_or-set_same,
  get_or-set_other,
  below_more,
  ℕ,
  suc,
  zero,
  ◌+◌,
  ◌<◌,
  ◌≤◌,
  ◌%◌,
  ◌/◌,
  Bool,
  true,
  false,
  not,
  ◌&&◌,
  ◌||◌,
  List,
  [],
  ◌∷◌,
  ◌++◌,
  length,
  get_or,
  drop,
  refl,
  sym,
  ◌∙◌,
  ap,
  subst,
  arith,
  All,
  add-one,
  length-append,
}
use Rattle.std.proofs.lemmas.List.{drop-append-le, drop_all, get_or_default}
use Rattle.std.proofs.Math.Seq.{drop-cons}
use Rattle.propnet_tape.specs.Building.{HaveNegations, AreOneOf, IsStep, IsBuilt, IsLiteral, slots_of, signal_value, all_of, any_of, IsNegation, AreNegations}
use Rattle.propnet_tape.specs.declared.builder.Builder.{Builder}
use Rattle.propnet_tape.proofs.Literals.{step_then, step_refl, value_literals, groups_after, groups_before}

all_assoc : (a b c : Bool) → (a && (b && c)) ≡ ((a && b) && c)
all_assoc true b c = refl
all_assoc false b c = refl

pub and_true : (a : Bool) → (a && true) ≡ a
and_true true = refl
and_true false = refl

and_swap : (a b : Bool) → (a && b) ≡ (b && a)
and_swap true true = refl
and_swap true false = refl
and_swap false true = refl
and_swap false false = refl

pub all_append : (w : ℕ → Bool) (xs ys : List ℕ) → all_of w (xs ++ ys) ≡ (all_of w xs && all_of w ys)
all_append w [] ys = refl
all_append w (x ∷ xs) ys = rw (all_append w xs ys) (all_assoc (w x) (all_of w xs) (all_of w ys))

pub all_same : (v w : ℕ → Bool) (n : ℕ) (xs : List ℕ) → ((l : ℕ) → l < n → v l ≡ w l) → All (λ l. l < n) xs → all_of v xs ≡ all_of w xs
all_same v w n [] h a = refl
all_same v w n (x ∷ xs) h a =
    let e : v x ≡ w x = h x (a 0 0 (omega arith)) in
    let f : all_of v xs ≡ all_of w xs = all_same v w n xs h (λ k d l. a (suc k) d (omega arith)) in
    rw (e, f) refl

pub any_same : (v w : ℕ → Bool) (n : ℕ) (xs : List ℕ) → ((l : ℕ) → l < n → v l ≡ w l) → All (λ l. l < n) xs → any_of v xs ≡ any_of w xs
any_same v w n [] h a = refl
any_same v w n (x ∷ xs) h a =
    let e : v x ≡ w x = h x (a 0 0 (omega arith)) in
    let f : any_of v xs ≡ any_of w xs = any_same v w n xs h (λ k d l. a (suc k) d (omega arith)) in
    rw (e, f) refl

-- what is left of a queue, of which the and is to be built
pub record IsAll (start now : Builder) (all rest : List ℕ) : Type 0 where
  pub step : IsStep start now
  pub some : 0 < length rest
  pub literals : All (λ l. l < slots_of now) rest
  pub value : (bits : ℕ → Bool) → AreOneOf start.groups.items bits → all_of (signal_value now bits) rest ≡ all_of (signal_value start bits) all

pub all_begins : (b : Builder) (xs : List ℕ) → IsBuilt b → 0 < length xs → All (λ l. l < slots_of b) xs → IsAll b b xs xs
all_begins b xs h s a = record { step = step_refl b h; some = s; literals = a; value = λ bits one. refl }

pub within_more : (n m : ℕ) (xs : List ℕ) (z : ℕ) → n ≤ m → z < m → All (λ l. l < n) xs → All (λ l. l < m) (xs ++ (z ∷ []))
within_more n m [] z h k a zero d l = k
within_more n m [] z h k a (suc i) d l = absurd (omega arith)
within_more n m (x ∷ xs) z h k a zero d l = let e : x < n = a 0 0 (omega arith) in omega arith
within_more n m (x ∷ xs) z h k a (suc i) d l = within_more n m xs z h k (λ j f g. a (suc j) f (omega arith)) i d (omega arith)

joined : (x y z r : Bool) → z ≡ (x && y) → (r && z) ≡ (x && (y && r))
joined x y z r e = rw e (and_swap r (x && y) ∙ sym (all_assoc x y r))

pub all_more : (start b c : Builder) (all rest : List ℕ) (x y z : ℕ) → IsAll start b all (x ∷ y ∷ rest) → IsStep b c
    → IsLiteral c z (λ bits. signal_value c bits x && signal_value c bits y) → IsAll start c all (rest ++ (z ∷ []))
all_more start b c all rest x y z h s l =
    let a : All (λ l. l < slots_of b) rest = (λ k d i. h.literals (suc (suc k)) d (omega arith)) in
    let p : x < slots_of b = h.literals 0 0 (omega arith) in
    let q : y < slots_of b = h.literals 1 0 (omega arith) in
    record {
      step = step_then start b c h.step s;
      some = simp length-append (omega arith);
      literals = within_more (slots_of b) (slots_of c) rest z s.more l.slot a;
      value = λ bits one.
          let here : AreOneOf c.groups.items bits = groups_after start c (step_then start b c h.step s) bits one in
          let e : signal_value c bits z ≡ (signal_value b bits x && signal_value b bits y) = rw (← s.keeps bits x p, ← s.keeps bits y q) (l.value bits here) in
          let f : all_of (signal_value c bits) rest ≡ all_of (signal_value b bits) rest =
          all_same (signal_value c bits) (signal_value b bits) (slots_of b) rest (λ k i. s.keeps bits k i) a in
          rw (all_append (signal_value c bits) rest (z ∷ []), f, and_true (signal_value c bits z))
          (joined (signal_value b bits x) (signal_value b bits y) (signal_value c bits z) (all_of (signal_value b bits) rest) e ∙ h.value bits one);
    }

front_two : (xs : List ℕ) (n : ℕ) → n + 1 < length xs → drop n xs ≡ get_or xs n 0 ∷ get_or xs (n + 1) 0 ∷ drop (n + 2) xs
front_two xs n h =
    let a : n < length xs = omega arith in
    let e : drop n xs ≡ get_or xs n 0 ∷ drop (n + 1) xs = rw (drop-cons xs n 0 a, add-one) refl in
    let f : drop (n + 1) xs ≡ get_or xs (n + 1) 0 ∷ drop (suc (n + 1)) xs = drop-cons xs (n + 1) 0 h in
    let g : suc (n + 1) ≡ n + 2 = omega arith in
    rw (e, f, g) refl

read_at : (xs : List ℕ) (i x : ℕ) → i < length xs → x ≡ get_or xs i x → x ≡ get_or xs i 0
read_at xs i x h e = e ∙ get_or_default xs i x 0 h

pub all_queued : (start b c : Builder) (all queue queue_then : List ℕ) (n x y z : ℕ) → n + 1 < length queue
    → x ≡ get_or queue n x → y ≡ get_or queue (n + 1) y → IsAll start b all (drop n queue) → IsStep b c
    → IsLiteral c z (λ bits. signal_value c bits x && signal_value c bits y) → queue_then ≡ queue ++ (z ∷ [])
    → IsAll start c all (drop (n + 2) queue_then)
all_queued start b c all queue queue_then n x y z h p q a s l f =
    let m : n + 2 ≤ length queue = omega arith in
    let px : x ≡ get_or queue n 0 = read_at queue n x (omega arith) p in
    let qy : y ≡ get_or queue (n + 1) 0 = read_at queue (n + 1) y h q in
    let e : drop n queue ≡ x ∷ y ∷ drop (n + 2) queue = rw (px, qy) (front_two queue n h) in
    let i : IsAll start b all (x ∷ y ∷ drop (n + 2) queue) = rw e at a in
    rw (f, drop-append-le (n + 2) queue (z ∷ []) m) (all_more start b c all (drop (n + 2) queue) x y z i s l)

last_at : (start b : Builder) (all queue : List ℕ) (n : ℕ) → length queue ≤ n + 1 → n < length queue → IsAll start b all (drop n queue)
    → IsLiteral b (get_or queue n 0) (λ bits. all_of (signal_value start bits) all)
last_at start b all queue n h k a =
    let e : drop n queue ≡ get_or queue n 0 ∷ [] = rw (drop-cons queue n 0 k, drop_all (suc n) queue (omega arith)) refl in
    let i : IsAll start b all (get_or queue n 0 ∷ []) = rw e at a in
    record {
      slot = i.literals 0 0 (omega arith);
      value = λ bits one. sym (and_true (signal_value b bits (get_or queue n 0))) ∙ i.value bits (groups_before start b a.step bits one);
    }

pub last_queued : (start b : Builder) (all queue : List ℕ) (n x : ℕ) → length queue ≤ n + 1 → n < length queue → x ≡ get_or queue n x
    → IsAll start b all (drop n queue) → IsLiteral b x (λ bits. all_of (signal_value start bits) all)
last_queued start b all queue n x h k p a =
    let px : x ≡ get_or queue n 0 = read_at queue n x k p in
    rw px (last_at start b all queue n h k a)

pub front_within : (start b : Builder) (all queue : List ℕ) (n x : ℕ) → n + 1 < length queue → x ≡ get_or queue n x
    → IsAll start b all (drop n queue) → x < slots_of b
front_within start b all queue n x h p a =
    let px : x ≡ get_or queue n 0 = read_at queue n x (omega arith) p in
    let i : IsAll start b all (get_or queue n 0 ∷ get_or queue (n + 1) 0 ∷ drop (n + 2) queue) = rw (front_two queue n h) at a in
    let l : get_or queue n 0 < slots_of b = i.literals 0 0 (omega arith) in
    omega arith

pub second_within : (start b : Builder) (all queue : List ℕ) (n y : ℕ) → n + 1 < length queue → y ≡ get_or queue (n + 1) y
    → IsAll start b all (drop n queue) → y < slots_of b
second_within start b all queue n y h q a =
    let qy : y ≡ get_or queue (n + 1) 0 = read_at queue (n + 1) y h q in
    let i : IsAll start b all (get_or queue n 0 ∷ get_or queue (n + 1) 0 ∷ drop (n + 2) queue) = rw (front_two queue n h) at a in
    let l : get_or queue (n + 1) 0 < slots_of b = i.literals 1 0 (omega arith) in
    omega arith

pub literal_one : (w : ℕ → Bool) → HaveNegations w → w 1 ≡ true
literal_one w h = let p : w 1 ≡ not (w 0) = h.pairs 0 refl in rw (p, h.none) refl

pub all_of_none : (b : Builder) (xs : List ℕ) → IsBuilt b → length xs ≡ 0 → IsLiteral b 1 (λ bits. all_of (signal_value b bits) xs)
all_of_none b [] h e = record {
  slot = omega (arith, h.tape.some);
  value = λ bits one. literal_one (signal_value b bits) (value_literals b.first b.gates.items h.tape bits);
}
all_of_none b (x ∷ xs) h e = absurd (omega arith)

-- the or by the and of the negations
or_of_negations : (w : ℕ → Bool) → HaveNegations w → (xs ys : List ℕ) → length ys ≡ length xs
    → ((k : ℕ) → k < length xs → IsNegation (get_or xs k 0) (get_or ys k 0)) → all_of w ys ≡ not (any_of w xs)
or_of_negations w h [] [] e f = refl
or_of_negations w h [] (y ∷ ys) e f = absurd (omega arith)
or_of_negations w h (x ∷ xs) [] e f = absurd (omega arith)
or_of_negations w h (x ∷ xs) (y ∷ ys) e f =
    let n : w y ≡ not (w x) = (f 0 (omega arith)).value w h in
    let r : all_of w ys ≡ not (any_of w xs) = or_of_negations w h xs ys (omega arith) (λ k l. f (suc k) (omega arith)) in
    rw (n, r) (de_morgan (w x) (any_of w xs))
  where
    de_morgan : (a b : Bool) → (not a && not b) ≡ not (a || b)
    de_morgan true b = refl
    de_morgan false b = refl

same_pair : (a b n : ℕ) → n % 2 ≡ 0 → b / 2 ≡ a / 2 → a < n → b < n
same_pair a b n e h l = omega arith

not_not : (a : Bool) → not (not a) ≡ a
not_not true = refl
not_not false = refl

pub negations_within : (n : ℕ) (xs ys : List ℕ) → n % 2 ≡ 0 → AreNegations xs ys → All (λ l. l < n) xs → All (λ l. l < n) ys
negations_within n xs ys e h a k d l =
    let i : k < length xs = omega (arith, h.count) in
    let f : get_or xs k 0 < n = a k 0 i in
    let g : get_or ys k 0 / 2 ≡ get_or xs k 0 / 2 = (h.each k i).node in
    let m : get_or ys k 0 < n = same_pair (get_or xs k 0) (get_or ys k 0) n e g f in
    subst (λ (t : ℕ). t < n) (get_or_default ys k 0 d l) m

pub any_literal : (old new : Builder) (xs ys : List ℕ) (l m : ℕ) → IsBuilt old → IsBuilt new → AreNegations xs ys
    → IsLiteral new l (λ bits. all_of (signal_value old bits) ys) → IsNegation l m
    → IsLiteral new m (λ bits. any_of (signal_value old bits) xs)
any_literal old new xs ys l m h k a i n = record {
  slot = same_pair l m (slots_of new) (let p : new.first % 2 ≡ 0 = k.tape.pairs in omega arith) n.node i.slot;
  value = λ bits one.
      n.value (signal_value new bits) (value_literals new.first new.gates.items k.tape bits)
      ∙ (ap not (i.value bits one ∙ or_of_negations (signal_value old bits) (value_literals old.first old.gates.items h.tape bits) xs ys a.count a.each)
      ∙ not_not (any_of (signal_value old bits) xs));
}

-- one more literal of a queue is negated in its place
pub one_negated : (initial queue : List ℕ) (i x y : ℕ) → i < length queue → x ≡ get_or queue i x → IsNegation x y
    → ((k : ℕ) → k < i → IsNegation (get_or initial k 0) (get_or queue k 0))
    → ((k : ℕ) → i ≤ k → get_or queue k 0 ≡ get_or initial k 0)
    → (k : ℕ) → k < i + 1 → IsNegation (get_or initial k 0) (get_or (set queue i y) k 0)
one_negated initial queue i x y h e n before left =
    below_more _ _
    (λ k m. let ne : k ≢ i = (λ q. absurd (omega arith)) in rw get_or-set_other (before k m))
    (let same : get_or initial i 0 ≡ x = sym (left i (omega arith)) ∙ sym (read_at queue i x h e) in rw (same, get_or-set_same queue i y 0 h) n)

pub left_alone : (initial queue : List ℕ) (i y : ℕ)
    → ((k : ℕ) → i ≤ k → get_or queue k 0 ≡ get_or initial k 0)
    → (k : ℕ) → i + 1 ≤ k → get_or (set queue i y) k 0 ≡ get_or initial k 0
left_alone initial queue i y left k h = let ne : k ≢ i = (λ q. absurd (omega arith)) in rw get_or-set_other (left k (omega arith))

pub nor_literal : (old new : Builder) (xs : List ℕ) (l m : ℕ) → IsBuilt new
    → IsLiteral new l (λ bits. any_of (signal_value old bits) xs) → IsNegation l m
    → IsLiteral new m (λ bits. not (any_of (signal_value old bits) xs))
nor_literal old new xs l m k i n = record {
  slot = same_pair l m (slots_of new) (let p : new.first % 2 ≡ 0 = k.tape.pairs in omega arith) n.node i.slot;
  value = λ bits one. n.value (signal_value new bits) (value_literals new.first new.gates.items k.tape bits) ∙ ap not (i.value bits one);
}
