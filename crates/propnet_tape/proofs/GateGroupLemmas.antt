-- Bits of a group that are marked, and what their or is.
use Rattle.std.proofs.Common.{◌≡◌, ◌≢◌, ℕ, suc, zero, ◌+◌, ◌-◌, ◌*◌, ◌<◌, ◌≤◌, ◌==◌, Bool, true, false, not, ◌&&◌, ◌||◌, List, [], ◌∷◌, ◌++◌, length, take, drop, map, get_or, refl, sym, ◌∙◌, ap, arith, All, inl, inr, ne_eqb}
use Rattle.std.proofs.Math.ListN.{set}
use Rattle.std.proofs.lemmas.Bool.{cases_eq}
use Rattle.std.proofs.lemmas.Bool.Decides.{nat_tests}
use Rattle.std.proofs.lemmas.List.{take_more, drop_all}
use Rattle.propnet_tape.specs.Values.{start, value}
use Rattle.propnet_tape.specs.declared.builder.Builder.{Builder}
use Rattle.propnet_tape.specs.Building.{any_of, slots_of, signal_value, IsBuilt, IsStep, IsLiteral, IsOneOf, AreOneOf, IsNegation}
use Rattle.propnet_tape.specs.GateGrouping.{any_marked, are_unmarked}
use Rattle.std.specs.Prelude.{Result, Ok, Err, IfOk}
use Rattle.propnet_tape.proofs.Passes.{pass_below}
use Rattle.propnet_tape.proofs.Lanes.{given_slot}
use Rattle.propnet_tape.proofs.Literals.{value_literals, step_then, groups_after, groups_before}
use Rattle.propnet_tape.proofs.Folds.{any_same, within_more}
use Rattle.propnet_tape.proofs.Factors.{any_push}

or_swap : (a b c : Bool) → ((a || b) || c) ≡ ((a || c) || b)
or_swap true b c = refl
or_swap false true true = refl
or_swap false true false = refl
or_swap false false true = refl
or_swap false false false = refl

or_more : (a b c : Bool) → (a || (b || c)) ≡ ((a || b) || c)
or_more true b c = refl
or_more false b c = refl

or_none : (a : Bool) → (a || false) ≡ a
or_none true = refl
or_none false = refl

pub none_marked : (w : ℕ → Bool) (from : ℕ) (ms : List Bool) → are_unmarked ms → any_marked w from ms ≡ false
none_marked w from [] h = refl
none_marked w from (m ∷ ms) h =
    let first : m ≡ false = h 0 (omega arith) in
    rw first (none_marked w (from + 1) ms (λ k l. h (suc k) (omega arith)))

-- one more bit is marked
pub marked_more : (w : ℕ → Bool) (from : ℕ) (ms : List Bool) (k : ℕ) → k < length ms
    → any_marked w from (set ms k true) ≡ (any_marked w from ms || w (2 + 2 * (from + k)))
marked_more w from [] k h = absurd (omega arith)
marked_more w from (true ∷ ms) zero h = let e : from + 0 ≡ from = omega arith in rw e (same (w (2 + 2 * from)) (any_marked w (from + 1) ms))
  where
    same : (a b : Bool) → (a || b) ≡ ((a || b) || a)
    same true b = refl
    same false true = refl
    same false false = refl
marked_more w from (false ∷ ms) zero h = let e : from + 0 ≡ from = omega arith in rw e (swapped (w (2 + 2 * from)) (any_marked w (from + 1) ms))
  where
    swapped : (a b : Bool) → (a || b) ≡ (b || a)
    swapped true true = refl
    swapped true false = refl
    swapped false true = refl
    swapped false false = refl
marked_more w from (m ∷ ms) (suc k) h =
    let e : (from + 1) + k ≡ from + suc k = omega arith in
    let r : any_marked w (from + 1) (set ms k true) ≡ (any_marked w (from + 1) ms || w (2 + 2 * ((from + 1) + k))) = marked_more w (from + 1) ms k
    (omega arith) in
    ap (λ b. (m && w (2 + 2 * from)) || b) (r ∙ ap (λ (n : ℕ). any_marked w (from + 1) ms || w (2 + 2 * n)) e)
    ∙ or_more (m && w (2 + 2 * from)) (any_marked w (from + 1) ms) (w (2 + 2 * (from + suc k)))

-- one more literal of a queue
pub any_taken : (w : ℕ → Bool) (xs : List ℕ) (i : ℕ) → i < length xs → any_of w (take (i + 1) xs) ≡ (any_of w (take i xs) || w (get_or xs i 0))
any_taken w xs i h = ap (any_of w) (take_more xs i 0 h) ∙ any_push w (take i xs) (get_or xs i 0)

-- it is that of a bit of the group
pub part_marked : (w : ℕ → Bool) (xs rest : List ℕ) (from i k x : ℕ) (ms : List Bool) → i < length xs → k < length ms → x ≡ get_or xs i 0
    → x ≡ 2 + 2 * (from + k)
    → any_of w (take i xs) ≡ (any_of w rest || any_marked w from ms)
    → any_of w (take (i + 1) xs) ≡ (any_of w rest || any_marked w from (set ms k true))
part_marked w xs rest from i k x ms h l e f so_far =
    any_taken w xs i h ∙ ap (λ b. b || w (get_or xs i 0)) so_far ∙ ap (λ (n : ℕ). (any_of w rest || any_marked w from ms) || w n) (sym e ∙ f)
    ∙ sym (or_more (any_of w rest) (any_marked w from ms) (w (2 + 2 * (from + k)))) ∙ ap (λ b. any_of w rest || b) (sym (marked_more w from ms k l))

-- it is another
pub part_left : (w : ℕ → Bool) (xs rest next : List ℕ) (from i x : ℕ) (ms : List Bool) → i < length xs → x ≡ get_or xs i 0 → next ≡ rest ++ (x ∷ [])
    → any_of w (take i xs) ≡ (any_of w rest || any_marked w from ms) → any_of w (take (i + 1) xs) ≡ (any_of w next || any_marked w from ms)
part_left w xs rest next from i x ms h e f so_far =
    any_taken w xs i h ∙ ap (λ b. b || w (get_or xs i 0)) so_far ∙ or_swap (any_of w rest) (any_marked w from ms) (w (get_or xs i 0))
    ∙ ap (λ (n : ℕ). (any_of w rest || w n) || any_marked w from ms) (sym e)
    ∙ ap (λ b. b || any_marked w from ms) (sym (ap (any_of w) f ∙ any_push w rest x))

-- one more bit of which it is said whether it is marked
pub marked_push : (w : ℕ → Bool) (from : ℕ) (ms : List Bool) (m : Bool)
    → any_marked w from (ms ++ (m ∷ [])) ≡ (any_marked w from ms || (m && w (2 + 2 * (from + length ms))))
marked_push w from [] m = let e : from + 0 ≡ from = omega arith in rw e (or_none (m && w (2 + 2 * from)))
marked_push w from (x ∷ ms) m =
    let e : (from + 1) + length ms ≡ from + suc (length ms) = omega arith in
    ap (λ b. (x && w (2 + 2 * from)) || b) (marked_push w (from + 1) ms m ∙ ap (λ (n : ℕ). any_marked w (from + 1) ms || (m && w (2 + 2 * n))) e)
    ∙ or_more (x && w (2 + 2 * from)) (any_marked w (from + 1) ms) (m && w (2 + 2 * (from + suc (length ms))))

mapped : (ms : List Bool) → length (map not ms) ≡ length ms
mapped [] = refl
mapped (m ∷ ms) = ap suc (mapped ms)

pushed : (ms : List Bool) (m : Bool) → map not (ms ++ (m ∷ [])) ≡ map not ms ++ (not m ∷ [])
pushed [] m = refl
pushed (x ∷ ms) m = ap (λ (bs : List Bool). not x ∷ bs) (pushed ms m)

as_long : (ms : List Bool) (n : ℕ) → n ≤ length ms → length (take n ms) ≡ n
as_long ms zero h = refl
as_long [] (suc n) h = absurd (omega arith)
as_long (m ∷ ms) (suc n) h = ap suc (as_long ms n (omega arith))

told_more : (w : ℕ → Bool) (from place : ℕ) (ms : List Bool) → place < length ms
    → any_marked w from (map not (take (place + 1) ms)) ≡
    (any_marked w from (map not (take place ms)) || (not (get_or ms place false) && w (2 + 2 * (from + place))))
told_more w from place ms h =
    let size : length (map not (take place ms)) ≡ place = mapped (take place ms) ∙ as_long ms place (omega arith) in
    ap (λ (bs : List Bool). any_marked w from (map not bs)) (take_more ms place false h)
    ∙ ap (any_marked w from) (pushed (take place ms) (get_or ms place false))
    ∙ marked_push w from (map not (take place ms)) (not (get_or ms place false))
    ∙ ap (λ (n : ℕ). any_marked w from (map not (take place ms)) || (not (get_or ms place false) && w (2 + 2 * (from + n)))) size

-- a bit is not marked, and so listed
pub unmarked_more : (w : ℕ → Bool) (from place l : ℕ) (ms : List Bool) (xs next : List ℕ) → place < length ms → get_or ms place false ≡ false
    → l ≡ 2 + 2 * (from + place) → next ≡ xs ++ (l ∷ [])
    → any_of w xs ≡ any_marked w from (map not (take place ms)) → any_of w next ≡ any_marked w from (map not (take (place + 1) ms))
unmarked_more w from place l ms xs next h off is e so_far =
    ap (any_of w) e ∙ any_push w xs l ∙ ap (λ b. b || w l) so_far ∙ ap (λ (n : ℕ). any_marked w from (map not (take place ms)) || w n) is
    ∙ ap (λ b. any_marked w from (map not (take place ms)) || (not b && w (2 + 2 * (from + place)))) (sym off)
    ∙ sym (told_more w from place ms h)

-- it is marked
pub marked_skip : (w : ℕ → Bool) (from place : ℕ) (ms : List Bool) (xs : List ℕ) → place < length ms → get_or ms place false ≡ true
    → any_of w xs ≡ any_marked w from (map not (take place ms)) → any_of w xs ≡ any_marked w from (map not (take (place + 1) ms))
marked_skip w from place ms xs h on so_far =
    so_far ∙ sym (or_none (any_marked w from (map not (take place ms))))
    ∙ ap (λ b. any_marked w from (map not (take place ms)) || (not b && w (2 + 2 * (from + place)))) (sym on)
    ∙ sym (told_more w from place ms h)

pub same_self : (n : ℕ) → (n == n) ≡ true
same_self n = grind (arith, nat_tests)

-- Exactly one bit of the group is 1, so the marked bits are the negation of the others.

quiet : (w bits : ℕ → Bool) (from : ℕ) (ms : List Bool) → ((k : ℕ) → from ≤ k → k < from + length ms → w (2 + 2 * k) ≡ bits k)
    → ((k : ℕ) → from ≤ k → k < from + length ms → bits k ≡ false)
    → any_marked w from ms ≡ false
quiet w bits from [] h none = refl
quiet w bits from (m ∷ ms) h none =
    let first : w (2 + 2 * from) ≡ false = h from (omega arith) (omega arith) ∙ none from (omega arith) (omega arith) in
    let rest : any_marked w (from + 1) ms ≡ false = quiet w bits (from + 1) ms (λ k l u. h k (omega arith) (omega arith))
    (λ k l u. none k (omega arith) (omega arith)) in
    rw (first, rest) (off m)
  where
    off : (m : Bool) → ((m && false) || false) ≡ false
    off true = refl
    off false = refl

pub others_tell : (w bits : ℕ → Bool) (from on : ℕ) (ms : List Bool) → ((k : ℕ) → from ≤ k → k < from + length ms → w (2 + 2 * k) ≡ bits k)
    → from ≤ on → on < from + length ms → ((k : ℕ) → from ≤ k → k < from + length ms → bits k ≡ (k == on))
    → any_marked w from ms ≡ not (any_marked w from (map not ms))
others_tell w bits from on [] h low high each = absurd (omega arith)
others_tell w bits from on (m ∷ ms) h low high each = elim (cases_eq from on) [
  | inl same ↦
      let first : w (2 + 2 * from) ≡ true = h from (omega arith) (omega arith) ∙ each from (omega arith) (omega arith)
      ∙ ap (λ (n : ℕ). from == n) (sym same) ∙ same_self from in
      let after : (k : ℕ) → from + 1 ≤ k → k < (from + 1) + length ms → bits k ≡ false = λ k l u. let ne : k ≢ on = (λ q. absurd (omega arith)) in
      each k (omega arith) (omega arith) ∙ ne_eqb k on ne in
      let rest : any_marked w (from + 1) ms ≡ false = quiet w bits (from + 1) ms (λ k l u. h k (omega arith) (omega arith)) after in
      let size : length (map not ms) ≡ length ms = mapped ms in
      let others : any_marked w (from + 1) (map not ms) ≡ false = quiet w bits (from + 1) (map not ms) (λ k l u. h k (omega arith) (omega arith))
      (λ k l u. after k l (omega arith)) in
      rw (first, rest, others) (on_here m)
  | inr other ↦
      let first : w (2 + 2 * from) ≡ false = h from (omega arith) (omega arith) ∙ each from (omega arith) (omega arith) ∙ ne_eqb from on other in
      let rest : any_marked w (from + 1) ms ≡ not (any_marked w (from + 1) (map not ms)) =
      others_tell w bits (from + 1) on ms (λ k l u. h k (omega arith) (omega arith)) (omega arith) (omega arith)
      (λ k l u. each k (omega arith) (omega arith)) in
      rw (first, rest) (on_behind m (any_marked w (from + 1) (map not ms)))
]
  where
    on_here : (m : Bool) → ((m && true) || false) ≡ not ((not m && true) || false)
    on_here true = refl
    on_here false = refl

    on_behind : (m b : Bool) → ((m && false) || not b) ≡ not ((not m && false) || b)
    on_behind true b = refl
    on_behind false b = refl

given_value : (b : Builder) (bits : ℕ → Bool) (k : ℕ) → 2 + 2 * k < b.first → signal_value b bits (2 + 2 * k) ≡ bits k
unfolding value
given_value b bits k h = pass_below b.first b.gates.items (start bits) (2 + 2 * k) h ∙ given_slot bits k

-- the negation of the or of the others stands in the place of the marked bits
pub turned : (old new : Builder) (from to : ℕ) (queue rest next others : List ℕ) (marks : List Bool) (other neg : ℕ) → IsBuilt old → IsStep old new
    → from ≤ to → 2 + 2 * to ≤ old.first
    → length marks ≡ to - from → ((w : ℕ → Bool) → any_of w queue ≡ (any_of w rest || any_marked w from marks)) → All (λ l. l < slots_of old) rest
    → ((w : ℕ → Bool) → any_of w others ≡ any_marked w from (map not marks)) → IsLiteral new other (λ bits. any_of (signal_value old bits) others)
    → IsNegation other neg → next ≡ rest ++ (neg ∷ [])
    → (bits : ℕ → Bool) → AreOneOf old.groups.items bits → IsOneOf bits from to → any_of (signal_value new bits) next ≡ any_of (signal_value old bits) queue
turned old new from to queue rest next others marks other neg built s order within size parted below told l n e bits one here =
    let w : ℕ → Bool = signal_value old bits in
    let v : ℕ → Bool = signal_value new bits in
    let far : from + length marks ≡ to = omega arith in
    let kept : any_of v rest ≡ any_of w rest = any_same v w (slots_of old) rest (λ k i. s.keeps bits k i) below in
    let asked : v other ≡ any_marked w from (map not marks) = l.value bits (groups_after old new s bits one) ∙ told w in
    let low = here.low in
    let high = here.high in
    let tells : any_marked w from marks ≡ not (any_marked w from (map not marks)) =
    others_tell w bits from here.on marks (λ k i j. given_value old bits k (omega arith)) low (omega arith) (λ k i j. here.each k i (omega arith)) in
    let last : v neg ≡ any_marked w from marks = n.value v (value_literals new.first new.gates.items s.built.tape bits) ∙ ap not asked ∙ sym tells in
    ap (any_of v) e ∙ any_push v rest neg ∙ ap (λ b. b || v neg) kept ∙ ap (λ b. any_of w rest || b) last ∙ sym (parted w)

pub turned_below : (old new : Builder) (rest next : List ℕ) (other neg : ℕ) → IsStep old new → All (λ l. l < slots_of old) rest → other < slots_of new
    → IsNegation other neg → next ≡ rest ++ (neg ∷ [])
    → All (λ l. l < slots_of new) next
turned_below old new rest next other neg s below slot n e =
    let pairs = s.built.tape.pairs in
    let node = n.node in
    rw e (within_more (slots_of old) (slots_of new) rest neg s.more (omega arith) below)

pub any_turned : (start mid new : Builder) (queue all : List ℕ) (l : ℕ) → IsStep start mid → IsStep mid new
    → ((bits : ℕ → Bool) → AreOneOf start.groups.items bits → any_of (signal_value mid bits) queue ≡ any_of (signal_value start bits) all)
    → IsLiteral new l (λ bits. any_of (signal_value mid bits) queue) → IsLiteral new l (λ bits. any_of (signal_value start bits) all)
any_turned start mid new queue all l s t same h = record {
  slot = h.slot;
  value = λ bits one. h.value bits one ∙ same bits (groups_before start new (step_then start mid new s t) bits one);
}

-- a vector of which all is written over
pub written_back : (xs ys : List Bool) (n : ℕ) → length xs ≡ length ys → n ≡ length ys → take n (xs ++ drop (length xs) ys) ≡ xs
written_back xs ys n e f = rw (f, e) (rw (drop_all (length ys) ys (omega arith), append_none xs, ← e) (all_taken xs))
  where
    append_none : (xs : List Bool) → xs ++ [] ≡ xs
    append_none [] = refl
    append_none (x ∷ xs) = ap (λ (bs : List Bool). x ∷ bs) (append_none xs)

    all_taken : (xs : List Bool) → take (length xs) xs ≡ xs
    all_taken [] = refl
    all_taken (x ∷ xs) = ap (λ (bs : List Bool). x ∷ bs) (all_taken xs)

pub ok_then : {E : Type 0} → (r : Result ℕ E) (P Q : ℕ → Type 0) → ((l : ℕ) → P l → Q l) → IfOk r P → IfOk r Q
ok_then (Ok l) P Q f h = f l h
ok_then (Err e) P Q f h = h
