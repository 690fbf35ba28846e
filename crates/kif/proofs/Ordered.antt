-- Lists of marks that are compared from their fronts.
use Rattle.std.proofs.Common.{ℕ, zero, suc, append_assoc, ◌≡◌, ◌≢◌, ◌+◌, ◌-◌, ◌%◌, ◌<◌, ◌≤◌, List, [], ◌∷◌, ◌++◌, map, take, drop, length}
use Rattle.std.proofs.Common.{length-append, length-drop, get_or, refl, sym, ap, ◌∙◌, arith}
use Rattle.std.proofs.lemmas.Bool.Decides.{nat_tests}
use Rattle.std.proofs.lemmas.Cmp.{nat_cmp_total, tied_itself}
use Rattle.std.proofs.lemmas.Map.Lookups.{exact_bytes}
use Rattle.std.specs.Ordering.{nat_cmp, ordering_then}
use Rattle.std.specs.Cmp.Lexicographic.{slice_cmp}
use Rattle.std.specs.declared.cmp.Ordering.{Ordering}
use Rattle.std.specs.declared.cmp.Ordering.TheVariants.{Less, Equal, Greater}
use Rattle.kif.specs.declared.expr.Expr.{Expr}
use Rattle.statement.specs.Tree.{Tree, list, Trees, trees_of}
use Rattle.kif.specs.View.{tree_of, trees_in}
use Rattle.kif.specs.Marks.{name_mark, marks, parts_marks, further_marks, Orders, BeginsWithMark}
use Rattle.kif.proofs.Writing.{parts_from}

-- what is left of both lists decides
pub record Left (xs : List ℕ) (ys : List ℕ) (us : List ℕ) (vs : List ℕ) : Type 0 where
  pub law : (r s : List ℕ) → slice_cmp nat_cmp (xs ++ r) (ys ++ s) ≡ slice_cmp nat_cmp (us ++ r) (vs ++ s)

same_mark : (c : ℕ) → nat_cmp c c ≡ Equal
same_mark c = tied_itself nat_cmp_total c

other_mark : (c d : ℕ) → c ≢ d → nat_cmp c d ≢ Equal
other_mark c d h = grind (arith, nat_tests)

settled : (o p q : Ordering) → o ≢ Equal → ordering_then o p ≡ ordering_then o q
settled Less p q h = refl
settled Equal p q h = absurd (h refl)
settled Greater p q h = refl

-- two lists whose first marks differ
pub apart : (xs ys : List ℕ) (c d a b : ℕ) → BeginsWithMark xs c → BeginsWithMark ys d → c ≢ d → Orders (nat_cmp c d) xs a ys b
apart xs ys c d a b h k e = record {
  law = λ r s.
      ap (λ (m : List ℕ). slice_cmp nat_cmp (m ++ a ∷ r) (ys ++ b ∷ s)) h.split
      ∙ ap (λ (m : List ℕ). slice_cmp nat_cmp ((c ∷ h.rest) ++ a ∷ r) (m ++ b ∷ s)) k.split
      ∙ settled (nat_cmp c d) _ _ (other_mark c d e);
}

pub orders_as : (o p : Ordering) (xs ys us vs : List ℕ) (a b : ℕ) → o ≡ p → us ≡ xs → vs ≡ ys → Orders p xs a ys b → Orders o us a vs b
orders_as o p xs ys us vs a b e f g h = record {
  law = λ r s.
      ap (λ (m : List ℕ). slice_cmp nat_cmp (m ++ a ∷ r) (vs ++ b ∷ s)) f
      ∙ ap (λ (m : List ℕ). slice_cmp nat_cmp (xs ++ a ∷ r) (m ++ b ∷ s)) g
      ∙ h.law r s
      ∙ ap (λ (q : Ordering). ordering_then q (slice_cmp nat_cmp r s)) (sym e);
}

-- the opening bracket of both
pub in_lists : (o : Ordering) (ts us : Trees) (a b : ℕ) → Orders o (parts_marks ts) a (parts_marks us) b
    → Orders o (marks (list ts)) a (marks (list us)) b
in_lists o ts us a b h = record { law = h.law }

-- names

-- the mark of the name's byte at i, or the one behind the name
abbrev pub mark_of : List ℕ → ℕ → ℕ → ℕ
mark_of [] i next = next
mark_of (x ∷ xs) zero next = name_mark x
mark_of (x ∷ xs) (suc i) next = mark_of xs i next

-- the number is the mark at i
pub mark_is : (xs : List ℕ) (i next m : ℕ) → (i < length xs → m ≡ name_mark (get_or xs i 0)) → (length xs ≤ i → m ≡ next) → m ≡ mark_of xs i next
mark_is [] i next m h k = k (omega arith)
mark_is (x ∷ xs) zero next m h k = h (omega arith)
mark_is (x ∷ xs) (suc i) next m h k = mark_is xs i next m (λ e. h (omega arith)) (λ e. k (omega arith))

by_front : (p : ℕ) (xs ys : List ℕ) (a b : ℕ) → a % 2 ≡ 0 → b % 2 ≡ 0 → take p xs ≡ take p ys
    → (p < length xs → p < length ys → get_or xs p 0 ≢ get_or ys p 0)
    → p ≤ length xs → p ≤ length ys
    → (r s : List ℕ) → slice_cmp nat_cmp (map name_mark xs ++ a ∷ r) (map name_mark ys ++ b ∷ s)
    ≡ ordering_then (nat_cmp (mark_of xs p a) (mark_of ys p b)) (slice_cmp nat_cmp r s)
by_front zero [] [] a b m n e d h k r s = refl
by_front zero [] (y ∷ ys) a b m n e d h k r s = settled (nat_cmp a (name_mark y)) _ _ (other_mark a (name_mark y) (λ f. absurd (omega arith)))
by_front zero (x ∷ xs) [] a b m n e d h k r s = settled (nat_cmp (name_mark x) b) _ _ (other_mark (name_mark x) b (λ f. absurd (omega arith)))
by_front zero (x ∷ xs) (y ∷ ys) a b m n e d h k r s =
    let differ : x ≢ y = d (omega arith) (omega arith) in
    settled (nat_cmp (name_mark x) (name_mark y)) _ _ (other_mark (name_mark x) (name_mark y) (λ f. differ (omega arith)))
by_front (suc p) [] ys a b m n e d h k r s = absurd (omega arith)
by_front (suc p) (x ∷ xs) [] a b m n e d h k r s = absurd (omega arith)
by_front (suc p) (x ∷ xs) (y ∷ ys) a b m n e d h k r s =
    let first : x ≡ y = cc in
    let more : take p xs ≡ take p ys = cc in
    ap (λ (o : Ordering). ordering_then o (slice_cmp nat_cmp (map name_mark xs ++ a ∷ r) (map name_mark ys ++ b ∷ s)))
    (ap (λ (c : ℕ). nat_cmp (name_mark c) (name_mark y)) first ∙ same_mark (name_mark y))
    ∙ by_front p xs ys a b m n more (λ i j. d (omega arith) (omega arith)) (omega arith) (omega arith) r s

-- two names that have p bytes in common, by the marks behind those
pub names_order : (p : ℕ) (xs ys : List ℕ) (a b c d : ℕ) → a % 2 ≡ 0 → b % 2 ≡ 0 → take p xs ≡ take p ys
    → (p < length xs → p < length ys → get_or xs p 0 ≢ get_or ys p 0)
    → p ≤ length xs → p ≤ length ys
    → c ≡ mark_of xs p a → d ≡ mark_of ys p b
    → Orders (nat_cmp c d) (map name_mark xs) a (map name_mark ys) b
names_order p xs ys a b c d m n e f h k i j =
    orders_as _ _ _ _ _ _ _ _ (ap (λ (x : ℕ). nat_cmp x d) i ∙ ap (λ (y : ℕ). nat_cmp (mark_of xs p a) y) j) refl refl
    (record { law = by_front p xs ys a b m n e f h k })

-- lists

-- the mark behind a part, where these parts follow
abbrev pub behind : List Tree → ℕ
behind [] = 82
behind (t ∷ ts) = 64

-- the marks of parts, each with the one behind it
abbrev pub left_marks : List Tree → List ℕ
left_marks [] = []
left_marks (t ∷ ts) = marks t ++ behind ts ∷ left_marks ts

further_left : (ts : List Tree) → further_marks (trees_of ts) ≡ behind ts ∷ left_marks ts
further_left [] = refl
further_left (t ∷ ts) = ap (λ (l : List ℕ). 64 ∷ marks t ++ l) (further_left ts)

parts_left : (t : Tree) (ts : List Tree) → parts_marks (trees_of (t ∷ ts)) ≡ left_marks (t ∷ ts)
parts_left t ts = ap (λ (l : List ℕ). marks t ++ l) (further_left ts)

left_as : (xs ys us vs : List ℕ) → xs ≡ us → ys ≡ vs → Left (80 ∷ xs) (80 ∷ ys) us vs
left_as xs ys us vs e f = record {
  law = λ r s. ap (λ (m : List ℕ). slice_cmp nat_cmp (m ++ r) (ys ++ s)) e ∙ ap (λ (m : List ℕ). slice_cmp nat_cmp (us ++ r) (m ++ s)) f;
}

-- two lists that are both empty, or both not
pub begun : {A : Type 0} (xs ys : List (Expr A)) → (0 < length xs → 0 < length ys) → (0 < length ys → 0 < length xs)
    → Left (marks (list (trees_of (trees_in xs)))) (marks (list (trees_of (trees_in ys)))) (left_marks (trees_in xs)) (left_marks (trees_in ys))
begun [] [] h k = record { law = λ r s. refl }
begun [] (y ∷ ys) h k = absurd (omega (arith, k (omega arith)))
begun (x ∷ xs) [] h k = absurd (omega (arith, h (omega arith)))
begun (x ∷ xs) (y ∷ ys) h k =
    left_as _ _ _ _ (parts_left (tree_of x) (trees_in xs)) (parts_left (tree_of y) (trees_in ys))

behind_at : {A : Type 0} (es : List (Expr A)) (i m : ℕ) → (i < length es → m ≡ 64) → (length es ≤ i → m ≡ 82) → behind (trees_in (drop i es)) ≡ m
behind_at {A} es i m h k = go (drop i es) (length-drop i es)
  where
    go : (ds : List (Expr A)) → length ds ≡ length es - i → behind (trees_in ds) ≡ m
    go [] e = sym (k (omega arith))
    go (d ∷ ds) e = sym (h (omega arith))

-- the part at i, with the mark behind it
pub part_left : {A : Type 0} (es : List (Expr A)) (i m : ℕ) (e : Expr A) → i < length es → e ≡ get_or es i e
    → (i + 1 < length es → m ≡ 64) → (length es ≤ i + 1 → m ≡ 82)
    → left_marks (trees_in (drop i es)) ≡ marks (tree_of e) ++ m ∷ left_marks (trees_in (drop (i + 1) es))
part_left es i m e h same more last =
    ap left_marks (parts_from es i e h same)
    ∙ ap (λ (c : ℕ). marks (tree_of e) ++ c ∷ left_marks (trees_in (drop (i + 1) es))) (behind_at es (i + 1) m more last)

pub none_left : {A : Type 0} (es : List (Expr A)) (i : ℕ) → length es ≤ i → left_marks (trees_in (drop i es)) ≡ []
none_left {A} es i h = go (drop i es) (let size : length (drop i es) ≡ 0 = omega (arith, length-drop i es) in size)
  where
    go : (ds : List (Expr A)) → length ds ≡ 0 → left_marks (trees_in ds) ≡ []
    go [] e = refl
    go (d ∷ ds) e = absurd (omega arith)

-- a part of each, with the mark behind it
parts_law : (xs ys us vs p q l m : List ℕ) (a b : ℕ) (o : Ordering) → Left xs ys l m → l ≡ p ++ a ∷ us → m ≡ q ++ b ∷ vs → Orders o p a q b
    → (r s : List ℕ) → slice_cmp nat_cmp (xs ++ r) (ys ++ s) ≡ ordering_then o (slice_cmp nat_cmp (us ++ r) (vs ++ s))
parts_law xs ys us vs p q l m a b o left e f h r s =
    left.law r s
    ∙ ap (λ (n : List ℕ). slice_cmp nat_cmp n (m ++ s)) (ap (λ (n : List ℕ). n ++ r) e ∙ append_assoc p (a ∷ us) r)
    ∙ ap (λ (n : List ℕ). slice_cmp nat_cmp (p ++ (a ∷ us ++ r)) n) (ap (λ (n : List ℕ). n ++ s) f ∙ append_assoc q (b ∷ vs) s)
    ∙ h.law (us ++ r) (vs ++ s)

pub part_same : (xs ys us vs p q l m : List ℕ) (a b : ℕ) (o : Ordering) → Left xs ys l m → l ≡ p ++ a ∷ us → m ≡ q ++ b ∷ vs → Orders o p a q b
    → o ≡ Equal → Left xs ys us vs
part_same xs ys us vs p q l m a b o left e f h same = record {
  law = λ r s. parts_law xs ys us vs p q l m a b o left e f h r s
      ∙ ap (λ (n : Ordering). ordering_then n (slice_cmp nat_cmp (us ++ r) (vs ++ s))) same;
}

pub part_decides : (xs ys us vs p q l m : List ℕ) (a b c d : ℕ) (o : Ordering) → Left xs ys l m → l ≡ p ++ a ∷ us → m ≡ q ++ b ∷ vs → Orders o p a q b
    → o ≢ Equal → Orders o xs c ys d
part_decides xs ys us vs p q l m a b c d o left e f h other = record {
  law = λ r s. parts_law xs ys us vs p q l m a b o left e f h (c ∷ r) (d ∷ s) ∙ settled o _ _ other;
}

pub all_same : (xs ys l m : List ℕ) (a b : ℕ) → Left xs ys l m → l ≡ [] → m ≡ [] → Orders (nat_cmp a b) xs a ys b
all_same xs ys l m a b left e f = record {
  law = λ r s. left.law (a ∷ r) (b ∷ s)
      ∙ ap (λ (n : List ℕ). slice_cmp nat_cmp (n ++ a ∷ r) (m ++ b ∷ s)) e
      ∙ ap (λ (n : List ℕ). slice_cmp nat_cmp (a ∷ r) (n ++ b ∷ s)) f;
}

last_same : (xs ys : List ℕ) (a b : ℕ) → xs ++ a ∷ [] ≡ ys ++ b ∷ [] → a ≡ b
last_same [] [] a b e = cc
last_same [] (y ∷ ys) a b e = absurd (omega (arith, length-append ys (b ∷ []), ap length e))
last_same (x ∷ xs) [] a b e = absurd (omega (arith, length-append xs (a ∷ []), ap length e))
last_same (x ∷ xs) (y ∷ ys) a b e = last_same xs ys a b cc

-- the marks behind two parts that are the same with them
pub next_same : (o : Ordering) (xs ys : List ℕ) (a b : ℕ) → Orders o xs a ys b → o ≡ Equal → a ≡ b
next_same o xs ys a b h e =
    last_same xs ys a b (exact_bytes _ _ (h.law [] [] ∙ ap (λ (p : Ordering). ordering_then p Equal) e))

-- where the marks behind two parts at i are the same, both lists go on or neither does
pub in_step : (i m n a b : ℕ) → (i < m → a ≡ 64) → (n ≤ i → b ≡ 82) → a ≡ b → i < m → i < n
in_step i m n a b more last e h = grind arith
