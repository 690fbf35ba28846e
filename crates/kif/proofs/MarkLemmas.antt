-- The marks of a tree, and its text.
use Rattle.std.proofs.Common.{ℕ, ◌≡◌, ◌≢◌, ◌*◌, ◌<◌, Bool, true, false, cond, not, List, [], ◌∷◌, ◌++◌, map, refl, sym, ap, ◌∙◌, arith}
use Rattle.std.specs.Prelude.{⊤}
use Rattle.std.proofs.lemmas.Bool.Decides.{nat_tests}
use Rattle.std.proofs.lemmas.List.{map-append}
use Rattle.std.specs.Ordering.{nat_cmp, ordering_then}
use Rattle.std.specs.Cmp.Lexicographic.{slice_cmp}
use Rattle.std.specs.declared.cmp.Ordering.{Ordering}
use Rattle.std.specs.declared.cmp.Ordering.TheVariants.{Less, Greater}
use Rattle.statement.specs.Tree.{Tree, name, list, Trees, no_trees, tree, text, parts_text, further_text, printed_cmp}
use Rattle.statement.specs.Lexical.{is_name_byte, is_capital, AreNameBytes, HasNames, HaveNames}
use Rattle.kif.proofs.Equality.{both}
use Rattle.kif.specs.Marks.{name_mark, compared_bytes, marks, parts_marks, further_marks, marked_cmp}

-- the end of a list of marks, as the mark 0

abbrev ArePositive : List ℕ → Type 0
ArePositive [] = ⊤
ArePositive (x ∷ xs) = (0 < x) × ArePositive xs

positive_append : (xs ys : List ℕ) → ArePositive xs → ArePositive ys → ArePositive (xs ++ ys)
positive_append [] ys h k = k
positive_append (x ∷ xs) ys h k = (h.0, positive_append xs ys h.1 k)

names_positive : (n : List ℕ) → ArePositive (map name_mark n)
names_positive [] = tt
names_positive (b ∷ bs) = (omega arith, names_positive bs)

mutual
  marks_positive : (t : Tree) → ArePositive (marks t)
  marks_positive (name n) = names_positive (compared_bytes n)
  marks_positive (list ts) = (omega arith, parts_positive ts)

  parts_positive : (ts : Trees) → ArePositive (parts_marks ts)
  parts_positive no_trees = (omega arith, tt)
  parts_positive (tree t ts) = positive_append (marks t) (further_marks ts) (marks_positive t) (further_positive ts)

  further_positive : (ts : Trees) → ArePositive (further_marks ts)
  further_positive no_trees = (omega arith, tt)
  further_positive (tree t ts) = (omega arith, positive_append (marks t) (further_marks ts) (marks_positive t) (further_positive ts))

below : (y : ℕ) → 0 < y → nat_cmp 0 y ≡ Less
below y h = grind (arith, nat_tests)

above : (x : ℕ) → 0 < x → nat_cmp x 0 ≡ Greater
above x h = grind (arith, nat_tests)

slice_cmp-ended : (xs ys : List ℕ) → ArePositive xs → ArePositive ys → slice_cmp nat_cmp (xs ++ 0 ∷ []) (ys ++ 0 ∷ []) ≡ slice_cmp nat_cmp xs ys
slice_cmp-ended [] [] h k = refl
slice_cmp-ended [] (y ∷ ys) h k = ap (λ (o : Ordering). ordering_then o (slice_cmp nat_cmp [] (ys ++ 0 ∷ []))) (below y k.0)
slice_cmp-ended (x ∷ xs) [] h k = ap (λ (o : Ordering). ordering_then o (slice_cmp nat_cmp (xs ++ 0 ∷ []) [])) (above x h.0)
slice_cmp-ended (x ∷ xs) (y ∷ ys) h k = ap (λ (o : Ordering). ordering_then (nat_cmp x y) o) (slice_cmp-ended xs ys h.1 k.1)

pub marked_cmp-ended : (t u : Tree) → slice_cmp nat_cmp (marks t ++ 0 ∷ []) (marks u ++ 0 ∷ []) ≡ marked_cmp t u
marked_cmp-ended t u = slice_cmp-ended (marks t) (marks u) (marks_positive t) (marks_positive u)

-- the marks of a tree whose names are of name bytes, byte by byte

abbrev mark : ℕ → ℕ
mark b = cond (is_name_byte b) (name_mark b) (2 * b)

names_marked : (n : List ℕ) → AreNameBytes n → map name_mark n ≡ map mark n
names_marked [] h = refl
names_marked (b ∷ bs) h =
    let e : is_name_byte b ≡ true = (both (is_name_byte b) (not (is_capital b)) h.0).0 in
    ap (λ (l : List ℕ). name_mark b ∷ l) (names_marked bs h.1)
    ∙ ap (λ (t : Bool). cond t (name_mark b) (2 * b) ∷ map mark bs) (sym e)

joined : (xs ys us vs : List ℕ) → us ≡ map mark xs → vs ≡ map mark ys → us ++ vs ≡ map mark (xs ++ ys)
joined xs ys us vs e f =
    ap (λ (l : List ℕ). l ++ vs) e ∙ ap (λ (l : List ℕ). map mark xs ++ l) f ∙ sym (map-append mark xs ys)

mutual
  marks-text : (t : Tree) → HasNames t → marks t ≡ map mark (text t)
  marks-text (name []) h = absurd h
  marks-text (name (b ∷ bs)) h = names_marked (b ∷ bs) h
  marks-text (list ts) h = ap (λ (l : List ℕ). 80 ∷ l) (parts_marks-text ts h)

  parts_marks-text : (ts : Trees) → HaveNames ts → parts_marks ts ≡ map mark (parts_text ts)
  parts_marks-text no_trees h = refl
  parts_marks-text (tree t ts) h = joined (text t) (further_text ts) _ _ (marks-text t h.0) (further_marks-text ts h.1)

  further_marks-text : (ts : Trees) → HaveNames ts → further_marks ts ≡ map mark (further_text ts)
  further_marks-text no_trees h = refl
  further_marks-text (tree t ts) h =
      ap (λ (l : List ℕ). 64 ∷ l) (joined (text t) (further_text ts) _ _ (marks-text t h.0) (further_marks-text ts h.1))

nat_cmp-mark : (b c : ℕ) → nat_cmp (mark b) (mark c) ≡ nat_cmp b c
nat_cmp-mark b c = go (is_name_byte b) (is_name_byte c) (λ e. ap is_name_byte e)
  where
    go : (s t : Bool) → (b ≡ c → s ≡ t) → nat_cmp (cond s (name_mark b) (2 * b)) (cond t (name_mark c) (2 * c)) ≡ nat_cmp b c
    go true true h = grind (arith, nat_tests)
    go true false h = let other : b ≢ c = λ e. absurd (cc (h e)) in grind (arith, nat_tests)
    go false true h = let other : b ≢ c = λ e. absurd (cc (h e)) in grind (arith, nat_tests)
    go false false h = grind (arith, nat_tests)

slice_cmp-mark : (xs ys : List ℕ) → slice_cmp nat_cmp (map mark xs) (map mark ys) ≡ slice_cmp nat_cmp xs ys
slice_cmp-mark [] [] = refl
slice_cmp-mark [] (y ∷ ys) = refl
slice_cmp-mark (x ∷ xs) [] = refl
slice_cmp-mark (x ∷ xs) (y ∷ ys) =
    ap (λ (o : Ordering). ordering_then o (slice_cmp nat_cmp (map mark xs) (map mark ys))) (nat_cmp-mark x y)
    ∙ ap (λ (o : Ordering). ordering_then (nat_cmp x y) o) (slice_cmp-mark xs ys)

pub marked_cmp-printed : (t u : Tree) → HasNames t → HasNames u → marked_cmp t u ≡ printed_cmp t u
marked_cmp-printed t u h k =
    ap (λ (l : List ℕ). slice_cmp nat_cmp l (marks u)) (marks-text t h)
    ∙ ap (λ (l : List ℕ). slice_cmp nat_cmp (map mark (text t)) l) (marks-text u k)
    ∙ slice_cmp-mark (text t) (text u)
