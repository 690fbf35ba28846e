-- The lines of what was read of lists that are not closed yet.
use Rattle.std.proofs.Common.{ℕ, ◌≡◌, Bool, true, false, List, [], ◌∷◌, ◌++◌, refl, sym, ap, ◌∙◌, append_assoc}
use Rattle.statement.specs.Tree.{Tree, list, trees_of, text, parts_text, further_text}
use Rattle.statement.specs.Replies.{lines_of}
use Rattle.kif.specs.Written.{gap}
use Rattle.kif.specs.Lines.{line_end}
use Rattle.kif.proofs.Shelves.{Shelf}

append_none : (xs : List ℕ) → xs ++ [] ≡ xs
append_none [] = refl
append_none (x ∷ xs) = ap (λ (l : List ℕ). x ∷ l) (append_none xs)

-- the texts of trees, a space before each
abbrev pub further : List Tree → List ℕ
further [] = []
further (t ∷ ts) = 32 ∷ text t ++ further ts

-- the texts of trees, joined by one space
abbrev pub joined : List Tree → List ℕ
joined [] = []
joined (t ∷ ts) = text t ++ further ts

abbrev pub is_none : List Tree → Bool
is_none [] = true
is_none (t ∷ ts) = false

-- what stands in the list around open lists, and in these
abbrev pub inside : List Shelf → List Tree → List ℕ
inside [] us = joined us
inside (f ∷ fs) us = joined f.before ++ (gap (is_none f.before) ++ 40 ∷ inside fs us)

-- the lines of whole trees, and the beginning of the next
abbrev pub written : List Shelf → List Tree → List ℕ
written [] us = lines_of (trees_of us)
written (f ∷ fs) us = lines_of (trees_of f.before) ++ 40 ∷ inside fs us

abbrev pub stands_first : List Shelf → List Tree → Bool
stands_first [] us = true
stands_first (f ∷ fs) us = is_none us

abbrev pub is_outside : List Shelf → Bool
is_outside [] = true
is_outside (f ∷ fs) = false

further_end : (ts : List Tree) → further_text (trees_of ts) ≡ further ts ++ 41 ∷ []
further_end [] = refl
further_end (t ∷ ts) =
    ap (λ (l : List ℕ). 32 ∷ text t ++ l) (further_end ts) ∙ sym (append_assoc (32 ∷ text t) (further ts) (41 ∷ []))

joined_end : (ts : List Tree) → parts_text (trees_of ts) ≡ joined ts ++ 41 ∷ []
joined_end [] = refl
joined_end (t ∷ ts) = ap (λ (l : List ℕ). text t ++ l) (further_end ts) ∙ sym (append_assoc (text t) (further ts) (41 ∷ []))

further_more : (ts : List Tree) (t : Tree) → further (ts ++ t ∷ []) ≡ further ts ++ (32 ∷ text t)
further_more [] t = append_none (32 ∷ text t)
further_more (u ∷ us) t =
    ap (λ (l : List ℕ). 32 ∷ text u ++ l) (further_more us t) ∙ sym (append_assoc (32 ∷ text u) (further us) (32 ∷ text t))

joined_more : (ts : List Tree) (t : Tree) → joined (ts ++ t ∷ []) ≡ joined ts ++ (gap (is_none ts) ++ text t)
joined_more [] t = append_none (text t)
joined_more (u ∷ us) t =
    ap (λ (l : List ℕ). text u ++ l) (further_more us t) ∙ sym (append_assoc (text u) (further us) (32 ∷ text t))

lines_more : (ts : List Tree) (t : Tree) → lines_of (trees_of (ts ++ t ∷ [])) ≡ lines_of (trees_of ts) ++ (text t ++ 10 ∷ [])
lines_more [] t = refl
lines_more (u ∷ us) t =
    ap (λ (l : List ℕ). text u ++ 10 ∷ l) (lines_more us t)
    ∙ sym (append_assoc (text u) (10 ∷ lines_of (trees_of us)) (text t ++ 10 ∷ []))

-- more behind what stands in open lists
behind : (a b l x : List ℕ) → a ++ (b ++ 40 ∷ (l ++ x)) ≡ (a ++ (b ++ 40 ∷ l)) ++ x
behind a b l x = ap (λ (m : List ℕ). a ++ m) (sym (append_assoc b (40 ∷ l) x)) ∙ sym (append_assoc a (b ++ 40 ∷ l) x)

inside_more : (fs : List Shelf) (us : List Tree) (t : Tree) → inside fs (us ++ t ∷ []) ≡ inside fs us ++ (gap (is_none us) ++ text t)
inside_more [] us t = joined_more us t
inside_more (f ∷ fs) us t =
    ap (λ (l : List ℕ). joined f.before ++ (gap (is_none f.before) ++ 40 ∷ l)) (inside_more fs us t)
    ∙ behind (joined f.before) (gap (is_none f.before)) (inside fs us) (gap (is_none us) ++ text t)

-- one more tree
pub written_more : (fs : List Shelf) (us : List Tree) (t : Tree)
    → written fs (us ++ t ∷ []) ≡ written fs us ++ gap (stands_first fs us) ++ text t ++ line_end (is_outside fs)
written_more [] us t =
    lines_more us t ∙ sym (append_assoc (lines_of (trees_of us)) (text t) (10 ∷ []))
    ∙ ap (λ (l : List ℕ). l ++ text t ++ 10 ∷ []) (sym (append_none (lines_of (trees_of us))))
written_more (f ∷ fs) us t =
    let a = lines_of (trees_of f.before) in
    let g = gap (is_none us) in
    ap (λ (l : List ℕ). a ++ 40 ∷ l) (inside_more fs us t)
    ∙ sym (append_assoc a (40 ∷ inside fs us) (g ++ text t))
    ∙ sym (append_assoc (a ++ 40 ∷ inside fs us) g (text t))
    ∙ sym (append_none (a ++ 40 ∷ inside fs us ++ g ++ text t))

inside_open : (fs : List Shelf) (f : Shelf) (us : List Tree)
    → inside (fs ++ f ∷ []) us ≡ inside fs f.before ++ (gap (is_none f.before) ++ 40 ∷ joined us)
inside_open [] f us = refl
inside_open (g ∷ fs) f us =
    ap (λ (l : List ℕ). joined g.before ++ (gap (is_none g.before) ++ 40 ∷ l)) (inside_open fs f us)
    ∙ behind (joined g.before) (gap (is_none g.before)) (inside fs f.before) (gap (is_none f.before) ++ 40 ∷ joined us)

-- one more open list
pub written_open : (fs : List Shelf) (f : Shelf) (us : List Tree)
    → written (fs ++ f ∷ []) us ≡ written fs f.before ++ gap (stands_first fs f.before) ++ 40 ∷ joined us
written_open [] f us = ap (λ (l : List ℕ). l ++ 40 ∷ joined us) (sym (append_none (lines_of (trees_of f.before))))
written_open (g ∷ fs) f us =
    let a = lines_of (trees_of g.before) in
    let h = gap (is_none f.before) in
    ap (λ (l : List ℕ). a ++ 40 ∷ l) (inside_open fs f us)
    ∙ sym (append_assoc a (40 ∷ inside fs f.before) (h ++ 40 ∷ joined us))
    ∙ sym (append_assoc (a ++ 40 ∷ inside fs f.before) h (40 ∷ joined us))

-- the innermost open list is closed
pub written_close : (gs : List Shelf) (f : Shelf) (us : List Tree)
    → written gs (f.before ++ list (trees_of us) ∷ []) ≡ written (gs ++ f ∷ []) us ++ 41 ∷ [] ++ line_end (is_outside gs)
written_close gs f us =
    let w = written gs f.before ++ gap (stands_first gs f.before) in
    written_more gs f.before (list (trees_of us))
    ∙ ap (λ (l : List ℕ). l ++ line_end (is_outside gs))
    (ap (λ (l : List ℕ). w ++ 40 ∷ l) (joined_end us) ∙ sym (append_assoc w (40 ∷ joined us) (41 ∷ []))
    ∙ ap (λ (l : List ℕ). l ++ 41 ∷ []) (sym (written_open gs f us)))
