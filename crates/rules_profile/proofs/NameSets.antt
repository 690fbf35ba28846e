-- Names that a list has, and how many different ones.
use Rattle.std.proofs.Common.{ℕ, nat_lt, not, suc, ◌+◌, ◌<◌, ◌≤◌, Bool, true, false, cond, ◌||◌, ◌≡◌, List, [], ◌∷◌, ◌++◌, length, drop, get_or, refl}
use Rattle.std.proofs.Common.{sym, ap, subst, ◌∙◌, arith, length-append}
use Rattle.std.proofs.lemmas.Bool.Decides.{nat_tests}
use Rattle.std.proofs.lemmas.List.{append-nil}
use Rattle.std.specs.Bool.{OnTrue, OnFalse}
use Rattle.std.specs.Borrow.{Bor}
use Rattle.statement.specs.Clause.{is_variable}
use Rattle.statement.specs.Tree.{Tree, name, trees_of, name_eq}
use Rattle.kif.specs.View.{tree_of, trees_in}
use Rattle.kif.specs.declared.expr.Expr.{Expr}
use Rattle.kif.proofs.Facts.{name_eq_yes, name_eq_self, parts_from, no_parts}
use Rattle.rules_profile.specs.Names.{names_behind, HasSameNames, NamesOnce, Gathers}
use Rattle.statement.specs.Safety.{is_name_in, variables, variables_in, count_different}
use Rattle.statement.specs.RuleLimits.{most_variables}
use Rattle.rules_profile.proofs.Tests.{or_left, or_right}

pub is_name_in-append : (n : List ℕ) (xs ys : List (List ℕ)) → is_name_in n (xs ++ ys) ≡ (is_name_in n xs || is_name_in n ys)
is_name_in-append n [] ys = refl
is_name_in-append n (x ∷ xs) ys =
    ap (λ (v : Bool). name_eq n x || v) (is_name_in-append n xs ys) ∙ or_assoc (name_eq n x) (is_name_in n xs) (is_name_in n ys)
  where
    or_assoc : (a b c : Bool) → (a || (b || c)) ≡ ((a || b) || c)
    or_assoc true b c = refl
    or_assoc false b c = refl

-- the names of a list but n
abbrev without : List ℕ → List (List ℕ) → List (List ℕ)
without n [] = []
without n (m ∷ ms) = cond (name_eq n m) (without n ms) (m ∷ without n ms)

without_none : (n : List ℕ) (ns : List (List ℕ)) → is_name_in n ns ≡ false → without n ns ≡ ns
without_none n [] h = refl
without_none n (m ∷ ns) h = go (name_eq n m) refl h (without_none n ns)
  where
    go : (b : Bool) → name_eq n m ≡ b → (b || is_name_in n ns) ≡ false → (is_name_in n ns ≡ false → without n ns ≡ ns)
        → cond b (without n ns) (m ∷ without n ns) ≡ m ∷ ns
    go true e k more = absurd cc
    go false e k more = ap (λ (ms : List (List ℕ)). m ∷ ms) (more k)

is_name_in-without : (m n : List ℕ) (ns : List (List ℕ)) → name_eq m n ≡ false → is_name_in m (without n ns) ≡ is_name_in m ns
is_name_in-without m n [] h = refl
is_name_in-without m n (k ∷ ns) h = go (name_eq n k) refl (is_name_in-without m n ns h)
  where
    go : (b : Bool) → name_eq n k ≡ b → is_name_in m (without n ns) ≡ is_name_in m ns
        → is_name_in m (cond b (without n ns) (k ∷ without n ns)) ≡ (name_eq m k || is_name_in m ns)
    go true e more =
        more ∙ ap (λ (v : Bool). v || is_name_in m ns) (sym (subst (λ (x : List ℕ). name_eq m x ≡ false) (name_eq_yes n k e) h))
    go false e more = ap (λ (v : Bool). name_eq m k || v) more

one_fewer : (n : List ℕ) (ns : List (List ℕ)) → is_name_in n ns ≡ true → count_different ns ≡ suc (count_different (without n ns))
one_fewer n [] h = absurd cc
one_fewer n (k ∷ ns) h = go (name_eq n k) (is_name_in k ns) refl refl h (one_fewer n ns)
  where
    go : (b c : Bool) → name_eq n k ≡ b → is_name_in k ns ≡ c → (b || is_name_in n ns) ≡ true
        → (is_name_in n ns ≡ true → count_different ns ≡ suc (count_different (without n ns)))
        → cond c (count_different ns) (suc (count_different ns)) ≡ suc (count_different (cond b (without n ns) (k ∷ without n ns)))
    go true true e f k' more = more (subst (λ (x : List ℕ). is_name_in x ns ≡ true) (sym (name_eq_yes n k e)) f)
    go true false e f k' more =
        ap (λ (ms : List (List ℕ)). suc (count_different ms))
        (sym (without_none n ns (subst (λ (x : List ℕ). is_name_in x ns ≡ false) (sym (name_eq_yes n k e)) f)))
    go false c e f k' more =
        let there : is_name_in k (without n ns) ≡ c = is_name_in-without k n ns (differ_back n k e) ∙ f in
        last c (more k') there
      where
        differ_back : (x y : List ℕ) → name_eq x y ≡ false → name_eq y x ≡ false
        differ_back x y d = back (name_eq y x) refl
          where
            back : (v : Bool) → name_eq y x ≡ v → v ≡ false
            back true g = let s : name_eq x y ≡ true = subst (λ (z : List ℕ). name_eq z y ≡ true) (name_eq_yes y x g) (name_eq_self y) in absurd cc
            back false g = refl

        last : (v : Bool) → count_different ns ≡ suc (count_different (without n ns)) → is_name_in k (without n ns) ≡ v
            → cond v (count_different ns) (suc (count_different ns))
            ≡ suc (cond (is_name_in k (without n ns)) (count_different (without n ns)) (suc (count_different (without n ns))))
        last true i j = rw j i
        last false i j = rw j (ap suc i)

-- a list with all the names of another has as many different ones at least
pub count_le : (ms ns : List (List ℕ)) → ((n : List ℕ) → is_name_in n ms ≡ true → is_name_in n ns ≡ true) → count_different ms ≤ count_different ns
count_le [] ns h = omega arith
count_le (m ∷ ms) ns h =
    go (is_name_in m ms) refl
    (count_le ms ns (λ n k. h n (or_right (name_eq n m) (is_name_in n ms) k)))
    (λ e. count_le ms (without m ns) (λ n k. fewer n e k))
  where
    fewer : (n : List ℕ) → is_name_in m ms ≡ false → is_name_in n ms ≡ true → is_name_in n (without m ns) ≡ true
    fewer n e k = other (name_eq n m) refl
      where
        other : (b : Bool) → name_eq n m ≡ b → is_name_in n (without m ns) ≡ true
        other true f = let k' : is_name_in m ms ≡ true = subst (λ (x : List ℕ). is_name_in x ms ≡ true) (name_eq_yes n m f) k in absurd cc
        other false f = is_name_in-without n m ns f ∙ h n (or_right (name_eq n m) (is_name_in n ms) k)

    go : (b : Bool) → is_name_in m ms ≡ b → count_different ms ≤ count_different ns
        → (is_name_in m ms ≡ false → count_different ms ≤ count_different (without m ns))
        → cond b (count_different ms) (suc (count_different ms)) ≤ count_different ns
    go true e all rest = all
    go false e all rest =
        let one = one_fewer m ns (h m (or_left (name_eq m m) (is_name_in m ms) (name_eq_self m))) in
        let r = rest e in
        omega arith

pub same_count : (ms ns : List (List ℕ)) → HasSameNames ms ns → count_different ms ≡ count_different ns
same_count ms ns h =
    let a = count_le ms ns (λ n k. sym (h n) ∙ k) in
    let b = count_le ns ms (λ n k. h n ∙ k) in
    omega arith

-- Gathering names.

pub gathers_none : (old : List (List ℕ)) → NamesOnce old → Gathers old old []
gathers_none old d = record { same = λ n. refl; different = d }

pub gathers_old : (n : List ℕ) (old : List (List ℕ)) → NamesOnce old → true ≡ is_name_in n old → Gathers old old (n ∷ [])
gathers_old n old d h = record { same = λ m. go m (name_eq m n) refl; different = d }
  where
    go : (m : List ℕ) (b : Bool) → name_eq m n ≡ b → is_name_in m old ≡ (b || is_name_in m old)
    go m true e = subst (λ (x : List ℕ). is_name_in x old ≡ true) (sym (name_eq_yes m n e)) (sym h)
    go m false e = refl

or_swap : (a b : Bool) → (b || (a || false)) ≡ (a || b)
or_swap true true = refl
or_swap true false = refl
or_swap false true = refl
or_swap false false = refl

new_same : (n : List ℕ) (old : List (List ℕ)) → HasSameNames (old ++ n ∷ []) (n ∷ old)
new_same n old m = is_name_in-append m old (n ∷ []) ∙ or_swap (name_eq m n) (is_name_in m old)

count_new : (n : List ℕ) (old : List (List ℕ)) → false ≡ is_name_in n old → count_different (n ∷ old) ≡ suc (count_different old)
count_new n old h = rw (sym h) refl

pub gathers_new : (n : List ℕ) (old new : List (List ℕ)) → NamesOnce old → false ≡ is_name_in n old → new ≡ old ++ n ∷ []
    → Gathers old new (n ∷ [])
gathers_new n old new d h e = record {
  same = λ m. ap (is_name_in m) e ∙ new_same n old m;
  different =
      let size = length-append old (n ∷ []) in
      let s = same_count (old ++ n ∷ []) (n ∷ old) (new_same n old) in
      let c = count_new n old h in
      ap count_different e ∙ (let k : count_different (old ++ n ∷ []) ≡ length (old ++ n ∷ []) = omega arith in k) ∙ ap length (sym e);
}

pub too_many : (n : List ℕ) (old : List (List ℕ)) → NamesOnce old → false ≡ is_name_in n old → length old ≡ most_variables
    → most_variables < count_different (n ∷ old)
too_many n old d h e = let c = count_new n old h in omega arith

or_turn : (v r s : Bool) → (r || (v || s)) ≡ ((v || r) || s)
or_turn true true s = refl
or_turn true false s = refl
or_turn false true s = refl
or_turn false false s = refl

-- what is left to gather, and what is there, are all that there is to have
pub gathers_more : (rest v r s s' whole : List (List ℕ)) → rest ≡ v ++ r → HasSameNames (rest ++ s) whole → Gathers s s' v
    → HasSameNames (r ++ s') whole
gathers_more rest v r s s' whole e h g n =
    is_name_in-append n r s'
    ∙ ap (λ (b : Bool). is_name_in n r || b) (g.same n ∙ is_name_in-append n v s)
    ∙ or_turn (is_name_in n v) (is_name_in n r) (is_name_in n s)
    ∙ ap (λ (b : Bool). b || is_name_in n s) (sym (is_name_in-append n v r))
    ∙ sym (is_name_in-append n (v ++ r) s)
    ∙ ap (λ (xs : List (List ℕ)). is_name_in n (xs ++ s)) (sym e)
    ∙ h n

or_within : (v r s : Bool) → (v || s) ≡ true → ((v || r) || s) ≡ true
or_within true r s h = refl
or_within false true s h = refl
or_within false false s h = h

pub many_already : (rest v r s whole : List (List ℕ)) → rest ≡ v ++ r → HasSameNames (rest ++ s) whole → most_variables < count_different (v ++ s)
    → most_variables < count_different whole
many_already rest v r s whole e h m =
    let k = count_le (v ++ s) whole (λ n j.
    sym (h n) ∙ ap (λ (xs : List (List ℕ)). is_name_in n (xs ++ s)) e ∙ is_name_in-append n (v ++ r) s
    ∙ ap (λ (b : Bool). b || is_name_in n s) (is_name_in-append n v r)
    ∙ or_within (is_name_in n v) (is_name_in n r) (is_name_in n s) (sym (is_name_in-append n v s) ∙ j)) in
    omega arith

pub all_gathered : (s whole old more : List (List ℕ)) → whole ≡ more ++ old → HasSameNames s whole → NamesOnce s → Gathers old s more
all_gathered s whole old more e h d = record { same = λ n. h n ∙ ap (is_name_in n) e; different = d }

pub variables_from : {A : Type 0} (es : List (Expr A)) (i : ℕ) (e : Expr A) → i < length es → e ≡ get_or es i e
    → variables_in (trees_of (trees_in (drop i es))) ≡ variables (tree_of e) ++ variables_in (trees_of (trees_in (drop (i + 1) es)))
variables_from es i e h same = ap (λ (ts : List Tree). variables_in (trees_of ts)) (parts_from es i e h same)

pub no_variables_left : {A : Type 0} (es : List (Expr A)) (i : ℕ) → length es ≤ i → variables_in (trees_of (trees_in (drop i es))) ≡ []
no_variables_left es i h = ap (λ (ts : List Tree). variables_in (trees_of ts)) (no_parts es i h)

-- the variables of a name

pub variables_of_name : (n : List ℕ) → true ≡ is_variable n → variables (name n) ≡ n ∷ []
variables_of_name n h = rw (sym h) refl

pub variables_of_constant : (n : List ℕ) → false ≡ is_variable n → variables (name n) ≡ []
variables_of_constant n h = rw (sym h) refl

pub length-names_behind : (rs : List (Bor (List ℕ))) → length (names_behind rs) ≡ length rs
length-names_behind [] = refl
length-names_behind (r ∷ rs) = ap suc (length-names_behind rs)

pub names_behind-last : (rs : List (Bor (List ℕ))) (r : Bor (List ℕ)) → names_behind (rs ++ r ∷ []) ≡ names_behind rs ++ r.now ∷ []
names_behind-last [] r = refl
names_behind-last (s ∷ rs) r = ap (λ (ns : List (List ℕ)). s.now ∷ ns) (names_behind-last rs r)

-- what a full or a large enough room for names says
pub fits_or_not : (b : Bool) (old new more : List (List ℕ)) → old ≡ [] → length new ≤ most_variables → OnTrue b (Gathers old new more)
    → OnFalse b (most_variables < count_different (more ++ old))
    → not b ≡ nat_lt most_variables (count_different more)
fits_or_not true old new more e l y n =
    let s = same_count new more (λ m. y.same m ∙ ap (λ (xs : List (List ℕ)). is_name_in m (more ++ xs)) e ∙ ap (is_name_in m) (append-nil more)) in
    let d = y.different in
    let le : count_different more ≤ most_variables = omega arith in
    grind (arith, nat_tests)
fits_or_not false old new more e l y n =
    let lt : most_variables < count_different more =
    subst (λ (xs : List (List ℕ)). most_variables < count_different xs) (ap (λ (xs : List (List ℕ)). more ++ xs) e ∙ append-nil more) n in
    grind (arith, nat_tests)
