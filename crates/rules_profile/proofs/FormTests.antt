-- The tests of form, over trees in memory.
use Rattle.std.proofs.Common.{ℕ, ◌+◌, ◌<◌, ◌≤◌, Bool, true, false, not, ◌&&◌, ◌==◌, ◌⊎◌, inl, inr, ◌≡◌, List, [], ◌∷◌, length, drop, get_or, refl}
use Rattle.std.proofs.Common.{sym, ap, ◌∙◌, arith}
use Rattle.std.specs.List.{list_all}
use Rattle.std.specs.Prelude.{Vec}
use Rattle.statement.specs.Lexical.{is_lower_name_byte}
use Rattle.statement.specs.Tree.{Tree, name, list, Trees, no_trees, tree, trees_of}
use Rattle.kif.specs.View.{tree_of, trees_in}
use Rattle.kif.specs.declared.expr.Expr.{Expr}
use Rattle.kif.specs.declared.expr.Expr.TheVariants.{Name, List as List'}
use Rattle.kif.proofs.Facts.{tree_of-Name, tree_of-List, parts_from, no_parts}
use Rattle.statement.specs.Items.{are_name_bytes, is_name, is_constant, is_connective, is_term, are_terms, begins_compound, is_atom, is_one_atom}
use Rattle.statement.specs.Items.{is_some, is_literal, are_literals, head_tree, body_trees}
use Rattle.statement.specs.Words.{w_or, w_and, w_not}
use Rattle.rules_profile.specs.declared.forms.Connective.{Connective}
use Rattle.rules_profile.specs.declared.forms.Connective.TheVariants as words
use Rattle.rules_profile.specs.Connectives.{IsNoConnective, IsConnectiveOf}
use Rattle.rules_profile.specs.Parts.{HasNoWord}

pub byte_tests : (bs : List ℕ) → list_all is_lower_name_byte bs ≡ are_name_bytes bs
byte_tests [] = refl
byte_tests (b ∷ bs) = ap (λ (v : Bool). is_lower_name_byte b && v) (byte_tests bs)

-- A value in memory, and its tree.

pub tree_is_name : {A : Type 0} (e : Expr A) (n : Vec ℕ A) → e ≡ Name n → tree_of e ≡ name n.items
tree_is_name {A} e n h = ap (tree_of {A = A}) h ∙ tree_of-Name n

pub tree_is_list : {A : Type 0} (e : Expr A) (ps : Vec (Expr A) A) → e ≡ List' ps → tree_of e ≡ list (trees_of (trees_in ps.items))
tree_is_list {A} e ps h = ap (tree_of {A = A}) h ∙ tree_of-List ps

-- the list seen as a slice
pub tree_is_slice : {A : Type 0} (e : Expr A) (ps : Vec (Expr A) A) (items : List (Expr A)) → e ≡ List' ps → items ≡ ps.items
    → tree_of e ≡ list (trees_of (trees_in items))
tree_is_slice {A} e ps items h s = tree_is_list e ps h ∙ ap (λ (es : List (Expr A)). list (trees_of (trees_in es))) (sym s)

-- a list that begins with a word
pub tree_is_word : {A : Type 0} (e : Expr A) (ps : Vec (Expr A) A) (items : List (Expr A)) (word : List ℕ) (rest : List Tree) → e ≡ List' ps
    → items ≡ ps.items
    → trees_in items ≡ name word ∷ rest → tree_of e ≡ list (tree (name word) (trees_of rest))
tree_is_word e ps items word rest h s w = tree_is_slice e ps items h s ∙ ap (λ (ts : List Tree). list (trees_of ts)) w

-- A test of a list that holds where it holds of each tree.

pub each_passed : {A : Type 0} (whole : Trees → Bool) (one : Tree → Bool) → ((t : Tree) (ts : Trees) → whole (tree t ts) ≡ (one t && whole ts))
    → (es : List (Expr A)) (i : ℕ) (e : Expr A) → i < length es → e ≡ get_or es i e → one (tree_of e) ≡ true
    → whole (trees_of (trees_in (drop i es))) ≡ whole (trees_of (trees_in (drop (i + 1) es)))
each_passed whole one step es i e h same p =
    ap (λ (ts : List Tree). whole (trees_of ts)) (parts_from es i e h same)
    ∙ step (tree_of e) (trees_of (trees_in (drop (i + 1) es)))
    ∙ ap (λ (b : Bool). b && whole (trees_of (trees_in (drop (i + 1) es)))) p

pub one_failed : {A : Type 0} (whole : Trees → Bool) (one : Tree → Bool) → ((t : Tree) (ts : Trees) → whole (tree t ts) ≡ (one t && whole ts))
    → (es : List (Expr A)) (i : ℕ) (e : Expr A) → i < length es → e ≡ get_or es i e → one (tree_of e) ≡ false
    → whole (trees_of (trees_in (drop i es))) ≡ false
one_failed whole one step es i e h same p =
    ap (λ (ts : List Tree). whole (trees_of ts)) (parts_from es i e h same)
    ∙ step (tree_of e) (trees_of (trees_in (drop (i + 1) es)))
    ∙ ap (λ (b : Bool). b && whole (trees_of (trees_in (drop (i + 1) es)))) p

pub all_passed : {A : Type 0} (whole : Trees → Bool) → whole no_trees ≡ true → (es : List (Expr A)) (i : ℕ) → length es ≤ i
    → whole (trees_of (trees_in (drop i es))) ≡ true
all_passed whole done es i h = ap (λ (ts : List Tree). whole (trees_of ts)) (no_parts es i h) ∙ done

-- Terms.

pub no_word_no_term : (ts : List Tree) → HasNoWord ts → is_term (list (trees_of ts)) ≡ false
no_word_no_term [] h = refl
no_word_no_term (name w ∷ ts) h = absurd (h w ts refl)
no_word_no_term (list us ∷ ts) h = refl

name_of_constant : (w : List ℕ) → is_constant w ≡ true → is_name w ≡ true
name_of_constant w h = go (is_name w) refl h
  where
    go : (b : Bool) → is_name w ≡ b → is_constant w ≡ true → is_name w ≡ true
    go true e k = e
    go false e k = grind (arith, e, k)

pub term_of_terms : (w : List ℕ) (rest : Trees) → begins_compound (tree (name w) rest) ≡ true → is_term (list (tree (name w) rest)) ≡ are_terms rest
term_of_terms w no_trees c = absurd cc
term_of_terms w (tree t rest) c = rw (c, name_of_constant w c) refl

pub term_of_none : (w : List ℕ) (rest : Trees) → begins_compound (tree (name w) rest) ≡ false → is_term (list (tree (name w) rest)) ≡ false
term_of_none w no_trees c = refl
term_of_none w (tree t rest) c = rw c refl

pub begins : {A : Type 0} (w : List ℕ) (rest : List (Expr A)) → false ≡ (length rest == 0)
    → begins_compound (tree (name w) (trees_of (trees_in rest))) ≡ is_constant w
begins w [] h = absurd cc
begins w (t ∷ rest) h = refl

-- Atoms and literals.

pub no_word_no_atom : (ts : List Tree) → HasNoWord ts → is_atom (list (trees_of ts)) ≡ false
no_word_no_atom [] h = refl
no_word_no_atom (name w ∷ ts) h = absurd (h w ts refl)
no_word_no_atom (list us ∷ ts) h = refl

pub no_word_no_literal : (ts : List Tree) → HasNoWord ts → is_literal (list (trees_of ts)) ≡ false
no_word_no_literal [] h = refl
no_word_no_literal (name w ∷ ts) h = absurd (h w ts refl)
no_word_no_literal (list us ∷ ts) h = refl

pub some_trees : {A : Type 0} (es : List (Expr A)) → false ≡ (length es == 0) → is_some (trees_of (trees_in es)) ≡ true
some_trees [] h = absurd cc
some_trees (e ∷ es) h = refl

pub no_trees_there : {A : Type 0} (es : List (Expr A)) → true ≡ (length es == 0) → is_some (trees_of (trees_in es)) ≡ false
no_trees_there [] h = refl
no_trees_there (e ∷ es) h = absurd (grind (arith, h))

pub gathers : (w : List ℕ) (k : Connective) → IsConnectiveOf w k → (k ≡ words.Or) ⊎ (k ≡ words.And) → (w ≡ w_or) ⊎ (w ≡ w_and)
gathers w words.Or h k = inl h
gathers w words.And h k = inr h
gathers w words.Not h (inl k) = absurd cc
gathers w words.Not h (inr k) = absurd cc
gathers w words.Nothing h (inl k) = absurd cc
gathers w words.Nothing h (inr k) = absurd cc

-- a literal of other literals
pub literal_of_literals : (w : List ℕ) (rest : Trees) → (w ≡ w_or) ⊎ (w ≡ w_and)
    → is_literal (list (tree (name w) rest)) ≡ (is_some rest && are_literals rest)
literal_of_literals w rest (inl e) = ap (λ (v : List ℕ). is_literal (list (tree (name v) rest))) e
literal_of_literals w rest (inr e) = ap (λ (v : List ℕ). is_literal (list (tree (name v) rest))) e

pub literal_of_not : (w : List ℕ) (rest : Trees) → w ≡ w_not → is_literal (list (tree (name w) rest)) ≡ is_one_atom rest
literal_of_not w rest e = ap (λ (v : List ℕ). is_literal (list (tree (name v) rest))) e

pub literal_of_atom : (w : List ℕ) (rest : Trees) → IsNoConnective w
    → is_literal (list (tree (name w) rest)) ≡ ((is_constant w && not (is_connective w)) && are_terms rest)
literal_of_atom w rest n = rw (n.no_or, n.no_and, n.no_not) refl

-- The head and the body of an item.

pub no_word_alone : (ts : List Tree) → HasNoWord ts → (head_tree (list (trees_of ts)) ≡ list (trees_of ts))
    × (body_trees (list (trees_of ts)) ≡ no_trees)
no_word_alone [] h = (refl, refl)
no_word_alone (name w ∷ ts) h = absurd (h w ts refl)
no_word_alone (list us ∷ ts) h = (refl, refl)

pub word_alone : (w : List ℕ) (rest : Trees) → is_some rest ≡ false → (head_tree (list (tree (name w) rest)) ≡ list (tree (name w) rest))
    × (body_trees (list (tree (name w) rest)) ≡ no_trees)
word_alone w no_trees h = (refl, refl)
word_alone w (tree t ts) h = absurd cc

-- what a tree without a word in front, or with it alone, has as head and body
pub alone_along : (t u : Tree) → t ≡ u → (head_tree u ≡ u) × (body_trees u ≡ no_trees) → (head_tree t ≡ t) × (body_trees t ≡ no_trees)
alone_along t u e h = (ap head_tree e ∙ h.0 ∙ sym e, ap body_trees e ∙ h.1)

pub two_are_no_atom : {A : Type 0} (es : List (Expr A)) → 2 ≤ length es → is_one_atom (trees_of (trees_in es)) ≡ false
two_are_no_atom [] h = absurd (omega arith)
two_are_no_atom (a ∷ []) h = absurd (omega arith)
two_are_no_atom (a ∷ b ∷ es) h = refl

pub one_is_atom : {A : Type 0} (es : List (Expr A)) (e : Expr A) → 1 ≤ length es → length es < 2 → e ≡ get_or es 0 e
    → is_one_atom (trees_of (trees_in es)) ≡ is_atom (tree_of e)
one_is_atom [] e h k same = absurd (omega arith)
one_is_atom (a ∷ []) e h k same = ap (λ x. is_atom (tree_of x)) (sym same)
one_is_atom (a ∷ b ∷ es) e h k same = absurd (omega arith)

pub nothing_there : {A : Type 0} (es : List (Expr A)) → length es ≡ 0 → is_some (trees_of (trees_in es)) ≡ false
nothing_there [] h = refl
nothing_there (e ∷ es) h = absurd (omega arith)
