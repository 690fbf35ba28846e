-- The texts of the roles that items state.
use Rattle.std.proofs.Common.{ℕ, suc, ◌≡◌, ◌+◌, ◌<◌, ◌≤◌, List, [], ◌∷◌, ◌++◌, length, map, drop, get_or, sym, ◌∙◌, ap, subst, arith, append_assoc}
use Rattle.std.proofs.Common.{drop-cons}
use Rattle.std.specs.Prelude.{All, Vec}
use Rattle.std.proofs.lemmas.List.{append-nil, map-append, length-map}
use Rattle.std.proofs.lemmas.List.Elements.{All-get_or}
use Rattle.std.proofs.Math.ListN.{drop_of_length-le}
use Rattle.statement.specs.Tree.{Tree, text}
use Rattle.kif.specs.View.{tree_of, trees_in}
use Rattle.kif.specs.declared.expr.Expr.{Expr}
use Rattle.statement.specs.Profile.{role_in}
use Rattle.rules.specs.RuleSets.{texts_of}
use Rattle.rules_profile.specs.Stated.{roles_at}
use Rattle.rules_profile.proofs.Facts.{role_stated-here}

-- what was written, and the texts of the roles at the places that are left, are the texts of all roles
abbrev pub AreWritten : {A : Type 0} → List (List ℕ) → List (Expr A) → List ℕ → ℕ → Type 0
AreWritten {A} texts es ks i = texts ++ map text (roles_at (trees_in {A = A} es) (drop i ks)) ≡ map text (roles_at (trees_in {A = A} es) ks)

roles_from : {A : Type 0} (es : List (Expr A)) (ks : List ℕ) (i : ℕ) (e : Expr A) → i < length ks → get_or ks i 0 < length es
    → e ≡ get_or es (get_or ks i 0) e
    → roles_at (trees_in es) (drop i ks) ≡ role_in (tree_of e) ++ roles_at (trees_in es) (drop (i + 1) ks)
roles_from es ks i e h k same =
    ap (λ (js : List ℕ). roles_at (trees_in es) js) (drop-cons ks i 0 h)
    ∙ ap (λ (ts : List Tree). ts ++ roles_at (trees_in es) (drop (suc i) ks)) (role_stated-here es (get_or ks i 0) e k same)
    ∙ ap (λ (j : ℕ). role_in (tree_of e) ++ roles_at (trees_in es) (drop j ks)) (let one : suc i ≡ i + 1 = omega arith in one)

pub written_on : {A : Type 0} (old new : List (List ℕ)) (es : List (Expr A)) (ks : List ℕ) (i : ℕ) (e : Expr A) → AreWritten old es ks i
    → i < length ks → All (λ k. k < length es) ks
    → e ≡ get_or es (get_or ks i 0) e → new ≡ old ++ map text (role_in (tree_of e)) → AreWritten new es ks (i + 1)
written_on {A} old new es ks i e w h within same added =
    let rest = roles_at (trees_in {A = A} es) (drop (i + 1) ks) in
    let inside = All-get_or (λ k. k < length es) ks i 0 h within in
    ap (λ (ts : List (List ℕ)). ts ++ map text rest) added
    ∙ append_assoc old (map text (role_in (tree_of e))) (map text rest)
    ∙ ap (λ (ts : List (List ℕ)). old ++ ts) (sym (map-append text (role_in (tree_of e)) rest))
    ∙ ap (λ (ts : List Tree). old ++ map text ts) (sym (roles_from es ks i e h inside same))
    ∙ w

pub written_all : {A : Type 0} (texts : List (List ℕ)) (es : List (Expr A)) (ks : List ℕ) (i : ℕ) → AreWritten texts es ks i → length ks ≤ i
    → texts ≡ map text (roles_at (trees_in es) ks)
written_all {A} texts es ks i w h =
    sym (append-nil texts) ∙ ap (λ (js : List ℕ). texts ++ map text (roles_at (trees_in {A = A} es) js)) (sym (drop_of_length-le ks h)) ∙ w

-- one text more
pub one_text : {G : Type 0} (old new : List (Vec ℕ G)) (v : Vec ℕ G) (ts : List Tree) (t : Tree) → new ≡ old ++ v ∷ [] → v.items ≡ text t
    → ts ≡ t ∷ []
    → texts_of new ≡ texts_of old ++ map text ts
one_text old new v ts t added is one =
    ap (λ (vs : List _). texts_of vs) added ∙ map-append (λ (x : Vec ℕ _). x.items) old (v ∷ [])
    ∙ ap (λ (w : List ℕ). texts_of old ++ w ∷ []) is
    ∙ ap (λ (us : List Tree). texts_of old ++ map text us) (sym one)

-- no role, no text
pub no_text : (texts : List (List ℕ)) (ts : List Tree) → ts ≡ [] → texts ≡ texts ++ map text ts
no_text texts ts none = sym (append-nil texts) ∙ ap (λ (us : List Tree). texts ++ map text us) (sym none)

-- places of trees are places of what stands for them
pub places_inside : {A : Type 0} (es : List (Expr A)) (places read : List ℕ) → All (λ k. k < length (trees_in es)) places → read ≡ places
    → All (λ k. k < length es) read
places_inside {A} es places read within same =
    subst (λ (ks : List ℕ). All (λ k. k < length es) ks) (sym same)
    (subst (λ (n : ℕ). All (λ k. k < n) places) (length-map es (tree_of {A = A})) within)
