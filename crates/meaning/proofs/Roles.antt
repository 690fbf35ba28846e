-- The listed roles are the roles that the items state, in their order.
use Rattle.std.proofs.Common.{
  ℕ,
  zero,
  suc,
  Bool,
  true,
  false,
  not,
  cond,
  ◌&&◌,
  ◌≡◌,
  ◌⊎◌,
  inl,
  inr,
  List,
  [],
  ◌∷◌,
  ◌++◌,
  map,
  append_assoc,
  refl,
  sym,
  ap,
  subst,
  ◌∙◌,
  arith,
  eqb,
  eqb-true,
}
use Rattle.std.specs.Prelude.{filter}
use Rattle.statement.specs.Tree.{Tree, name, list, Trees, no_trees, tree, name_eq, tree_eq}
use Rattle.kif.proofs.Facts.{both, name_eq_yes, tree_eq_yes, tree_eq_self}
use Rattle.statement.specs.Words.{w_role}
use Rattle.statement.specs.Clause.{is_variable, Atom, Alternative, Relation, relation_of, relation_eq, count_trees, is_word}
use Rattle.statement.specs.Dependence.{IsAmong, is_among, is_fixed}
use Rattle.statement.specs.Items.{item_head, item_alternatives, alternatives, body_trees, is_some, readings_of_all}
use Rattle.statement.specs.Order.{relations_in_order}
use Rattle.statement.specs.Safety.{variables, variables_in}
use Rattle.statement.specs.Profile.{HasNoFault, is_empty, is_role_well, is_tree_in, first_of, role_in, with_new, roles_from, roles}
use Rattle.rules_profile.proofs.Facts.{right_if, same_head, fixed_tested, relations_complete, or_cases, or_left, or_right, relation_eq_yes}
use Rattle.statement.specs.Substitution.{Map, substitute, substitute_all}
use Rattle.statement.specs.Meaning.{atom1}
use Rattle.meaning.specs.InOrder.{AreDistinct}
use Rattle.statement.specs.Matching.{map_of}
use Rattle.statement.specs.Listing.{Instance, is_atom_in, kept_of, kept_of_relation, with_atoms, Listing, heads, list_relation, list_relations, one_term, terms_of, role_list}
use Rattle.meaning.proofs.Accepted.{words_well, accepted_well_formed}
use Rattle.meaning.proofs.ListedLaw.{is_atom_yes, is_atom_in_yes}
use Rattle.meaning.proofs.Fold.{terms_in, terms_out}
use Rattle.meaning.proofs.Rising.{relation_test, new_relation, relations_distinct}
use Rattle.meaning.proofs.Ordered.{order_filter, among_filter, among_filter_in}

abbrev role_relation : Relation
role_relation = record { word = w_role; arity = 1 }

append_nil : (ts : List Tree) → ts ++ [] ≡ ts
append_nil [] = refl
append_nil (t ∷ ts) = ap (λ (us : List Tree). t ∷ us) (append_nil ts)

-- Roles by first appearance.

tree_in_yes : (t : Tree) (ts : List Tree) → is_tree_in t ts ≡ true → IsAmong t ts
tree_in_yes t [] h = absurd cc
tree_in_yes t (u ∷ us) h = go (or_cases _ _ h) (tree_in_yes t us)
  where
    go : (tree_eq t u ≡ true) ⊎ (is_tree_in t us ≡ true) → (is_tree_in t us ≡ true → IsAmong t us) → (t ≡ u) ⊎ IsAmong t us
    go (inl e) more = inl (tree_eq_yes t u e)
    go (inr k) more = inr (more k)

yes_tree_in : (t : Tree) (ts : List Tree) → IsAmong t ts → is_tree_in t ts ≡ true
yes_tree_in t [] a = absurd a
yes_tree_in t (u ∷ us) (inl e) = or_left _ _ (subst (λ (v : Tree). tree_eq t v ≡ true) e (tree_eq_self t))
yes_tree_in t (u ∷ us) (inr a) = or_right (tree_eq t u) (is_tree_in t us) (yes_tree_in t us a)

same_test : (a b : Bool) → (a ≡ true → b ≡ true) → (b ≡ true → a ≡ true) → a ≡ b
same_test true b f g = sym (f refl)
same_test false true f g = g refl
same_test false false f g = refl

new_append : (rs ts us : List Tree) → with_new rs (ts ++ us) ≡ with_new (with_new rs ts) us
new_append rs [] us = refl
new_append rs (t ∷ ts) us = new_append (cond (is_tree_in t rs) rs (rs ++ t ∷ [])) ts us

terms_append : (xs ys : List Atom) → terms_of w_role (xs ++ ys) ≡ terms_of w_role xs ++ terms_of w_role ys
terms_append [] ys = refl
terms_append (x ∷ xs) ys = ap (λ (l : List Tree). here ++ l) (terms_append xs ys) ∙ sym (append_assoc here (terms_of w_role xs) (terms_of w_role ys))
  where
    here : List Tree
    here = cond (is_word w_role 1 (relation_of x)) (one_term x.terms) []

-- the role that an atom states, if it states one
own_terms : (y : Atom) → (terms_of w_role (y ∷ []) ≡ []) ⊎ ((t : Tree) × (y ≡ atom1 w_role t))
own_terms y = go (is_word w_role 1 (relation_of y)) refl y.terms refl
  where
    go : (b : Bool) → is_word w_role 1 (relation_of y) ≡ b → (ts : Trees) → y.terms ≡ ts → (cond b (one_term y.terms) [] ++ [] ≡ [])
        ⊎ ((t : Tree) × (y ≡ atom1 w_role t))
    go false e ts f = inl refl
    go true e no_trees f = inl (ap (λ (us : Trees). one_term us ++ []) f)
    go true e (tree t (tree u us)) f = inl (ap (λ (vs : Trees). one_term vs ++ []) f)
    go true e (tree t no_trees) f =
        let s = name_eq_yes y.word w_role (both (name_eq y.word w_role) _ e).0 in inr (t, λ i. record { word = s i; terms = f i })

terms_with_atoms : (xs ys : List Atom) → terms_of w_role (with_atoms xs ys) ≡ with_new (terms_of w_role xs) (terms_of w_role ys)
terms_with_atoms xs [] = refl
terms_with_atoms xs (y ∷ ys) =
    terms_with_atoms (cond (is_atom_in y xs) xs (xs ++ y ∷ [])) ys
    ∙ ap (λ (rs : List Tree). with_new rs (terms_of w_role ys)) (first (own_terms y))
    ∙ sym (new_append (terms_of w_role xs) (terms_of w_role (y ∷ [])) (terms_of w_role ys))
    ∙ ap (with_new (terms_of w_role xs)) (sym (terms_append (y ∷ []) ys))
  where
    none : terms_of w_role (y ∷ []) ≡ [] → (b : Bool) → terms_of w_role (cond b xs (xs ++ y ∷ [])) ≡ terms_of w_role xs
    none e true = refl
    none e false = terms_append xs (y ∷ []) ∙ ap (λ (l : List Tree). terms_of w_role xs ++ l) e ∙ append_nil (terms_of w_role xs)

    one : (t : Tree) → y ≡ atom1 w_role t → terms_of w_role (y ∷ []) ≡ t ∷ []
    one t e = ap (λ (z : Atom). terms_of w_role (z ∷ [])) e

    same : (t : Tree) → y ≡ atom1 w_role t → is_atom_in y xs ≡ is_tree_in t (terms_of w_role xs)
    same t e =
        same_test (is_atom_in y xs) (is_tree_in t (terms_of w_role xs))
        (λ h. yes_tree_in t _ (terms_in w_role t xs (subst (λ (z : Atom). IsAmong z xs) e (is_atom_yes y xs h))))
        (λ h. is_atom_in_yes y xs (subst (λ (z : Atom). IsAmong z xs) (sym e) (terms_out w_role t xs (tree_in_yes t _ h))))

    some : (t : Tree) → terms_of w_role (y ∷ []) ≡ t ∷ [] → (a b : Bool) → a ≡ b
        → terms_of w_role (cond a xs (xs ++ y ∷ [])) ≡ cond b (terms_of w_role xs) (terms_of w_role xs ++ t ∷ [])
    some t e true true s = refl
    some t e false false s = terms_append xs (y ∷ []) ∙ ap (λ (l : List Tree). terms_of w_role xs ++ l) e
    some t e true false s = absurd cc
    some t e false true s = absurd cc

    first : (terms_of w_role (y ∷ []) ≡ []) ⊎ ((t : Tree) × (y ≡ atom1 w_role t))
        → terms_of w_role (cond (is_atom_in y xs) xs (xs ++ y ∷ [])) ≡ with_new (terms_of w_role xs) (terms_of w_role (y ∷ []))
    first (inl e) = none e (is_atom_in y xs) ∙ ap (with_new (terms_of w_role xs)) (sym e)
    first (inr r) =
        some r.0 (one r.0 r.1) (is_atom_in y xs) (is_tree_in r.0 (terms_of w_role xs)) (same r.0 r.1)
        ∙ ap (with_new (terms_of w_role xs)) (sym (one r.0 r.1))

-- Relations other than `role` add none.

no_role : (p : Relation) → (p ≡ role_relation → ⊥) → (is : List Instance) → ((i : Instance) → IsAmong i is → relation_of i.head ≡ p)
    → terms_of w_role (heads is) ≡ []
no_role p other [] h = refl
no_role p other (i ∷ is) h = go (is_word w_role 1 (relation_of i.head)) refl (no_role p other is (λ j a. h j (inr a)))
  where
    go : (b : Bool) → is_word w_role 1 (relation_of i.head) ≡ b → terms_of w_role (heads is) ≡ []
        → cond b (one_term i.head.terms) [] ++ terms_of w_role (heads is) ≡ []
    go false e k = k
    go true e k = absurd (other (sym (h i (inl refl)) ∙ relation_eq_yes (relation_of i.head) (role_relation) e))

relation_among : (p : Relation) (ps : List Relation) → IsAmong p ps → is_among p ps ≡ true
relation_among p [] a = absurd a
relation_among p (q ∷ qs) (inl e) = or_left _ _ ((relation_test p q).1 e)
relation_among p (q ∷ qs) (inr a) = or_right (relation_eq p q) (is_among p qs) (relation_among p qs a)

among_relation : (p : Relation) (ps : List Relation) → is_among p ps ≡ true → IsAmong p ps
among_relation p [] h = absurd cc
among_relation p (q ∷ qs) h = go (or_cases _ _ h) (among_relation p qs)
  where
    go : (relation_eq p q ≡ true) ⊎ (is_among p qs ≡ true) → (is_among p qs ≡ true → IsAmong p qs) → (p ≡ q) ⊎ IsAmong p qs
    go (inl e) more = inl (relation_eq_yes p q e)
    go (inr k) more = inr (more k)

-- Stated roles.

module _ (rules : List Alternative) (stated : List Tree)
    (same : (atoms : List Atom) → terms_of w_role (heads (kept_of_relation rules atoms (role_relation) zero rules)) ≡ stated) where
  step_roles : (g : Listing) (p : Relation) → (b : Bool) → relation_eq p (role_relation) ≡ b
      → terms_of w_role (list_relation rules g p).atoms ≡ cond b (with_new (terms_of w_role g.atoms) stated) (terms_of w_role g.atoms)
  step_roles g p true e =
      let f = relation_eq_yes p (role_relation) e in
      terms_with_atoms g.atoms (heads (kept_of_relation rules g.atoms p zero rules))
      ∙ ap (λ (q : Relation). with_new (terms_of w_role g.atoms) (terms_of w_role (heads (kept_of_relation rules g.atoms q zero rules)))) f
      ∙ ap (with_new (terms_of w_role g.atoms)) (same g.atoms)
  step_roles g p false e =
      terms_with_atoms g.atoms (heads (kept_of_relation rules g.atoms p zero rules))
      ∙ ap (with_new (terms_of w_role g.atoms))
      (no_role p (λ f. let k = (relation_test p (role_relation)).1 f in cc) _ (λ i a. new_relation rules g.atoms p zero rules i a))

  others_add_none : (g : Listing) (ps : List Relation) → ((p : Relation) → IsAmong p ps → p ≡ role_relation → ⊥)
      → terms_of w_role (list_relations rules g ps).atoms ≡ terms_of w_role g.atoms
  others_add_none g [] other = refl
  others_add_none g (p ∷ ps) other = others_add_none (list_relation rules g p) ps (λ q a. other q (inr a)) ∙ go (relation_eq p (role_relation)) refl
    where
      go : (b : Bool) → relation_eq p (role_relation) ≡ b → terms_of w_role (list_relation rules g p).atoms ≡ terms_of w_role g.atoms
      go true e = absurd (other p (inl refl) (relation_eq_yes p (role_relation) e))
      go false e = step_roles g p false e

  steps_roles : (g : Listing) (ps : List Relation) → AreDistinct ps → IsAmong (role_relation) ps
      → terms_of w_role (list_relations rules g ps).atoms ≡ with_new (terms_of w_role g.atoms) stated
  steps_roles g [] d a = absurd a
  steps_roles g (p ∷ ps) d (inl e) =
      others_add_none (list_relation rules g p) ps (λ q a f. d.0 q a (sym e ∙ sym f))
      ∙ step_roles g p true ((relation_test p (role_relation)).1 (sym e))
  steps_roles g (p ∷ ps) d (inr a) =
      steps_roles (list_relation rules g p) ps d.1 a
      ∙ ap (λ (rs : List Tree). with_new rs stated) (step_roles g p false (not_first (relation_eq p (role_relation)) refl))
    where
      not_first : (b : Bool) → relation_eq p (role_relation) ≡ b → relation_eq p (role_relation) ≡ false
      not_first true e = absurd (d.0 (role_relation) a (relation_eq_yes p (role_relation) e))
      not_first false e = e

-- The facts of `role`.

abbrev stated_roles : List Tree → List Tree
stated_roles [] = []
stated_roles (t ∷ ts) = role_in t ++ stated_roles ts

roles_as_new : (rs : List Tree) (items : List Tree) → roles_from rs items ≡ with_new rs (stated_roles items)
roles_as_new rs [] = refl
roles_as_new rs (t ∷ ts) = roles_as_new (with_new rs (role_in t)) ts ∙ sym (new_append rs (role_in t) (stated_roles ts))

no_names : (ns ms : List (List ℕ)) → is_empty (ns ++ ms) ≡ true → (is_empty ns ≡ true) × (is_empty ms ≡ true)
no_names [] ms h = (refl, h)
no_names (n ∷ ns) ms h = absurd cc

mutual
  same_without : (m : Map) (t : Tree) → is_empty (variables t) ≡ true → substitute m t ≡ t
  same_without m (name n) h = go (is_variable n) h
    where
      go : (b : Bool) → is_empty (cond b (n ∷ []) []) ≡ true → cond b (m n) (name n) ≡ name n
      go true k = absurd cc
      go false k = refl
  same_without m (list ts) h = ap list (all_same_without m ts h)

  all_same_without : (m : Map) (ts : Trees) → is_empty (variables_in ts) ≡ true → substitute_all m ts ≡ ts
  all_same_without m no_trees h = refl
  all_same_without m (tree t ts) h =
      let k = no_names (variables t) (variables_in ts) h in
      let a = same_without m t k.0 in
      let b = all_same_without m ts k.1 in cc

-- an item that states a role stands for one alternative, whose head is the fact
fact_kept : (rules : List Alternative) (atoms : List Atom) (n : ℕ) (h : Atom) → is_empty (variables_in h.terms) ≡ true
    → kept_of rules atoms n (record { head = h; body = [] }) ≡ record { place = n; head = h; body = [] } ∷ []
fact_kept rules atoms n h e = let f = all_same_without (map_of []) h.terms e in
    λ i. record { place = n; head = record { word = h.word; terms = f i }; body = [] } ∷ []

first_one : (h : Atom) → is_word w_role 1 (relation_of h) ≡ true → first_of h.terms ≡ one_term h.terms
first_one h e = go h.terms (both (name_eq h.word w_role) (eqb (count_trees h.terms) 1) e).1
  where
    go : (ts : Trees) → eqb (count_trees ts) 1 ≡ true → first_of ts ≡ one_term ts
    go no_trees k = absurd cc
    go (tree t no_trees) k = refl
    go (tree t (tree u us)) k = let f = eqb-true (suc (suc (count_trees us))) 1 k in absurd (omega arith)

-- alternatives of other relations give none
skip : (rules : List Alternative) (atoms : List Atom) (rest some : List Alternative) (n : ℕ)
    → ((a : Alternative) → IsAmong a some → relation_eq (relation_of a.head) role_relation ≡ false)
    → (k : ℕ) × (kept_of_relation rules atoms role_relation n (some ++ rest) ≡ kept_of_relation rules atoms role_relation k rest)
skip rules atoms rest [] n h = (n, refl)
skip rules atoms rest (a ∷ more) n h =
    let e = h a (inl refl) in
    let r = skip rules atoms rest more (suc n) (λ b k. h b (inr k)) in (r.0, rw e r.1)

first_fact : (rules : List Alternative) (atoms : List Atom) (n : ℕ) (h : Atom) (rest : List Alternative) → is_word w_role 1 (relation_of h) ≡ true
    → is_empty (variables_in h.terms) ≡ true
    → terms_of w_role (heads (kept_of_relation rules atoms role_relation n (record { head = h; body = [] } ∷ rest)))
    ≡ cond (is_word w_role 1 (relation_of h) && true) (first_of h.terms) [] ++ terms_of w_role
    (heads (kept_of_relation rules atoms role_relation (suc n) rest))
first_fact rules atoms n h rest e g = go (is_word w_role 1 (relation_of h)) e
  where
    more : List Instance
    more = kept_of_relation rules atoms role_relation (suc n) rest

    go : (b : Bool) → b ≡ true
        → terms_of w_role (heads (cond b (kept_of rules atoms n (record { head = h; body = [] })) [] ++ kept_of_relation rules atoms role_relation
        (suc n) rest))
        ≡ cond (b && true) (first_of h.terms) [] ++ terms_of w_role (heads (kept_of_relation rules atoms role_relation (suc n) rest))
    go false k = absurd cc
    go true k =
        ap (λ (ks : List Instance). terms_of w_role (heads (ks ++ more))) (fact_kept rules atoms n h g)
        ∙ ap (λ (c : Bool). cond c (one_term h.terms) [] ++ terms_of w_role (heads more)) e
        ∙ ap (λ (l : List Tree). l ++ terms_of w_role (heads more)) (sym (first_one h e))

-- the alternatives of one item, and what comes behind them
item_roles : (rules : List Alternative) (atoms : List Atom) (n : ℕ) (t : Tree) (rest : List Alternative) → is_role_well t ≡ true
    → (k : ℕ) × (terms_of w_role (heads (kept_of_relation rules atoms role_relation n (item_alternatives t ++ rest)))
    ≡ role_in t ++ terms_of w_role (heads (kept_of_relation rules atoms role_relation k rest)))
item_roles rules atoms n t rest well = go (is_word w_role 1 (relation_of (item_head t))) refl
  where
    fact : is_word w_role 1 (relation_of (item_head t)) ≡ true → (bs : Trees) → not (is_some bs) ≡ true
        → is_empty (variables_in (item_head t).terms) ≡ true
        → terms_of w_role (heads (kept_of_relation rules atoms role_relation n
        (map (λ b. record { head = item_head t; body = b }) (readings_of_all bs) ++ rest)))
        ≡ cond (is_word w_role 1 (relation_of (item_head t)) && not (is_some bs)) (first_of (item_head t).terms) [] ++ terms_of w_role
        (heads (kept_of_relation rules atoms role_relation (suc n) rest))
    fact e (tree b bs) f g = absurd cc
    fact e no_trees f g = first_fact rules atoms n (item_head t) rest e g

    go : (b : Bool) → is_word w_role 1 (relation_of (item_head t)) ≡ b
        → (k : ℕ) × (terms_of w_role (heads (kept_of_relation rules atoms role_relation n (item_alternatives t ++ rest)))
        ≡ cond (is_word w_role 1 (relation_of (item_head t)) && not (is_some (body_trees t))) (first_of (item_head t).terms) [] ++ terms_of w_role
        (heads (kept_of_relation rules atoms role_relation k rest)))
    go false e =
        let s = skip rules atoms rest (item_alternatives t) n
        (λ a k. subst (λ (h : Atom). relation_eq (relation_of h) role_relation ≡ false) (sym (same_head (item_head t) _ a k)) e) in (
          s.0,
          ap (λ (is : List Instance). terms_of w_role (heads is)) s.1
              ∙ none (is_word w_role 1 (relation_of (item_head t))) e (not (is_some (body_trees t))) s.0,
        )
      where
        none : (b : Bool) → b ≡ false → (c : Bool) (k : ℕ)
            → terms_of w_role (heads (kept_of_relation rules atoms role_relation k rest)) ≡ cond (b && c) (first_of (item_head t).terms) [] ++
            terms_of w_role (heads (kept_of_relation rules atoms role_relation k rest))
        none false f c k = refl
        none true f c k = absurd cc
    go true e =
        let named = (both (name_eq (item_head t).word w_role) (eqb (count_trees (item_head t).terms) 1) e).0 in
        let bare = right_if _ _ (ap not named) well in
        let k = both (not (is_some (body_trees t))) (is_empty (variables_in (item_head t).terms)) bare in
        (suc n, fact e (body_trees t) k.0 k.1)

items_roles : (rules : List Alternative) (atoms : List Atom) (n : ℕ) (items : List Tree) → ((t : Tree) → IsAmong t items → is_role_well t ≡ true)
    → terms_of w_role (heads (kept_of_relation rules atoms role_relation n (alternatives items))) ≡ stated_roles items
items_roles rules atoms n [] well = refl
items_roles rules atoms n (t ∷ ts) well =
    let r = item_roles rules atoms n t (alternatives ts) (well t (inl refl)) in
    r.1 ∙ ap (λ (l : List Tree). role_in t ++ l) (items_roles rules atoms r.0 ts (λ u a. well u (inr a)))

none_kept : (rules : List Alternative) (atoms : List Atom) (n : ℕ) (some : List Alternative)
    → ((a : Alternative) → IsAmong a some → relation_eq (relation_of a.head) role_relation ≡ false)
    → kept_of_relation rules atoms role_relation n some ≡ []
none_kept rules atoms n [] h = refl
none_kept rules atoms n (a ∷ more) h = let e = h a (inl refl) in rw e (none_kept rules atoms (suc n) more (λ b k. h b (inr k)))

-- the listed roles are those that the items state, in the order of their first fact
pub roles_stated : (items : List Tree) → HasNoFault items → role_list (alternatives items) ≡ roles items
roles_stated items e = go (is_among role_relation (relations_in_order (alternatives items))) refl ∙ sym (roles_as_new [] items)
  where
    firsts : List Relation
    firsts = filter (λ p. is_fixed (alternatives items) p) (relations_in_order (alternatives items))

    same : (atoms : List Atom) → terms_of w_role (heads (kept_of_relation (alternatives items) atoms role_relation zero (alternatives items))) ≡
        stated_roles items
    same atoms = items_roles (alternatives items) atoms zero items (λ t a. words_well items e t a)

    distinct : AreDistinct firsts
    distinct = order_filter (λ (p q : Relation). p ≡ q → ⊥) (λ p. is_fixed (alternatives items) p) (relations_in_order (alternatives items))
        (relations_distinct (alternatives items))

    fixed : is_fixed (alternatives items) role_relation ≡ true
    fixed = (fixed_tested (alternatives items) (accepted_well_formed items e).acyclic role_relation).1 (accepted_well_formed items e).role

    absent : is_among role_relation (relations_in_order (alternatives items)) ≡ false → (p : Relation)
        → IsAmong p (relations_in_order (alternatives items)) → p ≡ role_relation → ⊥
    absent f p a s =
        let k = relation_among role_relation (relations_in_order (alternatives items))
        (subst (λ (q : Relation). IsAmong q (relations_in_order (alternatives items))) s a) in cc

    not_role : is_among role_relation (relations_in_order (alternatives items)) ≡ false → (a : Alternative) → IsAmong a (alternatives items)
        → (b : Bool) → relation_eq (relation_of a.head) role_relation ≡ b → b ≡ false
    not_role f a k true h = absurd (absent f (relation_of a.head) (relations_complete (alternatives items) a k)
        (relation_eq_yes (relation_of a.head) role_relation h))
    not_role f a k false h = refl

    go : (b : Bool) → is_among role_relation (relations_in_order (alternatives items)) ≡ b
        → role_list (alternatives items) ≡ with_new [] (stated_roles items)
    go true f =
        steps_roles (alternatives items) (stated_roles items) same (record { atoms = []; kept = [] }) firsts distinct
        (among_filter_in (λ p. is_fixed (alternatives items) p) role_relation (relations_in_order (alternatives items))
        (among_relation role_relation (relations_in_order (alternatives items)) f) fixed)
    go false f =
        let none : stated_roles items ≡ []
        = sym (same []) ∙ ap (λ (is : List Instance). terms_of w_role (heads is))
        (none_kept (alternatives items) [] zero (alternatives items) (λ a k. not_role f a k _ refl)) in
        others_add_none (alternatives items) (stated_roles items) same (record { atoms = []; kept = [] }) firsts
        (λ p a s. absent f p (among_filter (λ q. is_fixed (alternatives items) q) p (relations_in_order (alternatives items)) a).0 s)
        ∙ ap (with_new []) (sym none)
