-- The laws of the list of relations, of ranks, of names and of roles.
use Rattle.std.proofs.Common.{ℕ, suc, Bool, true, false, not, cond, ◌&&◌, ◌≡◌, ◌⊎◌, inl, inr, List, [], ◌∷◌, ◌++◌, length, map, refl, sym, ap, subst}
use Rattle.std.proofs.Common.{◌∙◌, arith}
use Rattle.std.specs.declared.cmp.Ordering.TheVariants.{Less, Greater}
use Rattle.std.specs.Ordering.{ordering_reverse}
use Rattle.statement.specs.Tree.{Tree, name, list, Trees, no_trees, tree, name_eq}
use Rattle.kif.proofs.Facts.{both, true_and, name_eq_yes}
use Rattle.statement.specs.Words.{w_or, w_and, w_not, w_role}
use Rattle.statement.specs.Clause.{Atom, Literal, positive, Alternative, Relation, relation_of, atom_of, is_word}
use Rattle.statement.specs.Dependence.{IsAmong, IsAcyclic, heads_of}
use Rattle.statement.specs.Items.{is_constant, is_connective, is_term, are_terms, is_atom, is_one_atom, is_some, is_literal, are_literals, is_item}
use Rattle.statement.specs.Items.{head_tree, body_trees, item_head, readings_of_all, atom_in, negated}
use Rattle.statement.specs.Order.{rank, rank_by, relation_cmp, relations_in_order}
use Rattle.statement.specs.Profile.{roles_from, with_new, role_in, first_of, is_tree_in, HasNoFault}
use Rattle.statement.specs.Safety.{variables, variables_in}
use Rattle.rules_profile.specs.Standing.{literals_in, literals_of_all}
use Rattle.rules_profile.specs.Listed.{RisesStrictly, RelationsOnce, HeadsSome, IsOrderOfHeads, IsLawfulAtom, IsLawfulRole, HasLawfulNames}
use Rattle.rules_profile.specs.Lawful.{UsesWordsWell}
use Rattle.rules_profile.proofs.Tests.{not_true, IsAmong-append}
use Rattle.rules_profile.proofs.Accepted.{rule_item, same_head, rank_steady}
use Rattle.rules_profile.proofs.RelationOrder.{Rising, relation_total, relations_rising, relations_are_heads, heads_are_relations}
use Rattle.rules_profile.proofs.Standings.{all_literals, all_readings, agrees_all}
use Rattle.rules_profile.proofs.Lawfulness.{law_said, word_is}

-- Relations in order.

rises : (rules : List Alternative) (ps : List Relation) → Rising (relation_cmp rules) ps → RisesStrictly rules ps
rises rules [] h = tt
rises rules (p ∷ ps) h = (h.0, rises rules ps h.1)

stand_once : (rules : List Alternative) (ps : List Relation) → Rising (relation_cmp rules) ps → RelationsOnce ps
stand_once rules [] h = tt
stand_once rules (p ∷ ps) h = ((λ a. twice (h.0 p a)), stand_once rules ps h.1)
  where
    twice : relation_cmp rules p p ≡ Less → ⊥
    twice l = let k : Less ≡ Greater = sym l ∙ (relation_total rules).antisymm p p ∙ ap ordering_reverse l in cc

head_of : (rules : List Alternative) (p : Relation) → IsAmong p (heads_of rules) → HeadsSome rules p
head_of [] p a = absurd a
head_of (r ∷ rules) p (inl e) = record { rule = r; is_rule = inl refl; heads = sym e }
head_of (r ∷ rules) p (inr a) = let h = head_of rules p a in record { rule = h.rule; is_rule = inr h.is_rule; heads = h.heads }

of_head : (rules : List Alternative) (p : Relation) (rule : Alternative) → IsAmong rule rules → relation_of rule.head ≡ p → IsAmong p (heads_of rules)
of_head [] p rule a e = absurd a
of_head (r ∷ rules) p rule (inl s) e = inl (sym e ∙ ap (λ (x : Alternative). relation_of x.head) s)
of_head (r ∷ rules) p rule (inr a) e = inr (of_head rules p rule a e)

pub order_law : (rules : List Alternative) → IsOrderOfHeads rules (relations_in_order rules)
order_law rules = record {
  rising = rises rules (relations_in_order rules) (relations_rising rules);
  once = stand_once rules (relations_in_order rules) (relations_rising rules);
  heads_only = λ p a. head_of rules p (relations_are_heads rules p a);
  all_heads = λ p h. heads_are_relations rules p (of_head rules p h.rule h.is_rule h.heads);
}

-- Ranks.

pub rank_equation : (rules : List Alternative) → IsAcyclic rules → (p : Relation) → rank rules p ≡ rank_by (λ q. rank rules q) rules p
rank_equation rules acyclic p = sym (rank_steady rules acyclic p (suc (length rules)) (omega arith))

-- Names.

abbrev lawful : Literal → Bool
lawful l = (is_constant (atom_of l).word && not (is_connective (atom_of l).word)) && are_terms (atom_of l).terms

atom_lawful : (t : Tree) → is_atom t ≡ true → ((is_constant (atom_in t).word && not (is_connective (atom_in t).word)) && are_terms (atom_in t).terms)
    ≡ true
atom_lawful (name c) h = true_and (is_constant c && not (is_connective c)) true h refl
atom_lawful (list no_trees) h = absurd cc
atom_lawful (list (tree (list us) ts)) h = absurd cc
atom_lawful (list (tree (name c) ts)) h = h

lawful_atom : (a : Atom) → ((is_constant a.word && not (is_connective a.word)) && are_terms a.terms) ≡ true → IsLawfulAtom a
lawful_atom a h =
    let k = both (is_constant a.word && not (is_connective a.word)) (are_terms a.terms) h in
    let w = both (is_constant a.word) (not (is_connective a.word)) k.0 in
    record { constant = w.0; no_connective = not_true _ w.1; terms = k.1 }

all_append : (test : Literal → Bool) (xs ys : List Literal) → all_literals test xs ≡ true → all_literals test ys ≡ true
    → all_literals test (xs ++ ys) ≡ true
all_append test [] ys h k = k
all_append test (x ∷ xs) ys h k =
    let b = both (test x) (all_literals test xs) h in true_and (test x) (all_literals test (xs ++ ys)) b.0 (all_append test xs ys b.1 k)

one_lawful : (l : Literal) → lawful l ≡ true → all_literals lawful (l ∷ []) ≡ true
one_lawful l h = true_and (lawful l) true h refl

negated_lawful : (ts : Trees) → is_one_atom ts ≡ true → lawful (negated ts) ≡ true
negated_lawful no_trees h = absurd cc
negated_lawful (tree t no_trees) h = atom_lawful t h
negated_lawful (tree t (tree u us)) h = absurd cc

by_word : (c : List ℕ) (ts : Trees) (o a n : Bool) → name_eq c w_or ≡ o → name_eq c w_and ≡ a → name_eq c w_not ≡ n
    → is_literal (list (tree (name c) ts)) ≡ true
    → (are_literals ts ≡ true → all_literals lawful (literals_of_all ts) ≡ true) → all_literals lawful (literals_in (list (tree (name c) ts))) ≡ true
by_word c ts true a n eo ea en h more =
    subst (λ (v : List ℕ). is_literal (list (tree (name v) ts)) ≡ true → all_literals lawful (literals_in (list (tree (name v) ts))) ≡ true)
    (sym (name_eq_yes c w_or eo))
    (λ k. more (both (is_some ts) (are_literals ts) k).1) h
by_word c ts false true n eo ea en h more =
    subst (λ (v : List ℕ). is_literal (list (tree (name v) ts)) ≡ true → all_literals lawful (literals_in (list (tree (name v) ts))) ≡ true)
    (sym (name_eq_yes c w_and ea))
    (λ k. more (both (is_some ts) (are_literals ts) k).1) h
by_word c ts false false true eo ea en h more =
    subst (λ (v : List ℕ). is_literal (list (tree (name v) ts)) ≡ true → all_literals lawful (literals_in (list (tree (name v) ts))) ≡ true)
    (sym (name_eq_yes c w_not en))
    (λ k. one_lawful (negated ts) (negated_lawful ts k)) h
by_word c ts false false false eo ea en h more =
    let k : is_atom (list (tree (name c) ts)) ≡ true =
    (let s : is_literal (list (tree (name c) ts)) ≡ is_atom (list (tree (name c) ts)) = rw (eo, ea, en) refl in sym s ∙ h) in
    rw (eo, ea, en) (one_lawful (positive (record { word = c; terms = ts })) (atom_lawful (list (tree (name c) ts)) k))

mutual
  literals_lawful : (t : Tree) → is_literal t ≡ true → all_literals lawful (literals_in t) ≡ true
  literals_lawful (name c) h = one_lawful (positive (atom_in (name c))) (atom_lawful (name c) h)
  literals_lawful (list no_trees) h = absurd cc
  literals_lawful (list (tree (list us) ts)) h = absurd cc
  literals_lawful (list (tree (name c) ts)) h =
      by_word c ts (name_eq c w_or) (name_eq c w_and) (name_eq c w_not) refl refl refl h (λ k. all_lawful ts k)

  all_lawful : (ts : Trees) → are_literals ts ≡ true → all_literals lawful (literals_of_all ts) ≡ true
  all_lawful no_trees h = refl
  all_lawful (tree t ts) h =
      all_append lawful (literals_in t) (literals_of_all ts) (literals_lawful t (both (is_literal t) (are_literals ts) h).0)
      (all_lawful ts (both (is_literal t) (are_literals ts) h).1)

literal_said : (test : Literal → Bool) (ls : List Literal) → all_literals test ls ≡ true → (l : Literal) → IsAmong l ls → test l ≡ true
literal_said test [] h l a = absurd a
literal_said test (m ∷ ls) h l (inl e) = subst (λ (x : Literal). test x ≡ true) (sym e) (both (test m) (all_literals test ls) h).0
literal_said test (m ∷ ls) h l (inr a) = literal_said test ls (both (test m) (all_literals test ls) h).1 l a

reading_said : (test : Literal → Bool) (h : Atom) (bs : List (List Literal)) → all_readings test bs ≡ true → (rule : Alternative)
    → IsAmong rule (map (λ (b : List Literal). record { head = h; body = b }) bs)
    → (l : Literal) → IsAmong l rule.body → test l ≡ true
reading_said test h [] e rule a l b = absurd a
reading_said test h (c ∷ bs) e rule (inl s) l b =
    literal_said test c (both (all_literals test c) (all_readings test bs) e).0 l (subst (λ (x : Alternative). IsAmong l x.body) s b)
reading_said test h (c ∷ bs) e rule (inr a) l b = reading_said test h bs (both (all_literals test c) (all_readings test bs) e).1 rule a l b

-- Roles.

with_new_said : (rs ts : List Tree) (r : Tree) → IsAmong r (with_new rs ts) → IsAmong r rs ⊎ IsAmong r ts
with_new_said rs [] r a = inl a
with_new_said rs (t ∷ ts) r a = go (is_tree_in t rs) a (with_new_said rs ts r) (with_new_said (rs ++ t ∷ []) ts r)
  where
    last : IsAmong r rs ⊎ IsAmong r (t ∷ []) → IsAmong r rs ⊎ IsAmong r (t ∷ ts)
    last (inl x) = inl x
    last (inr (inl e)) = inr (inl e)
    last (inr (inr x)) = absurd x

    go : (b : Bool) → IsAmong r (with_new (cond b rs (rs ++ t ∷ [])) ts) → (IsAmong r (with_new rs ts) → IsAmong r rs ⊎ IsAmong r ts)
        → (IsAmong r (with_new (rs ++ t ∷ []) ts) → IsAmong r (rs ++ t ∷ []) ⊎ IsAmong r ts) → IsAmong r rs ⊎ IsAmong r (t ∷ ts)
    go true h more other = elim (more h) [ inl x ↦ inl x | inr y ↦ inr (inr y) ]
    go false h more other = elim (other h) [ inl x ↦ last (IsAmong-append r rs (t ∷ []) x) | inr y ↦ inr (inr y) ]

-- a role is stated by some item
role_said : (rs items : List Tree) (r : Tree) → IsAmong r (roles_from rs items) → IsAmong r rs
    ⊎ ((t : Tree) × IsAmong t items × IsAmong r (role_in t))
role_said rs [] r a = inl a
role_said rs (t ∷ ts) r a = go (role_said (with_new rs (role_in t)) ts r a)
  where
    first : IsAmong r rs ⊎ IsAmong r (role_in t) → IsAmong r rs ⊎ ((u : Tree) × IsAmong u (t ∷ ts) × IsAmong r (role_in u))
    first (inl x) = inl x
    first (inr y) = inr (t, inl refl, y)

    go : IsAmong r (with_new rs (role_in t)) ⊎ ((u : Tree) × IsAmong u ts × IsAmong r (role_in u))
        → IsAmong r rs ⊎ ((u : Tree) × IsAmong u (t ∷ ts) × IsAmong r (role_in u))
    go (inl x) = first (with_new_said rs (role_in t) r x)
    go (inr y) = inr (y.0, inr y.1, y.2)

first_term : (ts : Trees) (r : Tree) → are_terms ts ≡ true → variables_in ts ≡ [] → IsAmong r (first_of ts) → IsLawfulRole r
first_term no_trees r h v a = absurd a
first_term (tree t ts) r h v (inl e) =
    subst IsLawfulRole (sym e) (record { term = (both (is_term t) (are_terms ts) h).0; no_variable = front (variables t) (variables_in ts) v })
  where
    front : (xs ys : List (List ℕ)) → xs ++ ys ≡ [] → xs ≡ []
    front [] ys k = refl
    front (x ∷ xs) ys k = absurd cc
first_term (tree t ts) r h v (inr a) = absurd a

role_lawful : (t : Tree) (r : Tree) → is_item t ≡ true → UsesWordsWell t → IsAmong r (role_in t) → IsLawfulRole r
role_lawful t r i w a = go (is_word w_role 1 (relation_of (item_head t)) && not (is_some (body_trees t))) refl a
  where
    atoms : is_atom (head_tree t) ≡ true
    atoms = (both (is_atom (head_tree t)) (are_literals (body_trees t)) i).0

    go : (b : Bool) → (is_word w_role 1 (relation_of (item_head t)) && not (is_some (body_trees t))) ≡ b
        → IsAmong r (cond b (first_of (item_head t).terms) []) → IsLawfulRole r
    go true e x =
        let k = both (is_word w_role 1 (relation_of (item_head t))) (not (is_some (body_trees t))) e in
        let role = ap (λ (p : Relation). p.word) (word_is w_role 1 (relation_of (item_head t)) k.0) in
        first_term (item_head t).terms r (both (is_constant (item_head t).word && not (is_connective (item_head t).word))
        (are_terms (item_head t).terms) (atom_lawful (head_tree t) atoms)).1 (w.role role).1 x
    go false e x = absurd x

pub names_law : (items : List Tree) → HasNoFault items → HasLawfulNames items
names_law items e =
    let l = law_said items e in
    record {
      heads = λ rule a.
          let i = rule_item items rule a in
          subst IsLawfulAtom (sym (same_head (item_head i.0) _ rule i.2))
          (lawful_atom (item_head i.0) (atom_lawful (head_tree i.0)
          (both (is_atom (head_tree i.0)) (are_literals (body_trees i.0)) (l.forms i.0 i.1)).0));
      bodies = λ rule a m b.
          let i = rule_item items rule a in
          let ls = (both (is_atom (head_tree i.0)) (are_literals (body_trees i.0)) (l.forms i.0 i.1)).1 in
          lawful_atom (atom_of m) (reading_said lawful (item_head i.0) (readings_of_all (body_trees i.0))
          ((agrees_all lawful (body_trees i.0) ls).same ∙ all_lawful (body_trees i.0) ls) rule i.2 m b);
      are_roles = λ r a. stated r (role_said [] items r a) l.forms l.words;
      some_role = l.some_role;
      few_roles = l.few_roles;
    }
  where
    stated : (r : Tree) → IsAmong r [] ⊎ ((t : Tree) × IsAmong t items × IsAmong r (role_in t)) → ((t : Tree) → IsAmong t items → is_item t ≡ true)
        → ((t : Tree) → IsAmong t items → UsesWordsWell t) → IsLawfulRole r
    stated r (inl x) f w = absurd x
    stated r (inr y) f w = role_lawful y.0 r (f y.0 y.1) (w y.0 y.1) y.2
