-- The context by numbers is that of the definition.
use Rattle.std.proofs.Common.{ℕ, suc, ◌<◌, ◌+◌, ◌≡◌, inl, inr, List, [], ◌∷◌, ◌++◌, length, map, nat_lt, All, refl, sym, ap, subst, ◌∙◌, arith}
use Rattle.std.proofs.lemmas.List.{length-map}
use Rattle.statement.specs.Tree.{Tree, text}
use Rattle.statement.specs.Lexical.{HasNames}
use Rattle.statement.specs.Words.{w_base, w_input, w_true, w_does}
use Rattle.statement.specs.Clause.{Atom, Alternative}
use Rattle.statement.specs.Dependence.{IsAmong}
use Rattle.rules.specs.RuleSets.{AreKeywords}
use Rattle.rules.specs.declared.rule_set.Keywords.{Keywords}
use Rattle.statement.specs.declared.excess.Excess.TheVariants.{Base, Inputs}
use Rattle.ground_rows.specs.declared.most.Most.{Most}
use Rattle.ground_terms.specs.declared.naming.Named.{Named}
use Rattle.ground_terms.specs.Arena.{Held}
use Rattle.ground_rows.specs.Contexts.{
  AreAllNamed,
  AreContext,
  ShowsContext,
  atoms_by,
  bases_stated,
  count_in,
  excess_of,
  excess_stated,
  inputs_of_roles,
  inputs_stated,
  moves_by,
  roles_stated,
  terms_named,
  texts_named,
}
use Rattle.statement.specs.Kept.{Kept}
use Rattle.meaning.specs.InOrder.{AreDistinct}
use Rattle.rules_clauses.specs.Marks.{NumbersBelow}
use Rattle.rules_clauses.specs.Numbers.{word_at, NamesDiffer}
use Rattle.ground_terms.specs.Keys.{term_at, trees}
use Rattle.statement.specs.Limits.{count_inputs, or_excess, where_true}
use Rattle.meaning.specs.Listed.{IsWellFormed}
use Rattle.statement.specs.Listing.{terms_of, terms_with, in_printed_order, moves_of, context_atoms, fixed_listing, with_atoms, role_list, base_list, input_list}
use Rattle.statement.specs.Meaning.{IsRole, atom1, atom2}
use Rattle.ground_terms.specs.Naming.{IsNamed, AreNamed}
use Rattle.ground_terms.specs.Atoms.{AddsAtoms}
use Rattle.ground_rows.specs.Progress.{IsListed}
use Rattle.ground_terms.specs.Stated.{second_parts}
use Rattle.meaning.proofs.Facts.{
  fixed_once,
  printed_in,
  bases_exact,
  inputs_exact,
  roles_exact,
  base_lawful,
  input_lawful,
  term_named,
  terms_distinct,
  seconds_distinct,
}
use Rattle.ground_rows.proofs.Facts.{only_below}
use Rattle.ground_rows.proofs.Facts.{listed_with, printed_count}
use Rattle.ground_terms.proofs.Facts.{below_more, length_trees, only_terms, second_terms}
use Rattle.ground_rows.proofs.Facts.{numbers_below}

texts_right : (terms : List Tree) (ns : List Named) → All (IsNamed terms) ns → texts_named ns ≡ map text (map (term_at terms) (terms_named ns))
texts_right terms [] a = refl
texts_right terms (n ∷ ns) a =
    let first : n.text.items ≡ text (term_at terms n.term) = a 0 n (omega arith) in
    let rest = texts_right terms ns (λ i d h. a (suc i) d (omega (arith, h))) in
    ap (λ (t : List ℕ). t ∷ texts_named ns) first ∙ ap (λ (l : List (List ℕ)). text (term_at terms n.term) ∷ l) rest

terms_map : (terms : List Tree) (ns : List Named) → map (term_at terms) (terms_named ns) ≡ map (λ (n : Named). term_at terms n.term) ns
terms_map terms [] = refl
terms_map terms (n ∷ ns) = ap (λ (l : List Tree). term_at terms n.term ∷ l) (terms_map terms ns)

named_order : (terms : List Tree) (ms : List ℕ) (ns : List Named) (ts : List Tree) → map (term_at terms) ms ≡ ts
    → ((t : Tree) → IsAmong t ts → HasNames t) → AreDistinct ts → AreNamed terms ms ns
    → map (term_at terms) (terms_named ns) ≡ in_printed_order ts
named_order terms ms ns ts e h d a =
    terms_map terms ns ∙ a.order (λ t i. h t (subst (λ (l : List Tree). IsAmong t l) e i)) (subst (λ (l : List Tree). AreDistinct l) (sym e) d)
    ∙ ap in_printed_order e

-- The inputs of the roles.

module _ (rules : List Alternative) (w : IsWellFormed rules) (terms : List Tree) (keys : List (List ℕ)) (input : ℕ) (numbers : List ℕ)
    (second : (r : ℕ) → r < length terms → map (term_at terms) (second_parts keys input r numbers) ≡ terms_with w_input (term_at terms r)
    (fixed_listing rules).atoms) where
  one_role : (r : ℕ) (ns : List Named) → r < length terms → IsRole rules (term_at terms r) → AreNamed terms (second_parts keys input r numbers) ns
      → map (term_at terms) (terms_named ns) ≡ input_list rules (term_at terms r)
  one_role r ns h role a =
      named_order terms (second_parts keys input r numbers) ns (terms_with w_input (term_at terms r) (fixed_listing rules).atoms) (second r h)
      (λ m i. term_named m (input_lawful rules w (term_at terms r) m ((inputs_exact rules w (term_at terms r) m role).0 (printed_in m _ i))).0)
      (seconds_distinct w_input (term_at terms r) (fixed_listing rules).atoms (fixed_once rules)) a

  inputs_right : (roles : List ℕ) (ls : List (List Named)) → NumbersBelow (length terms) roles
      → ((r : Tree) → IsAmong r (map (term_at terms) roles) → IsRole rules r) → AreAllNamed terms (inputs_of_roles keys input numbers roles) ls
      → map (λ (ns : List Named). map (term_at terms) (terms_named ns)) ls ≡ map (input_list rules) (map (term_at terms) roles)
  inputs_right [] [] b h a = refl
  inputs_right [] (ns ∷ ls) b h a = absurd a
  inputs_right (r ∷ roles) [] b h a = absurd a
  inputs_right (r ∷ roles) (ns ∷ ls) b h a =
      ap (λ (ts : List Tree). ts ∷ map (λ (ms : List Named). map (term_at terms) (terms_named ms)) ls)
      (one_role r ns b.0 (h (term_at terms r) (inl refl)) a.0)
      ∙ ap (λ (l : List (List Tree)). input_list rules (term_at terms r) ∷ l) (inputs_right roles ls b.1 (λ t i. h t (inr i)) a.1)

  input_texts_right : (roles : List ℕ) (ls : List (List Named)) → NumbersBelow (length terms) roles
      → ((r : Tree) → IsAmong r (map (term_at terms) roles) → IsRole rules r) → AreAllNamed terms (inputs_of_roles keys input numbers roles) ls
      → map texts_named ls ≡ map (λ (r : Tree). map text (input_list rules r)) (map (term_at terms) roles)
  input_texts_right [] [] b h a = refl
  input_texts_right [] (ns ∷ ls) b h a = absurd a
  input_texts_right (r ∷ roles) [] b h a = absurd a
  input_texts_right (r ∷ roles) (ns ∷ ls) b h a =
      let named : AreNamed terms (second_parts keys input r numbers) ns = a.0 in
      ap (λ (ts : List (List ℕ)). ts ∷ map texts_named ls)
      (texts_right terms ns named.texts ∙ ap (λ (ts : List Tree). map text ts) (one_role r ns b.0 (h (term_at terms r) (inl refl)) a.0))
      ∙ ap (λ (l : List (List (List ℕ))). map text (input_list rules (term_at terms r)) ∷ l) (input_texts_right roles ls b.1 (λ t i. h t (inr i)) a.1)

  moves_right : (roles : List ℕ) (ls : List (List Named)) → NumbersBelow (length terms) roles
      → ((r : Tree) → IsAmong r (map (term_at terms) roles) → IsRole rules r) → AreAllNamed terms (inputs_of_roles keys input numbers roles) ls
      → moves_by w_does terms roles (map terms_named ls) ≡ moves_of (fixed_listing rules).atoms (map (term_at terms) roles)
  moves_right [] [] b h a = refl
  moves_right [] (ns ∷ ls) b h a = absurd a
  moves_right (r ∷ roles) [] b h a = absurd a
  moves_right (r ∷ roles) (ns ∷ ls) b h a =
      ap (λ (ts : List Tree). map (λ m. atom2 w_does (term_at terms r) m) ts ++ moves_by w_does terms roles (map terms_named ls))
      (one_role r ns b.0 (h (term_at terms r) (inl refl)) a.0)
      ∙ ap (λ (l : List Atom). map (λ m. atom2 w_does (term_at terms r) m) (input_list rules (term_at terms r)) ++ l)
      (moves_right roles ls b.1 (λ t i. h t (inr i)) a.1)

  count_right : (roles : List ℕ) → NumbersBelow (length terms) roles → count_in (inputs_of_roles keys input numbers roles) ≡ count_inputs rules
      (map (term_at terms) roles)
  count_right [] b = refl
  count_right (r ∷ roles) b =
      let one = sym (length-map (second_parts keys input r numbers) (term_at terms)) ∙ ap length (second r b.0)
      ∙ sym (printed_count (terms_with w_input (term_at terms r) (fixed_listing rules).atoms)) in
      ap (λ (n : ℕ). n + count_in (inputs_of_roles keys input numbers roles)) one
      ∙ ap (λ (n : ℕ). length (input_list rules (term_at terms r)) + n) (count_right roles b.1)

module _ (rules : List Alternative) (w : IsWellFormed rules) (words : List (List ℕ)) (differ : NamesDiffer words) (k : Keywords)
    (named : AreKeywords words k)
    (held : Held) (atoms : List ℕ) (found : List Kept) (l : IsListed rules words held atoms found (fixed_listing rules)) where
  roles_same : map (term_at (trees words held.keys)) (roles_stated held.keys k atoms) ≡ role_list rules
  roles_same =
      only_terms words differ held.keys l.terms.numbered.keyed k.role named.role.inside atoms (fixed_listing rules).atoms l.atoms_are
      ∙ ap (λ (v : List ℕ). terms_of v (fixed_listing rules).atoms) named.role.same

  bases_same : map (term_at (trees words held.keys)) (bases_stated held.keys k atoms) ≡ terms_of w_base (fixed_listing rules).atoms
  bases_same =
      only_terms words differ held.keys l.terms.numbered.keyed k.base named.base.inside atoms (fixed_listing rules).atoms l.atoms_are
      ∙ ap (λ (v : List ℕ). terms_of v (fixed_listing rules).atoms) named.base.same

  inputs_same : (r : ℕ) → r < length (trees words held.keys)
      → map (term_at (trees words held.keys)) (second_parts held.keys k.input r atoms) ≡ terms_with w_input (term_at (trees words held.keys) r)
      (fixed_listing rules).atoms
  inputs_same r h =
      second_terms words differ held.keys l.terms.numbered.keyed k.input named.input.inside r h atoms (fixed_listing rules).atoms l.atoms_are
      ∙ ap (λ (v : List ℕ). terms_with v (term_at (trees words held.keys) r) (fixed_listing rules).atoms) named.input.same

  roles_inside : NumbersBelow (length (trees words held.keys)) (roles_stated held.keys k atoms)
  roles_inside =
      let long = length_trees words [] held.keys in
      below_more (length held.keys) (length (trees words held.keys)) (roles_stated held.keys k atoms) (omega (arith, long))
      (only_below (length words) held.keys l.terms.numbered.keyed k.role atoms (numbers_below rules words held atoms found (fixed_listing rules) l))

  are_roles : (r : Tree) → IsAmong r (map (term_at (trees words held.keys)) (roles_stated held.keys k atoms)) → IsRole rules r
  are_roles r a = (roles_exact rules w r).0 (subst (λ (ts : List Tree). IsAmong r ts) roles_same a)

  base_same : (bs : List Named) → AreNamed (trees words held.keys) (bases_stated held.keys k atoms) bs
      → map (term_at (trees words held.keys)) (terms_named bs) ≡ base_list rules
  base_same bs a =
      named_order (trees words held.keys) (bases_stated held.keys k atoms) bs (terms_of w_base (fixed_listing rules).atoms) bases_same
      (λ p i. term_named p (base_lawful rules w p ((bases_exact rules w p).0 (printed_in p _ i))).0)
      (terms_distinct w_base (fixed_listing rules).atoms (fixed_once rules)) a

  -- the limit that is passed
  pub excess_same : (most : Most) → excess_stated most held.keys k atoms
      ≡ or_excess (where_true (nat_lt most.base (length (base_list rules))) Base)
      (where_true (nat_lt most.inputs (count_inputs rules (role_list rules))) Inputs)
  excess_same most =
      let bases : length (bases_stated held.keys k atoms) ≡ length (base_list rules)
      = sym (length-map (bases_stated held.keys k atoms) (term_at (trees words held.keys))) ∙ ap length bases_same
      ∙ sym (printed_count (terms_of w_base (fixed_listing rules).atoms)) in
      let inputs : count_in (inputs_stated held.keys k atoms) ≡ count_inputs rules (role_list rules)
      = count_right rules w (trees words held.keys) held.keys k.input atoms inputs_same (roles_stated held.keys k atoms) roles_inside
      ∙ ap (count_inputs rules) roles_same in
      ap (λ (n : ℕ). excess_of most n (count_in (inputs_stated held.keys k atoms))) bases
      ∙ ap (λ (n : ℕ). excess_of most (length (base_list rules)) n) inputs

  module _ (rs bs : List Named) (ls : List (List Named))
      (c : AreContext (trees words held.keys) (roles_stated held.keys k atoms) (bases_stated held.keys k atoms) (inputs_stated held.keys k atoms) rs
      bs ls) where
    roles_named : map (term_at (trees words held.keys)) (terms_named rs) ≡ role_list rules
    roles_named = ap (λ (ns : List ℕ). map (term_at (trees words held.keys)) ns) c.roles_are ∙ roles_same

    -- the terms and their texts
    pub context_shown : ShowsContext rules (trees words held.keys) rs bs ls
    context_shown = record {
      roles_are = roles_named;
      base_are = base_same bs c.base_are;
      inputs_are =
          inputs_right rules w (trees words held.keys) held.keys k.input atoms inputs_same (roles_stated held.keys k atoms) ls roles_inside are_roles
          c.inputs_are ∙ ap (λ (ts : List Tree). map (input_list rules) ts) roles_same;
      role_texts = texts_right (trees words held.keys) rs c.role_texts ∙ ap (λ (ts : List Tree). map text ts) roles_named;
      base_texts = texts_right (trees words held.keys) bs c.base_are.texts ∙ ap (λ (ts : List Tree). map text ts) (base_same bs c.base_are);
      input_texts =
          input_texts_right rules w (trees words held.keys) held.keys k.input atoms inputs_same (roles_stated held.keys k atoms) ls roles_inside
          are_roles c.inputs_are
          ∙ ap (λ (ts : List Tree). map (λ (r : Tree). map text (input_list rules r)) ts) roles_same;
    }

    moves_same : moves_by (word_at words k.does) (trees words held.keys) (terms_named rs) (map terms_named ls) ≡ moves_of (fixed_listing rules).atoms
        (role_list rules)
    moves_same =
        ap (λ (v : List ℕ). moves_by v (trees words held.keys) (terms_named rs) (map terms_named ls)) named.does.same
        ∙ ap (λ (ns : List ℕ). moves_by w_does (trees words held.keys) ns (map terms_named ls)) c.roles_are
        ∙ moves_right rules w (trees words held.keys) held.keys k.input atoms inputs_same (roles_stated held.keys k atoms) ls roles_inside are_roles
        c.inputs_are
        ∙ ap (moves_of (fixed_listing rules).atoms) roles_same

    atoms_same : atoms_by words (trees words held.keys) k (terms_named rs) (terms_named bs) (map terms_named ls) ≡ context_atoms
        (fixed_listing rules).atoms
    atoms_same =
        ap (λ (v : List ℕ). map (λ t. atom1 v t) (map (term_at (trees words held.keys)) (terms_named bs)) ++ moves_by (word_at words k.does)
        (trees words held.keys) (terms_named rs) (map terms_named ls)) named.now.same
        ∙ ap (λ (ts : List Tree). map (λ t. atom1 w_true t) ts ++ moves_by (word_at words k.does) (trees words held.keys) (terms_named rs)
        (map terms_named ls)) (base_same bs c.base_are)
        ∙ ap (λ (xs : List Atom). map (λ t. atom1 w_true t) (base_list rules) ++ xs) moves_same

    -- the listing goes on with the atoms of the context
    pub context_listed : (new : Held) (after : List ℕ)
        → AddsAtoms words held new atoms after (atoms_by words (trees words held.keys) k (terms_named rs) (terms_named bs) (map terms_named ls))
        → IsListed rules words new after found (record {
          atoms = with_atoms (fixed_listing rules).atoms (context_atoms (fixed_listing rules).atoms);
          kept = (fixed_listing rules).kept;
        })
    context_listed new after s =
        listed_with rules words differ held new atoms after found (fixed_listing rules) (context_atoms (fixed_listing rules).atoms) l
        (subst (λ (xs : List Atom). AddsAtoms words held new atoms after xs) atoms_same s)
