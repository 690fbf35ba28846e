-- An accepted list of items is well formed.
use Rattle.std.proofs.Common.{ℕ, zero, suc, Bool, true, false, not, ◌&&◌, ◌||◌, ◌≡◌, List, [], refl, sym, ap, subst, ◌∙◌, Option}
use Rattle.statement.specs.Tree.{Tree, name, list, Trees, no_trees, tree}
use Rattle.kif.proofs.Facts.{both}
use Rattle.statement.specs.Words.{w_base, w_input, w_init, w_legal, w_goal, w_terminal}
use Rattle.statement.specs.Clause.{Atom, Alternative, Relation, relation_of, is_word}
use Rattle.statement.specs.Dependence.{IsAmong, Edge, dependences, is_distinct, is_moving, DependsDirectly, DependsIn, IsFixed, is_fixed}
use Rattle.statement.specs.Items.{is_constant, is_connective, is_atom, atom_in, are_terms, are_literals, is_item, item_head, item_alternatives, head_tree, body_trees, alternatives}
use Rattle.statement.specs.Profile.{ItemFault, or_item_fault, first_failing, bad_form, bad_keyword, not_safe, recursive, bad_dependence, first_too_many, is_unsafe, is_recursive, depends_badly, rests_on_move, some_body, none_of, roles, misuses_word, uses, heads_well, bodies_stand_well, is_role_well, HasNoFault}
use Rattle.rules_profile.proofs.Facts.{
  or_none,
  none_fails,
  not_not,
  rule_item,
  same_head,
  body_found,
  accepted_acyclic,
  accepted_safe,
  fixed_tested,
  not_false,
  IsOwn,
  accepted_heads,
  accepted_terms,
  role_fixed,
  base_fixed,
  input_fixed,
}
use Rattle.statement.specs.Meaning.{ordinary, source_at}
use Rattle.meaning.specs.Listed.{IsWellFormed}

own_source : (w : List ℕ) (ts : Trees) → IsOwn w → source_at w ts ≡ ordinary
own_source w no_trees o = refl
own_source w (tree t no_trees) o = let e = o.no_true in rw e refl
own_source w (tree t (tree u no_trees)) o = let e = o.no_does in let f = o.no_distinct in rw e (rw f refl)
own_source w (tree t (tree u (tree v vs))) o = refl

atom_word : (t : Tree) → is_atom t ≡ true → is_constant (atom_in t).word ≡ true
atom_word (name c) h = (both (is_constant c) (not (is_connective c)) h).0
atom_word (list no_trees) h = absurd cc
atom_word (list (tree (list us) ts)) h = absurd cc
atom_word (list (tree (name c) ts)) h = (both (is_constant c) (not (is_connective c))
    (both (is_constant c && not (is_connective c)) (are_terms ts) h).0).0

-- each item has its form
items_formed : (items : List Tree) → HasNoFault items → (t : Tree) → IsAmong t items → is_item t ≡ true
items_formed items e t a =
    let form : Option ItemFault = first_failing bad_form (λ (u : Tree). not (is_item u)) 1 items in
    let words : Option ItemFault = first_failing bad_keyword misuses_word 1 items in
    let many : Option ItemFault = first_too_many 1 [] items in
    let risky : Option ItemFault = first_failing not_safe is_unsafe 1 items in
    let cycles : Option ItemFault = first_failing recursive (is_recursive (dependences (alternatives items))) 1 items in
    let badly : Option ItemFault = first_failing bad_dependence (depends_badly (dependences (alternatives items)) (alternatives items)) 1 items in
    let last : Option ItemFault = none_of (roles items) in
    let k = or_none form (or_item_fault words (or_item_fault many (or_item_fault risky (or_item_fault cycles (or_item_fault badly last))))) e in
    not_not _ (none_fails bad_form (λ (u : Tree). not (is_item u)) 1 items k.0 t a)

-- an item with the word `role` is a fact without a variable
pub words_well : (items : List Tree) → HasNoFault items → (t : Tree) → IsAmong t items → is_role_well t ≡ true
words_well items e t a =
    let form : Option ItemFault = first_failing bad_form (λ (u : Tree). not (is_item u)) 1 items in
    let words : Option ItemFault = first_failing bad_keyword misuses_word 1 items in
    let many : Option ItemFault = first_too_many 1 [] items in
    let risky : Option ItemFault = first_failing not_safe is_unsafe 1 items in
    let cycles : Option ItemFault = first_failing recursive (is_recursive (dependences (alternatives items))) 1 items in
    let badly : Option ItemFault = first_failing bad_dependence (depends_badly (dependences (alternatives items)) (alternatives items)) 1 items in
    let last : Option ItemFault = none_of (roles items) in
    let f = or_none form (or_item_fault words (or_item_fault many (or_item_fault risky (or_item_fault cycles (or_item_fault badly last))))) e in
    let g = or_none words (or_item_fault many (or_item_fault risky (or_item_fault cycles (or_item_fault badly last)))) f.1 in
    let ok = not_not _ (none_fails bad_keyword misuses_word 1 items g.0 t a) in
    let k = both (heads_well (relation_of (item_head t)) uses) (bodies_stand_well (item_alternatives t) && is_role_well t) ok in
    (both (bodies_stand_well (item_alternatives t)) (is_role_well t) k.1).1

accepted_words : (items : List Tree) → HasNoFault items → (rule : Alternative) → IsAmong rule (alternatives items) → is_constant rule.head.word ≡ true
accepted_words items e rule a =
    let i = rule_item items rule a in
    let h = same_head (item_head i.0) _ rule i.2 in
    let k = atom_word (head_tree i.0) (both (is_atom (head_tree i.0)) (are_literals (body_trees i.0)) (items_formed items e i.0 i.1)).0 in
    subst (λ (x : Atom). is_constant x.word ≡ true) (sym h) k

-- no head depends on what it may not
depends_well : (items : List Tree) → HasNoFault items → (t : Tree) → IsAmong t items
    → depends_badly (dependences (alternatives items)) (alternatives items) t ≡ false
depends_well items e t a =
    let form : Option ItemFault = first_failing bad_form (λ (u : Tree). not (is_item u)) 1 items in
    let words : Option ItemFault = first_failing bad_keyword misuses_word 1 items in
    let many : Option ItemFault = first_too_many 1 [] items in
    let risky : Option ItemFault = first_failing not_safe is_unsafe 1 items in
    let cycles : Option ItemFault = first_failing recursive (is_recursive (dependences (alternatives items))) 1 items in
    let badly : Option ItemFault = first_failing bad_dependence (depends_badly (dependences (alternatives items)) (alternatives items)) 1 items in
    let last : Option ItemFault = none_of (roles items) in
    let f = or_none form (or_item_fault words (or_item_fault many (or_item_fault risky (or_item_fault cycles (or_item_fault badly last))))) e in
    let g = or_none words (or_item_fault many (or_item_fault risky (or_item_fault cycles (or_item_fault badly last)))) f.1 in
    let h = or_none many (or_item_fault risky (or_item_fault cycles (or_item_fault badly last))) g.1 in
    let i = or_none risky (or_item_fault cycles (or_item_fault badly last)) h.1 in
    let j = or_none cycles (or_item_fault badly last) i.1 in
    let k = or_none badly last j.1 in
    none_fails bad_dependence (depends_badly (dependences (alternatives items)) (alternatives items)) 1 items k.0 t a

-- a head `init` has only fixed relations in its bodies
init_bodies : (table : List Edge) (rules : List Alternative) (t : Tree) → relation_of (item_head t) ≡ record { word = w_init; arity = 1 }
    → depends_badly table rules t ≡ false
    → some_body (λ (r : Relation). not (is_fixed rules r)) (item_alternatives t) ≡ false
init_bodies table rules t same h = go (relation_of (item_head t)) same (some_body (rests_on_move table) (item_alternatives t))
    (some_body (λ (r : Relation). not (is_fixed rules r)) (item_alternatives t)) h
  where
    go : (p : Relation) → p ≡ record { word = w_init; arity = 1 } → (a b : Bool)
        → (((is_word w_legal 2 p || (is_word w_goal 2 p || is_word w_terminal 0 p)) && a) ||
        ((is_word w_base 1 p || (is_word w_input 2 p || is_word w_init 1 p)) && b)) ≡ false → b ≡ false
    go p e a b k =
        subst (λ (q : Relation). (((is_word w_legal 2 q || (is_word w_goal 2 q || is_word w_terminal 0 q)) && a) ||
        ((is_word w_base 1 q || (is_word w_input 2 q || is_word w_init 1 q)) && b)) ≡ false) e k

init_fixed : (items : List Tree) → HasNoFault items → IsFixed (alternatives items) (record { word = w_init; arity = 1 })
init_fixed items e = record { itself = refl; below = λ q chain. go q chain.0 chain.1 }
  where
    each : (q : Relation) → DependsDirectly (alternatives items) (record { word = w_init; arity = 1 }) q → IsFixed (alternatives items) q
    each q d =
        let i = rule_item items d.rule d.is_rule in
        let h = same_head (item_head i.0) _ d.rule i.2 in
        let same : relation_of (item_head i.0) ≡ record { word = w_init; arity = 1 } = ap relation_of (sym h) ∙ d.heads in
        let none = init_bodies (dependences (alternatives items)) (alternatives items) i.0 same (depends_well items e i.0 i.1) in
        pick (is_fixed (alternatives items) q) refl i.0 none i.2
      where
        pick : (b : Bool) → is_fixed (alternatives items) q ≡ b → (t : Tree) → some_body (λ (r : Relation). not (is_fixed (alternatives items) r))
            (item_alternatives t) ≡ false → IsAmong d.rule (item_alternatives t) → IsFixed (alternatives items) q
        pick true f t n a = (fixed_tested (alternatives items) (accepted_acyclic items e) q).0 f
        pick false f t n a =
            let yes = body_found (λ (r : Relation). not (is_fixed (alternatives items) r)) (item_alternatives t) d.rule d.literal a d.in_body
            (subst (λ (x : Relation). is_distinct x ≡ false) (sym d.names) d.not_distinct)
            (subst (λ (x : Relation). not (is_fixed (alternatives items) x) ≡ true) (sym d.names) (not_false _ f)) in
            absurd cc

    go : (q : Relation) (n : ℕ) → DependsIn (alternatives items) n (record { word = w_init; arity = 1 }) q → is_moving q ≡ false
    go q zero d = (each q d).itself
    go q (suc n) c = (each c.0 c.1).below q (n, c.2)

pub accepted_well_formed : (items : List Tree) → HasNoFault items → IsWellFormed (alternatives items)
accepted_well_formed items e = record {
  acyclic = accepted_acyclic items e;
  safe = accepted_safe items e;
  words = accepted_words items e;
  terms = accepted_terms items e;
  heads = λ rule a. own_source rule.head.word rule.head.terms (accepted_heads items e rule a);
  role = role_fixed items e;
  base = base_fixed items e;
  input = input_fixed items e;
  init = init_fixed items e;
}
