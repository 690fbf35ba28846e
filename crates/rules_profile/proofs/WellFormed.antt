-- Further facts of an accepted list of items: its heads, their terms, and the relations that are fixed.
use Rattle.std.proofs.Common.{ℕ, zero, suc, Bool, true, false, not, ◌&&◌, ◌||◌, ◌==◌, ◌≡◌, inl, inr, List, [], ◌∷◌, map, refl, sym, ap, subst, ◌∙◌}
use Rattle.std.proofs.Common.{Option, None}
use Rattle.statement.specs.Tree.{Tree, name, list, Trees, no_trees, tree, name_eq}
use Rattle.kif.proofs.Facts.{both, name_eq_self}
use Rattle.statement.specs.Words.{w_role, w_base, w_input, w_init, w_true, w_does, w_legal, w_goal, w_terminal, w_distinct}
use Rattle.statement.specs.Clause.{Atom, Literal, Alternative, Relation, relation_of, is_word}
use Rattle.statement.specs.Dependence.{IsAmong, is_distinct, is_moving, DependsDirectly, DependsIn, IsFixed, Edge, dependences, is_fixed}
use Rattle.statement.specs.Items.{is_constant, is_connective, are_terms, is_atom, atom_in, is_item, head_tree, body_trees, are_literals, item_head}
use Rattle.statement.specs.Items.{item_alternatives, alternatives, readings_of_all, is_some}
use Rattle.statement.specs.Profile.{ItemFault, or_item_fault, first_failing, bad_form, bad_keyword, not_safe, recursive, bad_dependence, first_too_many}
use Rattle.statement.specs.Profile.{is_unsafe, is_recursive, depends_badly, rests_on_move, none_of, roles, misuses_word, Use, uses, use_of, heads_well}
use Rattle.statement.specs.Profile.{bodies_stand_well, is_role_well, some_body, HasNoFault}
use Rattle.rules_profile.proofs.Tests.{not_false}
use Rattle.rules_profile.proofs.Accepted.{or_none, none_fails, rule_item, same_head, body_found, accepted_acyclic, fixed_tested, not_not, right_if}

record AllPassed (items : List Tree) : Type 0 where
  form : first_failing bad_form (λ t. not (is_item t)) 1 items ≡ None
  words : first_failing bad_keyword misuses_word 1 items ≡ None
  deps : first_failing bad_dependence (depends_badly (dependences (alternatives items)) (alternatives items)) 1 items ≡ None

all_passed : (items : List Tree) → HasNoFault items → AllPassed items
all_passed items e =
    let form : Option ItemFault = first_failing bad_form (λ (t : Tree). not (is_item t)) 1 items in
    let words : Option ItemFault = first_failing bad_keyword misuses_word 1 items in
    let many : Option ItemFault = first_too_many 1 [] items in
    let risky : Option ItemFault = first_failing not_safe is_unsafe 1 items in
    let cycles : Option ItemFault = first_failing recursive (is_recursive (dependences (alternatives items))) 1 items in
    let badly : Option ItemFault = first_failing bad_dependence (depends_badly (dependences (alternatives items)) (alternatives items)) 1 items in
    let last : Option ItemFault = none_of (roles items) in
    let a = or_none form (or_item_fault words (or_item_fault many (or_item_fault risky (or_item_fault cycles (or_item_fault badly last))))) e in
    let b = or_none words (or_item_fault many (or_item_fault risky (or_item_fault cycles (or_item_fault badly last)))) a.1 in
    let c = or_none many (or_item_fault risky (or_item_fault cycles (or_item_fault badly last))) b.1 in
    let d = or_none risky (or_item_fault cycles (or_item_fault badly last)) c.1 in
    let f = or_none cycles (or_item_fault badly last) d.1 in
    let g = or_none badly last f.1 in
    record { form = a.0; words = b.0; deps = g.0 }

atom_terms : (t : Tree) → is_atom t ≡ true → are_terms (atom_in t).terms ≡ true
atom_terms (name c) h = refl
atom_terms (list no_trees) h = absurd cc
atom_terms (list (tree (list us) ts)) h = absurd cc
atom_terms (list (tree (name c) ts)) h = (both (is_constant c && not (is_connective c)) (are_terms ts) h).1

pub accepted_terms : (items : List Tree) → HasNoFault items → (rule : Alternative) → IsAmong rule (alternatives items)
    → are_terms rule.head.terms ≡ true
accepted_terms items e rule a =
    let i = rule_item items rule a in
    let h = same_head (item_head i.0) _ rule i.2 in
    let ok : is_item i.0 ≡ true = not_not _ (none_fails bad_form (λ (t : Tree). not (is_item t)) 1 items (all_passed items e).form i.0 i.1) in
    let k = atom_terms (head_tree i.0) (both (is_atom (head_tree i.0)) (are_literals (body_trees i.0)) ok).0 in
    subst (λ (x : Atom). are_terms x.terms ≡ true) (sym h) k

heads_each : (p : Relation) (us : List Use) → heads_well p us ≡ true → (u : Use) → IsAmong u us
    → (not (name_eq p.word u.word) || ((p.arity == u.arity) && u.heads)) ≡ true
heads_each p [] h u a = absurd a
heads_each p (v ∷ us) h u (inl e) =
    subst (λ (x : Use). (not (name_eq p.word x.word) || ((p.arity == x.arity) && x.heads)) ≡ true) (sym e)
    (both (not (name_eq p.word v.word) || ((p.arity == v.arity) && v.heads)) (heads_well p us) h).0
heads_each p (v ∷ us) h u (inr a) =
    heads_each p us ((both (not (name_eq p.word v.word) || ((p.arity == v.arity) && v.heads)) (heads_well p us) h).1) u a

-- a word that may not stand in a head stands in none
never_heads : (a b : Bool) → (not a || (b && false)) ≡ true → a ≡ false
never_heads true true h = absurd cc
never_heads true false h = absurd cc
never_heads false b h = refl

-- heads are no `true`, `does` or `distinct`
pub record IsOwn (w : List ℕ) : Type 0 where
  pub no_true : name_eq w w_true ≡ false
  pub no_does : name_eq w w_does ≡ false
  pub no_distinct : name_eq w w_distinct ≡ false

words_well : (items : List Tree) → HasNoFault items → (t : Tree) → IsAmong t items → (heads_well (relation_of (item_head t)) uses ≡ true)
    × (is_role_well t ≡ true)
words_well items e t a =
    let ok = not_not _ (none_fails bad_keyword misuses_word 1 items (all_passed items e).words t a) in
    let k = both (heads_well (relation_of (item_head t)) uses) (bodies_stand_well (item_alternatives t) && is_role_well t) ok in
    (k.0, (both (bodies_stand_well (item_alternatives t)) (is_role_well t) k.1).1)

pub accepted_heads : (items : List Tree) → HasNoFault items → (rule : Alternative) → IsAmong rule (alternatives items) → IsOwn rule.head.word
accepted_heads items e rule a =
    let i = rule_item items rule a in
    let h = same_head (item_head i.0) _ rule i.2 in
    let k = (words_well items e i.0 i.1).0 in
    let own : IsOwn (item_head i.0).word = record {
      no_true = never_heads _ _ (heads_each (relation_of (item_head i.0)) uses k (use_of w_true 1 false true) (inr (inr (inr (inr (inl refl))))));
      no_does = never_heads _ _ (heads_each (relation_of (item_head i.0)) uses k (use_of w_does 2 false true)
          (inr (inr (inr (inr (inr (inl refl)))))));
      no_distinct =
          never_heads _ _ (heads_each (relation_of (item_head i.0)) uses k (use_of w_distinct 2 false true)
          (inr (inr (inr (inr (inr (inr (inr (inr (inr (inr (inl refl))))))))))));
    } in
    subst (λ (x : Atom). IsOwn x.word) (sym h) own

-- a relation is fixed if it doesn't move and what it depends on directly is fixed
fixed_by : (rules : List Alternative) (p : Relation) → is_moving p ≡ false → ((q : Relation) → DependsDirectly rules p q → IsFixed rules q)
    → IsFixed rules p
fixed_by rules p still each = record { itself = still; below = λ q chain. go q chain.0 chain.1 }
  where
    go : (q : Relation) (n : ℕ) → DependsIn rules n p q → is_moving q ≡ false
    go q zero d = (each q d).itself
    go q (suc n) c = (each c.0 c.1).below q (n, c.2)

one_body : (h : Atom) (ts : Trees) → not (is_some ts) ≡ true → (rule : Alternative)
    → IsAmong rule (map (λ b. record { head = h; body = b }) (readings_of_all ts)) → rule.body ≡ []
one_body h no_trees e rule (inl s) = ap (λ (r : Alternative). r.body) s
one_body h no_trees e rule (inr a) = absurd a
one_body h (tree t ts) e rule a = absurd cc

pub role_fixed : (items : List Tree) → HasNoFault items → IsFixed (alternatives items) (record { word = w_role; arity = 1 })
role_fixed items e = fixed_by (alternatives items) (record { word = w_role; arity = 1 }) refl each
  where
    each : (q : Relation) → DependsDirectly (alternatives items) (record { word = w_role; arity = 1 }) q → IsFixed (alternatives items) q
    each q d =
        let i = rule_item items d.rule d.is_rule in
        let h = same_head (item_head i.0) _ d.rule i.2 in
        let k = (words_well items e i.0 i.1).1 in
        let same : (item_head i.0).word ≡ w_role = ap (λ (x : Atom). x.word) (sym h) ∙ ap (λ (x : Relation). x.word) d.heads in
        let role : name_eq (item_head i.0).word w_role ≡ true = subst (λ (x : List ℕ). name_eq x w_role ≡ true) (sym same) (name_eq_self w_role) in
        let bare = right_if _ _ (ap not role) k in
        let none = one_body (item_head i.0) (body_trees i.0) (both _ _ bare).0 d.rule i.2 in
        absurd (subst (λ (x : List Literal). IsAmong d.literal x) none d.in_body)

or_none_true : (a b : Bool) → (a || b) ≡ false → b ≡ false
or_none_true true b h = absurd cc
or_none_true false b h = h

both_not : (a b : Bool) → (a && b) ≡ false → a ≡ true → b ≡ false
both_not true b h e = h
both_not false b h e = absurd cc

not_badly : (table : List Edge) (rules : List Alternative) (t : Tree) → depends_badly table rules t ≡ false
    → (is_word w_base 1 (relation_of (item_head t))
    || (is_word w_input 2 (relation_of (item_head t)) || is_word w_init 1 (relation_of (item_head t)))) ≡ true
    → some_body (λ (r : Relation). not (is_fixed rules r)) (item_alternatives t) ≡ false
not_badly table rules t ok known =
    let p : Relation = relation_of (item_head t) in
    both_not (is_word w_base 1 p || (is_word w_input 2 p || is_word w_init 1 p))
    (some_body (λ (r : Relation). not (is_fixed rules r)) (item_alternatives t))
    (or_none_true ((is_word w_legal 2 p || (is_word w_goal 2 p || is_word w_terminal 0 p)) && some_body (rests_on_move table) (item_alternatives t))
    ((is_word w_base 1 p || (is_word w_input 2 p || is_word w_init 1 p)) && some_body (λ (r : Relation). not (is_fixed rules r))
    (item_alternatives t)) ok)
    known

-- `base`, `input` and `init` rest on fixed relations alone
stand_fixed : (items : List Tree) → HasNoFault items → (p : Relation) → (is_word w_base 1 p || (is_word w_input 2 p || is_word w_init 1 p)) ≡ true
    → is_moving p ≡ false → IsFixed (alternatives items) p
stand_fixed items e p known still = fixed_by (alternatives items) p still each
  where
    each : (q : Relation) → DependsDirectly (alternatives items) p q → IsFixed (alternatives items) q
    each q d =
        let i = rule_item items d.rule d.is_rule in
        let h = same_head (item_head i.0) _ d.rule i.2 in
        let same : relation_of (item_head i.0) ≡ p = ap relation_of (sym h) ∙ d.heads in
        let ok : depends_badly (dependences (alternatives items)) (alternatives items) i.0 ≡ false =
        none_fails bad_dependence _ 1 items (all_passed items e).deps i.0 i.1 in
        let none : some_body (λ (r : Relation). not (is_fixed (alternatives items) r)) (item_alternatives i.0) ≡ false
        = not_badly (dependences (alternatives items)) (alternatives items) i.0 ok
        (subst (λ (x : Relation). (is_word w_base 1 x || (is_word w_input 2 x || is_word w_init 1 x)) ≡ true) (sym same) known) in
        go (is_fixed (alternatives items) q) refl i.0 none i.2
      where
        go : (b : Bool) → is_fixed (alternatives items) q ≡ b → (t : Tree)
            → some_body (λ (r : Relation). not (is_fixed (alternatives items) r)) (item_alternatives t) ≡ false → IsAmong d.rule (item_alternatives t)
            → IsFixed (alternatives items) q
        go true f t n a = (fixed_tested (alternatives items) (accepted_acyclic items e) q).0 f
        go false f t n a =
            let yes = body_found (λ (r : Relation). not (is_fixed (alternatives items) r)) (item_alternatives t) d.rule d.literal a d.in_body
            (subst (λ (x : Relation). is_distinct x ≡ false) (sym d.names) d.not_distinct)
            (subst (λ (x : Relation). not (is_fixed (alternatives items) x) ≡ true) (sym d.names) (not_false _ f)) in
            absurd cc

pub base_fixed : (items : List Tree) → HasNoFault items → IsFixed (alternatives items) (record { word = w_base; arity = 1 })
base_fixed items e = stand_fixed items e (record { word = w_base; arity = 1 }) refl refl

pub input_fixed : (items : List Tree) → HasNoFault items → IsFixed (alternatives items) (record { word = w_input; arity = 2 })
input_fixed items e = stand_fixed items e (record { word = w_input; arity = 2 }) refl refl
