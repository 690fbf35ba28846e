-- What a list of items is refused for, and in which order.
use Rattle.std.specs.Prelude.{ℕ, suc, Bool, true, false, not, cond, ◌&&◌, ◌||◌, ◌==◌, nat_lt, List, [], ◌∷◌, ◌++◌, length, Option, Some, None, ◌≡◌}
use Rattle.statement.specs.Tree.{Tree, Trees, no_trees, tree, name_eq, tree_eq}
use Rattle.statement.specs.Words.{w_role, w_base, w_input, w_init, w_true, w_does, w_next, w_legal, w_goal, w_terminal, w_distinct}
use Rattle.statement.specs.RuleLimits.{most_items, most_variables, most_alternatives, most_roles}
use Rattle.statement.specs.Clause.{Literal, Alternative, Relation, relation_of, relation_eq, atom_of, is_word}
use Rattle.statement.specs.Items.{is_item, item_head, item_alternatives, alternatives, body_trees, is_some}
use Rattle.statement.specs.Dependence.{Edge, has_edge, dependences, is_fixed, is_distinct}
use Rattle.statement.specs.Safety.{variables, variables_in, are_safe, count_different}

pub data Limit : Type 0 where
  rules_limit : Limit
  variables_limit : Limit
  alternatives_limit : Limit
  roles_limit : Limit

-- faults of a rule set; items are numbered from 1
pub data ItemFault : Type 0 where
  bad_form : ℕ → ItemFault
  bad_keyword : ℕ → ItemFault
  too_many : ℕ → Limit → ItemFault
  not_safe : ℕ → ItemFault
  recursive : ℕ → ItemFault
  bad_dependence : ℕ → ItemFault
  no_role : ItemFault

abbrev pub or_item_fault : Option ItemFault → Option ItemFault → Option ItemFault
or_item_fault (Some f) other = Some f
or_item_fault None other = other

-- the first item, numbered from n, that fails a test
abbrev pub first_failing : (ℕ → ItemFault) → (Tree → Bool) → ℕ → List Tree → Option ItemFault
first_failing fault fails n [] = None
first_failing fault fails n (t ∷ ts) = cond (fails t) (Some (fault n)) (first_failing fault fails (suc n) ts)

-- where a word of the language may stand
pub record Use : Type 0 where
  pub word : List ℕ
  pub arity : ℕ
  pub heads : Bool
  pub bodies : Bool

abbrev pub use_of : List ℕ → ℕ → Bool → Bool → Use
use_of w n h b = record { word = w; arity = n; heads = h; bodies = b }

abbrev pub uses : List Use
uses =
    use_of w_role 1 true true ∷ use_of w_base 1 true true ∷ use_of w_input 2 true true ∷ use_of w_init 1 true false
    ∷ use_of w_true 1 false true ∷ use_of w_does 2 false true ∷ use_of w_next 1 true false ∷ use_of w_legal 2 true true
    ∷ use_of w_goal 2 true true ∷ use_of w_terminal 0 true true ∷ use_of w_distinct 2 false true ∷ []

-- no word of the table is used with another number of arguments or in another place
abbrev pub heads_well : Relation → List Use → Bool
heads_well p [] = true
heads_well p (u ∷ us) = (not (name_eq p.word u.word) || ((p.arity == u.arity) && u.heads)) && heads_well p us

abbrev pub stands_well : Relation → List Use → Bool
stands_well p [] = true
stands_well p (u ∷ us) = (not (name_eq p.word u.word) || ((p.arity == u.arity) && u.bodies)) && stands_well p us

abbrev pub body_stands_well : List Literal → Bool
body_stands_well [] = true
body_stands_well (l ∷ ls) = stands_well (relation_of (atom_of l)) uses && body_stands_well ls

abbrev pub bodies_stand_well : List Alternative → Bool
bodies_stand_well [] = true
bodies_stand_well (a ∷ rest) = body_stands_well a.body && bodies_stand_well rest

abbrev pub is_empty : List (List ℕ) → Bool
is_empty [] = true
is_empty (n ∷ ns) = false

-- a role is a ground fact
abbrev pub is_role_well : Tree → Bool
is_role_well t =
    not (name_eq (item_head t).word w_role) || (not (is_some (body_trees t)) && is_empty (variables_in (item_head t).terms))

abbrev pub misuses_word : Tree → Bool
misuses_word t =
    not (heads_well (relation_of (item_head t)) uses && (bodies_stand_well (item_alternatives t) && is_role_well t))

abbrev pub is_tree_in : Tree → List Tree → Bool
is_tree_in t [] = false
is_tree_in t (u ∷ us) = tree_eq t u || is_tree_in t us

-- the role that an item states
abbrev pub first_of : Trees → List Tree
first_of no_trees = []
first_of (tree t ts) = t ∷ []

abbrev pub role_in : Tree → List Tree
role_in t = cond (is_word w_role 1 (relation_of (item_head t)) && not (is_some (body_trees t))) (first_of (item_head t).terms) []

abbrev pub with_new : List Tree → List Tree → List Tree
with_new rs [] = rs
with_new rs (t ∷ ts) = with_new (cond (is_tree_in t rs) rs (rs ++ t ∷ [])) ts

-- the roles, in the order of their first fact, behind those before
abbrev pub roles_from : List Tree → List Tree → List Tree
roles_from rs [] = rs
roles_from rs (t ∷ ts) = roles_from (with_new rs (role_in t)) ts

abbrev pub roles : List Tree → List Tree
roles items = roles_from [] items

-- the first limit that item n passes, where `rs` are the roles before it
abbrev pub limit_passed : ℕ → List Tree → Tree → Option Limit
limit_passed n rs t =
    cond (n == suc most_items) (Some rules_limit)
    (cond (nat_lt most_variables (count_different (variables t))) (Some variables_limit)
    (cond (nat_lt most_alternatives (length (item_alternatives t))) (Some alternatives_limit)
    (cond (nat_lt most_roles (length (with_new rs (role_in t)))) (Some roles_limit) None)))

abbrev pub too_many_at : ℕ → Option Limit → Option ItemFault
too_many_at n None = None
too_many_at n (Some l) = Some (too_many n l)

abbrev pub first_too_many : ℕ → List Tree → List Tree → Option ItemFault
first_too_many n rs [] = None
first_too_many n rs (t ∷ ts) = or_item_fault (too_many_at n (limit_passed n rs t)) (first_too_many (suc n) (with_new rs (role_in t)) ts)

abbrev pub is_unsafe : Tree → Bool
is_unsafe t = not (are_safe (item_alternatives t))

-- some body atom passes a test of its relation; `distinct` rests on nothing
abbrev pub some_literal : (Relation → Bool) → List Literal → Bool
some_literal test [] = false
some_literal test (l ∷ ls) =
    let p = relation_of (atom_of l) in (not (is_distinct p) && test p) || some_literal test ls

abbrev pub some_body : (Relation → Bool) → List Alternative → Bool
some_body test [] = false
some_body test (a ∷ rest) = some_literal test a.body || some_body test rest

abbrev pub is_recursive : List Edge → Tree → Bool
is_recursive table t =
    let p = relation_of (item_head t) in
    some_body (λ q. relation_eq q p || has_edge table q p) (item_alternatives t)

abbrev pub does_relation : Relation
does_relation = record { word = w_does; arity = 2 }

abbrev pub rests_on_move : List Edge → Relation → Bool
rests_on_move table q = relation_eq q does_relation || has_edge table q does_relation

abbrev pub depends_badly : List Edge → List Alternative → Tree → Bool
depends_badly table rules t =
    let p = relation_of (item_head t) in
    ((is_word w_legal 2 p || (is_word w_goal 2 p || is_word w_terminal 0 p)) && some_body (rests_on_move table) (item_alternatives t))
    || ((is_word w_base 1 p || (is_word w_input 2 p || is_word w_init 1 p)) && some_body (λ q. not (is_fixed rules q)) (item_alternatives t))

abbrev pub none_of : List Tree → Option ItemFault
none_of [] = Some no_role
none_of (r ∷ rs) = None

-- the fault of a list of items
abbrev pub item_fault_in : List Tree → Option ItemFault
item_fault_in items =
    let rules = alternatives items in
    let table = dependences rules in
    or_item_fault (first_failing bad_form (λ t. not (is_item t)) 1 items)
    (or_item_fault (first_failing bad_keyword misuses_word 1 items)
    (or_item_fault (first_too_many 1 [] items)
    (or_item_fault (first_failing not_safe is_unsafe 1 items)
    (or_item_fault (first_failing recursive (is_recursive table) 1 items)
    (or_item_fault (first_failing bad_dependence (depends_badly table rules) 1 items)
    (none_of (roles items)))))))

-- the rule set is accepted
abbrev pub HasNoFault : List Tree → Type 0
HasNoFault items = item_fault_in items ≡ None
