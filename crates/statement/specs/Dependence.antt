-- Which relations rest on which.
use Rattle.std.specs.Prelude.{ℕ, zero, suc, Bool, true, false, not, cond, ◌&&◌, ◌||◌, ◌≡◌, ◌⊎◌, List, [], ◌∷◌, ◌++◌, length}
use Rattle.statement.specs.Words.{w_true, w_does, w_next, w_legal, w_goal, w_terminal, w_distinct}
use Rattle.statement.specs.Clause.{Literal, Alternative, Relation, relation_of, relation_eq, atom_of, is_word}

-- x is one of the list
abbrev pub IsAmong : {A : Type 0} → A → List A → Type 0
IsAmong x [] = ⊥
IsAmong x (y ∷ ys) = (x ≡ y) ⊎ IsAmong x ys

abbrev pub is_distinct : Relation → Bool
is_distinct p = is_word w_distinct 2 p

-- the head's relation rests on the relation of each atom of its body but `distinct`
pub record DependsDirectly (rules : List Alternative) (p q : Relation) : Type 0 where
  pub rule : Alternative
  pub literal : Literal
  pub is_rule : IsAmong rule rules
  pub heads : relation_of rule.head ≡ p
  pub in_body : IsAmong literal rule.body
  pub names : relation_of (atom_of literal) ≡ q
  pub not_distinct : is_distinct q ≡ false

-- a chain of n further steps
abbrev pub DependsIn : List Alternative → ℕ → Relation → Relation → Type 0
DependsIn rules zero p q = DependsDirectly rules p q
DependsIn rules (suc n) p q = (r : Relation) × DependsDirectly rules p r × DependsIn rules n r q

-- the least transitive relation that has every direct dependence
abbrev pub Depends : List Alternative → Relation → Relation → Type 0
Depends rules p q = (n : ℕ) × DependsIn rules n p q

-- no relation depends on itself
abbrev pub IsAcyclic : List Alternative → Type 0
IsAcyclic rules = (p : Relation) → Depends rules p p → ⊥

abbrev pub is_among : Relation → List Relation → Bool
is_among p [] = false
is_among p (q ∷ qs) = relation_eq p q || is_among p qs

-- the relations whose atoms change from state to state by their own meaning
abbrev pub moving_relations : List Relation
moving_relations =
    record { word = w_true; arity = 1 } ∷ record { word = w_does; arity = 2 } ∷ record { word = w_next; arity = 1 }
    ∷ record { word = w_legal; arity = 2 } ∷ record { word = w_goal; arity = 2 } ∷ record { word = w_terminal; arity = 0 } ∷ []

abbrev pub is_moving : Relation → Bool
is_moving p = is_among p moving_relations

-- fixed: neither of those, nor resting on one of them
pub record IsFixed (rules : List Alternative) (p : Relation) : Type 0 where
  pub itself : is_moving p ≡ false
  pub below : (q : Relation) → Depends rules p q → is_moving q ≡ false

-- The same by tests that compute.
-- p depends directly on q, or in more steps
pub record Edge : Type 0 where
  pub from : Relation
  pub to : Relation

abbrev pub has_edge : List Edge → Relation → Relation → Bool
has_edge [] p q = false
has_edge (e ∷ es) p q = (relation_eq e.from p && relation_eq e.to q) || has_edge es p q

abbrev pub with_edge : Edge → List Edge → List Edge
with_edge e es = cond (has_edge es e.from e.to) es (e ∷ es)

abbrev pub body_edges : Relation → List Literal → List Edge
body_edges p [] = []
body_edges p (l ∷ ls) =
    let q = relation_of (atom_of l) in
    cond (is_distinct q) (body_edges p ls) (with_edge (record { from = p; to = q }) (body_edges p ls))

abbrev pub direct_edges : List Alternative → List Edge
direct_edges [] = []
direct_edges (rule ∷ rules) = body_edges (relation_of rule.head) rule.body ++ direct_edges rules

-- edges from p to where h leads
abbrev pub edges_on : Relation → Relation → List Edge → List Edge → List Edge
edges_on p h [] all = all
edges_on p h (f ∷ fs) all = cond (relation_eq f.from h) (with_edge (record { from = p; to = f.to }) (edges_on p h fs all)) (edges_on p h fs all)

-- each way through h in two edges, as one edge
abbrev pub edges_through : Relation → List Edge → List Edge → List Edge
edges_through h [] all = all
edges_through h (e ∷ es) all =
    let rest = edges_through h es all in cond (relation_eq e.to h) (edges_on e.from h all rest) rest

-- ways through each relation of a list in turn
abbrev pub closure : List Relation → List Edge → List Edge
closure [] es = es
closure (h ∷ hs) es = closure hs (edges_through h es es)

-- the relations that head an alternative, in order, each as often as it does
abbrev pub heads_of : List Alternative → List Relation
heads_of [] = []
heads_of (rule ∷ rules) = relation_of rule.head ∷ heads_of rules

-- each once, by last appearance
abbrev pub once_each : List Relation → List Relation
once_each [] = []
once_each (p ∷ ps) = let rest = once_each ps in cond (is_among p rest) rest (p ∷ rest)

-- all pairs of a relation and one that it depends on
abbrev pub dependences : List Alternative → List Edge
dependences rules = closure (once_each (heads_of rules)) (direct_edges rules)

-- neither moving nor, n steps deep, resting on what moves; in a set without cycles that is `IsFixed`
abbrev pub all_in_body : (Relation → Bool) → List Literal → Bool
all_in_body test [] = true
all_in_body test (l ∷ ls) = let p = relation_of (atom_of l) in (is_distinct p || test p) && all_in_body test ls

abbrev pub all_in_bodies : (Relation → Bool) → List Alternative → Relation → Bool
all_in_bodies test [] p = true
all_in_bodies test (rule ∷ rules) p = (not (relation_eq (relation_of rule.head) p) || all_in_body test rule.body) && all_in_bodies test rules p

abbrev pub is_fixed_in : List Alternative → ℕ → Relation → Bool
is_fixed_in rules zero p = not (is_moving p)
is_fixed_in rules (suc n) p = not (is_moving p) && all_in_bodies (λ q. is_fixed_in rules n q) rules p

abbrev pub is_fixed : List Alternative → Relation → Bool
is_fixed rules p = is_fixed_in rules (length rules) p
