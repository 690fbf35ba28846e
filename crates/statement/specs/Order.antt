-- The rank of a relation, and the order of the relations that head an alternative.
use Rattle.std.specs.Prelude.{ℕ, zero, suc, max, Bool, true, false, cond, List, [], ◌∷◌, length}
use Rattle.std.specs.Ordering.{nat_cmp}
use Rattle.std.specs.Cmp.Lexicographic.{slice_cmp}
use Rattle.std.specs.declared.cmp.Ordering.{Ordering}
use Rattle.std.specs.declared.cmp.Ordering.TheVariants.{Less, Equal, Greater}
use Rattle.statement.specs.Clause.{Literal, Alternative, Relation, relation_of, relation_eq, atom_of}
use Rattle.statement.specs.Dependence.{is_distinct, heads_of, once_each, is_fixed}

-- the greatest of one more than the rank of each literal's relation, where `distinct` has rank 0
abbrev pub body_rank : (Relation → ℕ) → List Literal → ℕ
body_rank below [] = 0
body_rank below (l ∷ ls) =
    let p = relation_of (atom_of l) in max (suc (cond (is_distinct p) 0 (below p))) (body_rank below ls)

abbrev pub rank_by : (Relation → ℕ) → List Alternative → Relation → ℕ
rank_by below [] p = 0
rank_by below (rule ∷ rules) p =
    max (cond (relation_eq (relation_of rule.head) p) (body_rank below rule.body) 0) (rank_by below rules p)

-- the rank, looked at n steps deep
abbrev pub rank_in : List Alternative → ℕ → Relation → ℕ
rank_in rules zero p = 0
rank_in rules (suc n) p = rank_by (λ q. rank_in rules n q) rules p

abbrev pub rank : List Alternative → Relation → ℕ
rank rules p = rank_in rules (length rules) p

abbrev pub then_by : Ordering → Ordering → Ordering
then_by Less other = Less
then_by Equal other = other
then_by Greater other = Greater

abbrev pub fixed_place : List Alternative → Relation → ℕ
fixed_place rules p = cond (is_fixed rules p) 0 1

-- fixed ones first, then by rank, by the bytes of the name, and by the number of arguments
abbrev pub relation_cmp : List Alternative → Relation → Relation → Ordering
relation_cmp rules p q =
    then_by (nat_cmp (fixed_place rules p) (fixed_place rules q))
    (then_by (nat_cmp (rank rules p) (rank rules q))
    (then_by (slice_cmp nat_cmp p.word q.word) (nat_cmp p.arity q.arity)))

abbrev pub is_less : Ordering → Bool
is_less Less = true
is_less Equal = false
is_less Greater = false

abbrev pub into_order : List Alternative → Relation → List Relation → List Relation
into_order rules p [] = p ∷ []
into_order rules p (q ∷ qs) = cond (is_less (relation_cmp rules p q)) (p ∷ (q ∷ qs)) (q ∷ into_order rules p qs)

abbrev pub sorted : List Alternative → List Relation → List Relation
sorted rules [] = []
sorted rules (p ∷ ps) = into_order rules p (sorted rules ps)

-- the relations that head an alternative, in order
abbrev pub relations_in_order : List Alternative → List Relation
relations_in_order rules = sorted rules (once_each (heads_of rules))
