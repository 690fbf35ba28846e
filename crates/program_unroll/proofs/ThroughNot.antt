-- Ways that begin through a negated atom.
use Rattle.std.proofs.Common.{ℕ, zero, suc, ◌≡◌, ◌<◌, inl, inr, List, [], ◌∷◌, length, get_or, map, refl, ap, subst, ◌∙◌, arith}
use Rattle.std.proofs.Common.{Bool, true, false}
use Rattle.std.specs.Prelude.{◌&&◌, ◌||◌}
use Rattle.statement.specs.Tree.{Tree}
use Rattle.statement.specs.Clause.{Relation, relation_eq, relation_of}
use Rattle.statement.specs.Items.{item_head}
use Rattle.statement.specs.Dependence.{IsAmong, is_among}
use Rattle.unroll_strata.specs.Numbering.{negated_relations}
use Rattle.diagnose_explain.specs.Ways.{leads, is_chain, ends_with, IsWayToSome}
use Rattle.program_unroll.specs.Crossing.{begins_among, are_chained, IsWayThroughNegation}

or_right : (a b : Bool) → b ≡ true → (a || b) ≡ true
or_right true b h = refl
or_right false b h = h

and_right : (a b : Bool) → (a && b) ≡ true → b ≡ true
and_right true b h = h
and_right false b h = absurd cc

-- what equals the element at a place is among the elements
pub among_at : {A : Type 0} (f : A → Relation) (r : Relation) (xs : List A) (i : ℕ) (d : A) → i < length xs
    → relation_eq r (f (get_or xs i d)) ≡ true → is_among r (map f xs) ≡ true
among_at f r [] i d h p = absurd (omega (arith, h))
among_at f r (y ∷ ys) zero d h p = ap (λ (b : Bool). b || is_among r (map f ys)) p
among_at f r (y ∷ ys) (suc i) d h p =
    or_right (relation_eq r (f y)) (is_among r (map f ys)) (among_at f r ys i d (omega (arith, h)) p)

chained : (items : List Tree) (p : Relation) (steps : List Relation) → is_chain items p steps ≡ true → are_chained items steps ≡ true
chained items p [] h = refl
chained items p (q ∷ qs) h = and_right (leads items p q) (is_chain items q qs) h

only_one : (q p : Relation) → IsAmong q (p ∷ []) → q ≡ p
only_one q p (inl h) = h
only_one q p (inr h) = absurd h

-- a way to an item's own relation that begins with one that its body negates
pub through_not : (items : List Tree) (t u : Tree) (p : Relation) (steps : List Relation) → p ≡ relation_of (item_head t)
    → begins_among (negated_relations t) steps ≡ true → IsWayToSome items u (p ∷ []) steps → IsWayThroughNegation items t steps
through_not items t u p steps own first way =
    let same : way.0 ≡ relation_of (item_head t) = only_one way.0 p way.1 ∙ own in record {
      first = first;
      chain = chained items (relation_of (item_head u)) steps way.2.chain;
      last = subst (λ (q : Relation). ends_with q steps ≡ true) same way.2.last;
    }
