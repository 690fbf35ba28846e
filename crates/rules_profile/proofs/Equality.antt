-- The tests of relations and atoms are equality.
use Rattle.std.proofs.Common.{true, ◌≡◌, refl, eqb-true, eqb, eq-eqb}
use Rattle.statement.specs.Tree.{name_eq, trees_eq}
use Rattle.kif.proofs.Facts.{both, true_and, name_eq_yes, name_eq_self, trees_eq_yes, trees_eq_self}
use Rattle.statement.specs.Clause.{Atom, Relation, relation_eq, atom_eq}

pub relation_eq_yes : (p q : Relation) → relation_eq p q ≡ true → p ≡ q
relation_eq_yes p q h =
    let k = both (name_eq p.word q.word) (eqb p.arity q.arity) h in
    let e = name_eq_yes p.word q.word k.0 in
    let f = eqb-true p.arity q.arity k.1 in
    λ i. record { word = e i; arity = f i }

pub relation_eq_self : (p : Relation) → relation_eq p p ≡ true
relation_eq_self p = true_and (name_eq p.word p.word) (eqb p.arity p.arity) (name_eq_self p.word) (eq-eqb p.arity p.arity refl)

pub atom_eq_yes : (x y : Atom) → atom_eq x y ≡ true → x ≡ y
atom_eq_yes x y h =
    let k = both (name_eq x.word y.word) (trees_eq x.terms y.terms) h in
    let e = name_eq_yes x.word y.word k.0 in
    let f = trees_eq_yes x.terms y.terms k.1 in
    λ i. record { word = e i; terms = f i }

pub atom_eq_self : (x : Atom) → atom_eq x x ≡ true
atom_eq_self x = true_and (name_eq x.word x.word) (trees_eq x.terms x.terms) (name_eq_self x.word) (trees_eq_self x.terms)
