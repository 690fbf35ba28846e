-- Own relations that are added to others, and rules of some of the items.
use Rattle.std.proofs.Common.{ℕ, zero, suc, ◌≤◌, arith, Bool, true, false, ◌≡◌, List, [], ◌∷◌, ◌++◌, map, refl, ap, subst, ◌∙◌, inl, inr}
use Rattle.std.specs.Prelude.{◌||◌, ◌⊎◌, filter}
use Rattle.statement.specs.Tree.{Tree}
use Rattle.statement.specs.Clause.{Alternative, Relation, relation_eq}
use Rattle.statement.specs.Dependence.{IsAmong, is_among}
use Rattle.statement.specs.Items.{alternatives, item_alternatives}
use Rattle.rules_profile.proofs.Facts.{IsAmong-append, IsAmong-append_left, IsAmong-append_right}
use Rattle.meaning.specs.Derivable.{IsStratified}

or_again : (a b c : Bool) → (a || (b || c)) ≡ ((a || b) || c)
or_again true b c = refl
or_again false b c = refl

-- among two lists is among one or the other
pub among_both : (p : Relation) (ps qs : List Relation) → is_among p (ps ++ qs) ≡ (is_among p ps || is_among p qs)
among_both p [] qs = refl
among_both p (r ∷ ps) qs = ap (λ (b : Bool). relation_eq p r || b) (among_both p ps qs) ∙ or_again (relation_eq p r) (is_among p ps) (is_among p qs)

pub or_twice : (b : Bool) → b ≡ (b || b)
or_twice true = refl
or_twice false = refl

pub map_both : {A B : Type 0} (f : A → B) (xs ys : List A) → map f (xs ++ ys) ≡ map f xs ++ map f ys
map_both f [] ys = refl
map_both f (x ∷ xs) ys = ap (λ l. f x ∷ l) (map_both f xs ys)

-- a number from 1 is one more than another
pub with_one_less : (n : ℕ) → 1 ≤ n → (P : Type 0) → ((m : ℕ) → n ≡ suc m → P) → P
with_one_less zero h P f = absurd (omega (arith, h))
with_one_less (suc m) h P f = f m refl

-- the rules of some of the items are rules of all
still_among : (test : Tree → Bool) (items : List Tree) (rule : Alternative) → IsAmong rule (alternatives (filter test items))
    → IsAmong rule (alternatives items)
still_among test [] rule a = a
still_among test (t ∷ ts) rule a = go (still_among test ts rule) (test t) refl
  where
    either : (IsAmong rule (alternatives (filter test ts)) → IsAmong rule (alternatives ts))
        → IsAmong rule (item_alternatives t) ⊎ IsAmong rule (alternatives (filter test ts)) → IsAmong rule (alternatives (t ∷ ts))
    either later (inl m) = IsAmong-append_left rule (item_alternatives t) (alternatives ts) m
    either later (inr m) = IsAmong-append_right rule (item_alternatives t) (alternatives ts) (later m)

    go : (IsAmong rule (alternatives (filter test ts)) → IsAmong rule (alternatives ts)) → (b : Bool) → test t ≡ b
        → IsAmong rule (alternatives (t ∷ ts))
    go later true e =
        let same : filter test (t ∷ ts) ≡ t ∷ filter test ts = cc in
        either later (IsAmong-append rule (item_alternatives t) (alternatives (filter test ts)) (subst (λ (us : List Tree). IsAmong rule (alternatives us)) same a))
    go later false e =
        let same : filter test (t ∷ ts) ≡ filter test ts = cc in
        either later (inr (subst (λ (us : List Tree). IsAmong rule (alternatives us)) same a))

pub still_stratified : (test : Tree → Bool) (items : List Tree) → IsStratified (alternatives items) → IsStratified (alternatives (filter test items))
still_stratified test items strata = (strata.0, λ rule a. strata.1 rule (still_among test items rule a))
