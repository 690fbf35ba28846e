-- What is noted of the numbers of a set, and of one more.
use Rattle.std.proofs.Common.{
  ℕ,
  zero,
  suc,
  ◌<◌,
  Bool,
  true,
  false,
  cond,
  ◌||◌,
  ◌≡◌,
  List,
  [],
  ◌∷◌,
  ◌++◌,
  length,
  set,
  nat_eq,
  eqb-true,
  eq-eqb,
  get_or,
  refl,
  sym,
  ap,
  subst,
  ◌∙◌,
  arith,
}
use Rattle.std.specs.List.{list_any, IsDistinct}
use Rattle.std.proofs.lemmas.Map.Keys.{IsDistinct-push}
use Rattle.std.specs.Cmp.{nat_eq_equiv}
use Rattle.std.proofs.lemmas.List.{get_or-set_same, get_or-set_other}
use Rattle.statement.specs.Printed.{first_place}
use Rattle.ground_terms.specs.NumberSets.{ticket_of, AreTickets, IsNumberSet}
use Rattle.ground_terms.proofs.AtPlaces.{none_place}

any_there : (test : ℕ → Bool) (ns : List ℕ) (n : ℕ) → test n ≡ true → list_any test (ns ++ n ∷ []) ≡ true
any_there test [] n passes = ap (λ (b : Bool). b || false) passes
any_there test (m ∷ ms) n passes = go (test m) (any_there test ms n passes)
  where
    go : (b : Bool) → list_any test (ms ++ n ∷ []) ≡ true → (b || list_any test (ms ++ n ∷ [])) ≡ true
    go true e = refl
    go false e = e

place_there : (test : ℕ → Bool) (ns : List ℕ) (n : ℕ) → test n ≡ true → list_any test ns ≡ false → first_place test (ns ++ n ∷ []) ≡ length ns
place_there test [] n passes none = ap (λ (b : Bool). cond b zero (suc zero)) passes
place_there test (m ∷ ms) n passes none = go (test m) none (λ h. place_there test ms n passes h)
  where
    go : (b : Bool) → (b || list_any test ms) ≡ false → (list_any test ms ≡ false → first_place test (ms ++ n ∷ []) ≡ length ms)
        → cond b zero (suc (first_place test (ms ++ n ∷ []))) ≡ suc (length ms)
    go true h e = absurd cc
    go false h e = ap (λ (k : ℕ). suc k) (e h)

further : (a b : Bool) (p q : ℕ) → cond a (suc p) zero ≡ cond b (suc q) zero → cond a (suc (suc p)) zero ≡ cond b (suc (suc q)) zero
further true true p q e = ap (λ (k : ℕ). suc k) e
further true false p q e = absurd (let bad : ⊥ = omega (arith, e) in bad)
further false true p q e = absurd (let bad : ⊥ = omega (arith, e) in bad)
further false false p q e = refl

-- one more number changes nothing for a test that it does not pass
ticket_else : (test : ℕ → Bool) (ns : List ℕ) (n : ℕ) → test n ≡ false
    → cond (list_any test (ns ++ n ∷ [])) (suc (first_place test (ns ++ n ∷ []))) zero ≡ cond (list_any test ns) (suc (first_place test ns)) zero
ticket_else test [] n fails = ap (λ (b : Bool). cond (b || false) (suc (cond b zero (suc zero))) zero) fails
ticket_else test (m ∷ ms) n fails = go (test m) (ticket_else test ms n fails)
  where
    go : (b : Bool)
        → cond (list_any test (ms ++ n ∷ [])) (suc (first_place test (ms ++ n ∷ []))) zero ≡ cond (list_any test ms) (suc (first_place test ms)) zero
        → cond (b || list_any test (ms ++ n ∷ [])) (suc (cond b zero (suc (first_place test (ms ++ n ∷ []))))) zero
        ≡ cond (b || list_any test ms) (suc (cond b zero (suc (first_place test ms)))) zero
    go true e = refl
    go false e =
        further (list_any test (ms ++ n ∷ [])) (list_any test ms) (first_place test (ms ++ n ∷ [])) (first_place test ms) e

not_there : (b : Bool) (k : ℕ) → cond b (suc k) zero ≡ 0 → b ≡ false
not_there true k e = absurd (let bad : ⊥ = omega (arith, e) in bad)
not_there false k e = refl

-- what is noted once a number was added that was not there
noted : (members all tickets more : List ℕ) (number next : ℕ) → AreTickets members tickets → get_or tickets number 0 ≡ 0
    → ((n : ℕ) → get_or more n 0 ≡ get_or tickets n 0) → number < length more → all ≡ members ++ number ∷ [] → next ≡ suc (length members)
    → AreTickets all (set more number next)
noted members all tickets more number next t zero_is same room all_is next_is n = go (nat_eq n number) refl
  where
    none : list_any (nat_eq number) members ≡ false
    none = not_there (list_any (nat_eq number) members) (first_place (nat_eq number) members) (sym (t number) ∙ zero_is)

    here : ticket_of (members ++ number ∷ []) number ≡ suc (length members)
    here =
        let own = eq-eqb number number refl in
        ap (λ (b : Bool). cond b (suc (first_place (nat_eq number) (members ++ number ∷ []))) zero) (any_there (nat_eq number) members number own)
        ∙ ap (λ (k : ℕ). suc k) (place_there (nat_eq number) members number own none)

    go : (b : Bool) → nat_eq n number ≡ b → get_or (set more number next) n 0 ≡ ticket_of all n
    go true f =
        let e = eqb-true n number f in
        ap (λ (k : ℕ). get_or (set more number next) k 0) e ∙ get_or-set_same more number next 0 room ∙ next_is
        ∙ sym (ap (λ (k : ℕ). ticket_of all k) e ∙ ap (λ (l : List ℕ). ticket_of l number) all_is ∙ here)
    go false f =
        let other : n ≡ number → ⊥ = λ e. let bad : true ≡ false = sym (eq-eqb n number e) ∙ f in absurd cc in
        get_or-set_other more number n next 0 other ∙ same n ∙ t n
        ∙ sym (ap (λ (l : List ℕ). ticket_of l n) all_is ∙ ticket_else (nat_eq n) members number f)

pub empty_noted : (members tickets : List ℕ) → members ≡ [] → tickets ≡ [] → IsNumberSet members tickets
unfolding IsDistinct
empty_noted members tickets m t =
    record {
      noted = λ n. ap (λ (l : List ℕ). get_or l n 0) t ∙ sym (ap (λ (l : List ℕ). ticket_of l n) m);
      distinct = subst (λ (l : List ℕ). IsDistinct nat_eq l) (sym m) tt;
    }

pub set_noted : (members all tickets more : List ℕ) (number next : ℕ) → IsNumberSet members tickets → get_or tickets number 0 ≡ 0
    → ((n : ℕ) → get_or more n 0 ≡ get_or tickets n 0) → number < length more → all ≡ members ++ number ∷ [] → next ≡ suc (length members)
    → IsNumberSet all (set more number next)
set_noted members all tickets more number next s zero_is same room all_is next_is =
    record {
      noted = noted members all tickets more number next s.noted zero_is same room all_is next_is;
      distinct = subst (λ (l : List ℕ). IsDistinct nat_eq l) (sym all_is)
          (IsDistinct-push nat_eq_equiv members number s.distinct (not_there (list_any (nat_eq number) members) (first_place (nat_eq number) members)
          (sym (s.noted number) ∙ zero_is)));
    }

-- the place of a number that is not there is behind all
pub place_past : (members tickets : List ℕ) (n : ℕ) → AreTickets members tickets → get_or tickets n 0 ≡ 0
    → length members ≡ first_place (nat_eq n) members
place_past members tickets n t e =
    sym (none_place (nat_eq n) members (not_there (list_any (nat_eq n) members) (first_place (nat_eq n) members) (sym (t n) ∙ e)))
