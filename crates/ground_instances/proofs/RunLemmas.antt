-- Runs of instances of one alternative.
use Rattle.std.proofs.Common.{◌≡◌, ℕ, zero, suc, ◌≤◌, ◌<◌, leb, Bool, List, [], ◌∷◌, ◌++◌, length, get_or, refl, sym, ◌∙◌, ap, subst, arith, if◌then◌else◌}
use Rattle.std.proofs.lemmas.Bool.{le-leb, lt-leb}
use Rattle.std.specs.List.Sorted.{IsNonDecreasingBy}
use Rattle.ground_instances.specs.declared.entry.AlternativeRun.{AlternativeRun}
use Rattle.ground_instances.specs.Lists.{alternative_behind, alternative_at, RunsRise, AddsRun, last_behind}

-- each run begins at or behind the place from which on runs rise
first_low : (low : ℕ) (rs : List AlternativeRun) (high i : ℕ) (d : AlternativeRun) → RunsRise low rs high → i < length rs → low ≤ (get_or rs i d).first
first_low low [] high i d h l = absurd (omega (arith, l))
first_low low (r ∷ rs) high zero d h l = h.0
first_low low (r ∷ rs) high (suc i) d h l =
    let first = h.0 in
    let rest = first_low r.first rs high i d h.1 (omega (arith, l)) in omega (arith, first, rest)

pub in_order : (low : ℕ) (rs : List AlternativeRun) (high : ℕ) → RunsRise low rs high → IsNonDecreasingBy (λ (r : AlternativeRun). r.first) rs
in_order low [] high h i j d le l = absurd (omega (arith, l))
in_order low (r ∷ rs) high h zero zero d le l = omega arith
in_order low (r ∷ rs) high h zero (suc j) d le l = first_low r.first rs high j d h.1 (omega (arith, l))
in_order low (r ∷ rs) high h (suc i) zero d le l = absurd (omega (arith, le))
in_order low (r ∷ rs) high h (suc i) (suc j) d le l = in_order r.first rs high h.1 i j d (omega (arith, le)) (omega (arith, l))

-- where no run has begun
none_begun : (a : ℕ) (rs : List AlternativeRun) (n : ℕ) → ((k : ℕ) (d : AlternativeRun) → 0 ≤ k → k < length rs → n < (get_or rs k d).first) → alternative_behind a rs n ≡ a
none_begun a [] n none = refl
none_begun a (r ∷ rs) n none =
    ap (λ (b : Bool). if b then alternative_behind r.alternative rs n else a) (lt-leb r.first n (none 0 r (omega arith) (omega arith)))

-- the alternative of the last run that has begun
begun_is : (a : ℕ) (rs : List AlternativeRun) (n k : ℕ) (x : AlternativeRun) → suc k ≤ length rs → ((j : ℕ) (d : AlternativeRun) → j < suc k → (get_or rs j d).first ≤ n)
    → ((j : ℕ) (d : AlternativeRun) → suc k ≤ j → j < length rs → n < (get_or rs j d).first) → alternative_behind a rs n ≡ (get_or rs k x).alternative
begun_is a [] n k x h begun others = absurd (omega (arith, h))
begun_is a (r ∷ rs) n zero x h begun others =
    ap (λ (b : Bool). if b then alternative_behind r.alternative rs n else a) (le-leb r.first n (begun 0 r (omega arith)))
    ∙ none_begun r.alternative rs n (λ j d low l. others (suc j) d (omega (arith, low)) (omega (arith, l)))
begun_is a (r ∷ rs) n (suc k) x h begun others =
    ap (λ (b : Bool). if b then alternative_behind r.alternative rs n else a) (le-leb r.first n (begun 0 r (omega arith)))
    ∙ begun_is r.alternative rs n k x (omega (arith, h)) (λ j d l. begun (suc j) d (omega (arith, l)))
    (λ j d low l. others (suc j) d (omega (arith, low)) (omega (arith, l)))

pub none_is : (rs : List AlternativeRun) (n many : ℕ) → many ≡ 0 → ((k : ℕ) (d : AlternativeRun) → many ≤ k → k < length rs → n < (get_or rs k d).first)
    → 0 ≡ alternative_at rs n
none_is rs n many e others = sym (none_begun 0 rs n (λ k d low l. others k d (omega (arith, e)) l))

pub some_is : (rs : List AlternativeRun) (n many k : ℕ) (x : AlternativeRun) → many ≡ suc k → many ≤ length rs → ((j : ℕ) (d : AlternativeRun) → j < many → (get_or rs j d).first ≤ n)
    → ((j : ℕ) (d : AlternativeRun) → many ≤ j → j < length rs → n < (get_or rs j d).first) → (get_or rs k x).alternative ≡ alternative_at rs n
some_is rs n many k x e h begun others =
    sym (begun_is 0 rs n k x (omega (arith, e, h)) (λ j d l. begun j d (omega (arith, e, l))) (λ j d low l. others j d (omega (arith, e, low)) l))

-- The last run.

last_here : (a : ℕ) (rs : List AlternativeRun) (i : ℕ) (x : AlternativeRun) → length rs ≡ suc i → last_behind a rs ≡ (get_or rs i x).alternative
last_here a [] i x e = absurd (omega (arith, e))
last_here a (r ∷ []) zero x e = refl
last_here a (r ∷ []) (suc i) x e = absurd (omega (arith, e))
last_here a (r ∷ s ∷ rs) zero x e = absurd (omega (arith, e))
last_here a (r ∷ s ∷ rs) (suc i) x e = last_here r.alternative (s ∷ rs) i x (omega (arith, e))

pub last_is : (rs : List AlternativeRun) (i a : ℕ) → length rs ≡ suc i → (get_or rs i (record { alternative = 0; first = 0 })).alternative ≡ a
    → last_behind 0 rs ≡ a
last_is rs i a e same = last_here 0 rs i (record { alternative = 0; first = 0 }) e ∙ same

rise_more : (low : ℕ) (rs : List AlternativeRun) (high more : ℕ) → high ≤ more → RunsRise low rs high → RunsRise low rs more
rise_more low [] high more h r = omega (arith, h, r)
rise_more low (x ∷ rs) high more h r = (r.0, rise_more x.first rs high more h r.1)

rise_up : (low : ℕ) (rs : List AlternativeRun) (high : ℕ) → RunsRise low rs high → low ≤ high
rise_up low [] high r = r
rise_up low (x ∷ rs) high r =
    let first = r.0 in
    let rest = rise_up x.first rs high r.1 in omega (arith, first, rest)

-- at the place where runs end the last of them goes on
goes_on : (a low : ℕ) (rs : List AlternativeRun) (high : ℕ) → RunsRise low rs high → alternative_behind a rs high ≡ last_behind a rs
goes_on a low [] high r = refl
goes_on a low (x ∷ rs) high r =
    ap (λ (b : Bool). if b then alternative_behind x.alternative rs high else a) (le-leb x.first high (rise_up x.first rs high r.1))
    ∙ goes_on x.alternative x.first rs high r.1

pub same_run : (a place : ℕ) (rs : List AlternativeRun) → last_behind 0 rs ≡ a → RunsRise 0 rs place → AddsRun a place rs rs
same_run a place rs e r = record {
  rise = rise_more 0 rs place (suc place) (omega arith) r;
  before = λ n l. refl;
  here = goes_on 0 0 rs place r ∙ e;
}

before_new : (b : ℕ) (rs : List AlternativeRun) (x : AlternativeRun) (n : ℕ) → n < x.first → alternative_behind b (rs ++ x ∷ []) n ≡ alternative_behind b rs n
before_new b [] x n l = ap (λ (t : Bool). if t then x.alternative else b) (lt-leb x.first n l)
before_new b (r ∷ rs) x n l = ap (λ (a : ℕ). if leb r.first n then a else b) (before_new r.alternative rs x n l)

at_new : (b low : ℕ) (rs : List AlternativeRun) (x : AlternativeRun) → RunsRise low rs x.first → alternative_behind b (rs ++ x ∷ []) x.first ≡ x.alternative
at_new b low [] x r = ap (λ (t : Bool). if t then x.alternative else b) (le-leb x.first x.first (omega arith))
at_new b low (y ∷ rs) x r =
    ap (λ (t : Bool). if t then alternative_behind y.alternative (rs ++ x ∷ []) x.first else b) (le-leb y.first x.first (rise_up y.first rs x.first r.1))
    ∙ at_new y.alternative y.first rs x r.1

rise_new : (low : ℕ) (rs : List AlternativeRun) (x : AlternativeRun) → RunsRise low rs x.first → RunsRise low (rs ++ x ∷ []) (suc x.first)
rise_new low [] x r = (r, omega arith)
rise_new low (y ∷ rs) x r = (r.0, rise_new y.first rs x r.1)

pub new_run : (a place b first : ℕ) (rs all : List AlternativeRun) → b ≡ a → first ≡ place → all ≡ rs ++ record { alternative = b; first = first } ∷ []
    → RunsRise 0 rs place → AddsRun a place rs all
new_run a place b first rs all e f is r =
    let x : AlternativeRun = record { alternative = b; first = first } in
    let rise : RunsRise 0 rs first = subst (λ (n : ℕ). RunsRise 0 rs n) (sym f) r in
    subst (λ (n : ℕ). AddsRun a n rs all) f
    (subst (λ (xs : List AlternativeRun). AddsRun a first rs xs) (sym is) (record {
      rise = rise_new 0 rs x rise;
      before = λ n l. before_new 0 rs x n l;
      here = at_new 0 0 rs x rise ∙ e;
    }))
