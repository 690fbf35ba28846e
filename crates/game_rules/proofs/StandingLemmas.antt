-- Lists of atoms by kind tell what all atoms tell.
use Rattle.std.proofs.Common.{◌≡◌, ℕ, ◌+◌, Bool, true, cond, ◌&&◌, ◌||◌, List, [], ◌∷◌, ◌++◌, length, map, zero, suc, refl, sym, ◌∙◌, ap, arith, false}
use Rattle.std.specs.Prelude.{filter, max, Option, Some, None, is_some}
use Rattle.std.specs.List.{list_any, range_with_len}
use Rattle.std.proofs.Math.Bool.{or-false}
use Rattle.std.proofs.lemmas.List.{append-nil, map-append}
use Rattle.std.proofs.lemmas.List.Folds.{list_any-append}
use Rattle.statement.specs.declared.kind.Kind.{Kind}
use Rattle.statement.specs.declared.kind.Kind.TheVariants.{Fixed, Now, Does, Next, Legal, Goal, Terminal, Other}
use Rattle.game_rules.specs.declared.naming.Naming.{Naming}
use Rattle.game_rules.specs.declared.standing.Sought.TheVariants.{Named, Goals, Ends}
use Rattle.game_rules.specs.declared.standing.Standing.{Standing}
use Rattle.game_rules.specs.RulePlay.{kind_at, is_number, number_named, names, is_named, is_terminal, ends, goal_value, best_goal, some_below, greatest_below}
use Rattle.statement.specs.Value.{greatest}
use Rattle.game_rules.specs.Standings.{is_goal_of, standing_at, standing_below, all_standing, names_among, ends_among, goal_among}
use Rattle.game_rules.proofs.Ranges.{filter_range_more}

map_if : {A B : Type 0} (f : A → B) (b : Bool) (x : A) → map f (cond b (x ∷ []) []) ≡ cond b (f x ∷ []) []
map_if f true x = refl
map_if f false x = refl

-- one atom more
pub standing_more : (test : Kind → Bool) (kinds : List Kind) (n : ℕ)
    → standing_below test kinds (n + 1) ≡ standing_below test kinds n ++ cond (test (kind_at kinds n)) (standing_at kinds n ∷ []) []
standing_more test kinds n =
    let f = λ (a : ℕ). test (kind_at kinds a) in
    ap (map (standing_at kinds)) (filter_range_more f n)
    ∙ map-append (standing_at kinds) (filter f (range_with_len 0 n)) (cond (f n) (n ∷ []) [])
    ∙ ap (λ (xs : List _). standing_below test kinds n ++ xs) (map_if (standing_at kinds) (f n) n)

snoc_if : {A : Type 0} (f : A → Bool) (xs : List A) (b : Bool) (x : A) → list_any f (xs ++ cond b (x ∷ []) []) ≡ (list_any f xs || (b && f x))
snoc_if f xs true x = list_any-append f xs (x ∷ []) ∙ ap (λ (c : Bool). list_any f xs || c) (or-false (f x))
snoc_if f xs false x = list_any-append f xs []

both_or_none : (b c : Bool) → (b ≡ false → c ≡ false) → (b && c) ≡ c
both_or_none true c h = refl
both_or_none false c h = sym (h refl)

-- some listed atom passes where some atom does
pub any_standing : (f : ℕ → Kind → Bool) (test : Kind → Bool) (kinds : List Kind) (n : ℕ) → ((a : ℕ) (k : Kind) → test k ≡ false → f a k ≡ false)
    → list_any (λ (p : Standing). f p.atom p.kind) (standing_below test kinds n) ≡ some_below (λ a. f a (kind_at kinds a)) n
any_standing f test kinds zero h = refl
any_standing f test kinds (suc n) h =
    let g = λ (p : Standing). f p.atom p.kind in
    let more : n + 1 ≡ suc n = omega arith in
    let rest : list_any g (standing_below test kinds n) ≡ some_below (λ a. f a (kind_at kinds a)) n = any_standing f test kinds n h in
    ap (λ (i : ℕ). list_any g (standing_below test kinds i)) (sym more)
    ∙ ap (list_any g) (standing_more test kinds n)
    ∙ snoc_if g (standing_below test kinds n) (test (kind_at kinds n)) (standing_at kinds n)
    ∙ ap (λ (b : Bool). list_any g (standing_below test kinds n) || b)
    (both_or_none (test (kind_at kinds n)) (f n (kind_at kinds n)) (h n (kind_at kinds n)))
    ∙ ap (λ (b : Bool). b || f n (kind_at kinds n)) rest

max_brackets : (a b c : ℕ) → max a (max b c) ≡ max (max a b) c
max_brackets a b c = omega arith

-- the greatest of a list with one more
pub greatest_snoc : (xs : List ℕ) (x : ℕ) → greatest (xs ++ x ∷ []) ≡ max (greatest xs) x
greatest_snoc [] x = omega arith
greatest_snoc (y ∷ xs) x =
    let rest : greatest (xs ++ x ∷ []) ≡ max (greatest xs) x = greatest_snoc xs x in
    ap (max y) rest ∙ max_brackets y (greatest xs) x

greatest_if : (f : Standing → ℕ) (xs : List Standing) (b : Bool) (x : Standing) → (b ≡ false → f x ≡ 0)
    → greatest (map f (xs ++ cond b (x ∷ []) [])) ≡ max (greatest (map f xs)) (f x)
greatest_if f xs true x h = ap greatest (map-append f xs (x ∷ [])) ∙ greatest_snoc (map f xs) (f x)
greatest_if f xs false x h =
    let none : f x ≡ 0 = h refl in
    let same : greatest (map f (xs ++ [])) ≡ greatest (map f xs) = ap (λ (ys : List Standing). greatest (map f ys)) (append-nil xs) in
    omega arith

-- the greatest of the listed atoms is that of all
pub greatest_standing : (f : ℕ → Kind → ℕ) (test : Kind → Bool) (kinds : List Kind) (n : ℕ) → ((a : ℕ) (k : Kind) → test k ≡ false → f a k ≡ 0)
    → greatest (map (λ (p : Standing). f p.atom p.kind) (standing_below test kinds n)) ≡ greatest_below (λ a. f a (kind_at kinds a)) n
greatest_standing f test kinds zero h = refl
greatest_standing f test kinds (suc n) h =
    let g = λ (p : Standing). f p.atom p.kind in
    let more : n + 1 ≡ suc n = omega arith in
    let rest : greatest (map g (standing_below test kinds n)) ≡ greatest_below (λ a. f a (kind_at kinds a)) n = greatest_standing f test kinds n h
    in
    ap (λ (i : ℕ). greatest (map g (standing_below test kinds i))) (sym more)
    ∙ ap (λ (ps : List Standing). greatest (map g ps)) (standing_more test kinds n)
    ∙ greatest_if g (standing_below test kinds n) (test (kind_at kinds n)) (standing_at kinds n) (h n (kind_at kinds n))
    ∙ ap (λ (m : ℕ). max m (f n (kind_at kinds n))) rest

both_false : (a b : Bool) → b ≡ false → (a && b) ≡ false
both_false true b h = h
both_false false b h = refl

unnamed : (n : ℕ) (o : Option ℕ) → is_some o ≡ false → is_number o n ≡ false
unnamed n None h = refl
unnamed n (Some m) h = absurd cc

pub names_all : (kinds : List Kind) (right : ℕ → Bool) (by : Naming) (n : ℕ) → names_among (all_standing (Named by) kinds) right by n ≡ is_named kinds
    right by n
names_all kinds right by n =
    any_standing (λ a kind. right a && names by kind n) (λ kind. is_some (number_named by kind)) kinds (length kinds)
    (λ a kind h. both_false (right a) (names by kind n) (unnamed n (number_named by kind) h))

pub ends_all : (kinds : List Kind) (right : ℕ → Bool) → ends_among (all_standing Ends kinds) right ≡ ends kinds right
ends_all kinds right = any_standing (λ a kind. right a && is_terminal kind) is_terminal kinds (length kinds)
    (λ a kind h. both_false (right a) (is_terminal kind) h)

no_goal : (r : ℕ) (k : Kind) → is_goal_of r k ≡ false → goal_value r k ≡ 0
no_goal r Fixed h = refl
no_goal r (Now p) h = refl
no_goal r (Does q m) h = refl
no_goal r (Next p) h = refl
no_goal r (Legal q m) h = refl
no_goal r (Goal q v) h = ap (λ (b : Bool). cond b v 0) h
no_goal r Terminal h = refl
no_goal r Other h = refl

value_none : (b : Bool) (v : ℕ) → v ≡ 0 → cond b v 0 ≡ 0
value_none true v h = h
value_none false v h = refl

pub goals_all : (kinds : List Kind) (right : ℕ → Bool) (r : ℕ) → goal_among (all_standing (Goals r) kinds) right r ≡ best_goal kinds right r
goals_all kinds right r =
    greatest_standing (λ a kind. cond (right a) (goal_value r kind) 0) (is_goal_of r) kinds (length kinds)
    (λ a kind h. value_none (right a) (goal_value r kind) (no_goal r kind h))
