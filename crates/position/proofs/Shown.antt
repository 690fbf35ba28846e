-- What is asked of a state, and tests that agree on it.
use Rattle.std.proofs.Common.{
  ◌≡◌,
  ℕ,
  ◌+◌,
  ◌<◌,
  ◌≤◌,
  Bool,
  true,
  false,
  cond,
  ◌&&◌,
  ◌||◌,
  List,
  [],
  ◌∷◌,
  length,
  map,
  zero,
  suc,
  refl,
  sym,
  ◌∙◌,
  ap,
  arith,
}
use Rattle.std.specs.Prelude.{All, filter}
use Rattle.std.specs.List.{list_any, range_with_len}
use Rattle.std.proofs.lemmas.List.Elements.{All-map}
use Rattle.statement.specs.declared.kind.Kind.{Kind}
use Rattle.statement.specs.declared.kind.Kind.TheVariants.{Fixed, Now, Does, Next, Legal, Goal, Terminal, Other}
use Rattle.game_rules.specs.declared.naming.Naming.TheVariants.{ByLegal}
use Rattle.game_rules.specs.declared.standing.Sought.{Sought}
use Rattle.game_rules.specs.declared.standing.Sought.TheVariants.{Goals}
use Rattle.game_rules.specs.declared.standing.Standing.{Standing}
use Rattle.game_rules.specs.RulePlay.{named_below, kind_at, names, is_named, is_terminal, ends, goal_value, best_goal}
use Rattle.game_rules.specs.Standings.{seeks, standing_at, all_standing}
use Rattle.position.specs.declared.lane_plan.Scope.{Scope}
use Rattle.position.specs.NetState.{asks_moves, is_asked, Alike}
use Rattle.game_rules.proofs.Facts.{below_agree, greatest_agree, filters_agree}

-- Marks that agree where it is asked.

pub legal_shown : (scope : Scope) → asks_moves scope ≡ true → (r n : ℕ) (k : Kind) → names (ByLegal r) k n ≡ true
    → is_asked scope k ≡ true
legal_shown scope moves r n Fixed e = absurd cc
legal_shown scope moves r n (Now p) e = absurd cc
legal_shown scope moves r n (Does q m) e = absurd cc
legal_shown scope moves r n (Next p) e = absurd cc
legal_shown scope moves r n (Legal q m) e = moves
legal_shown scope moves r n (Goal q v) e = absurd cc
legal_shown scope moves r n Terminal e = absurd cc
legal_shown scope moves r n Other e = absurd cc

pub end_shown : (scope : Scope) (k : Kind) → is_terminal k ≡ true → is_asked scope k ≡ true
end_shown scope Fixed e = absurd cc
end_shown scope (Now p) e = absurd cc
end_shown scope (Does q m) e = absurd cc
end_shown scope (Next p) e = absurd cc
end_shown scope (Legal q m) e = absurd cc
end_shown scope (Goal q v) e = absurd cc
end_shown scope Terminal e = refl
end_shown scope Other e = absurd cc

goal_unshown : (scope : Scope) (r : ℕ) (k : Kind) → is_asked scope k ≡ false → goal_value r k ≡ 0
goal_unshown scope r Fixed e = refl
goal_unshown scope r (Now p) e = refl
goal_unshown scope r (Does q m) e = refl
goal_unshown scope r (Next p) e = refl
goal_unshown scope r (Legal q m) e = refl
goal_unshown scope r (Goal q v) e = absurd cc
goal_unshown scope r Terminal e = absurd cc
goal_unshown scope r Other e = refl

pub none_and : (a : Bool) → (a && false) ≡ false
none_and true = refl
none_and false = refl

same_and : (a b c : Bool) → (c ≡ true → a ≡ b) → (a && c) ≡ (b && c)
same_and a b true h = ap (λ (x : Bool). x && true) (h refl)
same_and a b false h = none_and a ∙ sym (none_and b)

none_if : (a : Bool) (v : ℕ) → v ≡ 0 → cond a v 0 ≡ 0
none_if true v e = e
none_if false v e = refl

same_if : (a b s : Bool) (v : ℕ) → (s ≡ true → a ≡ b) → (s ≡ false → v ≡ 0) → cond a v 0 ≡ cond b v 0
same_if a b true v h z = ap (λ (x : Bool). cond x v 0) (h refl)
same_if a b false v h z = none_if a v (z refl) ∙ sym (none_if b v (z refl))

pub ends_alike : (scope : Scope) (kinds : List Kind) (f g : ℕ → Bool) → Alike scope kinds f g → ends kinds f ≡ ends kinds g
ends_alike scope kinds f g h =
    below_agree (λ a. f a && is_terminal (kind_at kinds a)) (λ a. g a && is_terminal (kind_at kinds a)) (length kinds)
    (λ k lt. same_and (f k) (g k) (is_terminal (kind_at kinds k)) (λ e. h k lt (end_shown scope (kind_at kinds k) e)))

pub goals_alike : (scope : Scope) (kinds : List Kind) (f g : ℕ → Bool) (r : ℕ) → Alike scope kinds f g → best_goal kinds f r ≡ best_goal kinds g r
goals_alike scope kinds f g r h =
    greatest_agree (λ a. cond (f a) (goal_value r (kind_at kinds a)) 0) (λ a. cond (g a) (goal_value r (kind_at kinds a)) 0) (length kinds)
    (λ k lt. same_if (f k) (g k) (is_asked scope (kind_at kinds k)) (goal_value r (kind_at kinds k)) (h k lt)
    (goal_unshown scope r (kind_at kinds k)))

pub named_alike : (scope : Scope) → asks_moves scope ≡ true → (kinds : List Kind) (f g : ℕ → Bool) (r m : ℕ) → Alike scope kinds f g
    → is_named kinds f (ByLegal r) m ≡ is_named kinds g (ByLegal r) m
named_alike scope moves kinds f g r m h =
    below_agree (λ a. f a && names (ByLegal r) (kind_at kinds a) m) (λ a. g a && names (ByLegal r) (kind_at kinds a) m) (length kinds)
    (λ k lt. same_and (f k) (g k) (names (ByLegal r) (kind_at kinds k) m) (λ e. h k lt (legal_shown scope moves r m (kind_at kinds k) e)))

pub legals_alike : (scope : Scope) → asks_moves scope ≡ true → (kinds : List Kind) (f g : ℕ → Bool) (r n : ℕ) → Alike scope kinds f g
    → named_below kinds f (ByLegal r) n ≡ named_below kinds g (ByLegal r) n
legals_alike scope moves kinds f g r n h =
    filters_agree (is_named kinds f (ByLegal r)) (is_named kinds g (ByLegal r)) 0 n
    (λ m from to. named_alike scope moves kinds f g r m h)

-- Lists and their images.

pub any_map : {A B : Type 0} (f : B → Bool) (g : A → B) (xs : List A) → list_any f (map g xs) ≡ list_any (λ x. f (g x)) xs
any_map f g [] = refl
any_map f g (x ∷ xs) = ap (λ (b : Bool). f (g x) || b) (any_map f g xs)

pub map_map : {A B C : Type 0} (f : B → C) (g : A → B) (xs : List A) → map f (map g xs) ≡ map (λ x. f (g x)) xs
map_map f g [] = refl
map_map {A} {B} {C} f g (x ∷ xs) = ap (λ (ys : List C). f (g x) ∷ ys) (map_map f g xs)

-- a test that holds of all adds nothing
pub any_where : {A : Type 0} (f t : A → Bool) (xs : List A) → All (λ x. t x ≡ true) xs → list_any f xs ≡ list_any (λ x. f x && t x) xs
any_where f t [] h = refl
any_where f t (x ∷ xs) h =
    let here : t x ≡ true = h 0 x (omega arith) in
    let rest : list_any f xs ≡ list_any (λ y. f y && t y) xs = any_where f t xs (λ k d lt. h (suc k) d (omega arith)) in
    ap (λ (b : Bool). b || list_any f xs) (with_true (f x) (t x) here) ∙ ap (λ (b : Bool). (f x && t x) || b) rest
  where
    with_true : (a b : Bool) → b ≡ true → a ≡ (a && b)
    with_true true b e = sym e
    with_true false b e = refl

-- Atoms that are listed.

pub filter_all : (t : ℕ → Bool) (P : ℕ → Type 0) (a n : ℕ) → ((k : ℕ) → a ≤ k → k < a + n → t k ≡ true → P k) → All P (filter t (range_with_len a n))
filter_all t P a zero h = λ k d lt. absurd (omega arith)
filter_all t P a (suc n) h = go (t a) refl (filter_all t P (a + 1) n (λ k from to e. h k (omega arith) (omega arith) e))
  where
    go : (b : Bool) → t a ≡ b → All P (filter t (range_with_len (a + 1) n))
        → All P (cond b (a ∷ filter t (range_with_len (a + 1) n)) (filter t (range_with_len (a + 1) n)))
    go true e rest = more
      where
        more : All P (a ∷ filter t (range_with_len (a + 1) n))
        more zero d lt = h a (omega arith) (omega arith) e
        more (suc k) d lt = rest k d (omega arith)
    go false e rest = rest

pub goal_sought : (scope : Scope) (r : ℕ) (k : Kind) → seeks (Goals r) k ≡ true → is_asked scope k ≡ true
goal_sought scope r Fixed e = absurd cc
goal_sought scope r (Now p) e = absurd cc
goal_sought scope r (Does q m) e = absurd cc
goal_sought scope r (Next p) e = absurd cc
goal_sought scope r (Legal q m) e = absurd cc
goal_sought scope r (Goal q v) e = refl
goal_sought scope r Terminal e = absurd cc
goal_sought scope r Other e = absurd cc

-- the listed atoms are asked
pub standing_shown : (scope : Scope) (sought : Sought) (kinds : List Kind) (P : ℕ → Type 0)
    → ((k : Kind) → seeks sought k ≡ true → is_asked scope k ≡ true)
    → ((a : ℕ) → a < length kinds → is_asked scope (kind_at kinds a) ≡ true → P a) → All (λ (p : Standing). P p.atom) (all_standing sought kinds)
standing_shown scope sought kinds P shown h =
    All-map (λ (p : Standing). P p.atom) (standing_at kinds) _
    (filter_all (λ a. seeks sought (kind_at kinds a)) P 0 (length kinds) (λ k from to e. h k (omega arith) (shown (kind_at kinds k) e)))
