-- The lists of a plan of play tell what all atoms tell.
use Rattle.std.proofs.Common.{◌≡◌, ℕ, ◌+◌, ◌<◌, ◌≤◌, Bool, true, ◌&&◌, ◌||◌, List, [], ◌∷◌, ◌++◌, length, map, take, zero, suc, refl, sym, ◌∙◌, ap, subst, arith, inl, inr, eq-eqb, ne_eqb, get_or, false}
use Rattle.std.specs.Prelude.{All, max, ◌==◌}
use Rattle.std.proofs.Math.Bool.{or-false, or_comm}
use Rattle.std.proofs.lemmas.Bool.{cases_eq, cases_lt}
use Rattle.std.proofs.lemmas.List.{map-append, take_more}
use Rattle.std.proofs.lemmas.List.Elements.{All-map, All-filter}
use Rattle.statement.specs.declared.kind.Kind.{Kind}
use Rattle.statement.specs.declared.kind.Kind.TheVariants.{Fixed, Now, Does, Next, Legal, Goal, Terminal, Other}
use Rattle.game_rules.specs.declared.naming.Naming.{Naming}
use Rattle.game_rules.specs.declared.standing.Sought.{Sought}
use Rattle.game_rules.specs.declared.standing.Sought.TheVariants.{Given, Named}
use Rattle.game_rules.specs.declared.standing.Standing.{Standing}
use Rattle.statement.specs.Rules.{State, Turn}
use Rattle.game_rules.specs.RuleLaws.{below_range}
use Rattle.game_rules.specs.Marks.{AreMarks}
use Rattle.game_rules.specs.RulePlay.{marked, named_below, is_right, kind_at, is_given, is_named, some_below}
use Rattle.statement.specs.GameNumbers.{stands_in}
use Rattle.statement.specs.Value.{greatest}
use Rattle.game_rules.specs.Standings.{is_told, seeks, standing_at, standing_below, all_standing, names_among}
use Rattle.game_rules.specs.Plans.{list_gives}
use Rattle.game_rules.proofs.Facts.{filters_agree, any_standing, greatest_snoc, names_all}
use Rattle.game_rules.proofs.Marks.{marked_are}

-- each listed atom is below the bound
pub standing_within : (test : Kind → Bool) (kinds : List Kind) (n : ℕ) → All (λ (p : Standing). p.atom < n) (standing_below test kinds n)
standing_within test kinds n = All-map (λ (p : Standing). p.atom < n) (standing_at kinds) _
    (All-filter (λ a. test (kind_at kinds a)) (λ a. a < n) _ (below_range n))

-- What is told of each kind of list.

none_at : (f : ℕ → Bool) (k n : ℕ) → n ≤ k → some_below (λ a. f a && (a == k)) n ≡ false
none_at f k zero h = refl
none_at f k (suc n) h =
    let rest : some_below (λ a. f a && (a == k)) n ≡ false = none_at f k n (omega arith) in
    let other : (n == k) ≡ false = ne_eqb n k (λ e. absurd (omega arith)) in
    step _ (f n) (n == k) rest other
  where
    step : (a b c : Bool) → a ≡ false → c ≡ false → (a || (b && c)) ≡ false
    step a true c first last = ap (λ (x : Bool). x || c) first ∙ last
    step a false c first last = or-false a ∙ first

-- where one number alone passes
one_at : (f : ℕ → Bool) (k n : ℕ) → k < n → some_below (λ a. f a && (a == k)) n ≡ f k
one_at f k zero h = absurd (omega arith)
one_at f k (suc n) h = elim (cases_eq n k) [
  | inl same ↦
      let here : (n == k) ≡ true = eq-eqb n k same in
      let before : some_below (λ a. f a && (a == k)) n ≡ false = none_at f k n (omega arith) in
      last _ (f n) (n == k) before here ∙ ap f same
  | inr other ↦
      let here : (n == k) ≡ false = ne_eqb n k other in
      let before : some_below (λ a. f a && (a == k)) n ≡ f k = one_at f k n (below other) in
      past _ (f n) (n == k) here ∙ before
]
  where
    below : (n ≡ k → ⊥) → k < n
    below other = elim (cases_lt k n) [ inl l ↦ l | inr l ↦ absurd (other (omega arith)) ]

    last : (a b c : Bool) → a ≡ false → c ≡ true → (a || (b && c)) ≡ b
    last a true c none here = ap (λ (x : Bool). x || c) none ∙ here
    last a false c none here = or-false a ∙ none

    past : (a b c : Bool) → c ≡ false → (a || (b && c)) ≡ a
    past a true c none = ap (λ (x : Bool). a || x) none ∙ or-false a
    past a false c none = or-false a

untold : (s : State) (j : Turn) (k : Kind) → is_told k ≡ false → is_given s j k ≡ false
untold s j Fixed h = refl
untold s j (Now p) h = absurd cc
untold s j (Does r m) h = absurd cc
untold s j (Next p) h = refl
untold s j (Legal r m) h = refl
untold s j (Goal r v) h = refl
untold s j Terminal h = refl
untold s j Other h = refl

-- what the state and the joint move make right is told by the given atoms
pub given_all : (kinds : List Kind) (s : State) (j : Turn) (k : ℕ) → k < length kinds
    → list_gives (all_standing Given kinds) s j k ≡ is_given s j (kind_at kinds k)
given_all kinds s j k below =
    any_standing (λ a kind. is_given s j kind && (a == k)) is_told kinds (length kinds)
    (λ a kind h. ap (λ (b : Bool). b && (a == k)) (untold s j kind h))
    ∙ one_at (λ a. is_given s j (kind_at kinds a)) k (length kinds) below

-- marks of what was found, with what is given too
pub with_given : (kinds : List Kind) (s : State) (j : Turn) (found : List ℕ) (first new : List Bool) (list : List Standing)
    → list ≡ all_standing Given kinds
    → AreMarks first (length kinds) (λ k. stands_in k found) → length new ≡ length first
    → ((k : ℕ) → k < length first → get_or new k false ≡ (get_or first k false || list_gives list s j k))
    → AreMarks new (length kinds) (is_right kinds s j found)
with_given kinds s j found first new list is marks size each = record {
  size = size ∙ marks.size;
  each = λ k below.
      let many : length first ≡ length kinds = marks.size in
      each k (omega arith)
      ∙ ap (λ (b : Bool). b || list_gives list s j k) (marks.each k below)
      ∙ ap (λ (b : Bool). stands_in k found || b) (ap (λ (ps : List Standing). list_gives ps s j k) is ∙ given_all kinds s j k below)
      ∙ or_comm (stands_in k found) (is_given s j (kind_at kinds k));
}

-- the atoms of a list are within the marks
pub sought_within : (sought : Sought) (kinds : List Kind) (list lent : List Standing) (n : ℕ) → list ≡ all_standing sought kinds → lent ≡ list
    → n ≡ length kinds → All (λ (p : Standing). p.atom < n) lent
sought_within sought kinds list lent n is same size =
    subst (λ (ps : List Standing). All (λ (p : Standing). p.atom < n) ps) (sym (same ∙ is))
    (subst (λ (i : ℕ). All (λ (p : Standing). p.atom < i) (all_standing sought kinds)) (sym size)
    (standing_within (seeks sought) kinds (length kinds)))

-- one atom more of a loop over a list
pub greatest_more : (f : Standing → ℕ) (list : List Standing) (i : ℕ) (d : Standing) (best value new : ℕ) → i < length list
    → best ≡ greatest (map f (take i list)) → value ≡ f (get_or list i d)
    → new ≡ max value best → new ≡ greatest (map f (take (i + 1) list))
greatest_more f list i d best value new below before here next =
    let split : take (i + 1) list ≡ take i list ++ get_or list i d ∷ [] = take_more list i d below in
    let all : greatest (map f (take (i + 1) list)) ≡ max (greatest (map f (take i list))) (f (get_or list i d)) =
    ap (λ (ps : List Standing). greatest (map f ps)) split ∙ ap greatest (map-append f (take i list) (get_or list i d ∷ []))
    ∙ greatest_snoc (map f (take i list)) (f (get_or list i d)) in
    omega arith

-- the numbers that the atoms of a list name
pub named_marks : (kinds : List Kind) (right : ℕ → Bool) (by : Naming) (list lent : List Standing) (marks : List Bool) (n m : ℕ)
    → list ≡ all_standing (Named by) kinds → lent ≡ list
    → AreMarks marks n (names_among lent right by) → n ≡ m → marked marks ≡ named_below kinds right by m
named_marks kinds right by list lent marks n m is same are size =
    marked_are marks n (names_among lent right by) are
    ∙ filters_agree (names_among lent right by) (is_named kinds right by) 0 n
    (λ k from to. ap (λ (ps : List Standing). names_among ps right by k) (same ∙ is) ∙ names_all kinds right by k)
    ∙ ap (named_below kinds right by) size
