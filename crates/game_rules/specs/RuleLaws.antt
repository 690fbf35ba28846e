-- This crate's own: what `run` promises does not rest on it.
-- The laws of a game, at the game of an instantiation.
use Rattle.std.proofs.Common.{◌≡◌, ◌≢◌, ℕ, ◌+◌, ◌<◌, ◌≤◌, ◌^◌, Bool, true, false, cond, List, [], length, zero, suc, arith}
use Rattle.std.specs.Prelude.{All, ◌==◌}
use Rattle.std.specs.List.{range_with_len}
use Rattle.std.specs.List.Sorted.{IsStrictlyIncreasing}
use Rattle.std.specs.Ordering.{nat_cmp}
use Rattle.std.specs.Cmp.Lexicographic.{slice_cmp}
use Rattle.std.specs.declared.cmp.Ordering.TheVariants.{Less}
use Rattle.std.proofs.lemmas.List.FromFn.{length-range_with_len, get_or-range_with_len}
use Rattle.std.proofs.lemmas.List.Kept.{IsStrictlyIncreasing-filter}
use Rattle.std.proofs.lemmas.List.Elements.{All-filter}
use Rattle.statement.specs.declared.kind.Kind.{Kind}
use Rattle.statement.specs.declared.kind.Kind.TheVariants.{Fixed, Now, Does, Next, Legal, Goal, Terminal, Other}
use Rattle.ground_instances.specs.declared.flat_ground.FlatGround.{FlatGround}
use Rattle.ground_instances.specs.Fits.{IsKindWithin}
use Rattle.ground_instances.specs.Grounds.{text_at, texts_at}
use Rattle.ground_instances.specs.GroundView.{roles_of, base_of, inputs_of, kinds_of}
use Rattle.game_rules.specs.declared.naming.Naming.TheVariants.{ByLegal}
use Rattle.game_rules.specs.RulePlay.{kind_at, goal_value, greatest_below, is_named}
use Rattle.game_rules.specs.RuleState.{rules_of, holds_in}
use Rattle.game_rules.specs.GroundFacts.{fits, few_moves}

pub greatest_within : (f : ℕ → ℕ) (n most : ℕ) → ((k : ℕ) → k < n → f k ≤ most) → greatest_below f n ≤ most
greatest_within f zero most h = omega arith
greatest_within f (suc n) most h =
    let here : f n ≤ most = h n (omega arith) in
    let rest : greatest_below f n ≤ most = greatest_within f n most (λ k lt. h k (omega arith)) in
    omega arith

value_if : (b : Bool) (v : ℕ) → v ≤ 100 → cond b v 0 ≤ 100
value_if true v h = h
value_if false v h = omega arith

value_within : (base : ℕ) (inputs : List (List (List ℕ))) (r : ℕ) (k : Kind) → IsKindWithin base inputs k → goal_value r k ≤ 100
value_within base inputs r Fixed h = omega arith
value_within base inputs r (Now p) h = omega arith
value_within base inputs r (Does q m) h = omega arith
value_within base inputs r (Next p) h = omega arith
value_within base inputs r (Legal q m) h = omega arith
value_within base inputs r (Goal q v) h = value_if (q == r) v h.1
value_within base inputs r Terminal h = omega arith
value_within base inputs r Other h = omega arith

pub goal_at_most : (g : FlatGround) (s : List ℕ) (r : ℕ) → (rules_of g).goal s r ≤ 100
goal_at_most g s r =
    greatest_within (λ a. cond (holds_in g s a) (goal_value r (kind_at (kinds_of g) a)) 0) (length (kinds_of g)) 100
    (λ k lt. value_if (holds_in g s k) _ (value_within (length (base_of g)) (inputs_of g) r (kind_at (kinds_of g) k)
    ((fits g).kinds_within k Other lt)))

pub few_moves_of : (g : FlatGround) (r : ℕ) → (rules_of g).moves r ≤ 2 ^ 32
few_moves_of g r = let few = few_moves g r in omega arith

pub below_range : (n : ℕ) → All (λ m. m < n) (range_with_len 0 n)
below_range n k d lt =
    let size = length-range_with_len 0 n in
    let at = get_or-range_with_len 0 n k d (omega arith) in
    omega arith

range_rises : (n : ℕ) → IsStrictlyIncreasing (range_with_len 0 n)
range_rises n k lt =
    let size = length-range_with_len 0 n in
    let here = get_or-range_with_len 0 n k 0 (omega arith) in
    let next = get_or-range_with_len 0 n (k + 1) 0 (omega arith) in
    omega arith

pub legal_below : (g : FlatGround) (s : List ℕ) (r : ℕ) → All (λ m. m < (rules_of g).moves r) ((rules_of g).legal s r)
legal_below g s r = All-filter (is_named (kinds_of g) (holds_in g s) (ByLegal r)) (λ m. m < (rules_of g).moves r) _
    (below_range ((rules_of g).moves r))

pub legal_in_order : (g : FlatGround) (s : List ℕ) (r : ℕ) → IsStrictlyIncreasing ((rules_of g).legal s r)
legal_in_order g s r = IsStrictlyIncreasing-filter (is_named (kinds_of g) (holds_in g s) (ByLegal r)) _ (range_rises ((rules_of g).moves r))

pub moves_in_order : (g : FlatGround) (r m n : ℕ) → r < (rules_of g).roles → m < n → n < (rules_of g).moves r
    → slice_cmp nat_cmp (text_at (texts_at (inputs_of g) r) m) (text_at (texts_at (inputs_of g) r) n) ≡ Less
moves_in_order g r m n inside less below = (fits g).inputs_rise r [] inside m n [] less below

pub roles_once : (g : FlatGround) (q r : ℕ) → q < r → r < (rules_of g).roles → text_at (roles_of g) q ≢ text_at (roles_of g) r
roles_once g q r less below = let fit = (fits g).inputs_fit in (fits g).roles_differ q r [] less (omega arith)
