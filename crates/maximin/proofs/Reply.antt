use Rattle.std.proofs.Common.{true, false, ◌≡◌, ◌≢◌, ℕ, ◌≤◌, Bool, List, [], ◌∷◌, refl, sym, ◌∙◌, ap, arith}
use Rattle.std.proofs.lemmas.Int.{ints, clamps}
use Rattle.std.proofs.lemmas.Bool.Decides.{nat_tests}
use Rattle.std.specs.Prelude.{ℤ, pos, negsuc, ◌<ℤ◌, ◌≤ℤ◌, ◌==◌, min, map, find, Option, Some}
use Rattle.std.specs.Int.{int_min}
use Rattle.statement.specs.Rules.{Turn}
use Rattle.game.specs.Value.{Answers}
use Rattle.statement.specs.Value.{least}

-- the least worth of the joint moves
abbrev pub least_worth : (Turn → ℕ) → List Turn → ℕ
least_worth worth turns = least (map worth turns)

-- the first joint move that has the least worth of them all
abbrev pub first_least : (Turn → ℕ) → ℕ → List Turn → Option Turn
first_least worth all turns = find (λ j. worth j == all) turns

-- `all`, the least worth, is upper's or that of what is left; where it is upper's, the first joint move that has it is out, and else it is among what
-- is left
pub record IsFirst (worth : Turn → ℕ) (turns : List Turn) (all : ℕ) (left : List Turn) (upper : ℤ) (out : Turn) : Type 0 where
  pub reached : int_min upper (pos (least_worth worth left)) ≡ pos all
  pub found : upper ≡ pos all → first_least worth all turns ≡ Some out
  pub ahead : upper ≢ pos all → first_least worth all turns ≡ first_least worth all left
  pub low : negsuc 0 <ℤ upper
  pub high : upper ≤ℤ pos 101

pub first_start : (worth : Turn → ℕ) (turns : List Turn) (all : ℕ) (left : List Turn) (out : Turn) → turns ≡ left → all ≡ least_worth worth turns
    → all ≤ 100
    → IsFirst worth turns all left (pos 101) out
first_start worth turns all left out same e few =
    let left_least : least_worth worth left ≡ all = ap (least_worth worth) (sym same) ∙ sym e in
    record {
      reached = omega (arith, ints, clamps);
      found = λ top. absurd (omega (arith, ints));
      ahead = λ _. ap (first_least worth all) same;
      low = omega (arith, ints);
      high = omega (arith, ints);
    }

-- the same once the first of what is left is looked at
pub record IsFirstAt (worth : Turn → ℕ) (turns : List Turn) (all : ℕ) (joint : Turn) (behind : List Turn) (upper : ℤ) (out : Turn) : Type 0 where
  pub reached : int_min upper (pos (least_worth worth (joint ∷ behind))) ≡ pos all
  pub bound : upper ≤ℤ pos (worth joint)
  pub found : upper ≡ pos all → first_least worth all turns ≡ Some out
  pub ahead : upper ≢ pos all → first_least worth all turns ≡ first_least worth all behind
  pub low : negsuc 0 <ℤ upper
  pub high : upper ≤ℤ pos 101

pub find_here : (p : Turn → Bool) (joint : Turn) (behind : List Turn) → p joint ≡ true → find p (joint ∷ behind) ≡ Some joint
find_here p joint behind h = rw h refl

pub find_behind : (p : Turn → Bool) (joint : Turn) (behind : List Turn) → p joint ≡ false → find p (joint ∷ behind) ≡ find p behind
find_behind p joint behind h = rw h refl

pub test_true : (x y : ℕ) → x ≡ y → (x == y) ≡ true
test_true x y e = grind (arith, nat_tests)

pub test_false : (x y : ℕ) → x ≢ y → (x == y) ≡ false
test_false x y e = grind (arith, nat_tests)

pub least_part : (x : ℕ) (xs : List ℕ) → least (x ∷ xs) ≤ x
least_part x [] = omega arith
least_part x (y ∷ ys) = omega arith

-- it is worth less than any before it
pub first_lowered : (worth : Turn → ℕ) (turns : List Turn) (all : ℕ) (joint : Turn) (behind : List Turn) (upper r : ℤ) (out : Turn)
    → Answers (worth joint) (negsuc 0) upper r → r <ℤ upper
    → IsFirst worth turns all (joint ∷ behind) upper out → IsFirstAt worth turns all joint behind r joint
first_lowered worth turns all joint behind upper r out x less h =
    let bottom = x.at_least in
    let top = x.at_most in
    let reached = h.reached in
    let same : r ≡ pos (worth joint) = omega (arith, ints, clamps) in
    let part = least_part (worth joint) (map worth behind) in
    let not_yet : upper ≢ pos all = λ e. omega (arith, ints, clamps) in
    let from_here = h.ahead not_yet in
    record {
      reached = omega (arith, ints, clamps);
      bound = omega (arith, ints);
      found = λ e. from_here ∙ find_here (λ j. worth j == all) joint behind (test_true (worth joint) all (omega (arith, ints)));
      ahead = λ e. from_here ∙ find_behind (λ j. worth j == all) joint behind (test_false (worth joint) all (λ f. e (omega (arith, ints))));
      low = omega (arith, ints, clamps);
      high = let high = h.high in omega (arith, ints);
    }

-- it is not
pub first_kept : (worth : Turn → ℕ) (turns : List Turn) (all : ℕ) (joint : Turn) (behind : List Turn) (upper r : ℤ) (out : Turn)
    → Answers (worth joint) (negsuc 0) upper r → upper ≤ℤ r
    → IsFirst worth turns all (joint ∷ behind) upper out → IsFirstAt worth turns all joint behind upper out
first_kept worth turns all joint behind upper r out x less h =
    let bottom = x.at_least in
    let top = x.at_most in
    let low = h.low in
    let reached = h.reached in
    record {
      reached = h.reached;
      bound = omega (arith, ints, clamps);
      found = h.found;
      ahead = λ e. h.ahead e ∙ find_behind (λ j. worth j == all) joint behind (test_false (worth joint) all (λ f. e (omega (arith, ints, clamps))));
      low = h.low;
      high = h.high;
    }

pub first_next : (worth : Turn → ℕ) (turns : List Turn) (all : ℕ) (joint : Turn) (behind : List Turn) (upper : ℤ) (out next : Turn) (rest : List Turn)
    → behind ≡ next ∷ rest
    → IsFirstAt worth turns all joint behind upper out → IsFirst worth turns all (next ∷ rest) upper out
first_next worth turns all joint behind upper out next rest e h =
    let bound = h.bound in
    let both : least_worth worth (joint ∷ behind) ≡ min (worth joint) (least_worth worth (next ∷ rest)) = rw e refl in
    let reached = h.reached in
    record {
      reached = omega (arith, ints, clamps);
      found = h.found;
      ahead = λ f. h.ahead f ∙ ap (first_least worth all) e;
      low = h.low;
      high = h.high;
    }

pub first_end : (worth : Turn → ℕ) (turns : List Turn) (all : ℕ) (joint : Turn) (behind : List Turn) (upper : ℤ) (out : Turn) → behind ≡ []
    → IsFirstAt worth turns all joint behind upper out → first_least worth all turns ≡ Some out
first_end worth turns all joint behind upper out e h =
    let bound = h.bound in
    let one : least_worth worth (joint ∷ behind) ≡ worth joint = rw e refl in
    let reached = h.reached in
    h.found (omega (arith, ints, clamps))
