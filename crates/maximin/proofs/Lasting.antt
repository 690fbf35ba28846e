-- Upper bounds that hold at every greater depth too.
use Rattle.std.proofs.Common.{true, false, ◌≡◌, Bool, ℕ, ◌-◌, ◌≤◌, arith, sym, subst, ◌∙◌, refl}
use Rattle.std.proofs.lemmas.Int.{ints, clamps}
use Rattle.std.specs.Prelude.{ℤ, pos, ◌<ℤ◌, ◌≤ℤ◌, if◌then◌else◌, map}
use Rattle.std.specs.Int.{int_min, int_max}
use Rattle.std.specs.Int.Signed.{lt_z}
use Rattle.game.specs.Value.{Answers}
use Rattle.statement.specs.declared.at_bound.AtBound.{AtBound}
use Rattle.statement.specs.Rules.{Rules, State}
use Rattle.statement.specs.Value.{value, worst, greatest}
use Rattle.search_table.specs.declared.bounds.Bounds.{Bounds}
use Rattle.search_table.specs.Worths.{AreBoundsOf}
use Rattle.maximin.specs.Answer.{IsAnswer, IsUpperBound}
use Rattle.maximin.specs.Open.{IsOpen}
use Rattle.maximin.specs.declared.answer.SearchAnswer.{SearchAnswer}
use Rattle.maximin.proofs.LeftWindows.{narrow_answers, settled_answers}
use Rattle.maximin.proofs.Values.{value_open}
use Rattle.maximin.proofs.Windows.{cut_below, exact, lt_z_true, lt_z_false}

-- of two upper bounds of `all`, of which one is of `here`, the lesser one
lesser_by : (less : Bool) (all here : ℕ) (b upper r : ℤ) (lasts other : Bool) → lt_z r upper ≡ less
    → (lasts ≡ true → int_min (pos all) b ≤ℤ upper) → (other ≡ true → int_min (pos here) upper ≤ℤ r) → all ≤ here → upper ≤ℤ b
    → (if less then other else lasts) ≡ true → int_min (pos all) b ≤ℤ int_min upper r
lesser_by true all here b upper r lasts other less old new part below e =
    let under = lt_z_true r upper less in
    let h = new e in
    omega (arith, ints, clamps)
lesser_by false all here b upper r lasts other less old new part below e =
    let over = lt_z_false r upper less in
    let h = old e in
    omega (arith, ints, clamps)

pub lesser_later : (all here : ℕ) (b upper r : ℤ) (lasts other is : Bool) → is ≡ (if lt_z r upper then other else lasts)
    → (lasts ≡ true → int_min (pos all) b ≤ℤ upper) → (other ≡ true → int_min (pos here) upper ≤ℤ r) → all ≤ here → upper ≤ℤ b
    → is ≡ true → int_min (pos all) b ≤ℤ int_min upper r
lesser_later all here b upper r lasts other is by old new part below e =
    lesser_by (lt_z r upper) all here b upper r lasts other refl old new part below (sym by ∙ e)

-- both last
pub both_true : (lasts other is : Bool) → is ≡ (if lasts then other else false) → is ≡ true → (lasts ≡ true) × (other ≡ true)
both_true true other is by e = (refl, sym by ∙ e)
both_true false other is by e = absurd cc

-- an answer in the part of a window that bounds leave, where it lasts in the window
widened_by : (less : Bool) (v hi : ℕ) (b high r : ℤ) (known : Bool) → lt_z r high ≡ less → high ≡ int_min b (pos hi)
    → (known ≡ true → v ≤ hi) → int_min (pos v) high ≤ℤ r → (if less then true else known) ≡ true → int_min (pos v) b ≤ℤ r
widened_by true v hi b high r known less is bound h e =
    let under = lt_z_true r high less in
    omega (arith, ints, clamps)
widened_by false v hi b high r known less is bound h e =
    let most = bound e in
    omega (arith, ints, clamps)

pub widened_later : (v hi : ℕ) (b high r : ℤ) (known answer is : Bool) → is ≡ (if answer then (if lt_z r high then true else known) else false)
    → high ≡ int_min b (pos hi) → (known ≡ true → v ≤ hi) → (answer ≡ true → int_min (pos v) high ≤ℤ r) → is ≡ true
    → int_min (pos v) b ≤ℤ r
widened_later v hi b high r known true is by same bound h e =
    widened_by (lt_z r high) v hi b high r known refl same bound (h refl) (sym by ∙ e)
widened_later v hi b high r known false is by same bound h e = absurd cc

-- bounds that leave nothing of a window
pub settled_later : (v hi lo : ℕ) (b high r : ℤ) → high ≡ int_min b (pos hi) → v ≤ hi → r ≡ int_max high (pos lo) → int_min (pos v) b ≤ℤ r
settled_later v hi lo b high r same most is = omega (arith, ints, clamps)

-- a lower bound that is an answer's upper end leaves nothing to say
pub cut_later : (v : ℕ) (b r : ℤ) → b ≤ℤ r → int_min (pos v) b ≤ℤ r
cut_later v b r cut = omega (arith, ints, clamps)

-- an own move's worst, or a state's worth, is no more than what the lower bound rises to
pub raised_later : (v : ℕ) (b best r : ℤ) → int_min (pos v) b ≤ℤ r → int_min (pos v) b ≤ℤ int_max best r
raised_later v b best r h = omega (arith, ints, clamps)

-- the value itself, at every depth
pub exact_later : (v : ℕ) (b r : ℤ) → r ≡ pos v → int_min (pos v) b ≤ℤ r
exact_later v b r same = omega (arith, ints, clamps)

-- a bound of what lies below another one
pub lower_later : (v : ℕ) (b upper low : ℤ) → int_min (pos v) b ≤ℤ upper → int_min (pos v) upper ≤ℤ low → int_min (pos v) b ≤ℤ low
lower_later v b upper low h k = omega (arith, ints, clamps)

-- what a state is worth at every depth
pub always : (worth : ℕ → ℕ) (depth : ℕ) (a b r : ℤ) → ((d : ℕ) → r ≡ pos (worth d))
    → IsAnswer worth depth a b record { worth = r; lasts = true }
always worth depth a b r is = record {
  now = exact (worth depth) a b r (is depth);
  later = λ lasts d more. exact_later (worth d) b r (is d);
}

-- where no other role has a choice, the greatest of the worsts is the value, at each depth from a turn on
pub open_answer : (g : Rules) (role depth : ℕ) (at : AtBound) (s : State) → IsOpen g depth s → (a b : ℤ) (x : SearchAnswer)
    → IsAnswer (λ d. greatest (map (worst g role d at s) (g.legal s role))) (depth - 1) a b x → IsAnswer (λ d. value g role d at s) depth a b x
open_answer g role depth at s free a b x h = record {
  now = subst (λ (v : ℕ). Answers v a b x.worth) (sym (value_open g role depth at s free)) h.now;
  later = λ lasts d more.
      let yet : IsOpen g d s = record { turn = λ none. free.turn (omega arith); going = free.going; free = free.free } in
      subst (λ (v : ℕ). int_min (pos v) b ≤ℤ x.worth) (sym (value_open g role d at s yet)) (h.later lasts (d - 1) (omega arith));
}

-- an upper bound that cuts
pub upper_answer : (worth : ℕ → ℕ) (depth : ℕ) (a b : ℤ) (x : SearchAnswer) → x.worth ≤ℤ a → IsUpperBound worth depth b x
    → IsAnswer worth depth a b x
upper_answer worth depth a b x cut is = record { now = cut_below (worth depth) a b x.worth cut is.now; later = is.later }

-- bounds that leave nothing of a window
pub settled_answer : (worth : ℕ → ℕ) (depth : ℕ) (known : Bounds) (a b low high : ℤ) (x : SearchAnswer) → AreBoundsOf worth depth known
    → a <ℤ b → low ≡ int_max a (pos known.lo) → high ≡ int_min b (pos known.hi) → high ≤ℤ low → x.worth ≡ int_max high (pos known.lo)
    → x.lasts ≡ known.lasts → IsAnswer worth depth a b x
settled_answer worth depth known a b low high x are order l h closed e lasting = record {
  now = settled_answers (worth depth) known a b low high x.worth are.within order l h closed e;
  later = λ lasts d more. settled_later (worth d) known.hi known.lo b high x.worth h (are.lasting (sym lasting ∙ lasts) d more) e;
}

-- an answer in the part of a window that bounds leave
pub widened_answer : (worth : ℕ → ℕ) (depth : ℕ) (known : Bounds) (a b low high : ℤ) (x y : SearchAnswer) → AreBoundsOf worth depth known
    → low ≡ int_max a (pos known.lo) → high ≡ int_min b (pos known.hi) → IsAnswer worth depth low high x → y.worth ≡ x.worth
    → y.lasts ≡ (if x.lasts then (if lt_z x.worth high then true else known.lasts) else false) → IsAnswer worth depth a b y
widened_answer worth depth known a b low high x y are l h is e lasting = record {
  now = rw e (narrow_answers (worth depth) known a b low high x.worth are.within l h is.now);
  later = λ lasts d more.
      rw e (widened_later (worth d) known.hi b high x.worth known.lasts x.lasts y.lasts lasting h (λ f. are.lasting f d more)
      (λ f. is.later f d more) lasts);
}
