-- The groups of the bits of roles.
use Rattle.std.proofs.Common.{◌≡◌, ◌≢◌, ℕ, ◌+◌, ◌-◌, ◌<◌, ◌≤◌, ◌==◌, Bool, true, false, ◌&&◌, List, [], ◌∷◌, ◌++◌, length, take, get_or, refl, sym, ◌∙◌, ap, arith, inl, inr, ne_eqb}
use Rattle.std.proofs.lemmas.Bool.{cases_eq}
use Rattle.std.proofs.lemmas.Bool.Decides.{nat_tests}
use Rattle.propnet_tape.specs.Building.{IsOneOf}
use Rattle.propnet_tape.specs.Grouping.{IsGivenInput, IsGroupOf, AreGroups}
use Rattle.std.specs.Prelude.{nat_lt, sum, Some, slice_get}
use Rattle.std.proofs.Common.{cond, ◌/◌, ◌%◌}
use Rattle.std.proofs.lemmas.List.Elements.{All-push}
use Rattle.std.proofs.lemmas.List.Sums.{sum_by_more}
use Rattle.propnet.specs.declared.net.Net.{Net}
use Rattle.statement.specs.declared.node_name.Name.{Name}
use Rattle.propnet.specs.Network.{Gate, given}
use Rattle.propnet.specs.NetView.{gate_with}
use Rattle.propnet.specs.Placing.{input_number}
use Rattle.propnet_tape.specs.declared.builder.Group.{Group}
use Rattle.propnet_tape.specs.Marks.{is_marked}
use Rattle.propnet_tape.specs.Sources.{source_word, AreSourcesOf}
use Rattle.propnet_tape.proofs.Facts.{same_self}

-- The groups of the roles.

pub given_input : (gates : List Gate) (marks : List Bool) (words literals : List ℕ) (n bit word x : ℕ) (name : Name) (reads : List ℕ)
    → AreSourcesOf gates marks (length gates) words literals → n < length gates
    → slice_get gates n ≡ Some (gate_with name reads) → is_marked marks n ≡ true → source_word name n ≡ Some word → word ≡ n → x ≡ get_or literals n 0
    → x % 2 ≡ 0 → 2 ≤ x → x / 2 - 1 ≡ bit → IsGivenInput words bit n
given_input gates marks words literals n bit word x name reads sources lt e on s same read pairs low half =
    let at = sources.each n lt (gate_with name reads) word e on s in
    let slot = at.slot in
    let here : bit ≡ at.place = omega arith in
    record { within = omega (arith, at.within); is = ap (λ (i : ℕ). get_or words i 0) here ∙ at.is ∙ same }

given_is : (joint : List ℕ) (r m : ℕ) → r < length joint → (given joint r m == 1) ≡ (get_or joint r 0 == m)
given_is joint r m h = by_case (nat_lt r (length joint)) (get_or joint r 0 == m) (grind (arith, nat_tests))
  where
    by_case : (a b : Bool) → a ≡ true → ((cond (a && b) 1 0) == 1) ≡ b
    by_case true true e = refl
    by_case true false e = refl
    by_case false b e = absurd cc

same_place : (from x m : ℕ) → (x == m) ≡ (from + m == from + x)
same_place from x m = elim (cases_eq x m) [
  | inl same ↦
      let other : from + m ≡ from + x = omega arith in
      (ap (λ (n : ℕ). x == n) (sym same) ∙ same_self x) ∙ sym (ap (λ (n : ℕ). n == from + x) other ∙ same_self (from + x))
  | inr other ↦
      let ne : from + m ≢ from + x = (λ q. other (omega arith)) in
      ne_eqb x m other ∙ sym (ne_eqb (from + m) (from + x) ne)
]

pub group_is : (net : Net) (words : List ℕ) (role first count from to : ℕ) → role < length net.inputs.items → count ≡ get_or net.inputs.items role 0
    → 0 < count
    → first ≡ net.base + sum (take role net.inputs.items) → ((m : ℕ) → m < count → IsGivenInput words (from + m) (first + m)) → to ≡ from + count
    → IsGroupOf net words (record { from = from; to = to })
group_is net words role first count from to inside are some begins given_at ends = record {
  within = let last = (given_at (count - 1) (omega arith)).within in omega arith;
  one = λ state joint w turn s.
      let here = turn role inside in
      let own = get_or joint role 0 in
      let less : own < get_or net.inputs.items role 0 = here.1 in
      record {
        on = from + own;
        low = omega arith;
        high = omega arith;
        each = λ k low high.
            let m = k - from in
            let back : from + m ≡ k = omega arith in
            let at = given_at m (omega arith) in
            let number : first + m ≡ input_number net.base net.inputs.items role m = omega (arith, begins) in
            ap (λ (i : ℕ). w (get_or words i 0)) (sym back) ∙ ap w (at.is ∙ number) ∙ s.moves role m (omega arith) ∙ given_is joint role m here.0
            ∙ same_place from own m ∙ ap (λ (i : ℕ). i == from + own) back;
      };
}

pub groups_more : (net : Net) (words : List ℕ) (groups next : List Group) (g : Group) → AreGroups net words groups → IsGroupOf net words g
    → next ≡ groups ++ (g ∷ []) → AreGroups net words next
groups_more net words groups next g h k e = rw e record {
  within = All-push (λ (x : Group). x.to ≤ length words) groups g h.within k.within;
  one = λ state joint w turn s. All-push (λ (x : Group). IsOneOf (λ i. w (get_or words i 0)) x.from x.to) groups g (h.one state joint w turn s)
      (k.one state joint w turn s);
}

pub sum_more : (xs : List ℕ) (k : ℕ) → k < length xs → sum (take (k + 1) xs) ≡ sum (take k xs) + get_or xs k 0
sum_more xs k h = sum_by_more (λ x. x) xs k 0 h

-- One node behind others.
