-- The first limit passed is none exactly where all limits are kept.
use Rattle.std.proofs.Common.{
  ℕ,
  zero,
  ◌≤◌,
  ◌+◌,
  Bool,
  true,
  false,
  not,
  ◌≡◌,
  ◌⊎◌,
  ◌↔◌,
  inl,
  inr,
  List,
  [],
  ◌∷◌,
  length,
  length-append,
  refl,
  sym,
  ap,
  subst,
  ◌∙◌,
  arith,
  Option,
  Some,
  None,
}
use Rattle.std.specs.Prelude.{nat_lt, filter, ◌||◌}
use Rattle.std.proofs.lemmas.Bool.Decides.{nat_tests}
use Rattle.statement.specs.Tree.{text}
use Rattle.statement.specs.Clause.{Alternative, Relation, tree_of}
use Rattle.statement.specs.Dependence.{IsAmong, is_fixed}
use Rattle.statement.specs.Order.{relations_in_order}
use Rattle.rules_profile.proofs.Facts.{IsAmong-append, IsAmong-append_left, IsAmong-append_right}
use Rattle.statement.specs.declared.excess.Excess.{Excess}
use Rattle.statement.specs.declared.excess.Excess.TheVariants.{Base, Inputs, Instances, Text}
use Rattle.statement.specs.Listing.{Instance, kept_of_relation, with_atoms, Listing, heads, list_relation, list_relations, context_atoms, fixed_listing, role_list, base_list}
use Rattle.statement.specs.Limits.{or_excess, where_true, has_long_text, first_excess, count_inputs, excess_by}
use Rattle.statement.specs.Most.{Limits}
use Rattle.meaning.specs.Effects.{IsWithinLimits}
use Rattle.meaning.proofs.Exact.{more_of, added}

both_none : (a : Bool) (x : Excess) (o : Option Excess) → or_excess (where_true a x) o ≡ None → (a ≡ false) × (o ≡ None)
both_none true x o h = absurd cc
both_none false x o h = (refl, h)

none_both : (a : Bool) (x : Excess) (o : Option Excess) → a ≡ false → o ≡ None → or_excess (where_true a x) o ≡ None
none_both true x o e h = absurd cc
none_both false x o e h = h

or_else_none : (a b : Option Excess) → or_excess a b ≡ None → (a ≡ None) × (b ≡ None)
or_else_none None b h = (refl, h)
or_else_none (Some x) b h = absurd cc

none_or_else : (a b : Option Excess) → a ≡ None → b ≡ None → or_excess a b ≡ None
none_or_else None b h k = k
none_or_else (Some x) b h k = absurd cc

not_above : (m n : ℕ) → nat_lt m n ≡ false → n ≤ m
not_above m n h = grind (arith, nat_tests)

above_not : (m n : ℕ) → n ≤ m → nat_lt m n ≡ false
above_not m n h = grind (arith, nat_tests)

or_false : (a b : Bool) → (a || b) ≡ false → (a ≡ false) × (b ≡ false)
or_false true b h = absurd cc
or_false false b h = (refl, h)

false_or : (a b : Bool) → a ≡ false → b ≡ false → (a || b) ≡ false
false_or true b h k = absurd cc
false_or false b h k = k

abbrev AreShort : ℕ → List Instance → Type 0
AreShort n is = (i : Instance) → IsAmong i is → length (text (tree_of i.head)) ≤ n

short_heads : (n : ℕ) (is : List Instance) → has_long_text n (heads is) ≡ false → AreShort n is
short_heads n [] h i a = absurd a
short_heads n (j ∷ is) h i (inl e) =
    subst (λ (k : Instance). length (text (tree_of k.head)) ≤ n) (sym e)
    (not_above n (length (text (tree_of j.head))) (or_false (nat_lt n (length (text (tree_of j.head)))) (has_long_text n (heads is)) h).0)
short_heads n (j ∷ is) h i (inr a) = short_heads n is (or_false (nat_lt n (length (text (tree_of j.head)))) (has_long_text n (heads is)) h).1 i a

heads_short : (n : ℕ) (is : List Instance) → AreShort n is → has_long_text n (heads is) ≡ false
heads_short n [] h = refl
heads_short n (i ∷ is) h = false_or _ _ (above_not n (length (text (tree_of i.head))) (h i (inl refl))) (heads_short n is (λ j a. h j (inr a)))

module _ (most : Limits) (rules : List Alternative) where
  abbrev AreWithin : Listing → Type 0
  AreWithin g = (length g.kept ≤ most.instances) × AreShort most.text g.kept

  -- the relations pass no limit, so that all that is kept then keeps within them
  relations_within : (g : Listing) (ps : List Relation) → first_excess most rules g ps ≡ None → AreWithin g → AreWithin (list_relations rules g ps)
  relations_within g [] h w = w
  relations_within g (p ∷ ps) h w =
      let a = both_none (nat_lt most.instances (length (list_relation rules g p).kept)) Instances
      (or_excess (where_true (has_long_text most.text (heads (kept_of_relation rules g.atoms p zero rules))) Text)
      (first_excess most rules (list_relation rules g p) ps)) h in
      let b = both_none (has_long_text most.text (heads (kept_of_relation rules g.atoms p zero rules))) Text
      (first_excess most rules (list_relation rules g p) ps) a.1 in
      relations_within (list_relation rules g p) ps b.1 (
        not_above most.instances (length (list_relation rules g p).kept) a.0,
        (λ i k. either i (short_heads most.text (kept_of_relation rules g.atoms p zero rules) b.0) (IsAmong-append i g.kept _ k)),
      )
    where
      either : (i : Instance) → AreShort most.text (kept_of_relation rules g.atoms p zero rules) → IsAmong i g.kept
          ⊎ IsAmong i (kept_of_relation rules g.atoms p zero rules) → length (text (tree_of i.head)) ≤ most.text
      either i short (inl k) = w.1 i k
      either i short (inr k) = short i k

  -- fewer are within where more are
  less_within : (g : Listing) (ps : List Relation) → AreWithin (list_relations rules g ps) → AreWithin g
  less_within g ps w =
      let e = (added rules g ps).kept in
      let size : length g.kept + length (more_of rules g ps) ≤ most.instances = subst (λ (n : ℕ). n ≤ most.instances)
      (ap length e ∙ length-append g.kept (more_of rules g ps)) w.0 in
      (omega arith, (λ i a. w.1 i (subst (λ (is : List Instance). IsAmong i is) (sym e) (IsAmong-append_left i g.kept (more_of rules g ps) a))))

  within_relations : (g : Listing) (ps : List Relation) → AreWithin (list_relations rules g ps) → first_excess most rules g ps ≡ None
  within_relations g [] w = refl
  within_relations g (p ∷ ps) w =
      let here = less_within (list_relation rules g p) ps w in
      none_both (nat_lt most.instances (length (list_relation rules g p).kept)) Instances _
      (above_not most.instances (length (list_relation rules g p).kept) here.0)
      (none_both (has_long_text most.text (heads (kept_of_relation rules g.atoms p zero rules))) Text _
      (heads_short most.text (kept_of_relation rules g.atoms p zero rules)
      (λ i a. here.1 i (IsAmong-append_right i g.kept (kept_of_relation rules g.atoms p zero rules) a)))
      (within_relations (list_relation rules g p) ps w))

  pub excess_exact : (excess_by most rules ≡ None) ↔ IsWithinLimits most rules
  excess_exact = (there, back)
    where
      rests : List Relation
      rests = filter (λ p. not (is_fixed rules p)) (relations_in_order rules)

      empty : Listing
      empty = record { atoms = []; kept = [] }

      start : Listing
      start = record { atoms = with_atoms (fixed_listing rules).atoms (context_atoms (fixed_listing rules).atoms); kept = (fixed_listing rules).kept }

      first : Option Excess
      first = first_excess most rules empty (filter (λ p. is_fixed rules p) (relations_in_order rules))

      last : Option Excess
      last = first_excess most rules start rests

      there : excess_by most rules ≡ None → IsWithinLimits most rules
      there h =
          let a = or_else_none first (or_excess (where_true (nat_lt most.base (length (base_list rules))) Base)
          (or_excess (where_true (nat_lt most.inputs (count_inputs rules (role_list rules))) Inputs) last)) h in
          let b = both_none (nat_lt most.base (length (base_list rules))) Base
          (or_excess (where_true (nat_lt most.inputs (count_inputs rules (role_list rules))) Inputs) last) a.1 in
          let c = both_none (nat_lt most.inputs (count_inputs rules (role_list rules))) Inputs last b.1 in
          let fixed = relations_within empty (filter (λ p. is_fixed rules p) (relations_in_order rules)) a.0 (omega arith, (λ i k. absurd k)) in
          let whole = relations_within start rests c.1 fixed in
          record {
            instances = whole.0;
            heads = whole.1;
            base = not_above most.base (length (base_list rules)) b.0;
            inputs = not_above most.inputs (count_inputs rules (role_list rules)) c.0;
          }

      back : IsWithinLimits most rules → excess_by most rules ≡ None
      back w =
          let whole : AreWithin (list_relations rules start rests) = (w.instances, w.heads) in
          let fixed : AreWithin start = less_within start rests whole in
          none_or_else first _ (within_relations empty (filter (λ p. is_fixed rules p) (relations_in_order rules)) fixed)
          (none_both (nat_lt most.base (length (base_list rules))) Base _ (above_not most.base (length (base_list rules)) w.base)
          (none_both (nat_lt most.inputs (count_inputs rules (role_list rules))) Inputs _
          (above_not most.inputs (count_inputs rules (role_list rules)) w.inputs)
          (within_relations start rests whole)))
