-- Literals of a tape in the making.
use Rattle.std.proofs.Common.{
  ◌≡◌,
  ℕ,
  max,
  Result,
  Ok,
  Err,
  IfOk,
  ◌^◌,
  length-append,
  ◌+◌,
  ◌*◌,
  ◌<◌,
  ◌≤◌,
  ◌%◌,
  ◌/◌,
  Bool,
  true,
  false,
  not,
  ◌&&◌,
  List,
  [],
  ◌∷◌,
  ◌++◌,
  length,
  get_or,
  slice_get,
  Some,
  refl,
  sym,
  subst,
  All,
  ◌∙◌,
  arith,
}
use Rattle.std.proofs.lemmas.Option.{slice_get-get_or}
use Rattle.propnet_tape.specs.Values.{slots, InOrder, IsTape, start, value}
use Rattle.propnet_tape.specs.Building.{HaveNegations, AreOneOf, IsStep, IsBuilt, IsLiteral, slots_of, signal_value}
use Rattle.propnet_tape.specs.declared.gates.Gate.{Gate}
use Rattle.propnet_tape.specs.declared.builder.Builder.{Builder}
use Rattle.propnet_tape.specs.declared.builder.Group.{Group}
use Rattle.propnet_tape.proofs.Passes.{pass_below, pass_pairs, pass_keeps, pass_more, pass_solves}

start_pairs : (bits : ℕ → Bool) (l : ℕ) → l % 2 ≡ 0 → start bits (l + 1) ≡ not (start bits l)
start_pairs bits l h =
    let a : (l + 1) / 2 ≡ l / 2 = omega arith in
    let b : (l + 1) % 2 ≡ 1 = omega arith in
    rw (a, b, h) refl

pub value_literals : (first : ℕ) (gates : List Gate) → IsTape first gates → (bits : ℕ → Bool) → HaveNegations (value first gates bits)
unfolding value
value_literals first gates t bits = record {
  none = pass_below first gates (start bits) 0 (omega (arith, t.some));
  pairs = λ l h. pass_pairs first gates (start bits) t.pairs (start_pairs bits) l h;
}

in_order_more : (s : ℕ) (gs : List Gate) (g : Gate) → InOrder s gs → g.a < slots s gs → g.b < slots s gs → InOrder s (gs ++ (g ∷ []))
in_order_more s [] g o a b = (omega arith, omega arith, tt)
in_order_more s (f ∷ gs) g o a b = (o.0, o.1, in_order_more (s + 2) gs g o.2 (omega arith) (omega arith))

pub step_refl : (b : Builder) → IsBuilt b → IsStep b b
step_refl b h = record { built = h; first = refl; groups = refl; more = omega arith; keeps = λ bits l k. refl }

pub step_then : (a b c : Builder) → IsStep a b → IsStep b c → IsStep a c
step_then a b c h k = record {
  built = k.built;
  first = k.first ∙ h.first;
  groups = k.groups ∙ h.groups;
  more = omega (arith, h.more, k.more);
  keeps = λ bits l m. k.keeps bits l (omega (arith, h.more)) ∙ h.keeps bits l m;
}

-- a step keeps the groups
pub groups_after : (a b : Builder) → IsStep a b → (bits : ℕ → Bool) → AreOneOf a.groups.items bits → AreOneOf b.groups.items bits
groups_after a b s bits one = subst (λ (gs : List Group). AreOneOf gs bits) (sym s.groups) one

pub groups_before : (a b : Builder) → IsStep a b → (bits : ℕ → Bool) → AreOneOf b.groups.items bits → AreOneOf a.groups.items bits
groups_before a b s bits one = subst (λ (gs : List Group). AreOneOf gs bits) s.groups one

groups_within : (f g : ℕ) (xs ys : List Group) → f ≡ g → xs ≡ ys → All (λ (x : Group). 2 + 2 * x.to ≤ g) ys → All (λ (x : Group). 2 + 2 * x.to ≤ f) xs
groups_within f g xs ys e h a = rw (e, h) a

-- a gate put behind the others
pub record IsPushed (old new : Builder) (a b literal : ℕ) : Type 0 where
  pub first : new.first ≡ old.first
  pub groups : new.groups.items ≡ old.groups.items
  pub gates : new.gates.items ≡ old.gates.items ++ (record { a = a; b = b } ∷ [])
  pub table : 0 < length new.table.items
  pub literal_is : literal ≡ old.first + 2 * length old.gates.items
  pub fits : literal < 2 ^ 32

more_slots : (old new : Builder) (a b literal : ℕ) → IsPushed old new a b literal → slots_of new ≡ slots_of old + 2
more_slots old new a b literal p = rw (p.first, p.gates) (simp length-append (omega arith))

pushed_tape : (first : ℕ) (gates : List Gate) (g : Gate) → IsTape first gates → g.a < slots first gates → g.b < slots first gates
    → slots first gates < 2 ^ 32 → IsTape first (gates ++ (g ∷ []))
pushed_tape first gates g t a b f = record {
  some = t.some;
  pairs = t.pairs;
  in_order = in_order_more first gates g t.in_order a b;
  small = let p : first % 2 ≡ 0 = t.pairs in simp length-append (omega arith);
}

tape_same : (f g : ℕ) (xs ys : List Gate) → f ≡ g → xs ≡ ys → IsTape g ys → IsTape f xs
tape_same f g xs ys e h t = rw (e, h) t

pub step_of_push : (old new : Builder) (a b literal : ℕ) → IsBuilt old → a < slots_of old → b < slots_of old
    → IsPushed old new a b literal → IsStep old new
unfolding value
step_of_push old new a b literal h i j p =
    let m : slots_of new ≡ slots_of old + 2 = more_slots old new a b literal p in
    record {
      built = record {
        tape = tape_same _ _ _ _ p.first p.gates
            (pushed_tape old.first old.gates.items (record { a = a; b = b }) h.tape i j (omega (arith, p.literal_is, p.fits)));
        table = p.table;
        groups = groups_within _ _ _ _ p.first p.groups h.groups;
      };
      first = p.first;
      groups = p.groups;
      more = omega arith;
      keeps = λ bits l k. rw (p.first, p.gates) (pass_keeps old.first old.gates.items (record { a = a; b = b } ∷ []) (start bits) l k);
    }

pub literal_of_push : (old new : Builder) (a b literal : ℕ) → IsBuilt old → a < slots_of old → b < slots_of old
    → IsPushed old new a b literal → IsLiteral new literal (λ bits. signal_value new bits a && signal_value new bits b)
unfolding value
literal_of_push old new a b literal h i j p =
    let m : slots_of new ≡ slots_of old + 2 = more_slots old new a b literal p in
    let s : IsStep old new = step_of_push old new a b literal h i j p in
    record {
      slot = omega (arith, p.literal_is);
      value = λ bits one. rw (s.keeps bits a i, s.keeps bits b j, p.literal_is, p.first, p.gates)
          (pass_more old.first old.gates.items (record { a = a; b = b }) (start bits));
    }

pub folded_literal : (b : Builder) (x y l : ℕ) → IsBuilt b → x < slots_of b → y < slots_of b → l ≤ max x y
    → ((w : ℕ → Bool) → HaveNegations w → w l ≡ (w x && w y))
    → IsLiteral b l (λ bits. signal_value b bits x && signal_value b bits y)
folded_literal b x y l h i j k f = record {
  slot = omega arith;
  value = λ bits one. f (signal_value b bits) (value_literals b.first b.gates.items h.tape bits);
}

pub shared_literal : (b : Builder) (x y i l : ℕ) → IsBuilt b → i < length b.gates.items
    → slice_get b.gates.items i ≡ Some (record { a = x; b = y }) → l ≡ b.first + 2 * i
    → IsLiteral b l (λ bits. signal_value b bits x && signal_value b bits y)
unfolding value
shared_literal b x y i l h k e m =
    let g : Gate = record { a = x; b = y } in
    let at : slice_get b.gates.items i ≡ Some (get_or b.gates.items i g) = slice_get-get_or b.gates.items i g k in
    let same : g ≡ get_or b.gates.items i g = cc in
    record {
      slot = omega arith;
      value = λ bits one. rw m (pass_solves b.first b.gates.items (start bits) h.tape.in_order i g k same);
    }

and_comm : (a b : Bool) → (a && b) ≡ (b && a)
and_comm true true = refl
and_comm true false = refl
and_comm false true = refl
and_comm false false = refl

pub swapped_literal : (b : Builder) (x y l : ℕ) → IsLiteral b l (λ bits. signal_value b bits y && signal_value b bits x)
    → IsLiteral b l (λ bits. signal_value b bits x && signal_value b bits y)
swapped_literal b x y l h = record { slot = h.slot; value = λ bits one. h.value bits one ∙ and_comm (signal_value b bits y) (signal_value b bits x) }

pub swapped_result : {E : Type 0} → (b : Builder) (x y : ℕ) (r : Result ℕ E)
    → IfOk r (λ l. IsLiteral b l (λ bits. signal_value b bits y && signal_value b bits x))
    → IfOk r (λ l. IsLiteral b l (λ bits. signal_value b bits x && signal_value b bits y))
swapped_result b x y (Ok l) h = swapped_literal b x y l h
swapped_result b x y (Err e) h = h
