-- How many nodes there are at most.
use Rattle.std.proofs.Common.{
  ◌≡◌,
  ℕ,
  suc,
  zero,
  ◌+◌,
  ◌*◌,
  ◌^◌,
  ◌<◌,
  ◌≤◌,
  Bool,
  true,
  false,
  cond,
  not,
  ◌&&◌,
  List,
  [],
  ◌∷◌,
  ◌++◌,
  length,
  map,
  refl,
  ◌∙◌,
  ap,
  arith,
  ◌⊎◌,
  inl,
  inr,
  length-append,
  ne_eqb,
}
use Rattle.std.specs.Prelude.{◌==◌, sum, sum_by}
use Rattle.std.specs.List.{range_with_len, flat_map}
use Rattle.std.proofs.lemmas.Bool.{cases_eq}
use Rattle.std.proofs.lemmas.List.{length-map}
use Rattle.std.proofs.lemmas.List.Sums.{sum_by-cons}
use Rattle.std.proofs.lemmas.List.FromFn.{length-range_with_len}
use Rattle.statement.specs.declared.kind.Kind.{Kind}
use Rattle.ground_instances.specs.declared.flat_ground.FlatGround.{FlatGround}
use Rattle.statement.specs.Kept.{Kept}
use Rattle.ground_instances.specs.Fits.{count_all}
use Rattle.statement.specs.Most.{wide_limits}
use Rattle.ground_instances.specs.GroundView.{base_of, inputs_of, kinds_of, instances_of}
use Rattle.statement.specs.declared.node_name.Name.{Name}
use Rattle.statement.specs.declared.node_name.Name.TheVariants.{Base, Input, Not, And, View, Transition}
use Rattle.propnet.specs.NodeNames.{has_gate, gates_from, gates_of_atom, has_view, is_negated, atom_names, base_names, role_names, input_names, node_names}
use Rattle.propnet.specs.Builders.{input_counts, names_below}
use Rattle.propnet.proofs.GroundFacts.{fits}

-- Each instance is a gate of one atom at most.

one_or_none : (c : Bool) → cond c 1 0 ≤ 1
one_or_none true = omega arith
one_or_none false = omega arith

none_if_off : (b c : Bool) → c ≡ false → ◌≡◌ {A = ℕ} (cond (b && c) 1 0) 0
none_if_off true true e = absurd cc
none_if_off true false e = refl
none_if_off false c e = refl

missed : (b : Bool) (h s n : ℕ) → h < s → sum_by (λ a. cond (b && (h == a)) 1 0) (range_with_len s n) ≡ 0
missed b h s zero l = refl
missed b h s (suc n) l =
    let first = none_if_off b (h == s) (ne_eqb h s (λ e. absurd (omega arith))) in
    let rest : sum_by (λ a. cond (b && (h == a)) 1 0) (range_with_len (s + 1) n) ≡ 0 = missed b h (s + 1) n (omega arith) in
    sum_by-cons (λ a. cond (b && (h == a)) 1 0) s (range_with_len (s + 1) n) ∙ omega arith

hit : (b : Bool) (h s n : ℕ) → sum_by (λ a. cond (b && (h == a)) 1 0) (range_with_len s n) ≤ 1
hit b h s zero = omega arith
hit b h s (suc n) =
    let sum = sum_by-cons (λ a. cond (b && (h == a)) 1 0) s (range_with_len (s + 1) n) in
    let most = go (cases_eq h s) (hit b h (s + 1) n) in
    omega arith
  where
    go : (h ≡ s) ⊎ (h ≡ s → ⊥) → sum_by (λ a. cond (b && (h == a)) 1 0) (range_with_len (s + 1) n) ≤ 1
        → cond (b && (h == s)) 1 0 + sum_by (λ a. cond (b && (h == a)) 1 0) (range_with_len (s + 1) n) ≤ 1
    go (inl e) k =
        let rest : sum_by (λ a. cond (b && (h == a)) 1 0) (range_with_len (s + 1) n) ≡ 0 = missed b h (s + 1) n (omega arith) in
        let one = one_or_none (b && (h == s)) in
        omega arith
    go (inr e) k =
        let first = none_if_off b (h == s) (ne_eqb h s e) in
        omega arith

sum_split : (f g k : ℕ → ℕ) → ((a : ℕ) → f a ≡ g a + k a) → (xs : List ℕ) → sum_by f xs ≡ sum_by g xs + sum_by k xs
sum_split f g k e [] = refl
sum_split f g k e (x ∷ xs) =
    let first = e x in
    let rest = sum_split f g k e xs in
    omega (arith, sum_by-cons f x xs, sum_by-cons g x xs, sum_by-cons k x xs)

sum_none : (xs : List ℕ) → sum_by (λ a. 0) xs ≡ 0
sum_none [] = refl
sum_none (x ∷ xs) = let sum = sum_by-cons (λ a. 0) x xs in let rest = sum_none xs in omega arith

one_longer : (c : Bool) (n : ℕ) (rest : List ℕ) → length (cond c (n ∷ rest) rest) ≡ cond c 1 0 + length rest
one_longer true n rest = omega arith
one_longer false n rest = omega arith

gates_total : (n s count : ℕ) (kinds : List Kind) (kept : List Kept) → sum_by (λ a. length (gates_from n kinds kept a)) (range_with_len s count) ≤
    length kept
gates_total n s count kinds [] = let z = sum_none (range_with_len s count) in omega arith
gates_total n s count kinds (k ∷ ks) =
    let split = sum_split (λ a. length (gates_from n kinds (k ∷ ks) a)) (λ a. cond (has_gate kinds k && (k.head == a)) 1 0)
    (λ a. length (gates_from (suc n) kinds ks a))
    (λ a. one_longer (has_gate kinds k && (k.head == a)) n (gates_from (suc n) kinds ks a)) (range_with_len s count) in
    let first = hit (has_gate kinds k) k.head s count in
    let rest = gates_total (suc n) s count kinds ks in
    omega arith

pub few_gates : (n : ℕ) (kinds : List Kind) (kept : List Kept) (a : ℕ) → length (gates_from n kinds kept a) ≤ length kept
few_gates n kinds [] a = omega arith
few_gates n kinds (k ∷ ks) a =
    let rest = few_gates (suc n) kinds ks a in
    let first = one_longer (has_gate kinds k && (k.head == a)) n (gates_from (suc n) kinds ks a) in
    let one = one_or_none (has_gate kinds k && (k.head == a)) in
    omega arith

-- The nodes of an atom: at most one view, and that only beside a gate, and at most one not gate.

pub at_most_one : {X : Type 0} → (c : Bool) (x : X) → length (cond c (x ∷ []) []) ≤ 1
at_most_one true x = omega arith
at_most_one false x = omega arith

one_beside : {X : Type 0} → (n : ℕ) (x : X) → length (cond (not (n == 0)) (x ∷ []) []) ≤ n
one_beside zero x = omega arith
one_beside (suc n) x = let one = at_most_one (not (suc n == 0)) x in omega arith

atom_size : (kinds : List Kind) (kept : List Kept) (a : ℕ) → length (atom_names kinds kept a) ≤ 2 * length (gates_of_atom kinds kept a) + 1
atom_size kinds kept a =
    let gates = length-map (gates_of_atom kinds kept a) And in
    let view = one_beside (length (gates_of_atom kinds kept a)) (View a) in
    let negated = at_most_one (is_negated kinds kept a) (Not a) in
    let tail = length-append (cond (has_view kinds kept a) (View a ∷ []) []) (cond (is_negated kinds kept a) (Not a ∷ []) []) in
    let all = length-append (map And (gates_of_atom kinds kept a))
    (cond (has_view kinds kept a) (View a ∷ []) [] ++ cond (is_negated kinds kept a) (Not a ∷ []) []) in
    omega arith

atoms_size : (kinds : List Kind) (kept : List Kept) (s n : ℕ)
    → length (flat_map (atom_names kinds kept) (range_with_len s n)) ≤ 2 * sum_by (λ a. length (gates_of_atom kinds kept a)) (range_with_len s n) + n
atoms_size kinds kept s zero = omega arith
atoms_size kinds kept s (suc n) =
    let first = atom_size kinds kept s in
    let rest = atoms_size kinds kept (s + 1) n in
    let all = length-append (atom_names kinds kept s) (flat_map (atom_names kinds kept) (range_with_len (s + 1) n)) in
    let sum = sum_by-cons (λ a. length (gates_of_atom kinds kept a)) s (range_with_len (s + 1) n) in
    omega arith

-- Base propositions and inputs.

pub length-row : (f : ℕ → Name) (n : ℕ) → length (map f (range_with_len 0 n)) ≡ n
length-row f n = length-map (range_with_len 0 n) f ∙ length-range_with_len 0 n

pub length-inputs : (k : ℕ) (ns : List ℕ) → length (input_names k ns) ≡ sum ns
length-inputs k [] = refl
length-inputs k (n ∷ ns) =
    let first = length-row (Input k) n in
    let rest = length-inputs (suc k) ns in
    let all = length-append (role_names k n) (input_names (suc k) ns) in
    omega (arith, sum_by-cons (λ x. x) n ns)

count_is : (inputs : List (List (List ℕ))) → sum (map (λ (ts : List (List ℕ)). length ts) inputs) ≡ count_all inputs
count_is [] = refl
count_is (ts ∷ rest) = sum_by-cons (λ x. x) (length ts) (map (λ (us : List (List ℕ)). length us) rest) ∙ ap (λ n. length ts + n) (count_is rest)

pub few_inputs : (g : FlatGround) → sum (input_counts g) ≤ wide_limits.inputs
few_inputs g = let same = count_is (inputs_of g) in let few = (fits g).few_inputs in omega arith

pub sources_size : (base : ℕ) (ns : List ℕ) → length (base_names base ++ input_names 0 ns) ≡ base + sum ns
sources_size base ns =
    let a = length-row Base base in
    let b = length-inputs 0 ns in
    let c = length-append (base_names base) (input_names 0 ns) in
    omega arith

-- All of them.

pub below_size : (g : FlatGround) (a : ℕ) → length (names_below g a) ≤ (length (base_of g) + sum (input_counts g)) + (2 * length (instances_of g) + a)
below_size g a =
    let sources = sources_size (length (base_of g)) (input_counts g) in
    let atoms = atoms_size (kinds_of g) (instances_of g) 0 a in
    let gates = gates_total 0 0 a (kinds_of g) (instances_of g) in
    let all = length-append (base_names (length (base_of g)) ++ input_names 0 (input_counts g))
    (flat_map (atom_names (kinds_of g) (instances_of g)) (range_with_len 0 a)) in
    omega arith

-- no more than the limits allow: three for each base proposition and each instance, and two for each input
pub few_nodes : (g : FlatGround) → length (node_names (length (base_of g)) (input_counts g) (kinds_of g) (instances_of g)) ≤ 3 * wide_limits.base +
    (2 * wide_limits.inputs + 3 * wide_limits.instances)
few_nodes g =
    let below = below_size g (length (kinds_of g)) in
    let last = length-row Transition (length (base_of g)) in
    let all = length-append (names_below g (length (kinds_of g))) (map Transition (range_with_len 0 (length (base_of g)))) in
    let b = (fits g).few_base in
    let i = few_inputs g in
    let k = (fits g).few_kept in
    let a = (fits g).few_atoms in
    omega arith

-- room for the nodes of an atom, and for the transitions
pub room_for_atom : (g : FlatGround) (a : ℕ) → a < length (kinds_of g)
    → length (names_below g a) + (length (gates_of_atom (kinds_of g) (instances_of g) a) + 2) < 2 ^ 32
room_for_atom g a lt =
    let below = below_size g a in
    let gates = few_gates 0 (kinds_of g) (instances_of g) a in
    let b = (fits g).few_base in
    let i = few_inputs g in
    let k = (fits g).few_kept in
    let m = (fits g).few_atoms in
    omega arith

pub room_for_transitions : (g : FlatGround) → length (names_below g (length (kinds_of g))) + length (base_of g) < 2 ^ 32
room_for_transitions g =
    let below = below_size g (length (kinds_of g)) in
    let b = (fits g).few_base in
    let i = few_inputs g in
    let k = (fits g).few_kept in
    let m = (fits g).few_atoms in
    omega arith

pub room_for_sources : (g : FlatGround) → length (base_of g) + sum (input_counts g) < 2 ^ 32
room_for_sources g =
    let b = (fits g).few_base in
    let i = few_inputs g in
    omega arith
