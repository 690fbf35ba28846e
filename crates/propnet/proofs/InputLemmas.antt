-- Where the inputs stand, and what is written to their words.
use Rattle.std.proofs.Common.{
  ◌≡◌,
  ℕ,
  suc,
  zero,
  ◌+◌,
  ◌<◌,
  ◌≤◌,
  cond,
  List,
  [],
  ◌∷◌,
  ◌++◌,
  length,
  map,
  take,
  get_or,
  sym,
  ◌∙◌,
  ap,
  subst,
  arith,
  Option,
  Some,
  slice_get,
  ◌⊎◌,
  inl,
  inr,
  length-append,
}
use Rattle.std.specs.Prelude.{sum}
use Rattle.std.specs.List.{range_with_len, flat_map}
use Rattle.std.specs.Int.{bit_at}
use Rattle.std.proofs.lemmas.Bool.{cases_lt}
use Rattle.std.proofs.lemmas.List.{take-take}
use Rattle.std.proofs.lemmas.List.Sums.{sum_by-cons, sum_by-take-le, sum_by_more}
use Rattle.smallvec.specs.SmallVec.{SmallVec}
use Rattle.statement.specs.declared.kind.Kind.{Kind}
use Rattle.statement.specs.Kept.{Kept}
use Rattle.statement.specs.declared.node_name.Name.{Name}
use Rattle.statement.specs.declared.node_name.Name.TheVariants.{Base, Input, Not, And, View, Transition}
use Rattle.propnet.specs.Values.{lane}
use Rattle.propnet.specs.Network.{Gate, given}
use Rattle.propnet.specs.NodeNames.{has_view, is_negated, gates_of_atom, atom_names, base_names, role_names, input_names, node_names}
use Rattle.game.specs.Joints.{joint_at}
use Rattle.propnet.specs.Building.{names_of, Stands}
use Rattle.propnet.specs.Placing.{input_number, InputsPlaced}
use Rattle.propnet.specs.Given.{AreGiven, IsGivenAs}
use Rattle.propnet.proofs.BuildLemmas.{at_below, size_named}
use Rattle.propnet.proofs.Counts.{length-row, sources_size}
use Rattle.propnet.proofs.Order.{got_map}
use Rattle.propnet.proofs.Places.{at_either, at_map, at_flat, at_cond, range_at}

-- The numbers of inputs.

sum_grows : (xs : List ℕ) (a b : ℕ) → a ≤ b → sum (take a xs) ≤ sum (take b xs)
sum_grows xs a b h = subst (λ (ys : List ℕ). sum ys ≤ sum (take b xs)) (take-take a b xs h) (sum_by-take-le (λ x. x) (take b xs) a)

pub number_below : (inputs : List ℕ) (r m role : ℕ) → r < role → r < length inputs → m < get_or inputs r 0
    → sum (take r inputs) + m < sum (take role inputs)
number_below inputs r m role h l lm =
    let more = sum_by_more (λ x. x) inputs r 0 l in
    let up = sum_grows inputs (r + 1) role (omega arith) in
    omega arith

-- the inputs of one role more are written
pub inputs_more : (base : ℕ) (inputs : List ℕ) (joints : List (SmallVec ℕ)) (old new : List ℕ) (role start : ℕ) → role < length inputs
    → start ≡ base + sum (take role inputs)
    → ((m k : ℕ) → start + m < start + get_or inputs role 0 → k < length joints → lane new k (start + m) ≡ given (joint_at joints k) role m)
    → ((n : ℕ) → n < start → get_or new n 0 ≡ get_or old n 0)
    → ((r m k : ℕ) → r < role → m < get_or inputs r 0 → k < length joints → lane old k (input_number base inputs r m) ≡ given (joint_at joints k) r m)
    → (r m k : ℕ) → r < role + 1 → m < get_or inputs r 0 → k < length joints → lane new k (input_number base inputs r m) ≡ given (joint_at joints k) r
    m
inputs_more base inputs joints old new role start lt is here before written r m k lr lm lk = go (cases_lt r role)
  where
    go : (r < role) ⊎ (role ≤ r) → lane new k (input_number base inputs r m) ≡ given (joint_at joints k) r m
    go (inl l) =
        let below = number_below inputs r m role l (omega arith) lm in
        ap (λ (word : ℕ). bit_at word k) (before (input_number base inputs r m) (omega arith)) ∙ written r m k l lm lk
    go (inr l) =
        let same : role ≡ r = omega arith in
        subst (λ (q : ℕ). lane new k (input_number base inputs q m) ≡ given (joint_at joints k) q m) same
        (subst (λ (a : ℕ). lane new k (a + m) ≡ given (joint_at joints k) role m) is
        (here m k (let c = ap (λ (q : ℕ). get_or inputs q 0) same in omega arith) lk))

at_split : {X : Type 0} → (xs ys : List X) (n : ℕ) (x : X) → slice_get (xs ++ ys) n ≡ Some x → (slice_get xs n ≡ Some x)
    ⊎ ((m : ℕ) × (n ≡ length xs + m) × (slice_get ys m ≡ Some x))
at_split [] ys n x e = inr (n, (let z : n ≡ 0 + n = omega arith in z), e)
at_split (y ∷ xs) ys zero x e = inl e
at_split {X} (y ∷ xs) ys (suc n) x e = on (at_split xs ys n x e)
  where
    on : (slice_get xs n ≡ Some x) ⊎ ((m : ℕ) × (n ≡ length xs + m) × (slice_get ys m ≡ Some x))
        → (slice_get xs n ≡ Some x) ⊎ ((m : ℕ) × (suc n ≡ suc (length xs) + m) × (slice_get ys m ≡ Some x))
    on (inl h) = inl h
    on (inr (m, p, h)) = inr (m, (let z : suc n ≡ suc (length xs) + m = omega arith in z), h)

-- what a role's row has at a place
in_row : (k count i r m : ℕ) → slice_get (role_names k count) i ≡ Some (Input r m) → (r ≡ k) × (m ≡ i) × (i < count)
in_row k count i r m e =
    let size = length-row (Input k) count in
    let below = at_below (role_names k count) i (Input r m) e in
    let lt : i < count = omega arith in
    let there : slice_get (role_names k count) i ≡ Some (Input k (0 + i)) = got_map (Input k) (range_with_len 0 count) i (0 + i)
    (range_at 0 count i lt) in
    let same : ◌≡◌ {A = Option Name} (Some (Input r m)) (Some (Input k (0 + i))) = sym e ∙ there in
    let is_r : r ≡ k = cc in
    let is_m : m ≡ 0 + i = cc in
    (is_r, (omega arith), lt)

pub input_named : (k : ℕ) (ns : List ℕ) (i r m : ℕ) → slice_get (input_names k ns) i ≡ Some (Input r m) → (j : ℕ) × (r ≡ k + j)
    × (i ≡ sum (take j ns) + m) × (m < get_or ns j 0)
input_named k [] i r m e = absurd cc
input_named k (c ∷ cs) i r m e = go (at_split (role_names k c) (input_names (suc k) cs) i (Input r m) e) (λ p h. input_named (suc k) cs p r m h)
  where
    go : (slice_get (role_names k c) i ≡ Some (Input r m))
        ⊎ ((p : ℕ) × (i ≡ length (role_names k c) + p) × (slice_get (input_names (suc k) cs) p ≡ Some (Input r m)))
        → ((p : ℕ) → slice_get (input_names (suc k) cs) p ≡ Some (Input r m) → (j : ℕ) × (r ≡ suc k + j) × (p ≡ sum (take j cs) + m)
        × (m < get_or cs j 0))
        → (j : ℕ) × (r ≡ k + j) × (i ≡ sum (take j (c ∷ cs)) + m) × (m < get_or (c ∷ cs) j 0)
    go (inl h) rest =
        let row = in_row k c i r m h in
        let is_r = row.0 in
        let is_m = row.1 in
        let lt = row.2 in
        (0, (let z : r ≡ k + 0 = omega arith in z), (let z : i ≡ 0 + m = omega arith in z), (let z : m < c = omega arith in z))
    go (inr (p, at, h)) rest =
        let o = rest p h in
        let size = length-row (Input k) c in
        let first = sum_by-cons (λ x. x) c (take o.0 cs) in
        let is_r = o.1 in
        let is_p = o.2 in
        (suc o.0, (let z : r ≡ k + suc o.0 = omega arith in z), (let z : i ≡ sum (c ∷ take o.0 cs) + m = omega arith in z), o.3)

-- no node of an atom is an input
not_of_atom : (kinds : List Kind) (kept : List Kept) (a n r m : ℕ) → slice_get (atom_names kinds kept a) n ≡ Some (Input r m) → ⊥
not_of_atom kinds kept a n r m e =
    go (at_either (map And (gates_of_atom kinds kept a)) (cond (has_view kinds kept a) (View a ∷ []) [] ++ cond (is_negated kinds kept a) (Not a ∷ []) [])
    n (Input r m) e)
  where
    in_tail : (j : ℕ) → (slice_get (cond (has_view kinds kept a) (View a ∷ []) []) j ≡ Some (Input r m))
        ⊎ ((p : ℕ) × (slice_get (cond (is_negated kinds kept a) (Not a ∷ []) []) p ≡ Some (Input r m))) → ⊥
    in_tail j (inl h) = let o = at_cond (has_view kinds kept a) (View a) j (Input r m) h in let k = o.1 in absurd cc
    in_tail j (inr (p, h)) = let o = at_cond (is_negated kinds kept a) (Not a) p (Input r m) h in let k = o.1 in absurd cc

    go : (slice_get (map And (gates_of_atom kinds kept a)) n ≡ Some (Input r m))
        ⊎ ((p : ℕ) × (slice_get (cond (has_view kinds kept a) (View a ∷ []) [] ++ cond (is_negated kinds kept a) (Not a ∷ []) []) p ≡ Some (Input r
        m)))
        → ⊥
    go (inl h) = let o = at_map And (gates_of_atom kinds kept a) n (Input r m) h in let k = o.2 in absurd cc
    go (inr (p, h)) = in_tail p (at_either (cond (has_view kinds kept a) (View a ∷ []) []) (cond (is_negated kinds kept a) (Not a ∷ []) []) p
        (Input r m) h)

place_named : (base : ℕ) (inputs : List ℕ) (kinds : List Kind) (kept : List Kept) (n r m : ℕ)
    → slice_get (node_names base inputs kinds kept) n ≡ Some (Input r m)
    → (n ≡ input_number base inputs r m) × (m < get_or inputs r 0)
place_named base inputs kinds kept n r m e =
    top (at_either ((base_names base ++ input_names 0 inputs) ++ flat_map (atom_names kinds kept) (range_with_len 0 (length kinds)))
    (map Transition (range_with_len 0 base)) n (Input r m) e)
  where
    sourced : (slice_get (base_names base) n ≡ Some (Input r m))
        ⊎ ((p : ℕ) × (n ≡ length (base_names base) + p) × (slice_get (input_names 0 inputs) p ≡ Some (Input r m)))
        → (n ≡ input_number base inputs r m) × (m < get_or inputs r 0)
    sourced (inl h) = let o = at_map Base (range_with_len 0 base) n (Input r m) h in let k = o.2 in absurd cc
    sourced (inr (p, at, h)) =
        let o = input_named 0 inputs p r m h in
        let size = length-row Base base in
        let same : o.0 ≡ r = let is_r = o.1 in omega arith in
        let is_p : p ≡ sum (take r inputs) + m = o.2 ∙ ap (λ (j : ℕ). sum (take j inputs) + m) same in
        ((let z : n ≡ (base + sum (take r inputs)) + m = omega arith in z), subst (λ (j : ℕ). m < get_or inputs j 0) same o.3)

    middle : (slice_get (base_names base ++ input_names 0 inputs) n ≡ Some (Input r m))
        ⊎ ((p : ℕ) × (slice_get (flat_map (atom_names kinds kept) (range_with_len 0 (length kinds))) p ≡ Some (Input r m)))
        → (n ≡ input_number base inputs r m) × (m < get_or inputs r 0)
    middle (inl h) = sourced (at_split (base_names base) (input_names 0 inputs) n (Input r m) h)
    middle (inr (p, h)) =
        let o = at_flat (atom_names kinds kept) (range_with_len 0 (length kinds)) p (Input r m) h in
        absurd (not_of_atom kinds kept o.0 o.3 r m o.4)

    top : (slice_get ((base_names base ++ input_names 0 inputs) ++ flat_map (atom_names kinds kept) (range_with_len 0 (length kinds))) n ≡ Some
        (Input r m)) ⊎ ((p : ℕ) × (slice_get (map Transition (range_with_len 0 base)) p ≡ Some (Input r m)))
        → (n ≡ input_number base inputs r m) × (m < get_or inputs r 0)
    top (inl h) = middle (at_either (base_names base ++ input_names 0 inputs) (flat_map (atom_names kinds kept) (range_with_len 0 (length kinds))) n
        (Input r m) h)
    top (inr (p, h)) = let o = at_map Transition (range_with_len 0 base) p (Input r m) h in let k = o.2 in absurd cc

pub placed_named : (base : ℕ) (inputs : List ℕ) (kinds : List Kind) (kept : List Kept) (gates : List Gate)
    → names_of gates ≡ node_names base inputs kinds kept → InputsPlaced base inputs gates
placed_named base inputs kinds kept gates e = record {
  places = λ n r m s. place_named base inputs kinds kept n r m (ap (λ (xs : List Name). slice_get xs n) (sym e) ∙ s);
  fit =
      let atoms = flat_map (atom_names kinds kept) (range_with_len 0 (length kinds)) in
      let sources = base_names base ++ input_names 0 inputs in
      let last = map Transition (range_with_len 0 base) in
      let all = size_named gates (node_names base inputs kinds kept) e in
      let size = sources_size base inputs in
      let one = length-append sources atoms in
      let two = length-append (sources ++ atoms) last in
      omega arith;
}

-- the word of an input is given, whatever node stands there
pub given_at : (base : ℕ) (inputs : List ℕ) (gates : List Gate) (joints : List (SmallVec ℕ)) (words : List ℕ) (n k : ℕ) (gate : Gate)
    → InputsPlaced base inputs gates → AreGiven base inputs joints words → slice_get gates n ≡ Some gate → k < length joints
    → IsGivenAs gate.name (joint_at joints k) (lane words k n)
given_at base inputs gates joints words n k gate placed given_words e lt = go gate.name (got_map (λ (g : Gate). g.name) gates n gate e)
  where
    go : (x : Name) → Stands gates n x → IsGivenAs x (joint_at joints k) (lane words k n)
    go (Base p) s = tt
    go (Input r m) s =
        let o = placed.places n r m s in
        subst (λ (i : ℕ). lane words k i ≡ given (joint_at joints k) r m) (sym o.0) (given_words r m k o.1 lt)
    go (Not a) s = tt
    go (And i) s = tt
    go (View a) s = tt
    go (Transition p) s = tt
