-- The names of the nodes of a network stand for the nodes of its rules.
use Rattle.std.proofs.Common.{◌≡◌, ℕ, suc, ◌+◌, ◌<◌, Bool, true, false, not, cond, ◌&&◌, ◌||◌, inl, inr, List, [], ◌∷◌, ◌++◌, length, map, refl, sym, ◌∙◌, ap, subst, arith, ne_eqb, eq-eqb}
use Rattle.std.specs.Prelude.{◌==◌, IsPermutation, filter, slice_index_or}
use Rattle.std.specs.List.{flat_map, range_with_len, list_any}
use Rattle.std.proofs.lemmas.List.{length-map, append_assoc, map-append, get_or-map}
use Rattle.std.proofs.lemmas.List.FromFn.{fill_by_all}
use Rattle.std.proofs.lemmas.List.Sorted.{IsPermutation-refl, IsPermutation-trans, IsPermutation-cons, IsPermutation-append_left}
use Rattle.kif.proofs.Facts.{true_and, both}
use Rattle.statement.specs.Tree.{Tree, list, no_trees, text}
use Rattle.statement.specs.Clause.{Atom, Literal, positive, negative, Alternative, relation_of, atom_eq}
use Rattle.statement.specs.Dependence.{IsAmong, is_fixed}
use Rattle.statement.specs.declared.kind.Kind.{Kind}
use Rattle.statement.specs.Kinds.{kind_of}
use Rattle.statement.specs.Kept.{Kept, numbered, number_of, is_read, reading, gate}
use Rattle.statement.specs.Played.{nth_tree}
use Rattle.statement.specs.Listing.{Instance, is_atom_in, heads, other_part, listing, role_list, base_list, input_list}
use Rattle.statement.specs.declared.node_name.Name.{Name}
use Rattle.statement.specs.declared.node_name.Name.TheVariants.{Base, Input, Not, And, View, Transition}
use Rattle.meaning.specs.InOrder.{AreDistinct}
use Rattle.meaning.specs.Gates.{atom_at}
use Rattle.meaning.proofs.Facts.{one_number, atom_found, atom_test, place_below, is_atom_yes, is_atom_in_yes}
use Rattle.propnet.specs.NodeNames.{has_gate, gates_from, gates_of_atom, has_view, is_negated, atom_names, base_names, role_names, input_names, node_names}
use Rattle.statement.specs.Nodes.{NetNode, base, input, conjunction, view, negation, transition, gated, is_negative_of, is_negated_in, inner_nodes, AreNodesOf}
use Rattle.propnet.specs.Standing.{no_instance, meant}
use Rattle.ground_instances.specs.declared.flat_ground.FlatGround.{FlatGround}
use Rattle.ground_instances.specs.GroundView.{base_of, kinds_of, instances_of, IsGround}
use Rattle.propnet.specs.declared.net.Net.{Net}
use Rattle.propnet.specs.Nets as nets
use Rattle.propnet.specs.Building.{names_of}
use Rattle.propnet.specs.Builders.{input_counts, IsNetOf}
use Rattle.propnet.proofs.ViewLaw.{at_among, number_at, head_listed, has_gate_moving}
use Rattle.propnet.proofs.Ready.{gated_moving}
use Rattle.propnet.proofs.Regrouping.{map_twice, map_flat, flat_same, in_three, one_more}

and_false : (b : Bool) → (b && false) ≡ false
and_false true = refl
and_false false = refl

-- Lists of atoms by number.

picked : (p : Atom → Bool) (q : ℕ → Bool) (f : Atom → NetNode) (g : ℕ → NetNode) (xs : List Atom) (s : ℕ)
    → ((i : ℕ) → i < length xs → q (s + i) ≡ p (atom_at xs i)) → ((i : ℕ) → i < length xs → g (s + i) ≡ f (atom_at xs i))
    → flat_map (λ a. cond (q a) (g a ∷ []) []) (range_with_len s (length xs)) ≡ map f (filter p xs)
picked p q f g [] s same are = refl
picked p q f g (x ∷ xs) s same are =
    go (q s) (p x) (g s) (ap q (omega arith) ∙ same 0 (omega arith)) (ap g (omega arith) ∙ are 0 (omega arith))
    (picked p q f g xs (s + 1) (λ i l. ap q (omega arith) ∙ same (suc i) (omega arith)) (λ i l. ap g (omega arith) ∙ are (suc i) (omega arith)))
  where
    go : (b c : Bool) (y : NetNode) → b ≡ c → y ≡ f x
        → flat_map (λ a. cond (q a) (g a ∷ []) []) (range_with_len (s + 1) (length xs)) ≡ map f (filter p xs)
        → cond b (y ∷ []) [] ++ flat_map (λ a. cond (q a) (g a ∷ []) []) (range_with_len (s + 1) (length xs))
        ≡ map f (cond c (x ∷ filter p xs) (filter p xs))
    go true true y e d rest = cc
    go true false y e d rest = absurd cc
    go false true y e d rest = absurd cc
    go false false y e d rest = rest

-- an atom of the list has a number where it is the atom there
numbered_so : (xs : List Atom) → AreDistinct xs → (a : ℕ) → a < length xs → (y : Atom) → IsAmong y xs
    → (number_of y xs == a) ≡ atom_eq (atom_at xs a) y
numbered_so xs d a l y among = go (atom_eq (atom_at xs a) y) refl
  where
    go : (b : Bool) → atom_eq (atom_at xs a) y ≡ b → (number_of y xs == a) ≡ b
    go true e =
        let s : atom_at xs a ≡ y = (atom_test (atom_at xs a) y).0 e in
        eq-eqb (number_of y xs) a (ap (λ (z : Atom). number_of z xs) (sym s) ∙ number_at xs d a l)
    go false e =
        ne_eqb (number_of y xs) a
        (λ h. let s : atom_at xs a ≡ y = ap (atom_at xs) (sym h) ∙ atom_found y xs among in
        let t = (atom_test (atom_at xs a) y).1 s in absurd cc)

module _ (rules : List Alternative) where
  abbrev atoms : List Atom
  atoms = (listing rules).atoms

  abbrev kinds : List Kind
  kinds = map (kind_of rules) atoms

  -- the head may change from state to state
  abbrev moves : Instance → Bool
  moves i = not (is_fixed rules (relation_of i.head))

  -- what is told of an instance: its head is an atom, and it has an and gate where its head may change
  pub record IsKnown (i : Instance) : Type 0 where
    pub head : IsAmong i.head atoms
    pub gate : has_gate kinds (numbered rules i) ≡ moves i

  -- And gates.

  abbrev places : (ℕ → NetNode) → ℕ → List Instance → List NetNode
  places g n [] = []
  places g n (i ∷ is) = cond (has_gate kinds (numbered rules i)) (g n ∷ places g (suc n) is) (places g (suc n) is)

  map_cond : (g : ℕ → NetNode) (b : Bool) (n : ℕ) (ns : List ℕ) → map g (cond b (n ∷ ns) ns) ≡ cond b (g n ∷ map g ns) (map g ns)
  map_cond g true n ns = refl
  map_cond g false n ns = refl

  grouped : (g : ℕ → NetNode) (m n : ℕ) (is : List Instance) → ((i : Instance) → IsAmong i is → number_of i.head atoms < m)
      → IsPermutation (places g n is) (flat_map (λ a. map g (gates_from n kinds (map (numbered rules) is) a)) (range_with_len 0 m))
  grouped g m n [] below = subst (λ l. IsPermutation [] l) (sym (none (range_with_len 0 m))) (IsPermutation-refl [])
    where
      none : (ns : List ℕ) → flat_map {A = NetNode} (λ a. []) ns ≡ []
      none [] = refl
      none (n ∷ ns) = none ns
  grouped g m n (i ∷ is) below =
      let gate = has_gate kinds (numbered rules i) in
      let rest : ℕ → List NetNode = λ a. map g (gates_from (suc n) kinds (map (numbered rules) is) a) in
      let later : IsPermutation (places g (suc n) is) (flat_map rest (range_with_len 0 m)) =
      grouped g m (suc n) is (λ j h. below j (inr h)) in
      let one = one_more (g n) gate (number_of i.head atoms) rest m (below i (inl refl)) in
      let each : flat_map (λ a. map g (gates_from n kinds (map (numbered rules) (i ∷ is)) a)) (range_with_len 0 m)
      ≡ flat_map (λ a. cond (gate && (number_of i.head atoms == a)) (g n ∷ rest a) (rest a)) (range_with_len 0 m) =
      flat_same _ _ 0 m (λ a l k. map_cond g (gate && (number_of i.head atoms == a)) n (gates_from (suc n) kinds (map (numbered rules) is) a)) in
      subst (λ l. IsPermutation (places g n (i ∷ is)) l) (sym each)
      (IsPermutation-trans _ _ _ (front gate (g n) (places g (suc n) is) (flat_map rest (range_with_len 0 m)) later) one)
    where
      front : (b : Bool) (x : NetNode) (xs ys : List NetNode) → IsPermutation xs ys → IsPermutation (cond b (x ∷ xs) xs) (cond b (x ∷ ys) ys)
      front true x xs ys h = IsPermutation-cons x xs ys h
      front false x xs ys h = h

  placed : (g : ℕ → NetNode) (n : ℕ) (is : List Instance) → ((i : Instance) → IsAmong i is → IsKnown i)
      → ((j : ℕ) → j < length is → g (n + j) ≡ conjunction (slice_index_or is j no_instance))
      → places g n is ≡ map conjunction (other_part rules is)
  placed g n [] known at = refl
  placed g n (i ∷ is) known at =
      go (has_gate kinds (numbered rules i)) (moves i) (known i (inl refl)).gate (g n) (ap g (omega arith) ∙ at 0 (omega arith))
      (placed g (suc n) is (λ j h. known j (inr h)) (λ j l. ap g (omega arith) ∙ at (suc j) (omega arith)))
    where
      go : (b c : Bool) → b ≡ c → (x : NetNode) → x ≡ conjunction i → places g (suc n) is ≡ map conjunction (other_part rules is)
          → cond b (x ∷ places g (suc n) is) (places g (suc n) is) ≡ map conjunction (cond c (i ∷ other_part rules is) (other_part rules is))
      go true true e x s rest = cc
      go true false e x s rest = absurd cc
      go false true e x s rest = absurd cc
      go false false e x s rest = rest

  -- Views.

  seen : (a n : ℕ) → a < length atoms → (is : List Instance) → ((i : Instance) → IsAmong i is → IsKnown i)
      → not (length (gates_from n kinds (map (numbered rules) is) a) == 0) ≡ is_atom_in (atom_at atoms a) (heads (other_part rules is))
  seen a n l [] known = refl
  seen a n l (i ∷ is) known =
      go (has_gate kinds (numbered rules i)) (moves i) (known i (inl refl)).gate (number_of i.head atoms == a)
      (atom_eq (atom_at atoms a) i.head) refl
      (numbered_so atoms (one_number rules) a l i.head (known i (inl refl)).head) (seen a (suc n) l is (λ j h. known j (inr h)))
    where
      go : (b c : Bool) → b ≡ c → (d e : Bool) → atom_eq (atom_at atoms a) i.head ≡ e → d ≡ e
          → not (length (gates_from (suc n) kinds (map (numbered rules) is) a) == 0) ≡ is_atom_in (atom_at atoms a) (heads (other_part rules is))
          → not (length (cond (b && d) (n ∷ gates_from (suc n) kinds (map (numbered rules) is) a) (gates_from (suc n) kinds (map (numbered rules) is) a)) == 0)
          ≡ is_atom_in (atom_at atoms a) (heads (cond c (i ∷ other_part rules is) (other_part rules is)))
      go true true s true true f t rest =
          ap not (ne_eqb (suc (length (gates_from (suc n) kinds (map (numbered rules) is) a))) 0 (λ z. absurd (omega arith)))
          ∙ sym (ap (λ (b : Bool). b || is_atom_in (atom_at atoms a) (heads (other_part rules is))) f)
      go true true s false false f t rest = rest ∙ sym (ap (λ (b : Bool). b || is_atom_in (atom_at atoms a) (heads (other_part rules is))) f)
      go true true s true false f t rest = absurd cc
      go true true s false true f t rest = absurd cc
      go false false s d e f t rest = rest
      go true false s d e f t rest = absurd cc
      go false true s d e f t rest = absurd cc

  -- Not gates.

  module _ (a : ℕ) (l : a < length atoms) where
    abbrev atom : Atom
    atom = atom_at atoms a

    abbrev reads : ℕ × Bool → Bool
    reads r = r.1 && (r.0 == a)

    negated_in_body : (ls : List Literal)
        → list_any reads (map (reading atoms) (filter (is_read rules atoms) ls))
        ≡ (not (is_fixed rules (relation_of atom)) && list_any (is_negative_of atom) ls)
    negated_in_body [] = sym (and_false (not (is_fixed rules (relation_of atom))))
    negated_in_body (positive y ∷ ls) = go (is_read rules atoms (positive y)) (negated_in_body ls)
      where
        go : (b : Bool) → list_any reads (map (reading atoms) (filter (is_read rules atoms) ls))
            ≡ (not (is_fixed rules (relation_of atom)) && list_any (is_negative_of atom) ls)
            → list_any reads (map (reading atoms) (cond b (positive y ∷ filter (is_read rules atoms) ls) (filter (is_read rules atoms) ls)))
            ≡ (not (is_fixed rules (relation_of atom)) && list_any (is_negative_of atom) ls)
        go true rest = rest
        go false rest = rest
    negated_in_body (negative y ∷ ls) =
        go (atom_eq atom y) refl (is_read rules atoms (negative y)) refl (not (is_fixed rules (relation_of atom))) refl (negated_in_body ls)
      where
        there : IsAmong atom atoms
        there = at_among atoms a l

        go : (e : Bool) → atom_eq atom y ≡ e → (r : Bool) → is_read rules atoms (negative y) ≡ r → (m : Bool) → not (is_fixed rules (relation_of atom)) ≡ m
            → list_any reads (map (reading atoms) (filter (is_read rules atoms) ls)) ≡ (m && list_any (is_negative_of atom) ls)
            → list_any reads (map (reading atoms) (cond r (negative y ∷ filter (is_read rules atoms) ls) (filter (is_read rules atoms) ls)))
            ≡ (m && (e || list_any (is_negative_of atom) ls))
        go true e r f m k rest = same_atom ((atom_test atom y).0 e) r f m k rest
          where
            same_atom : atom ≡ y → (r : Bool) → is_read rules atoms (negative y) ≡ r → (m : Bool) → not (is_fixed rules (relation_of atom)) ≡ m
                → list_any reads (map (reading atoms) (filter (is_read rules atoms) ls)) ≡ (m && list_any (is_negative_of atom) ls)
                → list_any reads (map (reading atoms) (cond r (negative y ∷ filter (is_read rules atoms) ls) (filter (is_read rules atoms) ls)))
                ≡ (m && true)
            same_atom s true f true k rest =
                ap (λ (b : Bool). b || list_any reads (map (reading atoms) (filter (is_read rules atoms) ls)))
                (eq-eqb (number_of y atoms) a (ap (λ (z : Atom). number_of z atoms) (sym s) ∙ number_at atoms (one_number rules) a l))
            same_atom s true f false k rest =
                let g = (both (not (is_fixed rules (relation_of y))) (is_atom_in y atoms) f).0 in
                let h = ap (λ (z : Atom). not (is_fixed rules (relation_of z))) s in
                absurd cc
            same_atom s false f true k rest =
                let g = true_and _ _ (ap (λ (z : Atom). not (is_fixed rules (relation_of z))) (sym s) ∙ k)
                (is_atom_in_yes y atoms (subst (λ (z : Atom). IsAmong z atoms) s there)) in
                absurd cc
            same_atom s false f false k rest = rest
        go false e false f m k rest = rest
        go false e true f m k rest =
            ap (λ (b : Bool). b || list_any reads (map (reading atoms) (filter (is_read rules atoms) ls))) (numbered_so atoms (one_number rules) a l y
            (is_atom_yes y atoms (both (not (is_fixed rules (relation_of y))) (is_atom_in y atoms) f).1) ∙ e) ∙ rest

    negated : (is : List Instance) → ((i : Instance) → IsAmong i is → IsKnown i)
        → is_negated kinds (map (numbered rules) is) a ≡ is_negated_in rules (other_part rules is) atom
    negated [] known = sym (and_false (not (is_fixed rules (relation_of atom))))
    negated (i ∷ is) known =
        go (has_gate kinds (numbered rules i)) (moves i) (known i (inl refl)).gate (list_any reads (gate rules i))
        (not (is_fixed rules (relation_of atom))) (negated_in_body i.body) (negated is (λ j h. known j (inr h)))
      where
        go : (b c : Bool) → b ≡ c → (d m : Bool) → d ≡ (m && list_any (is_negative_of atom) i.body)
            → is_negated kinds (map (numbered rules) is) a
            ≡ (m && list_any (λ (j : Instance). list_any (is_negative_of atom) j.body) (other_part rules is))
            → ((b && d) || is_negated kinds (map (numbered rules) is) a)
            ≡ (m && list_any (λ (j : Instance). list_any (is_negative_of atom) j.body) (cond c (i ∷ other_part rules is) (other_part rules is)))
        go true true s d true t rest = cc
        go true true s d false t rest = cc
        go false false s d m t rest = rest
        go true false s d m t rest = absurd cc
        go false true s d m t rest = absurd cc

  -- Base propositions and inputs.

  abbrev bases : ℕ
  bases = length (base_list rules)

  abbrev counts : List ℕ
  counts = map (λ r. length (input_list rules r)) (role_list rules)

  bases_meant : map (meant rules) (base_names bases) ≡ map base (base_list rules)
  bases_meant =
      map_twice (meant rules) Base (range_with_len 0 bases)
      ∙ sym (fill_by_all (λ p. base (nth_tree (base_list rules) p)) (map base (base_list rules)) bases (base (list no_trees))
      (length-map (base_list rules) base) (λ p l. get_or-map base (base_list rules) p (list no_trees) (base (list no_trees)) l))

  transitions_meant : map (meant rules) (map Transition (range_with_len 0 bases)) ≡ map transition (base_list rules)
  transitions_meant =
      map_twice (meant rules) Transition (range_with_len 0 bases)
      ∙ sym (fill_by_all (λ p. transition (nth_tree (base_list rules) p)) (map transition (base_list rules)) bases (transition (list no_trees))
      (length-map (base_list rules) transition)
      (λ p l. get_or-map transition (base_list rules) p (list no_trees) (transition (list no_trees)) l))

  role_meant : (r : ℕ) (q : Tree) → nth_tree (role_list rules) r ≡ q
      → map (meant rules) (role_names r (length (input_list rules q))) ≡ map (λ m. input q m) (input_list rules q)
  role_meant r q e =
      map_twice (meant rules) (Input r) (range_with_len 0 (length (input_list rules q)))
      ∙ ap (λ (t : Tree). map (λ m. input t (nth_tree (input_list rules t) m)) (range_with_len 0 (length (input_list rules q)))) e
      ∙ sym (fill_by_all (λ m. input q (nth_tree (input_list rules q) m)) (map (λ m. input q m) (input_list rules q)) (length (input_list rules q))
      (input q (list no_trees))
      (length-map (input_list rules q) (λ m. input q m))
      (λ m l. get_or-map (λ t. input q t) (input_list rules q) m (list no_trees) (input q (list no_trees)) l))

  inputs_meant : (rs : List Tree) (r : ℕ) → ((k : ℕ) → k < length rs → nth_tree (role_list rules) (r + k) ≡ nth_tree rs k)
      → map (meant rules) (input_names r (map (λ q. length (input_list rules q)) rs)) ≡ flat_map (λ q. map (λ m. input q m) (input_list rules q)) rs
  inputs_meant [] r at = refl
  inputs_meant (q ∷ rs) r at =
      let here = role_meant r q (ap (nth_tree (role_list rules)) (omega arith) ∙ at 0 (omega arith)) in
      let rest = inputs_meant rs (suc r) (λ k l. ap (nth_tree (role_list rules)) (omega arith) ∙ at (suc k) (omega arith)) in
      map-append (meant rules) (role_names r (length (input_list rules q))) (input_names (suc r) (map (λ p. length (input_list rules p)) rs))
      ∙ ap (λ l. l ++ map (meant rules) (input_names (suc r) (map (λ p. length (input_list rules p)) rs))) here
      ∙ ap (λ l. map (λ m. input q m) (input_list rules q) ++ l) rest

  -- All of them.

  abbrev gate_meant : ℕ → NetNode
  gate_meant i = conjunction (slice_index_or (listing rules).kept i no_instance)

  abbrev kept : List Kept
  kept = map (numbered rules) (listing rules).kept

  abbrev gates_meant : ℕ → List NetNode
  gates_meant a = map gate_meant (gates_of_atom kinds kept a)

  abbrev view_meant : ℕ → List NetNode
  view_meant a = cond (has_view kinds kept a) (view (atom_at atoms a) ∷ []) []

  abbrev not_meant : ℕ → List NetNode
  not_meant a = cond (is_negated kinds kept a) (negation (atom_at atoms a) ∷ []) []

  map_one : (x : Name) (b : Bool) → map (meant rules) (cond b (x ∷ []) []) ≡ cond b (meant rules x ∷ []) []
  map_one x true = refl
  map_one x false = refl

  atom_meant : (a : ℕ) → map (meant rules) (atom_names kinds kept a) ≡ gates_meant a ++ (view_meant a ++ not_meant a)
  atom_meant a =
      map-append (meant rules) (map And (gates_of_atom kinds kept a)) (cond (has_view kinds kept a) (View a ∷ []) []
      ++ cond (is_negated kinds kept a) (Not a ∷ []) [])
      ∙ ap (λ l. l ++ map (meant rules) (cond (has_view kinds kept a) (View a ∷ []) [] ++ cond (is_negated kinds kept a) (Not a ∷ []) []))
      (map_twice (meant rules) And (gates_of_atom kinds kept a))
      ∙ ap (λ l. gates_meant a ++ l)
      (map-append (meant rules) (cond (has_view kinds kept a) (View a ∷ []) []) (cond (is_negated kinds kept a) (Not a ∷ []) [])
      ∙ ap (λ l. l ++ map (meant rules) (cond (is_negated kinds kept a) (Not a ∷ []) [])) (map_one (View a) (has_view kinds kept a))
      ∙ ap (λ l. view_meant a ++ l) (map_one (Not a) (is_negated kinds kept a)))

  module _ (known : (i : Instance) → IsAmong i (listing rules).kept → IsKnown i) where
    atoms_meant : IsPermutation (map conjunction (gated rules)
        ++ (map view (filter (λ x. is_atom_in x (heads (gated rules))) atoms) ++ map negation (filter (is_negated_in rules (gated rules)) atoms)))
        (map (meant rules) (flat_map (atom_names kinds kept) (range_with_len 0 (length atoms))))
    atoms_meant =
        let count = length atoms in
        let whole : map (meant rules) (flat_map (atom_names kinds kept) (range_with_len 0 count))
        ≡ flat_map (λ a. gates_meant a ++ (view_meant a ++ not_meant a)) (range_with_len 0 count) =
        map_flat (meant rules) (atom_names kinds kept) (range_with_len 0 count) ∙ flat_same _ _ 0 count (λ a l m. atom_meant a) in
        let views : flat_map view_meant (range_with_len 0 count) ≡ map view (filter (λ x. is_atom_in x (heads (gated rules))) atoms) =
        picked (λ x. is_atom_in x (heads (gated rules))) (has_view kinds kept) view (λ a. view (atom_at atoms a)) atoms 0
        (λ a l. ap (has_view kinds kept) (omega arith) ∙ seen a 0 l (listing rules).kept known)
        (λ a l. ap (λ (n : ℕ). view (atom_at atoms n)) (omega arith)) in
        let nots : flat_map not_meant (range_with_len 0 count) ≡ map negation (filter (is_negated_in rules (gated rules)) atoms) =
        picked (is_negated_in rules (gated rules)) (is_negated kinds kept) negation (λ a. negation (atom_at atoms a)) atoms 0
        (λ a l. ap (is_negated kinds kept) (omega arith) ∙ negated a l (listing rules).kept known)
        (λ a l. ap (λ (n : ℕ). negation (atom_at atoms n)) (omega arith)) in
        let gates : IsPermutation (map conjunction (gated rules)) (flat_map gates_meant (range_with_len 0 count)) =
        subst (λ l. IsPermutation l (flat_map gates_meant (range_with_len 0 count)))
        (placed gate_meant 0 (listing rules).kept known (λ j l. ap gate_meant (omega arith)))
        (grouped gate_meant count 0 (listing rules).kept (λ i a. place_below atom_eq atom_test i.head atoms (known i a).head)) in
        subst (λ l. IsPermutation (map conjunction (gated rules)
        ++ (map view (filter (λ x. is_atom_in x (heads (gated rules))) atoms) ++ map negation (filter (is_negated_in rules (gated rules)) atoms))) l)
        (sym whole)
        (subst (λ l. IsPermutation (map conjunction (gated rules)
        ++ (l ++ map negation (filter (is_negated_in rules (gated rules)) atoms)))
        (flat_map (λ a. gates_meant a ++ (view_meant a ++ not_meant a)) (range_with_len 0 count))) views
        (subst (λ l. IsPermutation (map conjunction (gated rules) ++ (flat_map view_meant (range_with_len 0 count) ++ l))
        (flat_map (λ a. gates_meant a ++ (view_meant a ++ not_meant a)) (range_with_len 0 count))) nots
        (IsPermutation-trans _ _ _ (IsPermutation-append_left _ _ _ gates)
        (in_three gates_meant view_meant not_meant (range_with_len 0 count)))))

    pub nodes_meant : AreNodesOf rules (map (meant rules) (node_names bases counts kinds kept))
    nodes_meant =
        let front = base_names bases ++ input_names 0 counts in
        let middle = flat_map (atom_names kinds kept) (range_with_len 0 (length kinds)) in
        let last = map Transition (range_with_len 0 bases) in
        let names : List NetNode = map (meant rules) middle ++ map (meant rules) last in
        let many : length kinds ≡ length atoms = length-map atoms (kind_of rules) in
        let views = map view (filter (λ x. is_atom_in x (heads (gated rules))) atoms) in
        let nots = map negation (filter (is_negated_in rules (gated rules)) atoms) in
        let inner = views ++ nots in
        let parts : (map conjunction (gated rules) ++ inner) ++ map (meant rules) last ≡ inner_nodes rules =
        append_assoc (map conjunction (gated rules)) inner (map (meant rules) last)
        ∙ ap (λ l. map conjunction (gated rules) ++ l) (append_assoc views nots (map (meant rules) last)
        ∙ ap (λ l. views ++ (nots ++ l)) transitions_meant) in
        record {
          behind = names;
          all = map-append (meant rules) (front ++ middle) last
              ∙ ap (λ l. l ++ map (meant rules) last) (map-append (meant rules) front middle)
              ∙ append_assoc (map (meant rules) front) (map (meant rules) middle) (map (meant rules) last)
              ∙ ap (λ l. l ++ names) (map-append (meant rules) (base_names bases) (input_names 0 counts)
              ∙ ap (λ l. l ++ map (meant rules) (input_names 0 counts)) bases_meant
              ∙ ap (λ l. map base (base_list rules) ++ l) (inputs_meant (role_list rules) 0 (λ k l. ap (nth_tree (role_list rules)) (omega arith))));
          same = subst (λ l. IsPermutation l names) parts
              (IsPermutation-append_left (map (meant rules) last) _ _
              (subst (λ (n : ℕ). IsPermutation (map conjunction (gated rules) ++ inner) (map (meant rules) (flat_map (atom_names kinds kept) (range_with_len 0 n))))
              (sym many) atoms_meant));
        }

-- The same of the network of an instantiation.

counted : (rules : List Alternative) (rs : List Tree)
    → map (λ (ts : List (List ℕ)). length ts) (map (λ r. map text (input_list rules r)) rs) ≡ map (λ r. length (input_list rules r)) rs
counted rules [] = refl
counted rules (r ∷ rs) =
    let here : length (map text (input_list rules r)) ≡ length (input_list rules r) = length-map (input_list rules r) text in
    let rest = counted rules rs in
    cc

module _ (rules : List Alternative) (g : FlatGround) (is : IsGround rules g) where
  instance_known : (i : Instance) → IsAmong i (listing rules).kept → IsKnown rules i
  instance_known i a =
      record {
        head = head_listed rules is.well_formed i a;
        gate = go (is_fixed rules (relation_of i.head)) refl (has_gate (map (kind_of rules) (listing rules).atoms) (numbered rules i)) refl;
      }
    where
      go : (b : Bool) → is_fixed rules (relation_of i.head) ≡ b → (c : Bool) → has_gate (map (kind_of rules) (listing rules).atoms) (numbered rules i) ≡ c
          → c ≡ not b
      go true e true f = let h = gated_moving rules is.well_formed i a f in absurd cc
      go true e false f = refl
      go false e true f = refl
      go false e false f = let h = has_gate_moving rules is.well_formed i a e in absurd cc

  names_are : node_names (length (base_of g)) (input_counts g) (kinds_of g) (instances_of g)
      ≡ node_names (length (base_list rules)) (map (λ r. length (input_list rules r)) (role_list rules)) (map (kind_of rules) (listing rules).atoms)
      (map (numbered rules) (listing rules).kept)
  names_are =
      let inputs = map (λ r. length (input_list rules r)) (role_list rules) in
      let kinds = map (kind_of rules) (listing rules).atoms in
      ap (λ (n : ℕ). node_names n (input_counts g) (kinds_of g) (instances_of g))
      (ap (λ (ts : List (List ℕ)). length ts) is.base_are ∙ length-map (base_list rules) text)
      ∙ ap (λ (ns : List ℕ). node_names (length (base_list rules)) ns (kinds_of g) (instances_of g))
      (ap (λ (lists : List (List (List ℕ))). map (λ (ts : List (List ℕ)). length ts) lists) is.inputs_are ∙ counted rules (role_list rules))
      ∙ ap (λ (ks : List Kind). node_names (length (base_list rules)) inputs ks (instances_of g)) is.kinds_are
      ∙ ap (λ (ks : List Kept). node_names (length (base_list rules)) inputs kinds ks) is.kept_are

  pub nodes_law : (net : Net) → IsNetOf g net → AreNodesOf rules (map (meant rules) (names_of (nets.gates_of net)))
  nodes_law net of =
      subst (λ (xs : List Name). AreNodesOf rules (map (meant rules) xs)) (sym (of.names ∙ names_are)) (nodes_meant rules instance_known)
