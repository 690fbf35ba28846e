-- The state after a turn of the game of an instantiation is that of the rules.
use Rattle.std.proofs.Common.{
  ℕ,
  zero,
  suc,
  ◌+◌,
  ◌<◌,
  Bool,
  true,
  false,
  cond,
  ◌≡◌,
  ◌↔◌,
  List,
  [],
  ◌∷◌,
  length,
  map,
  refl,
  sym,
  ap,
  subst,
  ◌∙◌,
  arith,
  Option,
  Some,
  None,
  eqb-true,
  eq-eqb,
  lt-ltb,
}
use Rattle.std.specs.Prelude.{IsTrue, nat_lt, slice_index, ◌==◌}
use Rattle.std.specs.Option.{option_map}
use Rattle.statement.specs.Tree.{Tree, tree_eq}
use Rattle.kif.proofs.Facts.{both, true_and}
use Rattle.statement.specs.Words.{w_next}
use Rattle.statement.specs.Clause.{Atom, Alternative, relation_of}
use Rattle.statement.specs.Dependence.{IsAmong}
use Rattle.rules_profile.proofs.Facts.{fixed_tested}
use Rattle.statement.specs.declared.kind.Kind.{Kind}
use Rattle.statement.specs.declared.kind.Kind.TheVariants.{Fixed, Now, Does, Next, Legal, Goal, Terminal, Other}
use Rattle.statement.specs.Meaning.{Source, now, does, distinct, ordinary, source_of, RightAs, Holds, IsRole, IsInput, IsWithinInput, atom1}
use Rattle.statement.specs.Listing.{listing, is_atom_in, role_list, base_list, input_list}
use Rattle.meaning.specs.Listed.{IsWellFormed}
use Rattle.meaning.specs.Evaluation.{holding, after_list}
use Rattle.statement.specs.Kinds.{place_in, kind_of}
use Rattle.statement.specs.Kept.{numbered}
use Rattle.statement.specs.GoalsAndMoves.{AreAfter}
use Rattle.meaning.proofs.Facts.{kind_sound, kind_complete, bases_in_order, inputs_in_order, holding_exact, after_listed, roles_exact, inputs_exact, distinct_fixed, is_atom_yes, is_atom_in_yes, now_is, does_is}
use Rattle.game_rules.specs.declared.naming.Naming.TheVariants.{ByNext}
use Rattle.statement.specs.Played.{nth_tree}
use Rattle.statement.specs.Rules.{Turn}
use Rattle.game_rules.specs.RulePlay.{is_given, holds, names, is_named, named_below}
use Rattle.game_rules.specs.RuleMeaning.{Agree}
use Rattle.statement.specs.GameNumbers.{stands_at, state_of, chosen_at, joint_of, trees_at}
use Rattle.game_rules.proofs.Trees.{trees_picked, picked_filter, placed, place_at, among_tree}
use Rattle.game_rules.proofs.ByRules.{place_among, kind_holds, within_base}
use Rattle.game_rules.proofs.LegalRules.{same_answer, in_order_once}

pub place_within : (t : Tree) (ts : List Tree) (n : ℕ) → place_in t ts ≡ Some n → n < length ts
place_within t [] n e = absurd cc
place_within t (u ∷ us) n e = go (tree_eq t u) (place_in t us) refl e (λ m k. place_within t us m k)
  where
    go : (b : Bool) (o : Option ℕ) → place_in t us ≡ o → cond b (Some zero) (option_map suc o) ≡ Some n
        → ((m : ℕ) → place_in t us ≡ Some m → m < length us) → n < suc (length us)
    go true o k f more = let z : zero ≡ n = cc in omega arith
    go false None k f more = absurd cc
    go false (Some m) k f more = let z : suc m ≡ n = cc in let l = more m k in omega arith

next_only : (k : ℕ) (c : Kind) → names ByNext c k ≡ true → c ≡ Next k
next_only k Fixed e = absurd cc
next_only k (Now p) e = absurd cc
next_only k (Does q m) e = absurd cc
next_only k (Next p) e = let x = eqb-true p k e in ap Next x
next_only k (Legal q m) e = absurd cc
next_only k (Goal q v) e = absurd cc
next_only k Terminal e = absurd cc
next_only k Other e = absurd cc

module _ (rules : List Alternative) (w : IsWellFormed rules) (s : List ℕ) (j : Turn) (many : length j ≡ length (role_list rules))
    (below : (q : ℕ) → q < length (role_list rules) → slice_index j q < length (input_list rules (nth_tree (role_list rules) q))) where
  -- the number that a role moves is one of its inputs
  move_within : (r : Tree) (q : ℕ) → place_in r (role_list rules) ≡ Some q → slice_index j q < length (input_list rules r)
  move_within r q e =
      subst (λ (t : Tree). slice_index j q < length (input_list rules t)) (placed r (role_list rules) q e)
      (below q (place_within r (role_list rules) q e))

  is_role : (r : Tree) (q : ℕ) → place_in r (role_list rules) ≡ Some q → IsRole rules r
  is_role r q e = (roles_exact rules w r).0 (place_among r (role_list rules) q e)

  pub within_input : IsWithinInput rules (joint_of rules j)
  within_input r m e = go (place_in r (role_list rules)) refl e
    where
      go : (o : Option ℕ) → place_in r (role_list rules) ≡ o → chosen_at (input_list rules r) j o ≡ Some m → IsInput rules r m
      go None f k = absurd cc
      go (Some q) f k =
          let same : nth_tree (input_list rules r) (slice_index j q) ≡ m = cc in
          (inputs_exact rules w r m (is_role r q f)).0
          (subst (λ (t : Tree). IsAmong t (input_list rules r)) same (among_tree (input_list rules r) (slice_index j q) (move_within r q f)))

  pub agree_move : Agree rules (state_of rules s) (joint_of rules j) s j
  agree_move x listed moving = (there (kind_of rules x) refl, back (source_of x) refl)
    where
      there : (k : Kind) → kind_of rules x ≡ k → is_given s j k ≡ true → RightAs (state_of rules s) (joint_of rules j) ⊥ (source_of x)
      there Fixed h e = absurd cc
      there (Now n) h e =
          let m = kind_sound rules w.acyclic x (Now n) h (λ f. absurd cc) in
          subst (λ (y : Atom). RightAs (state_of rules s) (joint_of rules j) ⊥ (source_of y)) (sym m.1) (ap (stands_at s) m.2 ∙ e)
      there (Does q n) h e =
          let m = kind_sound rules w.acyclic x (Does q n) h (λ f. absurd cc) in
          let b = both (nat_lt q (length j)) (slice_index j q == n) e in
          subst (λ (y : Atom). RightAs (state_of rules s) (joint_of rules j) ⊥ (source_of y)) (sym m.2)
          (ap (chosen_at (input_list rules m.0) j) m.3
          ∙ ap (λ (i : ℕ). Some (nth_tree (input_list rules m.0) i)) (eqb-true (slice_index j q) n b.1)
          ∙ ap Some (placed m.1 (input_list rules m.0) n m.4))
      there (Next p) h e = absurd cc
      there (Legal r m) h e = absurd cc
      there (Goal r v) h e = absurd cc
      there Terminal h e = absurd cc
      there Other h e = absurd cc

      back : (from : Source) → source_of x ≡ from → RightAs (state_of rules s) (joint_of rules j) ⊥ from → is_given s j (kind_of rules x) ≡ true
      back (now p) e h = go (place_in p (base_list rules)) refl h
        where
          go : (o : Option ℕ) → place_in p (base_list rules) ≡ o → IsTrue (stands_at s o) → is_given s j (kind_of rules x) ≡ true
          go None f k = absurd cc
          go (Some n) f k = ap (is_given s j) (kind_complete rules w.acyclic x (Now n) (p, now_is x p e, f)) ∙ k
      back (does r m) e h = go (place_in r (role_list rules)) refl h
        where
          go : (o : Option ℕ) → place_in r (role_list rules) ≡ o → chosen_at (input_list rules r) j o ≡ Some m → is_given s j (kind_of rules x) ≡ true
          go None f k = absurd cc
          go (Some q) f k =
              let same : nth_tree (input_list rules r) (slice_index j q) ≡ m = cc in
              let once = in_order_once (input_list rules r) (inputs_in_order rules w r (is_role r q f)) in
              let place = subst (λ (t : Tree). place_in t (input_list rules r) ≡ Some (slice_index j q)) same
              (place_at (input_list rules r) once (slice_index j q) (move_within r q f)) in
              let in_turn = place_within r (role_list rules) q f in
              ap (is_given s j) (kind_complete rules w.acyclic x (Does q (slice_index j q)) (r, m, does_is x r m e, f, place))
              ∙ true_and _ _ (lt-ltb q (length j) (omega arith)) (eq-eqb (slice_index j q) (slice_index j q) refl)
      back (distinct t u) e h = let f = (fixed_tested rules w.acyclic (relation_of x)).1 (distinct_fixed rules w x t u e) in absurd cc
      back ordinary e h = absurd h

  pub next_holds : (k : ℕ) → k < length (base_list rules)
      → (is_named (map (kind_of rules) (listing rules).atoms)
      (holds (map (kind_of rules) (listing rules).atoms) (map (numbered rules) (listing rules).kept) s j) ByNext k ≡ true)
      ↔ Holds rules (state_of rules s) (joint_of rules j) (atom1 w_next (nth_tree (base_list rules) k))
  next_holds k lt =
      kind_holds rules w (state_of rules s) (joint_of rules j) (within_base rules w s) within_input s j agree_move (λ c. names ByNext c k) (Next k)
      (atom1 w_next (nth_tree (base_list rules) k)) (next_only k) (eq-eqb k k refl) (λ e. absurd cc) (λ e. absurd cc)
      (nth_tree (base_list rules) k, refl, place_at (base_list rules) (in_order_once (base_list rules) (bases_in_order rules w)) k lt)
      (λ z m. m.1 ∙ ap (λ (t : Tree). atom1 w_next t) (sym (placed m.0 (base_list rules) k m.2))) refl

  after_same : trees_at (base_list rules) (named_below (map (kind_of rules) (listing rules).atoms)
      (holds (map (kind_of rules) (listing rules).atoms) (map (numbered rules) (listing rules).kept) s j) ByNext (length (base_list rules)))
      ≡ after_list rules (state_of rules s) (joint_of rules j)
  after_same =
      let f = is_named (map (kind_of rules) (listing rules).atoms)
      (holds (map (kind_of rules) (listing rules).atoms) (map (numbered rules) (listing rules).kept) s j) ByNext in
      trees_picked f (base_list rules)
      ∙ picked_filter f (λ p. is_atom_in (atom1 w_next p) (holding rules (state_of rules s) (joint_of rules j))) 0 (base_list rules)
      (λ k lt. let z : 0 + k ≡ k = omega arith in
      ap f z ∙ same_answer (f k) _ (Holds rules (state_of rules s) (joint_of rules j) (atom1 w_next (nth_tree (base_list rules) k)))
      (next_holds k lt) (found (nth_tree (base_list rules) k)))
    where
      found : (p : Tree) → (is_atom_in (atom1 w_next p) (holding rules (state_of rules s) (joint_of rules j)) ≡ true) ↔ Holds rules (state_of rules s)
          (joint_of rules j) (atom1 w_next p)
      found p =
          let x = atom1 w_next p in
          let h = holding_exact rules w (state_of rules s) (joint_of rules j) (within_base rules w s) within_input x in (
            (λ e. h.0 (is_atom_yes x (holding rules (state_of rules s) (joint_of rules j)) e)),
            (λ k. is_atom_in_yes x (holding rules (state_of rules s) (joint_of rules j)) (h.1 k)),
          )

  pub after_are : AreAfter rules (state_of rules s) (joint_of rules j)
      (trees_at (base_list rules) (named_below (map (kind_of rules) (listing rules).atoms)
      (holds (map (kind_of rules) (listing rules).atoms) (map (numbered rules) (listing rules).kept) s j) ByNext (length (base_list rules))))
  after_are =
      subst (λ (ps : List Tree). AreAfter rules (state_of rules s) (joint_of rules j) ps) (sym after_same)
      (after_listed rules w (state_of rules s) (joint_of rules j) (within_base rules w s) within_input)
