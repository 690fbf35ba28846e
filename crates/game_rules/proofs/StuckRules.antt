-- A state of the game of an instantiation is stuck where the rules say so.
use Rattle.std.proofs.Common.{
  ℕ,
  zero,
  suc,
  ◌+◌,
  ◌<◌,
  Bool,
  true,
  false,
  ◌≡◌,
  ◌⊎◌,
  ◌↔◌,
  inl,
  inr,
  List,
  [],
  ◌∷◌,
  length,
  map,
  refl,
  sym,
  ap,
  subst,
  ◌∙◌,
  arith,
  eqb-true,
}
use Rattle.std.specs.Prelude.{◌==◌}
use Rattle.std.specs.List.{list_any, range_with_len}
use Rattle.std.proofs.lemmas.List.{length-map}
use Rattle.statement.specs.Tree.{Tree, text}
use Rattle.statement.specs.Clause.{Alternative}
use Rattle.statement.specs.Dependence.{IsAmong}
use Rattle.rules_profile.proofs.Facts.{or_cases}
use Rattle.ground_instances.specs.declared.flat_ground.FlatGround.{FlatGround}
use Rattle.statement.specs.Meaning.{IsLegal, IsEnded, IsStuck}
use Rattle.statement.specs.Listing.{role_list, input_list}
use Rattle.ground_instances.specs.GroundView.{inputs_of, IsGround}
use Rattle.meaning.proofs.Facts.{roles_exact}
use Rattle.statement.specs.Played.{nth_tree}
use Rattle.statement.specs.Rules.{is_stuck}
use Rattle.statement.specs.GameNumbers.{state_of, trees_at}
use Rattle.game_rules.specs.RuleState.{rules_of}
use Rattle.game.proofs.Facts.{list_any_range}
use Rattle.game_rules.proofs.Trees.{among_tree}
use Rattle.game_rules.proofs.GameRules.{ended_by_rules, legal_by_rules}

any_found : (p : ℕ → Bool) (a n : ℕ) → list_any p (range_with_len a n) ≡ true → (k : ℕ) × (k < a + n) × (p k ≡ true)
any_found p a zero e = absurd cc
any_found p a (suc n) e = go (or_cases (p a) (list_any p (range_with_len (a + 1) n)) e) (any_found p (a + 1) n)
  where
    go : (p a ≡ true) ⊎ (list_any p (range_with_len (a + 1) n) ≡ true)
        → (list_any p (range_with_len (a + 1) n) ≡ true → (k : ℕ) × (k < a + 1 + n) × (p k ≡ true)) → (k : ℕ) × (k < a + suc n) × (p k ≡ true)
    go (inl h) more = (a, omega arith, h)
    go (inr h) more = let r = more h in let lt = r.1 in (r.0, omega arith, r.2)

no_numbers : (xs : List ℕ) → (length xs == 0) ≡ true → xs ≡ []
no_numbers [] e = refl
no_numbers (x ∷ xs) e = let z = eqb-true (length (x ∷ xs)) 0 e in absurd (omega arith)

no_trees_at : (ts : List Tree) (ns : List ℕ) → ((m : Tree) → IsAmong m (trees_at ts ns) → ⊥) → (length ns == 0) ≡ true
no_trees_at ts [] h = refl
no_trees_at ts (n ∷ ns) h = absurd (h (nth_tree ts n) (inl refl))

place_of_tree : (t : Tree) (ts : List Tree) → IsAmong t ts → (k : ℕ) × (k < length ts) × (nth_tree ts k ≡ t)
place_of_tree t [] a = absurd a
place_of_tree t (u ∷ us) a = go a (place_of_tree t us)
  where
    go : (t ≡ u) ⊎ IsAmong t us → (IsAmong t us → (k : ℕ) × (k < length us) × (nth_tree us k ≡ t)) → (k : ℕ) × (k < suc (length us))
        × (nth_tree (u ∷ us) k ≡ t)
    go (inl e) more = (zero, omega arith, sym e)
    go (inr h) more = let r = more h in let lt = r.1 in (suc r.0, omega arith, r.2)

module _ (rules : List Alternative) (g : FlatGround) (is : IsGround rules g) (s : List ℕ) where
  many : length (inputs_of g) ≡ length (role_list rules)
  many = ap length is.inputs_are ∙ length-map (role_list rules) (λ (q : Tree). map text (input_list rules q))

  there : ((rules_of g).ended s ≡ false) × (is_stuck (rules_of g) s ≡ true) → IsStuck rules (state_of rules s)
  there p =
      let r = any_found (λ q. length ((rules_of g).legal s q) == 0) 0 (length (inputs_of g)) p.1 in
      let q = r.0 in
      let lt = r.1 in
      let size = many in
      let inside : q < length (role_list rules) = omega arith in
      let none = no_numbers ((rules_of g).legal s q) r.2 in (
        (λ h. let e = (ended_by_rules rules g is s).1 h in let f = p.0 in absurd cc),
        (
          nth_tree (role_list rules) q,
          (roles_exact rules is.well_formed (nth_tree (role_list rules) q)).0 (among_tree (role_list rules) q inside),
          (λ m h. subst (λ (ns : List ℕ). IsAmong m (trees_at (input_list rules (nth_tree (role_list rules) q)) ns)) none
              (((legal_by_rules rules g is s q inside).members m).1 h)),
        ),
      )

  still_open : (b : Bool) → (rules_of g).ended s ≡ b → (IsEnded rules (state_of rules s) → ⊥) → b ≡ false
  still_open true e k = absurd (k ((ended_by_rules rules g is s).0 e))
  still_open false e k = refl

  back : IsStuck rules (state_of rules s) → ((rules_of g).ended s ≡ false) × (is_stuck (rules_of g) s ≡ true)
  back h =
      let r = h.1 in
      let at = place_of_tree r.0 (role_list rules) ((roles_exact rules is.well_formed r.0).1 r.1) in
      let q = at.0 in
      let inside = at.1 in
      let size = many in
      let role = nth_tree (role_list rules) q in
      let none = no_trees_at (input_list rules role) ((rules_of g).legal s q)
      (λ m a. r.2 m (subst (λ (t : Tree). IsLegal rules (state_of rules s) t m) at.2 (((legal_by_rules rules g is s q inside).members m).0 a))) in (
        still_open ((rules_of g).ended s) refl h.0,
        list_any_range (λ k. length ((rules_of g).legal s k) == 0) 0 (length (inputs_of g)) q (omega arith)
            (omega arith) none,
      )

  pub stuck_by_rules : (((rules_of g).ended s ≡ false) × (is_stuck (rules_of g) s ≡ true)) ↔ IsStuck rules (state_of rules s)
  stuck_by_rules = (there, back)
