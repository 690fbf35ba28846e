-- The legal moves of the game of an instantiation are those of the rules.
use Rattle.std.proofs.Common.{
  ℕ,
  ◌+◌,
  ◌<◌,
  Bool,
  true,
  false,
  cond,
  ◌≡◌,
  ◌↔◌,
  List,
  length,
  map,
  refl,
  sym,
  ap,
  subst,
  ◌∙◌,
  arith,
  Some,
  None,
  eqb-true,
  eq-eqb,
}
use Rattle.std.specs.Prelude.{◌==◌}
use Rattle.std.specs.declared.cmp.Ordering.TheVariants.{Less}
use Rattle.statement.specs.Tree.{Tree, printed_cmp}
use Rattle.statement.specs.Words.{w_legal}
use Rattle.statement.specs.Clause.{Atom, Alternative}
use Rattle.statement.specs.declared.kind.Kind.{Kind}
use Rattle.statement.specs.declared.kind.Kind.TheVariants.{Fixed, Now, Does, Next, Legal, Goal, Terminal, Other}
use Rattle.statement.specs.Meaning.{Holds, nobody, atom2, IsRole}
use Rattle.meaning.specs.InOrder.{AreDistinct}
use Rattle.statement.specs.Listing.{listing, is_atom_in, role_list, input_list}
use Rattle.meaning.specs.Listed.{IsWellFormed}
use Rattle.meaning.specs.Evaluation.{holding, legal_list}
use Rattle.statement.specs.Kinds.{kind_of}
use Rattle.meaning.specs.Kinds.{MeansKind}
use Rattle.statement.specs.Kept.{numbered}
use Rattle.statement.specs.GoalsAndMoves.{AreInPrintedOrder, AreLegal}
use Rattle.meaning.proofs.Facts.{roles_once, inputs_in_order, holding_exact, legal_listed, roles_exact, is_atom_yes, is_atom_in_yes, order_other, printed_never}
use Rattle.game_rules.specs.declared.naming.Naming.TheVariants.{ByLegal}
use Rattle.statement.specs.Played.{nth_tree}
use Rattle.game_rules.specs.RulePlay.{no_turn, holds, names, is_number, is_named, named_below}
use Rattle.statement.specs.GameNumbers.{state_of, trees_at}
use Rattle.game_rules.proofs.Trees.{trees_picked, picked_filter, placed, place_at, among_tree}
use Rattle.game_rules.proofs.ByRules.{kind_holds, within_base, no_move, agree_now}

pub same_answer : (a b : Bool) (X : Type 0) → (a ≡ true) ↔ X → (b ≡ true) ↔ X → a ≡ b
same_answer true b X h k = sym (k.1 (h.0 refl))
same_answer false true X h k = h.1 (k.0 refl)
same_answer false false X h k = refl

pub in_order_once : (ts : List Tree) → AreInPrintedOrder ts → AreDistinct ts
in_order_once ts h =
    order_other (λ (t u : Tree). printed_cmp t u ≡ Less) (λ (t u : Tree). t ≡ u → ⊥) ts
    (λ t u a b l e. printed_never t (subst (λ (v : Tree). printed_cmp t v ≡ Less) (sym e) l)) h

pub legal_only : (r k : ℕ) (c : Kind) → names (ByLegal r) c k ≡ true → c ≡ Legal r k
legal_only r k Fixed e = absurd cc
legal_only r k (Now p) e = absurd cc
legal_only r k (Does q m) e = absurd cc
legal_only r k (Next p) e = absurd cc
legal_only r k (Legal q m) e = go (q == r) refl e
  where
    go : (b : Bool) → (q == r) ≡ b → is_number (cond b (Some m) None) k ≡ true → Legal q m ≡ Legal r k
    go true h f = let x = eqb-true q r h in let y = eqb-true m k f in ap (λ (i : ℕ). Legal i m) x ∙ ap (Legal r) y
    go false h f = absurd cc
legal_only r k (Goal q v) e = absurd cc
legal_only r k Terminal e = absurd cc
legal_only r k Other e = absurd cc

legal_is : (r k : ℕ) → names (ByLegal r) (Legal r k) k ≡ true
legal_is r k = let h = eq-eqb r r refl in let f = eq-eqb k k refl in rw h f

module _ (rules : List Alternative) (w : IsWellFormed rules) (s : List ℕ) (r : ℕ) (inside : r < length (role_list rules)) where
  abbrev role : Tree
  role = nth_tree (role_list rules) r

  is_role : IsRole rules role
  is_role = (roles_exact rules w role).0 (among_tree (role_list rules) r inside)

  legal_holds : (k : ℕ) → k < length (input_list rules role)
      → (is_named (map (kind_of rules) (listing rules).atoms)
      (holds (map (kind_of rules) (listing rules).atoms) (map (numbered rules) (listing rules).kept) s no_turn) (ByLegal r) k ≡ true)
      ↔ Holds rules (state_of rules s) nobody (atom2 w_legal role (nth_tree (input_list rules role) k))
  legal_holds k lt =
      kind_holds rules w (state_of rules s) nobody (within_base rules w s) (no_move rules w s) s no_turn (agree_now rules w s)
      (λ c. names (ByLegal r) c k) (Legal r k)
      (atom2 w_legal role (nth_tree (input_list rules role) k)) (legal_only r k) (legal_is r k) (λ e. absurd cc) (λ e. absurd cc) (
        role,
        nth_tree (input_list rules role) k,
        refl,
        place_at (role_list rules) (roles_once rules w) r inside,
        place_at (input_list rules role) (in_order_once (input_list rules role) (inputs_in_order rules w role is_role)) k lt,
      )
      once refl
    where
      once : (z : Atom) → MeansKind rules z (Legal r k) → z ≡ atom2 w_legal role (nth_tree (input_list rules role) k)
      once z m =
          m.2 ∙ ap (λ (t : Tree). atom2 w_legal m.0 t) (sym (placed m.1 (input_list rules m.0) k m.4))
          ∙ ap (λ (q : Tree). atom2 w_legal q (nth_tree (input_list rules q) k)) (sym (placed m.0 (role_list rules) r m.3))

  legal_same : trees_at (input_list rules role)
      (named_below (map (kind_of rules) (listing rules).atoms)
      (holds (map (kind_of rules) (listing rules).atoms) (map (numbered rules) (listing rules).kept) s no_turn) (ByLegal r)
      (length (input_list rules role)))
      ≡ legal_list rules (state_of rules s) role
  legal_same =
      let f = is_named (map (kind_of rules) (listing rules).atoms)
      (holds (map (kind_of rules) (listing rules).atoms) (map (numbered rules) (listing rules).kept) s no_turn) (ByLegal r) in
      trees_picked f (input_list rules role)
      ∙ picked_filter f (λ m. is_atom_in (atom2 w_legal role m) (holding rules (state_of rules s) nobody)) 0 (input_list rules role)
      (λ k lt. let z : 0 + k ≡ k = omega arith in
      ap f z ∙ same_answer (f k) _ (Holds rules (state_of rules s) nobody (atom2 w_legal role (nth_tree (input_list rules role) k)))
      (legal_holds k lt) (found (nth_tree (input_list rules role) k)))
    where
      found : (m : Tree) → (is_atom_in (atom2 w_legal role m) (holding rules (state_of rules s) nobody) ≡ true) ↔ Holds rules (state_of rules s)
          nobody (atom2 w_legal role m)
      found m =
          let x = atom2 w_legal role m in
          let h = holding_exact rules w (state_of rules s) nobody (within_base rules w s) (no_move rules w s) x in (
            (λ e. h.0 (is_atom_yes x (holding rules (state_of rules s) nobody) e)),
            (λ k. is_atom_in_yes x (holding rules (state_of rules s) nobody) (h.1 k)),
          )

  pub legal_are : AreLegal rules (state_of rules s) role
      (trees_at (input_list rules role) (named_below (map (kind_of rules) (listing rules).atoms)
      (holds (map (kind_of rules) (listing rules).atoms) (map (numbered rules) (listing rules).kept) s no_turn) (ByLegal r)
      (length (input_list rules role))))
  legal_are = subst (λ (ms : List Tree). AreLegal rules (state_of rules s) role ms) (sym legal_same)
      (legal_listed rules w (state_of rules s) (within_base rules w s) role is_role)
