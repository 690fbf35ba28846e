-- All games of the same rules tell the same.
use Rattle.std.proofs.Common.{ℕ, ◌<◌, ◌≡◌, List, [], ◌∷◌, length, refl, sym, ap, subst, ◌∙◌, Some}
use Rattle.std.specs.Prelude.{All, slice_index}
use Rattle.std.proofs.lemmas.List.Elements.{All-head, All-tail}
use Rattle.statement.specs.Tree.{Tree}
use Rattle.statement.specs.Clause.{Alternative}
use Rattle.meaning.specs.InOrder.{AreDistinct}
use Rattle.statement.specs.Kinds.{place_in}
use Rattle.statement.specs.Listing.{role_list, base_list}
use Rattle.meaning.specs.Listed.{IsWellFormed}
use Rattle.statement.specs.Meaning.{IsEnded, IsRole}
use Rattle.meaning.proofs.Facts.{bases_in_order, inputs_in_order, one_list_of, one_goal, roles_exact}
use Rattle.statement.specs.NamedRules.{NamedRules}
use Rattle.statement.specs.Played.{nth_tree}
use Rattle.statement.specs.Rules.{Turn, IsTurn}
use Rattle.statement.specs.GameNumbers.{state_of, trees_at}
use Rattle.statement.specs.GameOfRules.{role_at, inputs_at, AreNumbersOf, IsGameOf}
use Rattle.game.specs.SamePlay.{SamePlay}
use Rattle.game_rules.proofs.LegalRules.{same_answer, in_order_once}
use Rattle.game_rules.proofs.Trees.{place_at, among_tree}

-- numbers are known by the trees at their places, where no tree stands twice
one_place : (ts : List Tree) → AreDistinct ts → (m n : ℕ) → m < length ts → n < length ts → nth_tree ts m ≡ nth_tree ts n → m ≡ n
one_place ts once m n here there same =
    let e : Some m ≡ Some n = sym (place_at ts once m here) ∙ ap (λ (t : Tree). place_in t ts) same ∙ place_at ts once n there in cc

one_list : (ts : List Tree) → AreDistinct ts → (ms ns : List ℕ) → All (λ n. n < length ts) ms → All (λ n. n < length ts) ns
    → trees_at ts ms ≡ trees_at ts ns → ms ≡ ns
one_list ts once [] [] below within same = refl
one_list ts once [] (n ∷ ns) below within same = absurd cc
one_list ts once (m ∷ ms) [] below within same = absurd cc
one_list ts once (m ∷ ms) (n ∷ ns) below within same =
    let first : nth_tree ts m ≡ nth_tree ts n = cc in
    let others : trees_at ts ms ≡ trees_at ts ns = cc in
    let P = λ (k : ℕ). k < length ts in
    let here = one_place ts once m n (All-head P m ms below) (All-head P n ns within) first in
    let rest = one_list ts once ms ns (All-tail P m ms below) (All-tail P n ns within) others in
    ap (λ (k : ℕ). k ∷ ms) here ∙ ap (λ (ks : List ℕ). n ∷ ks) rest

one_numbering : (ts : List Tree) (P : Tree → Type 0) → AreDistinct ts → (ms ns : List ℕ) → AreNumbersOf ts P ms → AreNumbersOf ts P ns → ms ≡ ns
one_numbering ts P once ms ns a b = one_list ts once ms ns a.within b.within (one_list_of P (trees_at ts ms) (trees_at ts ns) a.are b.are)

module _ (rules : List Alternative) (w : IsWellFormed rules) (g h : NamedRules) (a : IsGameOf rules g) (b : IsGameOf rules h) where
  same_roles : g.rules.roles ≡ h.rules.roles
  same_roles = a.roles_are ∙ sym b.roles_are

  over : (r : ℕ) → r < g.rules.roles → r < h.rules.roles
  over r lt = subst (λ (n : ℕ). r < n) same_roles lt

  same_moves : (r : ℕ) → r < g.rules.roles → g.rules.moves r ≡ h.rules.moves r
  same_moves r lt = a.moves_are r lt ∙ sym (b.moves_are r (over r lt))

  inputs_once : (r : ℕ) → r < g.rules.roles → AreDistinct (inputs_at rules r)
  inputs_once r lt =
      let inside : r < length (role_list rules) = subst (λ (n : ℕ). r < n) a.roles_are lt in
      let is_role : IsRole rules (role_at rules r) = (roles_exact rules w (role_at rules r)).0 (among_tree (role_list rules) r inside) in
      in_order_once (inputs_at rules r) (inputs_in_order rules w (role_at rules r) is_role)

  base_once : AreDistinct (base_list rules)
  base_once = in_order_once (base_list rules) (bases_in_order rules w)

  turn_over : (j : Turn) → IsTurn g.rules j → IsTurn h.rules j
  turn_over j turn = record {
    of_each_role = turn.of_each_role ∙ same_roles;
    each_known = λ q lt.
        let here : q < g.rules.roles = subst (λ (n : ℕ). q < n) (sym same_roles) lt in
        subst (λ (n : ℕ). slice_index j q < n) (same_moves q here) (turn.each_known q here);
  }

  pub one_game : SamePlay g h
  one_game = record {
    roles = same_roles;
    moves = same_moves;
    role_names = λ r lt. a.role_names r lt ∙ sym (b.role_names r (over r lt));
    move_names = λ r m lt below. a.move_names r m lt below ∙ sym (b.move_names r m (over r lt) (subst (λ (n : ℕ). m < n) (same_moves r lt) below));
    start = one_numbering (base_list rules) _ base_once g.rules.start h.rules.start a.starts b.starts;
    ended = λ s. same_answer (g.rules.ended s) (h.rules.ended s) (IsEnded rules (state_of rules s)) (a.ends s) (b.ends s);
    goal = λ s r lt. one_goal rules (state_of rules s) (role_at rules r) (g.rules.goal s r) (h.rules.goal s r) (a.goals s r lt)
        (b.goals s r (over r lt));
    legal = λ s r lt. one_numbering (inputs_at rules r) _ (inputs_once r lt) (g.rules.legal s r) (h.rules.legal s r) (a.legals s r lt)
        (b.legals s r (over r lt));
    after = λ s j turn. one_numbering (base_list rules) _ base_once (g.rules.after s j) (h.rules.after s j) (a.follows s j turn)
        (b.follows s j (turn_over j turn));
    known = λ s r lt. subst (λ (n : ℕ). All (λ m. m < n) (g.rules.legal s r)) (sym (a.moves_are r lt)) (a.legals s r lt).within;
  }
