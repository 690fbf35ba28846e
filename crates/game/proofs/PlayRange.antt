-- Play stays within the roles and moves of a game.
use Rattle.std.proofs.Common.{
  ℕ,
  zero,
  suc,
  ◌+◌,
  ◌<◌,
  ◌≡◌,
  Bool,
  true,
  false,
  cond,
  List,
  [],
  ◌∷◌,
  ◌++◌,
  length,
  map,
  get_or,
  refl,
  sym,
  ap,
  subst,
  arith,
  Option,
  Some,
  None,
  eqb-true,
}
use Rattle.std.specs.Prelude.{All, IfSome, IfErr, filter, find, take, slice_index, unwrap_or, is_none, not, ◌==◌, ◌||◌}
use Rattle.std.specs.Option.{option_map_or}
use Rattle.std.specs.List.{range_with_len}
use Rattle.std.proofs.lemmas.List.Elements.{All-head, All-nil, All-cons, All-append, All-map, All-filter}
use Rattle.std.proofs.lemmas.List.FromFn.{length-map-range_with_len, get_or-map-range_with_len}
use Rattle.statement.specs.Tree.{Tree, text, name_eq}
use Rattle.statement.specs.Tree.{parts_of}
use Rattle.statement.specs.declared.history_fault.HistoryFault.{HistoryFault}
use Rattle.statement.specs.declared.history_fault.HistoryFault.TheVariants.{BadForm, NotLegal, Over, Stuck}
use Rattle.statement.specs.Played.{MoveNames, nth_tree, is_turn_list, named_move, named_turn, state_after, form_faults, illegal_faults, turn_faults, play_faults, first_history_fault, played}
use Rattle.statement.specs.HistoryTexts.{IsRoleOf}
use Rattle.statement.specs.Rules.{Rules, State, Turn, IsTurn, all_roles, is_stuck, all_picks, turns_with}
use Rattle.game.specs.SamePlay.{AreLegalMoves}
use Rattle.statement.specs.declared.at_bound.AtBound.{AtBound}
use Rattle.statement.specs.Value.{value, worst, choice_of, reply_of, line_of}
use Rattle.game.proofs.Alike.{all_below, found_within, all_flat}

-- Picks.

-- a turn of some roles, the first of them with this number
record IsPick (moves : ℕ → ℕ) (from n : ℕ) (j : Turn) : Type 0 where
  size : length j ≡ n
  each : (q : ℕ) → q < n → slice_index j q < moves (from + q)

one_pick : (moves : ℕ → ℕ) (from n x : ℕ) (j : Turn) → x < moves from → IsPick moves (from + 1) n j → IsPick moves from (suc n) (x ∷ j)
one_pick moves from n x j here rest = record {
  size = ap suc rest.size;
  each = each;
}
  where
    each : (q : ℕ) → q < suc n → slice_index (x ∷ j) q < moves (from + q)
    each zero lt = subst (λ (i : ℕ). x < moves i) (omega arith) here
    each (suc q) lt = subst (λ (i : ℕ). slice_index j q < moves i) (omega arith) (rest.each q (omega arith))

picks_within : (moves : ℕ → ℕ) (lists : ℕ → List ℕ) (from n : ℕ) → ((q : ℕ) → q < from + n → All (λ m. m < moves q) (lists q))
    → All (IsPick moves from n) (all_picks (map lists (range_with_len from n)))
picks_within moves lists from zero h = All-cons (IsPick moves from 0) [] [] record { size = refl; each = λ q lt. absurd (omega arith) }
    (All-nil (IsPick moves from 0))
picks_within moves lists from (suc n) h =
    let rest = picks_within moves lists (from + 1) n (λ q lt. h q (omega arith)) in
    all_flat (IsPick moves from (suc n)) (λ x. map (λ j. x ∷ j) (all_picks (map lists (range_with_len (from + 1) n)))) (lists from)
    (λ k d lt. All-map (IsPick moves from (suc n)) (λ (j : Turn). get_or (lists from) k d ∷ j) (all_picks (map lists (range_with_len (from + 1) n)))
    (λ i e below. one_pick moves from n (get_or (lists from) k d) _ (h from (omega arith) k d lt) (rest i e below)))

module _ (g : Rules) (known : AreLegalMoves g) where
  chosen_within : (s : State) (role own q : ℕ) → own < g.moves role → q < g.roles
      → All (λ m. m < g.moves q) (cond (q == role) (own ∷ []) (g.legal s q))
  chosen_within s role own q below lt = go (q == role) refl
    where
      go : (b : Bool) → (q == role) ≡ b → All (λ m. m < g.moves q) (cond b (own ∷ []) (g.legal s q))
      go true e = All-cons (λ m. m < g.moves q) own [] (subst (λ (i : ℕ). own < g.moves i) (sym (eqb-true q role e)) below)
          (All-nil (λ m. m < g.moves q))
      go false e = known s q lt

  -- each joint move with an own move is a turn
  pub turns_within : (s : State) (role own : ℕ) → own < g.moves role → All (IsTurn g) (turns_with g s role own)
  turns_within s role own below k d lt =
      let one = picks_within g.moves (λ q. cond (q == role) (own ∷ []) (g.legal s q)) 0 g.roles
      (λ q less. chosen_within s role own q below (omega arith)) k d lt in
      record {
        of_each_role = one.size;
        each_known = λ q less. subst (λ (i : ℕ). slice_index (get_or (turns_with g s role own) k d) q < g.moves i)
            (omega arith) (one.each q less);
      }

  pub choice_within : (role depth : ℕ) (at : AtBound) (s : State) → role < g.roles → IfSome (choice_of g role depth at s) (λ m. m < g.moves role)
  choice_within role zero at s lt = tt
  choice_within role (suc depth) at s lt = go (g.ended s || is_stuck g s)
    where
      go : (b : Bool) → IfSome (cond b None (find (λ m. worst g role depth at s m == value g role (suc depth) at s) (g.legal s role)))
          (λ m. m < g.moves role)
      go true = tt
      go false = found_within (λ m. m < g.moves role) _ (g.legal s role) (known s role lt)

  pub reply_within : (role depth : ℕ) (at : AtBound) (s : State) (own : ℕ) → own < g.moves role → IfSome (reply_of g role depth at s own) (IsTurn g)
  reply_within role depth at s own below = found_within (IsTurn g) _ (turns_with g s role own) (turns_within s role own below)

  pub line_within : (role depth : ℕ) (at : AtBound) (s : State) → role < g.roles → All (IsTurn g) (line_of g role depth at s)
  line_within role zero at s lt = All-nil (IsTurn g)
  line_within role (suc depth) at s lt = go (choice_of g role (suc depth) at s) (choice_within role (suc depth) at s lt)
      (λ t. line_within role depth at t lt)
    where
      with_reply : (o : Option Turn) → IfSome o (IsTurn g) → ((t : State) → All (IsTurn g) (line_of g role depth at t))
          → All (IsTurn g) (option_map_or (λ j. j ∷ line_of g role depth at (g.after s j)) o [])
      with_reply None h more = All-nil (IsTurn g)
      with_reply (Some j) h more = All-cons (IsTurn g) j _ h (more (g.after s j))

      go : (o : Option ℕ) → IfSome o (λ m. m < g.moves role) → ((t : State) → All (IsTurn g) (line_of g role depth at t))
          → All (IsTurn g) (option_map_or (λ own. option_map_or (λ j. j ∷ line_of g role depth at (g.after s j)) (reply_of g role depth at s own) [])
          o [])
      go None h more = All-nil (IsTurn g)
      go (Some own) h more = with_reply (reply_of g role depth at s own) (reply_within role depth at s own h) more

  -- Histories.

  pub named_within : (names : MoveNames) (s : State) (parts : List Tree) (q : ℕ) → q < g.roles
      → IfSome (named_move g names s parts q) (λ m. m < g.moves q)
  named_within names s parts q lt = found_within (λ m. m < g.moves q) (λ m. name_eq (text (nth_tree parts q)) (names q m)) (g.legal s q) (known s q lt)

  -- where no role is at fault the turn is one of the game
  pub turn_named : (names : MoveNames) (s : State) (parts : List Tree) → ((q : ℕ) → q < g.roles → is_none (named_move g names s parts q) ≡ false)
      → IsTurn g (named_turn g names s parts)
  turn_named names s parts all = record {
    of_each_role = length-map-range_with_len (λ q. unwrap_or (named_move g names s parts q) 0) 0 g.roles;
    each_known = λ q lt.
        subst (λ (m : ℕ). m < g.moves q) (sym (get_or-map-range_with_len (λ i. unwrap_or (named_move g names s parts i) 0) 0 g.roles q q 0 lt
        (omega arith)))
        (there q (named_move g names s parts q) (all q lt) (named_within names s parts q lt));
  }
    where
      there : (q : ℕ) (o : Option ℕ) → is_none o ≡ false → IfSome o (λ m. m < g.moves q) → unwrap_or o 0 < g.moves q
      there q None e h = absurd cc
      there q (Some m) e h = h

-- Faults.

module _ (g : Rules) (names : MoveNames) where
  abbrev IsNamed : HistoryFault → Type 0
  IsNamed = IsRoleOf g.roles

  illegal_named : (s : State) (parts : List Tree) (number : ℕ) → All IsNamed (illegal_faults g names s parts number)
  illegal_named s parts number =
      All-map IsNamed (NotLegal number) (filter (λ q. is_none (named_move g names s parts q)) (all_roles g))
      (All-filter (λ q. is_none (named_move g names s parts q)) (λ q. q < g.roles) (all_roles g) (all_below (λ q. q < g.roles) g.roles (λ q lt. lt)))

  turn_named_faults : (s : State) (parts : List Tree) (number : ℕ) → All IsNamed (turn_faults g names s parts number)
  turn_named_faults s parts number = go (g.ended s) (is_stuck g s)
    where
      go : (b c : Bool) → All IsNamed (cond b (Over number ∷ []) (cond c (Stuck number ∷ []) (illegal_faults g names s parts number)))
      go true c = All-cons IsNamed (Over number) [] tt (All-nil IsNamed)
      go false true = All-cons IsNamed (Stuck number) [] tt (All-nil IsNamed)
      go false false = illegal_named s parts number

  first_named : {X : Type 0} (faults : List HistoryFault) (x : X) → All IsNamed faults → IfErr (first_history_fault faults x) IsNamed
  first_named [] x h = tt
  first_named (fault ∷ faults) x h = All-head IsNamed fault faults h

  pub role_named : (ts : List Tree) → IfErr (played g names ts) (IsRoleOf g.roles)
  role_named ts =
      first_named (form_faults g.roles ts ++ play_faults g names ts) (state_after g names ts)
      (All-append IsNamed (form_faults g.roles ts) (play_faults g names ts)
      (All-map IsNamed (λ (k : ℕ). BadForm (k + 1)) (filter (λ k. not (is_turn_list g.roles (nth_tree ts k))) (range_with_len 0 (length ts)))
      (λ k d lt. tt))
      (all_flat IsNamed (λ k. turn_faults g names (state_after g names (take k ts)) (parts_of (nth_tree ts k)) (k + 1)) (range_with_len 0 (length ts))
      (λ k d lt. turn_named_faults _ _ _)))
