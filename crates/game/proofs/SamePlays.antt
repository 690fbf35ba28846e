-- Games that tell the same are played the same.
use Rattle.std.proofs.Common.{
  ℕ,
  zero,
  suc,
  ◌+◌,
  ◌<◌,
  ◌≤◌,
  ◌≡◌,
  inl,
  inr,
  Bool,
  true,
  false,
  cond,
  List,
  [],
  ◌∷◌,
  ◌++◌,
  length,
  map,
  get_or,
  refl,
  sym,
  ap,
  subst,
  ◌∙◌,
  arith,
  Option,
  None,
  Ok,
}
use Rattle.std.specs.Prelude.{filter, find, take, unwrap_or, is_none, ◌==◌, ◌||◌}
use Rattle.std.specs.Option.{option_map_or}
use Rattle.std.specs.List.{flat_map, list_any, range_with_len}
use Rattle.std.proofs.Math.Nat.{eq-or-lt_of_le}
use Rattle.std.proofs.lemmas.List.{take_all}
use Rattle.statement.specs.Tree.{Tree, text, name_eq}
use Rattle.statement.specs.Tree.{parts_of}
use Rattle.statement.specs.declared.history_fault.HistoryFault.{HistoryFault}
use Rattle.statement.specs.declared.history_fault.HistoryFault.TheVariants.{NotLegal, Over, Stuck}
use Rattle.statement.specs.NamedRules.{NamedRules}
use Rattle.statement.specs.Played.{nth_tree, named_move, named_turn, state_after, form_faults, illegal_faults, turn_faults, play_faults, first_history_fault, played}
use Rattle.statement.specs.Rules.{Rules, State, Turn, IsTurn, all_roles, is_stuck, all_picks, turns_with}
use Rattle.game.specs.SamePlay.{SamePlay}
use Rattle.statement.specs.declared.at_bound.AtBound.{AtBound}
use Rattle.statement.specs.AtBound.{bound_worth}
use Rattle.statement.specs.Value.{greatest, least, least_after, value, worst, choice_of, reply_of, line_of}
use Rattle.game.proofs.Alike.{all_below, each_below, maps_alike, filters_alike, finds_alike, any_alike, options_alike, if_weaker, none_left}
use Rattle.game.proofs.FirstFaults.{state_more}
use Rattle.game.proofs.PlayRange.{turns_within, choice_within, reply_within, turn_named}

-- Faults up to the first.

first_more : {X : Type 0} (xs ys zs : List HistoryFault) (x y : X) → first_history_fault ys x ≡ first_history_fault zs y
    → first_history_fault (xs ++ ys) x ≡ first_history_fault (xs ++ zs) y
first_more [] ys zs x y h = h
first_more (fault ∷ xs) ys zs x y h = refl

-- two walks along a range have the same first fault, where each number has the same faults if those before it have none
first_alike : {X : Type 0} (F G : ℕ → List HistoryFault) (x y : X) (a n : ℕ)
    → ((k : ℕ) → a ≤ k → k < a + n → ((i : ℕ) → a ≤ i → i < k → F i ≡ []) → F k ≡ G k)
    → (((i : ℕ) → a ≤ i → i < a + n → F i ≡ []) → x ≡ y)
    → first_history_fault (flat_map F (range_with_len a n)) x ≡ first_history_fault (flat_map G (range_with_len a n)) y
first_alike F G x y a zero each last = ap Ok (last (λ i from to. absurd (omega arith)))
first_alike {X} F G x y a (suc n) each last =
    go (F a) refl (sym (each a (omega arith) (omega arith) (λ i from to. absurd (omega arith))))
    (λ e. first_alike F G x y (a + 1) n
    (λ k from to before. each k (omega arith) (omega arith) (λ i low high. joined e k i low high before))
    (λ all. last (λ i low high. joined e (a + suc n) i low high (λ m from to. all m from (omega arith)))))
  where
    joined : F a ≡ [] → (k i : ℕ) → a ≤ i → i < k → ((m : ℕ) → a + 1 ≤ m → m < k → F m ≡ []) → F i ≡ []
    joined here k i from to before = elim (eq-or-lt_of_le from) [ inl e ↦ subst (λ (m : ℕ). F m ≡ []) e here | inr lt ↦ before i (omega arith) to ]

    go : (fs : List HistoryFault) → F a ≡ fs → G a ≡ F a
        → (F a ≡ [] → first_history_fault (flat_map F (range_with_len (a + 1) n)) x ≡ first_history_fault (flat_map G (range_with_len (a + 1) n)) y)
        → first_history_fault (F a ++ flat_map F (range_with_len (a + 1) n)) x ≡ first_history_fault (G a ++ flat_map G (range_with_len (a + 1) n)) y
    go [] e same rest = rw (same, e) (rest e)
    go (fault ∷ fs) e same rest = rw (same, e) refl

-- the line that begins with an own move
abbrev line_by : Rules → ℕ → ℕ → AtBound → State → ℕ → List Turn
line_by g role depth at s own = option_map_or (λ j. j ∷ line_of g role depth at (g.after s j)) (reply_of g role depth at s own) []

module _ (g h : NamedRules) (same : SamePlay g h) where
  roles_alike : all_roles g.rules ≡ all_roles h.rules
  roles_alike = ap (range_with_len 0) same.roles

  pub stuck_alike : (s : State) → is_stuck g.rules s ≡ is_stuck h.rules s
  stuck_alike s =
      any_alike (λ q. length (g.rules.legal s q) == 0) (λ q. length (h.rules.legal s q) == 0) (all_roles g.rules)
      (all_below _ g.rules.roles (λ q lt. ap (λ (ms : List ℕ). length ms == 0) (same.legal s q lt)))
      ∙ ap (λ (qs : List ℕ). list_any (λ q. length (h.rules.legal s q) == 0) qs) roles_alike

  -- Values.

  turns_alike : (s : State) (role own : ℕ) → turns_with g.rules s role own ≡ turns_with h.rules s role own
  turns_alike s role own =
      ap all_picks
      (maps_alike (λ q. cond (q == role) (own ∷ []) (g.rules.legal s q)) (λ q. cond (q == role) (own ∷ []) (h.rules.legal s q)) (all_roles g.rules)
      (all_below _ g.rules.roles (λ q lt. ap (λ (ms : List ℕ). cond (q == role) (own ∷ []) ms) (same.legal s q lt)))
      ∙ ap (λ (qs : List ℕ). map (λ q. cond (q == role) (own ∷ []) (h.rules.legal s q)) qs) roles_alike)

  least_alike : (u v : State → ℕ) → ((s : State) → u s ≡ v s) → (s : State) (role own : ℕ) → own < g.rules.moves role
      → least_after g.rules u s role own ≡ least_after h.rules v s role own
  least_alike u v alike s role own below =
      ap least
      (maps_alike (λ j. u (g.rules.after s j)) (λ j. v (h.rules.after s j)) (turns_with g.rules s role own)
      (λ k d lt. ap u (same.after s _ (turns_within g.rules same.known s role own below k d lt)) ∙ alike _)
      ∙ ap (map (λ j. v (h.rules.after s j))) (turns_alike s role own))

  pub value_alike : (role : ℕ) → role < g.rules.roles → (depth : ℕ) (at : AtBound) (s : State)
      → value g.rules role depth at s ≡ value h.rules role depth at s
  value_alike role lt zero at s =
      ap (λ (b : Bool). cond b (g.rules.goal s role) (cond (is_stuck g.rules s) 0 (bound_worth at (g.rules.goal s role)))) (same.ended s)
      ∙ ap (λ (n : ℕ). cond (h.rules.ended s) n (cond (is_stuck g.rules s) 0 (bound_worth at n))) (same.goal s role lt)
      ∙ ap (λ (b : Bool). cond (h.rules.ended s) (h.rules.goal s role) (cond b 0 (bound_worth at (h.rules.goal s role)))) (stuck_alike s)
  value_alike role lt (suc depth) at s =
      let best : map (λ m. least_after g.rules (value g.rules role depth at) s role m) (g.rules.legal s role) ≡ map
      (λ m. least_after h.rules (value h.rules role depth at) s role m) (h.rules.legal s role) =
      maps_alike _ _ (g.rules.legal s role)
      (λ k d below. least_alike (value g.rules role depth at) (value h.rules role depth at) (value_alike role lt depth at) s role _
      (same.known s role lt k d below))
      ∙ ap (map (λ m. least_after h.rules (value h.rules role depth at) s role m)) (same.legal s role lt) in
      ap (λ (b : Bool). cond b (g.rules.goal s role)
      (cond (is_stuck g.rules s) 0 (greatest (map (λ m. least_after g.rules (value g.rules role depth at) s role m) (g.rules.legal s role)))))
      (same.ended s)
      ∙ ap (λ (n : ℕ). cond (h.rules.ended s) n
      (cond (is_stuck g.rules s) 0 (greatest (map (λ m. least_after g.rules (value g.rules role depth at) s role m) (g.rules.legal s role)))))
      (same.goal s role lt)
      ∙ ap (λ (b : Bool). cond (h.rules.ended s) (h.rules.goal s role)
      (cond b 0 (greatest (map (λ m. least_after g.rules (value g.rules role depth at) s role m) (g.rules.legal s role))))) (stuck_alike s)
      ∙ ap (λ (ns : List ℕ). cond (h.rules.ended s) (h.rules.goal s role) (cond (is_stuck h.rules s) 0 (greatest ns))) best

  pub worst_alike : (role : ℕ) → role < g.rules.roles → (depth : ℕ) (at : AtBound) (s : State) (own : ℕ) → own < g.rules.moves role
      → worst g.rules role depth at s own ≡ worst h.rules role depth at s own
  worst_alike role lt depth at s own below = least_alike (value g.rules role depth at) (value h.rules role depth at) (value_alike role lt depth at) s
      role own below

  pub choice_alike : (role : ℕ) → role < g.rules.roles → (depth : ℕ) (at : AtBound) (s : State)
      → choice_of g.rules role depth at s ≡ choice_of h.rules role depth at s
  choice_alike role lt zero at s = refl
  choice_alike role lt (suc depth) at s =
      let found : find (λ m. worst g.rules role depth at s m == value g.rules role (suc depth) at s) (g.rules.legal s role) ≡ find
      (λ m. worst h.rules role depth at s m == value h.rules role (suc depth) at s) (h.rules.legal s role) =
      finds_alike (λ m. worst g.rules role depth at s m == value g.rules role (suc depth) at s)
      (λ m. worst h.rules role depth at s m == value h.rules role (suc depth) at s) (g.rules.legal s role)
      (λ k d below.
      ap (λ (n : ℕ). n == value g.rules role (suc depth) at s) (worst_alike role lt depth at s _ (same.known s role lt k d below))
      ∙ ap (λ (n : ℕ). worst h.rules role depth at s (get_or (g.rules.legal s role) k d) == n) (value_alike role lt (suc depth) at s))
      ∙ ap (find (λ m. worst h.rules role depth at s m == value h.rules role (suc depth) at s)) (same.legal s role lt) in
      ap (λ (b : Bool). cond (b || is_stuck g.rules s) None
      (find (λ m. worst g.rules role depth at s m == value g.rules role (suc depth) at s) (g.rules.legal s role))) (same.ended s)
      ∙ ap (λ (b : Bool). cond (h.rules.ended s || b) None
      (find (λ m. worst g.rules role depth at s m == value g.rules role (suc depth) at s) (g.rules.legal s role))) (stuck_alike s)
      ∙ ap (λ (o : Option ℕ). cond (h.rules.ended s || is_stuck h.rules s) None o) found

  pub reply_alike : (role : ℕ) → role < g.rules.roles → (depth : ℕ) (at : AtBound) (s : State) (own : ℕ) → own < g.rules.moves role
      → reply_of g.rules role depth at s own ≡ reply_of h.rules role depth at s own
  reply_alike role lt depth at s own below =
      finds_alike (λ j. value g.rules role depth at (g.rules.after s j) == worst g.rules role depth at s own)
      (λ j. value h.rules role depth at (h.rules.after s j) == worst h.rules role depth at s own) (turns_with g.rules s role own)
      (λ k d within.
      let j = get_or (turns_with g.rules s role own) k d in
      let next = same.after s j (turns_within g.rules same.known s role own below k d within) in
      ap (λ (t : State). value g.rules role depth at t == worst g.rules role depth at s own) next
      ∙ ap (λ (n : ℕ). n == worst g.rules role depth at s own) (value_alike role lt depth at (h.rules.after s j))
      ∙ ap (λ (n : ℕ). value h.rules role depth at (h.rules.after s j) == n) (worst_alike role lt depth at s own below))
      ∙ ap (find (λ j. value h.rules role depth at (h.rules.after s j) == worst h.rules role depth at s own)) (turns_alike s role own)

  pub line_alike : (role : ℕ) → role < g.rules.roles → (depth : ℕ) (at : AtBound) (s : State)
      → line_of g.rules role depth at s ≡ line_of h.rules role depth at s
  line_alike role lt zero at s = refl
  line_alike role lt (suc depth) at s =
      options_alike (line_by g.rules role depth at s) (line_by h.rules role depth at s) (choice_of g.rules role (suc depth) at s) []
      (if_weaker (λ m. m < g.rules.moves role) (λ own. line_by g.rules role depth at s own ≡ line_by h.rules role depth at s own)
      (choice_of g.rules role (suc depth) at s) (each (line_alike role lt depth at)) (choice_within g.rules same.known role (suc depth) at s lt))
      ∙ ap (λ (o : Option ℕ). option_map_or (line_by h.rules role depth at s) o []) (choice_alike role lt (suc depth) at s)
    where
      each : ((t : State) → line_of g.rules role depth at t ≡ line_of h.rules role depth at t) → (own : ℕ) → own < g.rules.moves role
          → line_by g.rules role depth at s own ≡ line_by h.rules role depth at s own
      each more own below =
          options_alike (λ j. j ∷ line_of g.rules role depth at (g.rules.after s j)) (λ j. j ∷ line_of h.rules role depth at (h.rules.after s j))
          (reply_of g.rules role depth at s own) []
          (if_weaker (IsTurn g.rules) _ (reply_of g.rules role depth at s own)
          (λ j turn. ap (λ (t : State). j ∷ line_of g.rules role depth at t) (same.after s j turn)
          ∙ ap (λ (js : List Turn). j ∷ js) (more (h.rules.after s j)))
          (reply_within g.rules same.known role depth at s own below))
          ∙ ap (λ (o : Option Turn). option_map_or (λ j. j ∷ line_of h.rules role depth at (h.rules.after s j)) o [])
          (reply_alike role lt depth at s own below)

  -- Histories.

  move_alike : (s : State) (parts : List Tree) (q : ℕ) → q < g.rules.roles → named_move g.rules g.move_name s parts q ≡ named_move h.rules h.move_name
      s parts q
  move_alike s parts q lt =
      finds_alike (λ m. name_eq (text (nth_tree parts q)) (g.move_name q m)) (λ m. name_eq (text (nth_tree parts q)) (h.move_name q m))
      (g.rules.legal s q)
      (λ k d below. ap (name_eq (text (nth_tree parts q))) (same.move_names q _ lt (same.known s q lt k d below)))
      ∙ ap (find (λ m. name_eq (text (nth_tree parts q)) (h.move_name q m))) (same.legal s q lt)

  turn_alike : (s : State) (parts : List Tree) → named_turn g.rules g.move_name s parts ≡ named_turn h.rules h.move_name s parts
  turn_alike s parts =
      maps_alike (λ q. unwrap_or (named_move g.rules g.move_name s parts q) 0) (λ q. unwrap_or (named_move h.rules h.move_name s parts q) 0)
      (all_roles g.rules)
      (all_below _ g.rules.roles (λ q lt. ap (λ (o : Option ℕ). unwrap_or o 0) (move_alike s parts q lt)))
      ∙ ap (map (λ q. unwrap_or (named_move h.rules h.move_name s parts q) 0)) roles_alike

  illegal_alike : (s : State) (parts : List Tree) (number : ℕ) → illegal_faults g.rules g.move_name s parts number ≡ illegal_faults h.rules
      h.move_name s parts number
  illegal_alike s parts number =
      ap (map (NotLegal number))
      (filters_alike (λ q. is_none (named_move g.rules g.move_name s parts q)) (λ q. is_none (named_move h.rules h.move_name s parts q))
      (all_roles g.rules)
      (all_below _ g.rules.roles (λ q lt. ap (λ (o : Option ℕ). is_none o) (move_alike s parts q lt)))
      ∙ ap (filter (λ q. is_none (named_move h.rules h.move_name s parts q))) roles_alike)

  faults_alike : (s : State) (parts : List Tree) (number : ℕ) → turn_faults g.rules g.move_name s parts number ≡ turn_faults h.rules h.move_name s
      parts number
  faults_alike s parts number =
      ap (λ (b : Bool). cond b (Over number ∷ []) (cond (is_stuck g.rules s) (Stuck number ∷ []) (illegal_faults g.rules g.move_name s parts number)))
      (same.ended s)
      ∙ ap (λ (b : Bool). cond (h.rules.ended s) (Over number ∷ []) (cond b (Stuck number ∷ []) (illegal_faults g.rules g.move_name s parts number)))
      (stuck_alike s)
      ∙ ap (λ (fs : List HistoryFault). cond (h.rules.ended s) (Over number ∷ []) (cond (is_stuck h.rules s) (Stuck number ∷ []) fs))
      (illegal_alike s parts number)

  -- a turn without faults is one of the game
  no_faults_turn : (s : State) (parts : List Tree) (number : ℕ) → turn_faults g.rules g.move_name s parts number ≡ []
      → IsTurn g.rules (named_turn g.rules g.move_name s parts)
  no_faults_turn s parts number e = go (g.rules.ended s) (is_stuck g.rules s) e
    where
      go : (b c : Bool) → cond b (Over number ∷ []) (cond c (Stuck number ∷ []) (illegal_faults g.rules g.move_name s parts number)) ≡ []
          → IsTurn g.rules (named_turn g.rules g.move_name s parts)
      go true c k = absurd cc
      go false true k = absurd cc
      go false false k = turn_named g.rules same.known g.move_name s parts
          (each_below (λ q. is_none (named_move g.rules g.move_name s parts q) ≡ false) g.rules.roles
          (none_left (NotLegal number) (λ q. is_none (named_move g.rules g.move_name s parts q)) (all_roles g.rules) k))

  module _ (ts : List Tree) where
    abbrev F : ℕ → List HistoryFault
    F k = turn_faults g.rules g.move_name (state_after g.rules g.move_name (take k ts)) (parts_of (nth_tree ts k)) (k + 1)

    abbrev G : ℕ → List HistoryFault
    G k = turn_faults h.rules h.move_name (state_after h.rules h.move_name (take k ts)) (parts_of (nth_tree ts k)) (k + 1)

    states_alike : (k : ℕ) → k ≤ length ts → ((i : ℕ) → i < k → F i ≡ []) → state_after g.rules g.move_name (take k ts) ≡ state_after h.rules
        h.move_name (take k ts)
    states_alike zero le before = same.start
    states_alike (suc k) le before =
        let here = states_alike k (omega arith) (λ i lt. before i (omega arith)) in
        let s = state_after g.rules g.move_name (take k ts) in
        let t = state_after h.rules h.move_name (take k ts) in
        let parts = parts_of (nth_tree ts k) in
        let more : k + 1 ≡ suc k = omega arith in
        ap (λ (i : ℕ). state_after g.rules g.move_name (take i ts)) (sym more)
        ∙ state_more g.rules g.move_name ts k (omega arith)
        ∙ same.after s (named_turn g.rules g.move_name s parts) (no_faults_turn s parts (k + 1) (before k (omega arith)))
        ∙ ap (h.rules.after s) (turn_alike s parts)
        ∙ ap (λ (u : State). h.rules.after u (named_turn h.rules h.move_name u parts)) here
        ∙ sym (state_more h.rules h.move_name ts k (omega arith))
        ∙ ap (λ (i : ℕ). state_after h.rules h.move_name (take i ts)) more

    pub played_alike : played g.rules g.move_name ts ≡ played h.rules h.move_name ts
    played_alike =
        first_more (form_faults g.rules.roles ts) (play_faults g.rules g.move_name ts) (play_faults h.rules h.move_name ts)
        (state_after g.rules g.move_name ts) (state_after h.rules h.move_name ts)
        (first_alike F G (state_after g.rules g.move_name ts) (state_after h.rules h.move_name ts) 0 (length ts)
        (λ k from to before.
        faults_alike (state_after g.rules g.move_name (take k ts)) (parts_of (nth_tree ts k)) (k + 1)
        ∙ ap (λ (s : State). turn_faults h.rules h.move_name s (parts_of (nth_tree ts k)) (k + 1))
        (states_alike k (omega arith) (λ i lt. before i (omega arith) lt)))
        (λ all.
        ap (state_after g.rules g.move_name) (sym (take_all (length ts) ts (omega arith)))
        ∙ states_alike (length ts) (omega arith) (λ i lt. all i (omega arith) (omega arith))
        ∙ ap (state_after h.rules h.move_name) (take_all (length ts) ts (omega arith))))
        ∙ ap (λ (n : ℕ). first_history_fault (form_faults n ts ++ play_faults h.rules h.move_name ts) (state_after h.rules h.move_name ts)) same.roles
