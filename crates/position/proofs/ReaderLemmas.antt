-- What the places of what is asked tell of a state.
use Rattle.std.proofs.Common.{
  ◌≡◌,
  ℕ,
  zero,
  suc,
  ◌+◌,
  ◌<◌,
  ◌≤◌,
  Bool,
  true,
  false,
  cond,
  ◌&&◌,
  ◌||◌,
  List,
  [],
  ◌∷◌,
  ◌++◌,
  length,
  length-append,
  map,
  take,
  get_or,
  refl,
  sym,
  ap,
  ◌∙◌,
  arith,
  Option,
  Some,
  None,
}
use Rattle.std.specs.Prelude.{All, filter, max, slice_index}
use Rattle.std.specs.List.{list_any}
use Rattle.std.proofs.Math.Bool.{or-false}
use Rattle.std.proofs.lemmas.List.{map-append, take_more}
use Rattle.std.proofs.lemmas.List.Elements.{All-append, All-map, filter-append}
use Rattle.std.proofs.lemmas.List.Folds.{list_any-append}
use Rattle.statement.specs.declared.kind.Kind.{Kind}
use Rattle.ground_instances.specs.declared.flat_ground.FlatGround.{FlatGround}
use Rattle.ground_instances.specs.GroundView.{kinds_of}
use Rattle.game_rules.specs.declared.naming.Naming.TheVariants.{ByLegal}
use Rattle.game_rules.specs.declared.standing.Sought.TheVariants.{Goals, Ends}
use Rattle.game_rules.specs.declared.standing.Standing.{Standing}
use Rattle.game_rules.specs.RulePlay.{kind_at, names, is_named, named_below, some_below, is_terminal, ends, best_goal}
use Rattle.statement.specs.Value.{greatest}
use Rattle.game_rules.specs.Standings.{standing_at, all_standing}
use Rattle.game_rules.proofs.Facts.{ends_all, goals_all, filter_range_more, greatest_snoc, legal_only}
use Rattle.position.specs.declared.lane_plan.Scope.{Scope}
use Rattle.position.specs.NetState.{asks_moves, is_asked, Alike}
use Rattle.position.specs.LanePlans.{shown_below, asked_at, places_of, legal_named, legal_pair, legals_below, goal_pair, goals_of, ends_of}
use Rattle.position.specs.NetLanes.{moves_on, goal_on}
use Rattle.position.proofs.NetReads.{one_legal}
use Rattle.position.proofs.Places.{placed_at}
use Rattle.position.proofs.Shown.{
  none_and,
  any_map,
  map_map,
  any_where,
  filter_all,
  standing_shown,
  legal_shown,
  end_shown,
  goal_sought,
  ends_alike,
  goals_alike,
  legals_alike,
}

-- Loops over places.

pub any_more : (on : ℕ → Bool) (xs : List ℕ) (i x : ℕ) → i < length xs → x ≡ get_or xs i 0
    → list_any on (take (i + 1) xs) ≡ (list_any on (take i xs) || on x)
any_more on xs i x lt e =
    ap (list_any on) (take_more xs i 0 lt) ∙ list_any-append on (take i xs) (get_or xs i 0 ∷ [])
    ∙ ap (λ (b : Bool). list_any on (take i xs) || b) (or-false (on (get_or xs i 0)))
    ∙ ap (λ (y : ℕ). list_any on (take i xs) || on y) (sym e)

moves_append : (on : ℕ → Bool) (xs ys : List (ℕ × ℕ)) → moves_on on (xs ++ ys) ≡ moves_on on xs ++ moves_on on ys
moves_append on xs ys =
    ap (map (λ (l : ℕ × ℕ). l.1)) (filter-append (λ (l : ℕ × ℕ). on l.0) xs ys)
    ∙ map-append (λ (l : ℕ × ℕ). l.1) (filter (λ (l : ℕ × ℕ). on l.0) xs) (filter (λ (l : ℕ × ℕ). on l.0) ys)

one_move : (b : Bool) (l : ℕ × ℕ) → map (λ (x : ℕ × ℕ). x.1) (cond b (l ∷ []) []) ≡ cond b (l.1 ∷ []) []
one_move true l = refl
one_move false l = refl

pub moves_more : (on : ℕ → Bool) (ls : List (ℕ × ℕ)) (i : ℕ) (d : ℕ × ℕ) → i < length ls
    → moves_on on (take (i + 1) ls) ≡ moves_on on (take i ls) ++ cond (on (get_or ls i d).0) ((get_or ls i d).1 ∷ []) []
moves_more on ls i d lt =
    let x = get_or ls i d in
    ap (moves_on on) (take_more ls i d lt) ∙ moves_append on (take i ls) (x ∷ [])
    ∙ ap (λ (ns : List ℕ). moves_on on (take i ls) ++ ns) (one_move (on x.0) x)

pub goal_more : (on : ℕ → Bool) (ls : List (ℕ × ℕ)) (i : ℕ) (d : ℕ × ℕ) (best new : ℕ) → i < length ls → best ≡ goal_on on (take i ls)
    → new ≡ max (cond (on (get_or ls i d).0) (get_or ls i d).1 0) best → new ≡ goal_on on (take (i + 1) ls)
goal_more on ls i d best new lt before next =
    let f : ℕ × ℕ → ℕ = λ l. cond (on l.0) l.1 0 in
    let x = get_or ls i d in
    let all : goal_on on (take (i + 1) ls) ≡ max (goal_on on (take i ls)) (f x) =
    ap (goal_on on) (take_more ls i d lt) ∙ ap greatest (map-append f (take i ls) (x ∷ [])) ∙ greatest_snoc (map f (take i ls)) (f x) in
    omega arith

and_true : (a : Bool) → (a && true) ≡ a
and_true true = refl
and_true false = refl

ends_only : (kinds : List Kind) → All (λ (p : Standing). is_terminal p.kind ≡ true) (all_standing Ends kinds)
ends_only kinds =
    All-map (λ (p : Standing). is_terminal p.kind ≡ true) (standing_at kinds) _
    (filter_all (λ a. is_terminal (kind_at kinds a)) (λ a. is_terminal (kind_at kinds a) ≡ true) 0 (length kinds) (λ k from to e. e))

-- what is told by the atom that makes a move legal
abbrev held : (ℕ → Bool) → Option ℕ → Bool
held h None = false
held h (Some a) = h a

none_below : (test : ℕ → Bool) (n : ℕ) → ((k : ℕ) → k < n → test k ≡ false) → some_below test n ≡ false
none_below test zero h = refl
none_below test (suc n) h = ap (λ (b : Bool). b || test n) (none_below test n (λ k lt. h k (omega arith))) ∙ h n (omega arith)

-- each move of a role is made legal by one atom at most
abbrev IsOnce : List Kind → ℕ → Type 0
IsOnce kinds r =
    (m a b : ℕ) → a < length kinds → b < length kinds → names (ByLegal r) (kind_at kinds a) m ≡ true → names (ByLegal r) (kind_at kinds b) m ≡ true
    → a ≡ b

-- room in which no atom is noted
pub none_pushed : (os : List (Option ℕ)) → ((m : ℕ) → get_or os m None ≡ None) → (m : ℕ) → get_or (os ++ None ∷ []) m None ≡ None
none_pushed [] h zero = refl
none_pushed [] h (suc m) = refl
none_pushed (o ∷ os) h zero = h 0
none_pushed (o ∷ os) h (suc m) = none_pushed os (λ k. h (suc k)) m

-- What holds at the places of atoms is what holds of the atoms.

module _ (scope : Scope) (kinds : List Kind) (f : ℕ → Bool) where
  abbrev on : ℕ → Bool
  on p = f (asked_at scope kinds p)

  abbrev seen : ℕ → Bool
  seen a = on (slice_index (places_of scope kinds) a)

  seen_alike : Alike scope kinds seen f
  seen_alike a lt shown = ap f (placed_at scope kinds a lt shown).at

  pub told_ends : list_any on (ends_of (places_of scope kinds) kinds) ≡ ends kinds f
  told_ends =
      any_map on (λ (p : Standing). slice_index (places_of scope kinds) p.atom) (all_standing Ends kinds)
      ∙ any_where (λ (p : Standing). seen p.atom) (λ (p : Standing). is_terminal p.kind) (all_standing Ends kinds) (ends_only kinds)
      ∙ ends_all kinds seen
      ∙ ends_alike scope kinds seen f seen_alike

  pub told_goals : (r : ℕ) → goal_on on (goals_of (places_of scope kinds) kinds r) ≡ best_goal kinds f r
  told_goals r =
      ap greatest (map_map (λ (l : ℕ × ℕ). cond (on l.0) l.1 0) (goal_pair (places_of scope kinds) r) (all_standing (Goals r) kinds))
      ∙ goals_all kinds seen r
      ∙ goals_alike scope kinds seen f r seen_alike

  named_by : (r m i : ℕ) → IsOnce kinds r → i ≤ length kinds → some_below (λ a. seen a && names (ByLegal r) (kind_at kinds a) m) i ≡ held seen
      (legal_named kinds r m i)
  named_by r m zero once few = refl
  named_by r m (suc i) once few = go (names (ByLegal r) (kind_at kinds i) m) refl (named_by r m i once (omega arith))
    where
      other : names (ByLegal r) (kind_at kinds i) m ≡ true → (k : ℕ) → k < i → (b : Bool) → names (ByLegal r) (kind_at kinds k) m ≡ b
          → (seen k && b) ≡ false
      other e k lt true h = let same = once m k i (omega arith) (omega arith) h e in absurd (omega arith)
      other e k lt false h = none_and (seen k)

      go : (b : Bool) → names (ByLegal r) (kind_at kinds i) m ≡ b → some_below (λ a. seen a && names (ByLegal r) (kind_at kinds a) m) i ≡ held seen
          (legal_named kinds r m i)
          → (some_below (λ a. seen a && names (ByLegal r) (kind_at kinds a) m) i || (seen i && b)) ≡ held seen
          (cond b (Some i) (legal_named kinds r m i))
      go true e rest =
          ap (λ (b : Bool). b || (seen i && true))
          (none_below (λ a. seen a && names (ByLegal r) (kind_at kinds a) m) i (λ k lt. other e k lt (names (ByLegal r) (kind_at kinds k) m) refl))
          ∙ and_true (seen i)
      go false e rest = ap (λ (b : Bool). some_below (λ a. seen a && names (ByLegal r) (kind_at kinds a) m) i || b) (none_and (seen i))
          ∙ or-false (some_below (λ a. seen a && names (ByLegal r) (kind_at kinds a) m) i) ∙ rest

  pair_moves : (o : Option ℕ) (m : ℕ) → moves_on on (legal_pair (places_of scope kinds) o m) ≡ cond (held seen o) (m ∷ []) []
  pair_moves None m = refl
  pair_moves (Some a) m = one_move (seen a) (slice_index (places_of scope kinds) a, m)

  seen_moves : (r n : ℕ) → IsOnce kinds r → moves_on on (legals_below (places_of scope kinds) kinds r n) ≡ named_below kinds seen (ByLegal r) n
  seen_moves r zero once = refl
  seen_moves r (suc n) once =
      let more : n + 1 ≡ suc n = omega arith in
      let o = legal_named kinds r n (length kinds) in
      moves_append on (legals_below (places_of scope kinds) kinds r n) (legal_pair (places_of scope kinds) o n)
      ∙ ap (λ (ns : List ℕ). ns ++ moves_on on (legal_pair (places_of scope kinds) o n)) (seen_moves r n once)
      ∙ ap (λ (ns : List ℕ). named_below kinds seen (ByLegal r) n ++ ns) (pair_moves o n)
      ∙ ap (λ (b : Bool). named_below kinds seen (ByLegal r) n ++ cond b (n ∷ []) []) (sym (named_by r n (length kinds) once (omega arith)))
      ∙ sym (filter_range_more (is_named kinds seen (ByLegal r)) n)
      ∙ ap (named_below kinds seen (ByLegal r)) more

  told_legals_once : asks_moves scope ≡ true → (r n : ℕ) → IsOnce kinds r
      → moves_on on (legals_below (places_of scope kinds) kinds r n) ≡ named_below kinds f (ByLegal r) n
  told_legals_once moves r n once = seen_moves r n once ∙ legals_alike scope moves kinds seen f r n seen_alike

pub told_legals : (scope : Scope) → asks_moves scope ≡ true → (g : FlatGround) (f : ℕ → Bool) (r n : ℕ)
    → moves_on (λ p. f (asked_at scope (kinds_of g) p)) (legals_below (places_of scope (kinds_of g)) (kinds_of g) r n)
    ≡ named_below (kinds_of g) f (ByLegal r) n
told_legals scope moves g f r n =
    told_legals_once scope (kinds_of g) f moves r n (λ m a b la lb ha hb. one_legal g r m a b la lb (legal_only r m (kind_at (kinds_of g) a) ha)
    (legal_only r m (kind_at (kinds_of g) b) hb))

-- The places are those of what is asked.

legal_found : (kinds : List Kind) (r m i a : ℕ) → legal_named kinds r m i ≡ Some a → (a < i) × (names (ByLegal r) (kind_at kinds a) m ≡ true)
legal_found kinds r m zero a e = absurd cc
legal_found kinds r m (suc i) a e = go (names (ByLegal r) (kind_at kinds i) m) refl e (legal_found kinds r m i a)
  where
    go : (b : Bool) → names (ByLegal r) (kind_at kinds i) m ≡ b → cond b (Some i) (legal_named kinds r m i) ≡ Some a
        → (legal_named kinds r m i ≡ Some a → (a < i) × (names (ByLegal r) (kind_at kinds a) m ≡ true)) → (a < suc i)
        × (names (ByLegal r) (kind_at kinds a) m ≡ true)
    go true here found rest =
        let same : i ≡ a = cc in
        (omega arith, ap (λ (k : ℕ). names (ByLegal r) (kind_at kinds k) m) (sym same) ∙ here)
    go false here found rest = let before = rest found in let lt = before.0 in (omega arith, before.1)

module _ (scope : Scope) (kinds : List Kind) where
  below : (a : ℕ) → a < length kinds → is_asked scope (kind_at kinds a) ≡ true
      → slice_index (places_of scope kinds) a < length (shown_below scope kinds (length kinds))
  below a lt shown = (placed_at scope kinds a lt shown).below

  pub ends_within : All (λ (p : ℕ). p < length (shown_below scope kinds (length kinds))) (ends_of (places_of scope kinds) kinds)
  ends_within =
      let most = length (shown_below scope kinds (length kinds)) in
      All-map (λ (p : ℕ). p < most) (λ (p : Standing). slice_index (places_of scope kinds) p.atom) (all_standing Ends kinds)
      (standing_shown scope Ends kinds (λ a. slice_index (places_of scope kinds) a < most) (end_shown scope) below)

  pub goals_within : (r : ℕ) → All (λ (l : ℕ × ℕ). l.0 < length (shown_below scope kinds (length kinds))) (goals_of (places_of scope kinds) kinds r)
  goals_within r =
      let most = length (shown_below scope kinds (length kinds)) in
      All-map (λ (l : ℕ × ℕ). l.0 < most) (goal_pair (places_of scope kinds) r) (all_standing (Goals r) kinds)
      (standing_shown scope (Goals r) kinds (λ a. slice_index (places_of scope kinds) a < most) (goal_sought scope r) below)

  pair_within : (o : Option ℕ) (m : ℕ)
      → ((a : ℕ) → o ≡ Some a → slice_index (places_of scope kinds) a < length (shown_below scope kinds (length kinds)))
      → All (λ (l : ℕ × ℕ). l.0 < length (shown_below scope kinds (length kinds))) (legal_pair (places_of scope kinds) o m)
  pair_within None m h = λ k d lt. absurd (omega arith)
  pair_within (Some a) m h = one
    where
      one : All (λ (l : ℕ × ℕ). l.0 < length (shown_below scope kinds (length kinds))) ((slice_index (places_of scope kinds) a, m) ∷ [])
      one zero d lt = h a refl
      one (suc k) d lt = absurd (omega arith)

  pub legals_within : asks_moves scope ≡ true → (r n : ℕ)
      → All (λ (l : ℕ × ℕ). l.0 < length (shown_below scope kinds (length kinds))) (legals_below (places_of scope kinds) kinds r n)
  legals_within moves r zero = λ k d lt. absurd (omega arith)
  legals_within moves r (suc n) =
      All-append (λ (l : ℕ × ℕ). l.0 < length (shown_below scope kinds (length kinds))) (legals_below (places_of scope kinds) kinds r n)
      (legal_pair (places_of scope kinds) (legal_named kinds r n (length kinds)) n)
      (legals_within moves r n)
      (pair_within (legal_named kinds r n (length kinds)) n
      (λ a e. let found = legal_found kinds r n (length kinds) a e in below a found.0 (legal_shown scope moves r n (kind_at kinds a) found.1)))

one_at_most : (places : List ℕ) (o : Option ℕ) (m : ℕ) → length (legal_pair places o m) ≤ 1
one_at_most places None m = omega arith
one_at_most places (Some a) m = omega arith

-- there are no more of them than moves
pub legals_few : (places : List ℕ) (kinds : List Kind) (r n : ℕ) → length (legals_below places kinds r n) ≤ n
legals_few places kinds r zero = omega arith
legals_few places kinds r (suc n) =
    let o = legal_named kinds r n (length kinds) in
    let both = length-append (legals_below places kinds r n) (legal_pair places o n) in
    let rest = legals_few places kinds r n in
    let one = one_at_most places o n in
    omega arith
