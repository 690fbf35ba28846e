-- What the game of an instantiation tells of a state is what the rules say.
use Rattle.std.proofs.Common.{
  ℕ,
  zero,
  suc,
  ◌<◌,
  Bool,
  true,
  false,
  cond,
  ◌&&◌,
  ◌||◌,
  ◌≡◌,
  ◌⊎◌,
  ◌↔◌,
  inl,
  inr,
  List,
  [],
  ◌∷◌,
  length,
  map,
  get_or,
  refl,
  sym,
  ap,
  subst,
  ◌∙◌,
  arith,
  Option,
  Some,
  None,
  le-ltb,
}
use Rattle.std.specs.Prelude.{filter, IsTrue, nat_lt, slice_index, ◌==◌}
use Rattle.std.specs.Option.{option_map}
use Rattle.std.proofs.lemmas.List.{length-map}
use Rattle.statement.specs.Tree.{Tree, Trees, no_trees, tree, name_eq, tree_eq}
use Rattle.kif.proofs.Facts.{both, true_and, name_eq_yes, tree_eq_yes}
use Rattle.statement.specs.Words.{w_true, w_does, w_distinct, w_terminal}
use Rattle.statement.specs.Clause.{Atom, Alternative, relation_of, atom_eq}
use Rattle.statement.specs.Dependence.{IsAmong, is_fixed}
use Rattle.rules_profile.proofs.Facts.{fixed_tested, or_cases, or_left, or_right}
use Rattle.statement.specs.declared.kind.Kind.{Kind}
use Rattle.statement.specs.declared.kind.Kind.TheVariants.{Fixed, Now, Does, Next, Legal, Goal, Terminal, Other}
use Rattle.statement.specs.Meaning.{StateOfTerms, Joint, Source, now, does, distinct, ordinary, source_at, source_of, RightAs, Holds, nobody, IsEnded, IsBase, IsWithinBase, IsWithinInput, atom0, atom1}
use Rattle.meaning.specs.InOrder.{AreDistinct}
use Rattle.statement.specs.Printed.{first_place}
use Rattle.statement.specs.Kept.{number_of, Kept, numbered}
use Rattle.statement.specs.Listing.{listing, base_list}
use Rattle.meaning.specs.Listed.{IsWellFormed}
use Rattle.meaning.specs.Gates.{atom_at}
use Rattle.statement.specs.Kinds.{place_in, kind_of}
use Rattle.meaning.specs.Kinds.{MeansKind}
use Rattle.meaning.proofs.Facts.{kind_sound, kind_complete, listed_suffice, bases_exact, distinct_fixed, one_number, place_below, atom_test, start_listed}
use Rattle.statement.specs.Rules.{Turn}
use Rattle.game_rules.specs.RulePlay.{marked, no_turn, kind_at, is_given, holds, some_below, is_terminal, ends}
use Rattle.game_rules.specs.RuleMeaning.{Agree}
use Rattle.statement.specs.GameNumbers.{stands_at, state_of, trees_at}
use Rattle.statement.specs.Played.{nth_tree}
use Rattle.game_rules.proofs.Trees.{trees_picked, picked_filter}
use Rattle.statement.specs.GoalsAndMoves as play
use Rattle.statement.specs.GoalsAndMoves.{AreStart}
use Rattle.std.specs.List.{range_with_len}
use Rattle.game_rules.proofs.ByNumbers.{numbers_exact, kind_listed, head_listed, right_there}

-- Atoms by number.

pub among_atom : (atoms : List Atom) (a : ℕ) → a < length atoms → IsAmong (atom_at atoms a) atoms
among_atom [] a lt = absurd (omega arith)
among_atom (x ∷ xs) zero lt = inl refl
among_atom (x ∷ xs) (suc a) lt = inr (among_atom xs a (omega arith))

pub number_at : (atoms : List Atom) → AreDistinct atoms → (a : ℕ) → a < length atoms → number_of (atom_at atoms a) atoms ≡ a
number_at [] d a lt = absurd (omega arith)
number_at (x ∷ xs) d zero lt = let e = (atom_test x x).1 refl in rw e refl
number_at (x ∷ xs) d (suc a) lt = go (atom_eq (atom_at xs a) x) refl (number_at xs d.1 a (omega arith))
  where
    go : (b : Bool) → atom_eq (atom_at xs a) x ≡ b → number_of (atom_at xs a) xs ≡ a
        → cond b zero (suc (first_place (atom_eq (atom_at xs a)) xs)) ≡ suc a
    go true e more = absurd (d.0 (atom_at xs a) (among_atom xs a (omega arith)) (sym ((atom_test (atom_at xs a) x).0 e)))
    go false e more = ap suc more

pub kind_at_number : (f : Atom → Kind) (atoms : List Atom) (a : ℕ) → a < length atoms → kind_at (map f atoms) a ≡ f (atom_at atoms a)
kind_at_number f [] a lt = absurd (omega arith)
kind_at_number f (x ∷ xs) zero lt = refl
kind_at_number f (x ∷ xs) (suc a) lt = kind_at_number f xs a (omega arith)

pub some_found : (test : ℕ → Bool) (n : ℕ) → some_below test n ≡ true → (a : ℕ) × (a < n) × (test a ≡ true)
some_found test zero e = absurd cc
some_found test (suc n) e = go (or_cases (some_below test n) (test n) e) (some_found test n)
  where
    go : (some_below test n ≡ true) ⊎ (test n ≡ true) → (some_below test n ≡ true → (a : ℕ) × (a < n) × (test a ≡ true)) → (a : ℕ) × (a < suc n)
        × (test a ≡ true)
    go (inl h) more = let r = more h in let lt = r.1 in (r.0, omega arith, r.2)
    go (inr h) more = (n, omega arith, h)

pub found_some : (test : ℕ → Bool) (n a : ℕ) → a < n → test a ≡ true → some_below test n ≡ true
found_some test zero a lt e = absurd (omega arith)
found_some test (suc n) a lt e = go (last a n lt) (found_some test n a)
  where
    last : (a n : ℕ) → a < suc n → (a < n) ⊎ (a ≡ n)
    last zero zero l = inr refl
    last zero (suc n) l = inl (omega arith)
    last (suc a) zero l = absurd (omega arith)
    last (suc a) (suc n) l = elim (last a n (omega arith)) [ inl k ↦ inl (omega arith) | inr s ↦ inr (ap suc s) ]

    go : (a < n) ⊎ (a ≡ n) → (a < n → test a ≡ true → some_below test n ≡ true) → (some_below test n || test n) ≡ true
    go (inl l) more = or_left (some_below test n) (test n) (more l e)
    go (inr s) more = or_right (some_below test n) (test n) (ap test (sym s) ∙ e)

-- Sources.

now_atom : (w : List ℕ) (ts : Trees) (p : Tree) → source_at w ts ≡ now p → ◌≡◌ {A = Atom} (record { word = w; terms = ts }) (atom1 w_true p)
now_atom w no_trees p e = absurd cc
now_atom w (tree t no_trees) p e = go (name_eq w w_true) refl e
  where
    go : (b : Bool) → name_eq w w_true ≡ b → cond b (now t) ordinary ≡ now p → ◌≡◌ {A = Atom} (record { word = w; terms = tree t no_trees })
        (atom1 w_true p)
    go true h k = let f = name_eq_yes w w_true h in let g : t ≡ p = cc in λ i. record { word = f i; terms = tree (g i) no_trees }
    go false h k = absurd cc
now_atom w (tree t (tree u no_trees)) p e = go (name_eq w w_does) (name_eq w w_distinct) e
  where
    go : (b c : Bool) → cond b (does t u) (cond c (distinct t u) ordinary) ≡ now p
        → ◌≡◌ {A = Atom} (record { word = w; terms = tree t (tree u no_trees) }) (atom1 w_true p)
    go true c k = absurd cc
    go false true k = absurd cc
    go false false k = absurd cc
now_atom w (tree t (tree u (tree v vs))) p e = absurd cc

pub place_among : (t : Tree) (ts : List Tree) (n : ℕ) → place_in t ts ≡ Some n → IsAmong t ts
place_among t [] n e = absurd cc
place_among t (u ∷ us) n e = go (tree_eq t u) refl (place_in t us) refl e (λ m k. place_among t us m k)
  where
    go : (b : Bool) → tree_eq t u ≡ b → (o : Option ℕ) → place_in t us ≡ o → cond b (Some zero) (option_map suc o) ≡ Some n
        → ((m : ℕ) → place_in t us ≡ Some m → IsAmong t us) → (t ≡ u) ⊎ IsAmong t us
    go true h o k f more = inl (tree_eq_yes t u h)
    go false h None k f more = absurd cc
    go false h (Some m) k f more = inr (more m k)

terminal_only : (c : Kind) → is_terminal c ≡ true → c ≡ Terminal
terminal_only Fixed e = absurd cc
terminal_only (Now p) e = absurd cc
terminal_only (Does r m) e = absurd cc
terminal_only (Next p) e = absurd cc
terminal_only (Legal r m) e = absurd cc
terminal_only (Goal r v) e = absurd cc
terminal_only Terminal e = refl
terminal_only Other e = absurd cc

module _ (rules : List Alternative) (w : IsWellFormed rules) where
  abbrev kinds : List Kind
  kinds = map (kind_of rules) (listing rules).atoms

  abbrev kept : List Kept
  kept = map (numbered rules) (listing rules).kept

  pub moving_kind : (x : Atom) (k : Kind) → kind_of rules x ≡ k → (k ≡ Fixed → ⊥) → is_fixed rules (relation_of x) ≡ false
  moving_kind x k e other = go (is_fixed rules (relation_of x)) refl
    where
      go : (b : Bool) → is_fixed rules (relation_of x) ≡ b → b ≡ false
      go true h = let f : kind_of rules x ≡ Fixed = rw h refl in absurd (other (sym e ∙ f))
      go false h = refl

  module _ (s : List ℕ) where
    pub within_base : IsWithinBase rules (state_of rules s)
    within_base p h = go (place_in p (base_list rules)) refl h
      where
        go : (o : Option ℕ) → place_in p (base_list rules) ≡ o → IsTrue (stands_at s o) → IsBase rules p
        go None e k = absurd cc
        go (Some n) e k = (bases_exact rules w p).0 (place_among p (base_list rules) n e)

    pub no_move : IsWithinInput rules nobody
    no_move r m e = absurd cc

    pub agree_now : Agree rules (state_of rules s) nobody s no_turn
    agree_now x listed moving = (there (kind_of rules x) refl, back (source_of x) refl)
      where
        there : (k : Kind) → kind_of rules x ≡ k → is_given s no_turn k ≡ true → RightAs (state_of rules s) nobody ⊥ (source_of x)
        there Fixed h e = absurd cc
        there (Now n) h e =
            let m = kind_sound rules w.acyclic x (Now n) h (λ f. absurd cc) in
            subst (λ (y : Atom). RightAs (state_of rules s) nobody ⊥ (source_of y)) (sym m.1) (ap (stands_at s) m.2 ∙ e)
        there (Does r m) h e = let z = le-ltb r 0 (omega arith) in let b = both (nat_lt r 0) (slice_index no_turn r == m) e in let c = b.0 in
            absurd cc
        there (Next p) h e = absurd cc
        there (Legal r m) h e = absurd cc
        there (Goal r v) h e = absurd cc
        there Terminal h e = absurd cc
        there Other h e = absurd cc

        back : (from : Source) → source_of x ≡ from → RightAs (state_of rules s) nobody ⊥ from → is_given s no_turn (kind_of rules x) ≡ true
        back (now p) e h = go (place_in p (base_list rules)) refl h
          where
            go : (o : Option ℕ) → place_in p (base_list rules) ≡ o → IsTrue (stands_at s o) → is_given s no_turn (kind_of rules x) ≡ true
            go None f k = absurd cc
            go (Some n) f k = ap (is_given s no_turn) (kind_complete rules w.acyclic x (Now n) (p, now_atom x.word x.terms p e, f)) ∙ k
        back (does r m) e h = absurd cc
        back (distinct t u) e h = let f = (fixed_tested rules w.acyclic (relation_of x)).1 (distinct_fixed rules w x t u e) in absurd cc
        back ordinary e h = absurd h

  module _ (S : StateOfTerms) (J : Joint) (base : IsWithinBase rules S) (input : IsWithinInput rules J) (s : List ℕ) (j : Turn) (given : Agree rules S J s j)
    where
      -- some number that holds has the kind exactly where the one atom of the kind holds
      pub kind_holds : (test : Kind → Bool) (k : Kind) (y : Atom) → ((c : Kind) → test c ≡ true → c ≡ k) → test k ≡ true → (k ≡ Other → ⊥)
          → (k ≡ Fixed → ⊥)
          → MeansKind rules y k → ((z : Atom) → MeansKind rules z k → z ≡ y) → source_of y ≡ ordinary
          → (some_below (λ a. holds kinds kept s j a && test (kind_at kinds a)) (length kinds) ≡ true) ↔ Holds rules S J y
      kind_holds test k y only is other moves means once plain = (there, back)
        where
          there : some_below (λ a. holds kinds kept s j a && test (kind_at kinds a)) (length kinds) ≡ true → Holds rules S J y
          there e =
              let r = some_found (λ a. holds kinds kept s j a && test (kind_at kinds a)) (length kinds) e in
              let a = r.0 in
              let below = r.1 in
              let size = length-map (listing rules).atoms (kind_of rules) in
              let lt : a < length (listing rules).atoms = omega arith in
              let b = both (holds kinds kept s j a) (test (kind_at kinds a)) r.2 in
              let x = atom_at (listing rules).atoms a in
              let kind = only (kind_of rules x) (ap test (sym (kind_at_number (kind_of rules) (listing rules).atoms a lt)) ∙ b.1) in
              let same = once x (kind_sound rules w.acyclic x k kind other) in
              let right = (numbers_exact rules w S J base input s j given x (among_atom (listing rules).atoms a lt) (moving_kind x k kind moves)).0
              (ap (holds kinds kept s j) (number_at (listing rules).atoms (one_number rules) a lt) ∙ b.0) in
              (right_there S J (Holds rules S J y) (source_of y) plain).1
              (subst (λ (z : Atom). RightAs S J (Holds rules S J z) (source_of z)) same right)

          back : Holds rules S J y → some_below (λ a. holds kinds kept s j a && test (kind_at kinds a)) (length kinds) ≡ true
          back h =
              let r = (listed_suffice rules w S J base input y).0 h in
              let listed = subst (λ (z : Atom). IsAmong z (listing rules).atoms) r.heads
              (head_listed rules w S J base input s j given r.instance r.listed) in
              let kind = kind_complete rules w.acyclic y k means in
              let right = (numbers_exact rules w S J base input s j given y listed (moving_kind y k kind moves)).1
              ((right_there S J (Holds rules S J y) (source_of y) plain).0 h) in
              let size = length-map (listing rules).atoms (kind_of rules) in
              let below = place_below atom_eq atom_test y (listing rules).atoms listed in
              found_some (λ a. holds kinds kept s j a && test (kind_at kinds a)) (length kinds) (number_of y (listing rules).atoms) (omega arith)
              (true_and _ _ right (ap test (kind_listed (kind_of rules) y (listing rules).atoms listed ∙ kind) ∙ is))

  pub ends_by_rules : (s : List ℕ) → (ends kinds (holds kinds kept s no_turn) ≡ true) ↔ IsEnded rules (state_of rules s)
  ends_by_rules s =
      kind_holds (state_of rules s) nobody (within_base s) (no_move s) s no_turn (agree_now s) is_terminal Terminal (atom0 w_terminal) terminal_only
      refl (λ e. absurd cc) (λ e. absurd cc) refl (λ z m. m) refl

start_mark : (F : Tree → Bool) (ts : List Tree) (k : ℕ) → k < length ts → get_or (map F ts) k false ≡ F (nth_tree ts k)
start_mark F [] k lt = absurd (omega arith)
start_mark F (t ∷ ts) zero lt = refl
start_mark F (t ∷ ts) (suc k) lt = start_mark F ts k (omega arith)

-- the start state is that of the rules
pub start_are : (rules : List Alternative) → IsWellFormed rules
    → AreStart rules (trees_at (base_list rules) (marked (map (play.starts rules) (base_list rules))))
start_are rules w =
    let marks = map (play.starts rules) (base_list rules) in
    subst (λ (ts : List Tree). AreStart rules ts)
    (sym (ap (λ (n : ℕ). trees_at (base_list rules) (filter (λ k. get_or marks k false) (range_with_len 0 n)))
    (length-map (base_list rules) (play.starts rules))
    ∙ trees_picked (λ k. get_or marks k false) (base_list rules)
    ∙ picked_filter (λ k. get_or marks k false) (play.starts rules) 0 (base_list rules)
    (λ k lt. ap (λ (i : ℕ). get_or marks i false) (omega arith) ∙ start_mark (play.starts rules) (base_list rules) k lt)))
    (start_listed rules w)
