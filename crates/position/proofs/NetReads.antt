-- The values of a network tell what the game of the instantiation tells.
use Rattle.std.proofs.Common.{
  ◌≡◌,
  ℕ,
  ◌<◌,
  Bool,
  true,
  false,
  cond,
  ◌&&◌,
  List,
  length,
  map,
  get_or,
  refl,
  sym,
  ◌∙◌,
  ap,
  subst,
  arith,
  Option,
  Some,
  None,
  ◌↔◌,
  le-ltb,
  lt-ltb,
  eqb-true,
  eq-eqb,
}
use Rattle.std.specs.Prelude.{◌==◌, nat_lt, slice_index, unwrap_or, IsTrue}
use Rattle.std.proofs.Math.Logic.{∥∥₁_elim}
use Rattle.std.proofs.Props.{props}
use Rattle.std.proofs.lemmas.List.{length-map}
use Rattle.statement.specs.Tree.{Tree, text}
use Rattle.statement.specs.Words.{w_legal}
use Rattle.statement.specs.Clause.{Atom, Alternative, relation_of}
use Rattle.statement.specs.Dependence.{IsAmong, is_fixed}
use Rattle.statement.specs.declared.kind.Kind.{Kind}
use Rattle.statement.specs.declared.kind.Kind.TheVariants.{Fixed, Now, Does, Next, Legal, Goal, Terminal, Other}
use Rattle.ground_instances.specs.declared.flat_ground.FlatGround.{FlatGround}
use Rattle.meaning.specs.Gates.{atom_at}
use Rattle.statement.specs.Kept.{Kept, numbered, number_of}
use Rattle.ground_instances.specs.GroundView.{base_of, kinds_of, instances_of, IsGround}
use Rattle.statement.specs.Kinds.{kind_of, place_in}
use Rattle.statement.specs.Listing.{listing, role_list, base_list, input_list}
use Rattle.meaning.specs.Listed.{IsWellFormed}
use Rattle.statement.specs.Meaning as meaning
use Rattle.statement.specs.Meaning.{ordinary, source_of, Holds, nobody, IsRole, atom2}
use Rattle.statement.specs.GoalsAndMoves as play
use Rattle.meaning.proofs.Facts.{kind_sound, bases_in_order, inputs_in_order, roles_exact, bases_exact, one_number}
use Rattle.propnet.specs.declared.net.Net.{Net}
use Rattle.propnet.specs.Agreement as agreement
use Rattle.propnet.specs.Bodies.{needs_view}
use Rattle.propnet.specs.Builders.{IsNetOf}
use Rattle.propnet.specs.Nets.{gates_of}
use Rattle.propnet.specs.Network.{given, value}
use Rattle.propnet.proofs.Facts.{stands_below, view_law, transition_law, told_law}
use Rattle.game_rules.specs.declared.naming.Naming.TheVariants.{ByNext}
use Rattle.statement.specs.Rules.{State, Turn, IsTurn}
use Rattle.statement.specs.Played.{nth_tree}
use Rattle.statement.specs.GameNumbers.{stands_at, state_of, chosen_at, joint_of}
use Rattle.game_rules.specs.RulePlay.{no_turn, kind_at, holds, is_named}
use Rattle.game_rules.specs.RuleState.{rules_of, holds_in}
use Rattle.position.specs.declared.lane_plan.Scope.{Scope}
use Rattle.position.specs.NetState.{is_asked, told_state, view_of}
use Rattle.game_rules.proofs.Facts.{place_within, within_input, next_holds, numbers_exact, right_there, among_atom, number_at, kind_at_number, moving_kind, place_among, within_base, no_move, agree_now, game_of_ground, same_answer, in_order_once, inside, placed, place_at, among_tree}

-- a number is 1 where a test says so
one_told : (n : ℕ) (X : Type 0) → (n ≡ 1) ↔ X → ((n == 1) ≡ true) ↔ X
one_told n X h = ((λ e. h.0 (eqb-true n 1 e)), (λ x. eq-eqb n 1 (h.1 x)))

one_if : (b : Bool) → ◌≡◌ {A = ℕ} (cond b 1 0) 1 → b ≡ true
one_if true e = refl
one_if false e = absurd cc

if_one : (b : Bool) → b ≡ true → ◌≡◌ {A = ℕ} (cond b 1 0) 1
if_one true e = refl
if_one false e = absurd cc

shown_view : (scope : Scope) (k : Kind) → is_asked scope k ≡ true → needs_view k ≡ true
shown_view scope Fixed e = refl
shown_view scope (Now p) e = absurd cc
shown_view scope (Does r m) e = absurd cc
shown_view scope (Next p) e = refl
shown_view scope (Legal r m) e = refl
shown_view scope (Goal r v) e = refl
shown_view scope Terminal e = refl
shown_view scope Other e = refl

module _ (rules : List Alternative) (w : IsWellFormed rules) where
  -- an atom that is asked is open, and rules tell of it
  shown_moving : (scope : Scope) (x : Atom) (k : Kind) → kind_of rules x ≡ k → is_asked scope k ≡ true → is_fixed rules (relation_of x) ≡ false
  shown_moving scope x k h e = moving_kind rules w x k h (λ f. let z : is_asked scope Fixed ≡ true = ap (is_asked scope) (sym f) ∙ e in absurd cc)

  shown_plain : (scope : Scope) (x : Atom) (k : Kind) → kind_of rules x ≡ k → is_asked scope k ≡ true → source_of x ≡ ordinary
  shown_plain scope x Fixed h e = absurd cc
  shown_plain scope x (Now p) h e = absurd cc
  shown_plain scope x (Does r m) h e = absurd cc
  shown_plain scope x (Next p) h e = absurd cc
  shown_plain scope x (Legal r m) h e = let k = kind_sound rules w.acyclic x (Legal r m) h (λ f. absurd cc) in ap source_of k.2
  shown_plain scope x (Goal r v) h e = let k = kind_sound rules w.acyclic x (Goal r v) h (λ f. absurd cc) in ap source_of k.1
  shown_plain scope x Terminal h e = let k = kind_sound rules w.acyclic x Terminal h (λ f. absurd cc) in ap source_of k
  shown_plain scope x Other h e = absurd cc

  -- Bits and numbers that tell the same as terms.

  module _ (state : ℕ → ℕ) (is_bit : (n : ℕ) → state n < 2) where
    abbrev s : State
    s = told_state state (length (base_list rules))

    bits_now : (p : Tree) (n : ℕ) → place_in p (base_list rules) ≡ Some n → (state n ≡ 1) ↔ IsTrue (state_of rules s p)
    bits_now p n e =
        let same : state_of rules s p ≡ (state n == 1) =
        ap (stands_at s) e ∙ inside (λ i. state i == 1) 0 (length (base_list rules)) n (omega arith) (let lt = place_within p (base_list rules) n e in
        omega arith) in
        ((λ h. same ∙ eq-eqb (state n) 1 h), (λ h. eqb-true (state n) 1 (sym same ∙ h)))

    agree_bits_now : agreement.AgreeByNumber rules (state_of rules s) nobody state no_turn
    agree_bits_now = record {
      bits = is_bit;
      now = bits_now;
      does = λ r m k n e f. ((λ h. absurd (none k n h)), (λ (h : ◌≡◌ {A = Option Tree} None (Some m)). absurd cc));
    }
      where
        none : (k n : ℕ) → given no_turn k n ≡ 1 → ⊥
        none k n h =
            let z : nat_lt k 0 ≡ false = le-ltb k 0 (omega arith) in
            let e : given no_turn k n ≡ 0 = ap (λ (b : Bool). cond (b && (slice_index no_turn k == n)) 1 0) z in
            let f : 0 ≡ 1 = sym e ∙ h in
            absurd cc

    module _ (j : Turn) (many : length j ≡ length (role_list rules))
        (below : (q : ℕ) → q < length (role_list rules) → slice_index j q < length (input_list rules (nth_tree (role_list rules) q))) where
      given_told : (r m : Tree) (k n : ℕ) → place_in r (role_list rules) ≡ Some k → place_in m (input_list rules r) ≡ Some n
          → (given j k n ≡ 1) ↔ (joint_of rules j r ≡ Some m)
      given_told r m k n e f = (there, back)
        where
          role : IsRole rules r
          role = (roles_exact rules w r).0 (place_among r (role_list rules) k e)

          same : joint_of rules j r ≡ Some (nth_tree (input_list rules r) (slice_index j k))
          same = ap (chosen_at (input_list rules r) j) e

          in_turn : nat_lt k (length j) ≡ true
          in_turn = let lt = place_within r (role_list rules) k e in lt-ltb k (length j) (omega arith)

          test : given j k n ≡ cond (slice_index j k == n) 1 0
          test = ap (λ (b : Bool). cond (b && (slice_index j k == n)) 1 0) in_turn

          there : given j k n ≡ 1 → joint_of rules j r ≡ Some m
          there h =
              let i : slice_index j k ≡ n = eqb-true (slice_index j k) n (one_if (slice_index j k == n) (sym test ∙ h)) in
              same ∙ ap (λ (q : ℕ). Some (nth_tree (input_list rules r) q)) i ∙ ap Some (placed m (input_list rules r) n f)

          back : joint_of rules j r ≡ Some m → given j k n ≡ 1
          back h =
              let tree : nth_tree (input_list rules r) (slice_index j k) ≡ m = let z : Some (nth_tree (input_list rules r) (slice_index j k)) ≡ Some
              m = sym same ∙ h in cc in
              let once = in_order_once (input_list rules r) (inputs_in_order rules w r role) in
              let lt : slice_index j k < length (input_list rules r) =
              subst (λ (t : Tree). slice_index j k < length (input_list rules t)) (placed r (role_list rules) k e)
              (below k (place_within r (role_list rules) k e)) in
              let place : place_in m (input_list rules r) ≡ Some (slice_index j k) =
              subst (λ (t : Tree). place_in t (input_list rules r) ≡ Some (slice_index j k)) tree
              (place_at (input_list rules r) once (slice_index j k) lt) in
              let i : slice_index j k ≡ n = let z : Some (slice_index j k) ≡ Some n = sym place ∙ f in cc in
              test ∙ if_one (slice_index j k == n) (eq-eqb (slice_index j k) n i)

      agree_bits_move : agreement.AgreeByNumber rules (state_of rules s) (joint_of rules j) state j
      agree_bits_move = record { bits = is_bit; now = bits_now; does = given_told }

-- What the views of a state and the transitions of a turn tell, in the words of the ground alone.

pub record IsViewTold (g : FlatGround) (net : Net) (state : ℕ → ℕ) (a : ℕ) : Type 0 where
  pub below : view_of net.views.items a < length (gates_of net)
  pub told : (value (gates_of net) state no_turn (view_of net.views.items a) == 1) ≡ holds_in g (told_state state (length g.starts.items)) a

pub record IsTransitionTold (g : FlatGround) (net : Net) (state : ℕ → ℕ) (j : Turn) (p : ℕ) : Type 0 where
  pub below : get_or net.transitions.items p 0 < length (gates_of net)
  pub told : (value (gates_of net) state j (get_or net.transitions.items p 0) == 1)
      ≡ is_named (kinds_of g) (holds (kinds_of g) (instances_of g) (told_state state (length g.starts.items)) j) ByNext p

module _ (rules : List Alternative) (g : FlatGround) (is : IsGround rules g) (net : Net) (of : IsNetOf g net) (state : ℕ → ℕ)
    (is_bit : (n : ℕ) → state n < 2) where
  abbrev kinds : List Kind
  kinds = map (kind_of rules) (listing rules).atoms

  abbrev kept : List Kept
  kept = map (numbered rules) (listing rules).kept

  count : length g.starts.items ≡ length (base_list rules)
  count = ap (λ (bs : List Bool). length bs) is.starts_are ∙ length-map (base_list rules) (play.starts rules)

  abbrev kept_words : State
  kept_words = told_state state (length (base_list rules))

  counted : (j : Turn) → holds (kinds_of g) (instances_of g) (told_state state (length g.starts.items)) j ≡ holds kinds kept kept_words j
  counted j =
      ap (λ (n : ℕ). holds (kinds_of g) (instances_of g) (told_state state n) j) count
      ∙ ap (λ (ks : List Kind). holds ks (instances_of g) kept_words j) is.kinds_are
      ∙ ap (λ (ks : List Kept). holds kinds ks kept_words j) is.kept_are

  module _ (scope : Scope) (a : ℕ) (lt : a < length (kinds_of g)) (shown : is_asked scope (kind_at (kinds_of g) a) ≡ true) where
    abbrev x : Atom
    x = atom_at (listing rules).atoms a

    within : a < length (listing rules).atoms
    within =
        let size : length (kinds_of g) ≡ length kinds = ap (λ (ks : List Kind). length ks) is.kinds_are in
        let many : length kinds ≡ length (listing rules).atoms = length-map (listing rules).atoms (kind_of rules) in
        omega arith

    listed : IsAmong x (listing rules).atoms
    listed = among_atom (listing rules).atoms a within

    number : number_of x (listing rules).atoms ≡ a
    number = number_at (listing rules).atoms (one_number rules) a within

    kind_shown : is_asked scope (kind_of rules x) ≡ true
    kind_shown = ap (is_asked scope) (sym (ap (λ (ks : List Kind). kind_at ks a) is.kinds_are
        ∙ kind_at_number (kind_of rules) (listing rules).atoms a within)) ∙ shown

    moving : is_fixed rules (relation_of x) ≡ false
    moving = shown_moving rules is.well_formed scope x (kind_of rules x) refl kind_shown

    view_told_by : IsViewTold g net state a
    view_told_by =
        let w = is.well_formed in
        let r = told_law rules g is net of x listed moving (shown_view scope (kind_of rules x) kind_shown) in
        let S = state_of rules kept_words in
        let node : view_of net.views.items a ≡ r.0 = ap (λ (o : Option ℕ). unwrap_or o 0) (ap (λ (i : ℕ). get_or net.views.items i None) (sym number)
        ∙ r.1) in
        let law = view_law rules g is net of S nobody (within_base rules w kept_words) (no_move rules w kept_words) state no_turn
        (agree_bits_now rules w state is_bit) x listed moving r.0 r.2 in
        let found = numbers_exact rules w S nobody (within_base rules w kept_words) (no_move rules w kept_words) kept_words no_turn
        (agree_now rules w kept_words) x listed moving in
        let plain = right_there S nobody (Holds rules S nobody x) (source_of x) (shown_plain rules w scope x (kind_of rules x) refl kind_shown) in
        let held : (holds kinds kept kept_words no_turn (number_of x (listing rules).atoms) ≡ true) ↔ Holds rules S nobody
        x = ((λ e. plain.1 (found.0 e)), (λ h. found.1 (plain.0 h))) in
        let same : (value (gates_of net) state no_turn r.0 == 1) ≡ holds kinds kept kept_words no_turn (number_of x (listing rules).atoms) =
        same_answer (value (gates_of net) state no_turn r.0 == 1) (holds kinds kept kept_words no_turn (number_of x (listing rules).atoms))
        (Holds rules S nobody x) (one_told _ (Holds rules S nobody x) law) held in
        record {
          below = subst (λ (n : ℕ). n < length (gates_of net)) (sym node) (stands_below (gates_of net) r.0 _ r.2);
          told = ap (λ (n : ℕ). value (gates_of net) state no_turn n == 1) node ∙ same ∙ ap (holds kinds kept kept_words no_turn) number
              ∙ sym (ap (λ (f : ℕ → Bool). f a) (counted no_turn));
        }

  module _ (j : Turn) (turn : IsTurn (rules_of g) j) where
    many : length j ≡ length (role_list rules)
    many = turn.of_each_role ∙ (game_of_ground rules g is).roles_are

    known : (q : ℕ) → q < length (role_list rules) → slice_index j q < length (input_list rules (nth_tree (role_list rules) q))
    known q below =
        let lt : q < (rules_of g).roles = subst (λ (n : ℕ). q < n) (sym (game_of_ground rules g is).roles_are) below in
        subst (λ (n : ℕ). slice_index j q < n) ((game_of_ground rules g is).moves_are q lt) (turn.each_known q lt)

    transition_told_by : (p : ℕ) → p < length g.starts.items → IsTransitionTold g net state j p
    transition_told_by p lt =
        let w = is.well_formed in
        let inside : p < length (base_list rules) = let c = count in omega arith in
        let texts : length (base_of g) ≡ length (base_list rules) = ap (λ (ts : List (List ℕ)). length ts) is.base_are
        ∙ length-map (base_list rules) text in
        let S = state_of rules kept_words in
        let J = joint_of rules j in
        let t = nth_tree (base_list rules) p in
        let place : place_in t (base_list rules) ≡ Some p = place_at (base_list rules) (in_order_once (base_list rules) (bases_in_order rules w)) p
        inside in
        let n = get_or net.transitions.items p 0 in
        let stands = of.transitions.each p (omega arith) in
        let law = transition_law rules g is net of S J (within_base rules w kept_words) (within_input rules w kept_words j many known) state j
        (agree_bits_move rules w state is_bit j many known) t p place n stands in
        let next = next_holds rules w kept_words j many known p inside in
        let named : (is_named kinds (holds kinds kept kept_words j) ByNext p ≡ true) ↔ meaning.IsInAfter rules S J t =
        ((λ e. ((bases_exact rules w t).0 (among_tree (base_list rules) p inside), next.0 e)), (λ h. next.1 h.1)) in
        record {
          below = stands_below (gates_of net) n _ stands;
          told = same_answer (value (gates_of net) state j n == 1) (is_named kinds (holds kinds kept kept_words j) ByNext p)
              (meaning.IsInAfter rules S J t) (one_told _ (meaning.IsInAfter rules S J t) law) named
              ∙ sym (ap (λ (f : ℕ → Bool). is_named (kinds_of g) f ByNext p) (counted j)
              ∙ ap (λ (ks : List Kind). is_named ks (holds kinds kept kept_words j) ByNext p) is.kinds_are);
        }

-- the same of each ground with a network of it
pub view_told : (g : FlatGround) (net : Net) → ∥ IsNetOf g net ∥₁ → (state : ℕ → ℕ) → ((n : ℕ) → state n < 2) → (scope : Scope) (a : ℕ)
    → a < length (kinds_of g)
    → is_asked scope (kind_at (kinds_of g) a) ≡ true → IsViewTold g net state a
view_told g net made state is_bit scope a lt shown = record {
  below = ∥∥₁_elim made (Prim.hlevel props)
      (λ of. ∥∥₁_elim g.sound (Prim.hlevel props) (λ s. (view_told_by s.0 g s.1 net of state is_bit scope a lt shown).below));
  told = ∥∥₁_elim made (Prim.hlevel props)
      (λ of. ∥∥₁_elim g.sound (Prim.hlevel props) (λ s. (view_told_by s.0 g s.1 net of state is_bit scope a lt shown).told));
}

pub transition_told : (g : FlatGround) (net : Net) → ∥ IsNetOf g net ∥₁ → (state : ℕ → ℕ) → ((n : ℕ) → state n < 2) → (j : Turn) → IsTurn (rules_of g) j
    → (p : ℕ) → p < length g.starts.items → IsTransitionTold g net state j p
transition_told g net made state is_bit j turn p lt = record {
  below = ∥∥₁_elim made (Prim.hlevel props)
      (λ of. ∥∥₁_elim g.sound (Prim.hlevel props) (λ s. (transition_told_by s.0 g s.1 net of state is_bit j turn p lt).below));
  told = ∥∥₁_elim made (Prim.hlevel props)
      (λ of. ∥∥₁_elim g.sound (Prim.hlevel props) (λ s. (transition_told_by s.0 g s.1 net of state is_bit j turn p lt).told));
}

-- An atom alone makes a move legal.

module _ (rules : List Alternative) (g : FlatGround) (is : IsGround rules g) (r m : ℕ) where
  abbrev move_atom : Atom
  move_atom = let role = nth_tree (role_list rules) r in atom2 w_legal role (nth_tree (input_list rules role) m)

  legal_atom : (a : ℕ) → a < length (kinds_of g) → kind_at (kinds_of g) a ≡ Legal r m → number_of move_atom (listing rules).atoms ≡ a
  legal_atom a lt e =
      let x = atom_at (listing rules).atoms a in
      let size : length (kinds_of g) ≡ length (map (kind_of rules) (listing rules).atoms) = ap (λ (ks : List Kind). length ks) is.kinds_are in
      let many = length-map (listing rules).atoms (kind_of rules) in
      let within : a < length (listing rules).atoms = omega arith in
      let kind : kind_of rules x ≡ Legal r m = sym (ap (λ (ks : List Kind). kind_at ks a) is.kinds_are
      ∙ kind_at_number (kind_of rules) (listing rules).atoms a within) ∙ e in
      let k = kind_sound rules is.well_formed.acyclic x (Legal r m) kind (λ f. absurd cc) in
      let same : x ≡ move_atom =
      k.2 ∙ ap (λ (t : Tree). atom2 w_legal k.0 t) (sym (placed k.1 (input_list rules k.0) m k.4))
      ∙ ap (λ (q : Tree). atom2 w_legal q (nth_tree (input_list rules q) m)) (sym (placed k.0 (role_list rules) r k.3)) in
      ap (λ (y : Atom). number_of y (listing rules).atoms) (sym same) ∙ number_at (listing rules).atoms (one_number rules) a within

pub one_legal : (g : FlatGround) (r m a b : ℕ) → a < length (kinds_of g) → b < length (kinds_of g) → kind_at (kinds_of g) a ≡ Legal r m
    → kind_at (kinds_of g) b ≡ Legal r m → a ≡ b
one_legal g r m a b la lb ea eb = ∥∥₁_elim g.sound (Prim.hlevel props) (λ s. sym (legal_atom s.0 g s.1 r m a la ea)
    ∙ legal_atom s.0 g s.1 r m b lb eb)
