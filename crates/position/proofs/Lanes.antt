-- Many states by lanes.
use Rattle.std.proofs.Common.{
  ◌≡◌,
  ℕ,
  zero,
  suc,
  ◌+◌,
  ◌<◌,
  ◌≤◌,
  Bool,
  true,
  false,
  cond,
  ◌&&◌,
  le-ltb,
  List,
  [],
  ◌∷◌,
  length,
  map,
  get_or,
  refl,
  sym,
  ap,
  subst,
  ◌∙◌,
  arith,
  Option,
  Some,
  slice_get,
  ◌⊎◌,
  inl,
  inr,
}
use Rattle.std.specs.Prelude.{All, ◌==◌, nat_lt}
use Rattle.std.specs.Int.{bit_at}
use Rattle.std.specs.List.{range_with_len}
use Rattle.std.proofs.Math.Logic.{∥∥₁_elim}
use Rattle.std.proofs.Props.{props}
use Rattle.std.proofs.lemmas.Bool.{cases_lt}
use Rattle.std.proofs.lemmas.Nat.Bits.{bit_at-lt, bit_at-zero}
use Rattle.std.proofs.lemmas.List.{length-map, get_or-map, get_or_past}
use Rattle.std.proofs.lemmas.List.FromFn.{length-range_with_len, get_or-range_with_len, get_or-map-range_with_len}
use Rattle.smallvec.specs.SmallVec.{SmallVec}
use Rattle.statement.specs.declared.kind.Kind.{Kind}
use Rattle.ground_instances.specs.declared.flat_ground.FlatGround.{FlatGround}
use Rattle.ground_instances.specs.GroundView.{inputs_of, kinds_of, instances_of}
use Rattle.ground_instances.specs.Grounds.{texts_at}
use Rattle.propnet.specs.declared.net.Net.{Net}
use Rattle.propnet.specs.Builders.{IsNetOf}
use Rattle.propnet.specs.Given.{AreGiven}
use Rattle.propnet.specs.Network.{given, value}
use Rattle.propnet.specs.Nets.{gates_of}
use Rattle.propnet.specs.Placing.{input_number}
use Rattle.propnet.specs.Values.{lane}
use Rattle.propnet_tape.specs.Tapes.{kept_in, HasRun, IsLane, IsJointOf, IsTurnTapeOf, IsTurnWordOf}
use Rattle.game.proofs.Facts.{turns_after_each}
use Rattle.game.specs.Joints.{moves_of, joint_at}
use Rattle.statement.specs.Rules.{State, IsTurn}
use Rattle.game_rules.specs.declared.naming.Naming.TheVariants.{ByNext}
use Rattle.position.specs.declared.lane_plan.Scope.{Scope}
use Rattle.position.specs.declared.lane_plan.LanePlan.{LanePlan}
use Rattle.position.specs.declared.lane_plan.Probe.{Probe}
use Rattle.game_rules.specs.RulePlay.{no_turn, kind_at, holds, is_named}
use Rattle.game_rules.specs.RuleState.{rules_of}
use Rattle.position.specs.NetState.{is_asked, is_lane_on, told_state, lane_state, view_of, AreSpread}
use Rattle.position.specs.LanePlans.{shown_below, asked_at, asked_nodes, next_below, IsProbeOf, IsLanePlanOf}
use Rattle.position.specs.NetLanes.{holds_lane, Tells, AreAfter}
use Rattle.position.specs.NetSources.{AreFrom}
use Rattle.game_rules.proofs.Facts.{filters_agree}
use Rattle.position.proofs.NetFacts.{base_count, inputs_count}
use Rattle.position.proofs.NetReads.{view_told, transition_told}
use Rattle.position.proofs.Places.{asked_count, asked_node}
use Rattle.position.proofs.Shown.{filter_all}

turn_at : (P : List ℕ → Type 0) (joints : List (SmallVec ℕ)) → All (λ (j : SmallVec ℕ). P j.items) joints → (k : ℕ) → k < length joints
    → P (joint_at joints k)
turn_at P [] h k lt = absurd (omega arith)
turn_at P (j ∷ js) h zero lt = h 0 j (omega arith)
turn_at P (j ∷ js) h (suc k) lt = turn_at P js (λ i d l. h (suc i) d (omega arith)) k (omega arith)

-- where no role moves no input is given
given_none : (r m : ℕ) → given no_turn r m ≡ 0
given_none r m = let z : nat_lt r 0 ≡ false = le-ltb r 0 (omega arith) in ap (λ (b : Bool). cond (b && (get_or no_turn r 0 == m)) 1 0) z

-- words of base propositions alone tell of states without a joint move
pub lane_alone : (net : Net) (states : List ℕ) (l : ℕ) → length states ≡ net.base → IsLane net states l (lane states l) no_turn
lane_alone net states l size = record {
  bits = λ p. bit_at-lt _ _;
  bases = λ p lt. refl;
  moves = λ r m lt.
      let past : length states ≤ input_number net.base net.inputs.items r m = omega arith in
      ap (λ (w : ℕ). bit_at w l) (get_or_past states (input_number net.base net.inputs.items r m) 0 past) ∙ bit_at-zero l ∙ sym (given_none r m);
}

-- an atom at a place among those that are asked is asked
asked_shown : (scope : Scope) (kinds : List Kind) (p : ℕ) → p < length (shown_below scope kinds (length kinds))
    → (asked_at scope kinds p < length kinds) × (is_asked scope (kind_at kinds (asked_at scope kinds p)) ≡ true)
asked_shown scope kinds p lt =
    filter_all (λ a. is_asked scope (kind_at kinds a)) (λ a. (a < length kinds) × (is_asked scope (kind_at kinds a) ≡ true)) 0 (length kinds)
    (λ k from to e. (omega arith, e)) p 0 lt

-- the tape of what is asked keeps a node for each atom that is asked
pub kept_count : (g : FlatGround) (net : Net) (t : Probe) → IsProbeOf g net t
    → kept_in t.tape ≡ length (shown_below t.scope (kinds_of g) (length (kinds_of g)))
kept_count g net t told = ∥∥₁_elim told.tape (Prim.hlevel props) (λ of. of.size ∙ asked_count t.scope net.views.items (kinds_of g))

-- what a pass over the tape of what is asked tells
pub tells_asked : (g : FlatGround) (net : Net) → ∥ IsNetOf g net ∥₁ → (t : Probe) → IsProbeOf g net t → (states room : List ℕ) (k : ℕ)
    → length states ≡ length g.starts.items
    → HasRun t.tape states room → k < 64 → Tells t.tape room k (λ p. holds_lane g states k (asked_at t.scope (kinds_of g) p))
tells_asked g net made t told states room k size ran lk p w below h =
    ∥∥₁_elim told.tape (Prim.hlevel props) (λ of.
    let scope = t.scope in
    let kinds = kinds_of g in
    let views = net.views.items in
    let many = of.size in
    let count = asked_count scope views kinds in
    let here : p < length (shown_below scope kinds (length kinds)) = omega arith in
    let base = base_count g net made in
    let whole : length states ≡ net.base = omega arith in
    let node = asked_node scope views kinds p here in
    let shown = asked_shown scope kinds p here in
    let bit : bit_at w k ≡ value (gates_of net) (lane states k) no_turn (view_of views (asked_at scope kinds p)) =
    h net (asked_nodes scope views kinds) states of ran k (lane states k) no_turn lk (lane_alone net states k whole)
    ∙ ap (value (gates_of net) (lane states k) no_turn) node in
    ap (λ (v : ℕ). v == 1) bit ∙ (view_told g net made (lane states k) (λ n. bit_at-lt _ _) scope (asked_at scope kinds p) shown.0 shown.1).told)

-- states whose bits agree
pub same_state : (f g : ℕ → ℕ) (n : ℕ) → ((p : ℕ) → p < n → f p ≡ g p) → told_state f n ≡ told_state g n
same_state f g n h = filters_agree (λ p. f p == 1) (λ p. g p == 1) 0 n (λ p from to. ap (λ (v : ℕ). v == 1) (h p (omega arith)))

-- words that were written to be alike in all lanes are so
pub spread_words : (words : List ℕ) (n : ℕ) (v : ℕ → ℕ) → length words ≡ n → ((p k : ℕ) → p < n → k < 64 → lane words k p ≡ v p) → AreSpread words
spread_words words n v size h p k lt = go (cases_lt p n)
  where
    go : (p < n) ⊎ (n ≤ p) → lane words k p ≡ lane words 0 p
    go (inl l) = h p k l lt ∙ sym (h p 0 l (omega arith))
    go (inr l) =
        let none : get_or words p 0 ≡ 0 = get_or_past words p 0 (omega arith) in
        ap (λ (w : ℕ). bit_at w k) none ∙ bit_at-zero k ∙ sym (ap (λ (w : ℕ). bit_at w 0) none ∙ bit_at-zero 0)

-- the state that was taken out of a lane of words, by the words that were lent
pub taken_there : (lanes lent states : List ℕ) (n k : ℕ) → length lent ≡ n → lent ≡ states
    → lane_state lanes (length lent) 0 ≡ lane_state lent (length lent) k → lane_state lanes n 0 ≡ lane_state states n k
taken_there lanes lent states n k whole same told =
    subst (λ (l : ℕ). lane_state lanes l 0 ≡ lane_state lent l k) whole told ∙ ap (λ (ws : List ℕ). lane_state ws n k) same

-- a list by the numbers of its places
pub range_map : {A B : Type 0} (f : ℕ → B) (h : A → B) (xs : List A) (a n : ℕ) → n ≡ length xs
    → ((k : ℕ) (x : A) → k < length xs → slice_get xs k ≡ Some x → f (a + k) ≡ h x) → map f (range_with_len a n) ≡ map h xs
range_map f h [] a zero e same = refl
range_map f h [] a (suc n) e same = absurd (omega arith)
range_map f h (x ∷ xs) a zero e same = absurd (omega arith)
range_map {A} {B} f h (x ∷ xs) a (suc n) e same =
    let here : f a ≡ h x = ap f (omega arith) ∙ same 0 x (omega arith) refl in
    let rest : map f (range_with_len (a + 1) n) ≡ map h xs = range_map f h xs (a + 1) n (omega arith)
    (λ k y lt s. ap f (omega arith) ∙ same (suc k) y (omega arith) s) in
    ap (λ (y : B). y ∷ map f (range_with_len (a + 1) n)) here ∙ ap (λ (ys : List B). h x ∷ ys) rest

-- a joint move of the game has an input of each role
turn_joint : (g : FlatGround) (net : Net) → ∥ IsNetOf g net ∥₁ → (joint : List ℕ) → IsTurn (rules_of g) joint → IsJointOf net joint
turn_joint g net made joint turn r lt =
    let counts = inputs_count g net made in
    let size : length net.inputs.items ≡ length (inputs_of g) = ap length counts ∙ length-map (inputs_of g) (λ (ts : List (List ℕ)). length ts) in
    let inside : r < length (inputs_of g) = omega arith in
    let own : get_or net.inputs.items r 0 ≡ length (texts_at (inputs_of g) r) = ap (λ (ns : List ℕ). get_or ns r 0) counts
    ∙ get_or-map (λ (ts : List (List ℕ)). length ts) (inputs_of g) r [] 0 inside in
    let known = turn.each_known r inside in
    let each = turn.of_each_role in
    (omega arith, omega arith)

-- what a pass over the tape of the next state writes for one lane, which is given a state and a joint move
tells_next_lane : (g : FlatGround) (net : Net) → ∥ IsNetOf g net ∥₁ → (plan : LanePlan) → IsLanePlanOf g net plan
    → (state : ℕ → ℕ) → ((p : ℕ) → state p < 2) → (words states joint : List ℕ) (k : ℕ) → k < 64 → IsTurn (rules_of g) joint
    → length states ≡ length g.starts.items → IsLane net words k state joint
    → ((made_of : Net) (kept : List ℕ) (i : ℕ) → IsTurnTapeOf made_of kept plan.next → i < length states
    → IsTurnWordOf made_of words (get_or kept i 0) (get_or states i 0))
    → lane_state states (length g.starts.items) k ≡ (rules_of g).after (told_state state (length g.starts.items)) joint
tells_next_lane g net made plan laned state small words states joint k lk turn size told h =
    let n = length g.starts.items in
    filters_agree (is_lane_on states k) (is_named (kinds_of g) (holds (kinds_of g) (instances_of g) (told_state state n) joint) ByNext) 0 n
    (λ p low high.
    let lp : p < n = omega arith in
    let inside : p < length states = omega arith in
    let node = get_or net.transitions.items p 0 in
    let kept : get_or (next_below net n) p 0 ≡ node = get_or-map-range_with_len (λ q. get_or net.transitions.items q 0) 0 n p p 0 lp (omega arith) in
    let bit : lane states k p ≡ value (gates_of net) state joint node =
    ∥∥₁_elim laned.next (Prim.hlevel props) (λ of. h net (next_below net n) p of inside k state joint lk (turn_joint g net made joint turn) told
    ∙ ap (value (gates_of net) state joint) kept) in
    ap (λ (v : ℕ). v == 1) bit ∙ (transition_told g net made state small joint turn p lp).told)

-- what it writes for joint moves of one state, whose words have one bit in all lanes
pub tells_next_states : (g : FlatGround) (net : Net) → ∥ IsNetOf g net ∥₁ → (plan : LanePlan) → IsLanePlanOf g net plan
    → (from words states : List ℕ) (joints : List (SmallVec ℕ)) → length joints ≤ 64
    → All (λ (j : SmallVec ℕ). IsTurn (rules_of g) j.items) joints → AreSpread from → length states ≡ length g.starts.items
    → ((p : ℕ) → p < net.base → get_or words p 0 ≡ get_or from p 0) → AreGiven net.base net.inputs.items joints words
    → ((made_of : Net) (kept : List ℕ) (i : ℕ) → IsTurnTapeOf made_of kept plan.next → i < length states
    → IsTurnWordOf made_of words (get_or kept i 0) (get_or states i 0)) → AreAfter g from joints states
tells_next_states g net made plan laned from words states joints few turns spread size base given_words h =
    let n = length g.starts.items in
    let s = lane_state from n 0 in
    range_map (lane_state states n) (λ (j : SmallVec ℕ). (rules_of g).after s j.items) joints 0 (length joints) refl
    (λ k x lk e.
    let z : 0 + k ≡ k = omega arith in
    let same : lane_state from n k ≡ s = same_state (lane from k) (lane from 0) n (λ p lp. spread p k (omega arith)) in
    let told : IsLane net words k (lane from k) (joint_at joints k) =
    record { bits = λ p. bit_at-lt _ _; bases = λ p lp. ap (λ (w : ℕ). bit_at w k) (base p lp); moves = λ r m lm. given_words r m k lm lk } in
    let turn : IsTurn (rules_of g) (joint_at joints k) = turn_at (λ j. IsTurn (rules_of g) j) joints turns k lk in
    ap (lane_state states n) z
    ∙ tells_next_lane g net made plan laned (lane from k) (λ p. bit_at-lt _ _) words states (joint_at joints k) k (omega arith) turn size told h
    ∙ ap (λ (t : State). (rules_of g).after t (joint_at joints k)) same
    ∙ ap (λ (o : Option (SmallVec ℕ)). (rules_of g).after s (moves_of o)) e)

pub states_count : (f : ℕ → State) (n : ℕ) → length (map f (range_with_len 0 n)) ≡ n
states_count f n = length-map (range_with_len 0 n) f ∙ length-range_with_len 0 n

pub state_at : (f : ℕ → State) (n k : ℕ) → k < n → get_or (map f (range_with_len 0 n)) k [] ≡ f k
state_at f n k lt =
    let size : length (range_with_len 0 n) ≡ n = length-range_with_len 0 n in
    let z : get_or (range_with_len 0 n) k 0 ≡ k = get_or-range_with_len 0 n k 0 lt ∙ (let e : 0 + k ≡ k = omega arith in e) in
    get_or-map f (range_with_len 0 n) k 0 [] (omega arith) ∙ ap f z

-- what it writes for joint moves that each begin at one of many states
pub tells_next_from : (g : FlatGround) (net : Net) → ∥ IsNetOf g net ∥₁ → (plan : LanePlan) → IsLanePlanOf g net plan
    → (from words states : List ℕ) (count : ℕ) (places : List ℕ) (joints : List (SmallVec ℕ)) → length joints ≤ 64 → length places ≡ length joints
    → All (λ (k : ℕ). k < count) places
    → All (λ (j : SmallVec ℕ). IsTurn (rules_of g) j.items) joints → length states ≡ length g.starts.items
    → ((l p : ℕ) → l < length places → p < net.base → lane words l p ≡ lane from (get_or places l 0) p)
    → AreGiven net.base net.inputs.items joints words
    → ((made_of : Net) (kept : List ℕ) (i : ℕ) → IsTurnTapeOf made_of kept plan.next → i < length states
    → IsTurnWordOf made_of words (get_or kept i 0) (get_or states i 0))
    → AreFrom g (map (lane_state from (length g.starts.items)) (range_with_len 0 count)) places joints states
tells_next_from g net made plan laned from words states count places joints few same_size within turns size base given_words h =
    let n = length g.starts.items in
    let all = map (lane_state from n) (range_with_len 0 count) in
    turns_after_each (rules_of g) all (lane_state states n) places joints 0 (length joints) same_size refl
    (λ k lk.
    let z : 0 + k ≡ k = omega arith in
    let place = get_or places k 0 in
    let joint = joint_at joints k in
    let lp : k < length places = omega arith in
    let below : place < count = within k 0 lp in
    let told : IsLane net words k (lane from place) joint =
    record { bits = λ p. bit_at-lt _ _; bases = λ p inside. base k p lp inside; moves = λ r m lm. given_words r m k lm lk } in
    let turn : IsTurn (rules_of g) joint = turn_at (λ j. IsTurn (rules_of g) j) joints turns k lk in
    ap (lane_state states n) z
    ∙ tells_next_lane g net made plan laned (lane from place) (λ p. bit_at-lt _ _) words states joint k (omega arith) turn size told h
    ∙ ap (λ (t : State). (rules_of g).after t joint) (sym (state_at (lane_state from n) count place below)))
