-- What a tape tells of the network that it was made of.
use Rattle.std.proofs.Common.{◌≡◌, ℕ, suc, zero, ◌+◌, ◌*◌, ◌<◌, List, [], ◌∷◌, length, map, get_or, refl, sym, subst, ◌∙◌, ap, arith, All}
use Rattle.std.specs.Prelude.{◌==◌, Result, Ok, Err, IfOk}
use Rattle.std.specs.Int.{bit_at}
use Rattle.std.proofs.lemmas.Nat.Bits.{bit_at-lt}
use Rattle.propnet.specs.declared.net.Net.{Net}
use Rattle.propnet.specs.Network.{value as node_value}
use Rattle.propnet.specs.Nets.{gates_of}
use Rattle.propnet.proofs.Facts.{value_lt}
use Rattle.propnet_tape.specs.declared.gates.Gate.{Gate}
use Rattle.propnet_tape.specs.declared.tape.Tape.{Tape}
use Rattle.propnet_tape.specs.Values.{slots, start, pass, value, is_lane_on}
use Rattle.propnet_tape.specs.declared.builder.Builder.{Builder}
use Rattle.propnet_tape.specs.declared.builder.Group.{Group}
use Rattle.propnet_tape.specs.Building.{slots_of, AreOneOf}
use Rattle.propnet_tape.specs.Grouping.{AreGroups}
use Rattle.propnet_tape.specs.Translating.{NodesKept, IsGroupTapeOf}
use Rattle.std.proofs.lemmas.List.Elements.{All-nil}
use Rattle.propnet_tape.specs.Tapes.{AreSources, IsTapeOf, IsTurnTapeOf, HasRun, IsLane, IsWordOf, IsTurnWordOf}
use Rattle.propnet_tape.proofs.Facts.{pass_agree}
use Rattle.propnet_tape.proofs.Meaning.{map_within}

-- The word of a kept node.

same_bits : (a b : ℕ) → a < 2 → b < 2 → (a == 1) ≡ (b == 1) → a ≡ b
same_bits zero zero h k e = refl
same_bits zero (suc zero) h k e = absurd cc
same_bits (suc zero) zero h k e = absurd cc
same_bits (suc zero) (suc zero) h k e = refl
same_bits (suc (suc a)) b h k e = absurd (omega arith)
same_bits zero (suc (suc b)) h k e = absurd (omega arith)
same_bits (suc zero) (suc (suc b)) h k e = absurd (omega arith)

lane_sources : (net : Net) (words : List ℕ) (l : ℕ) (state : ℕ → ℕ) (joint : List ℕ) → IsLane net words l state joint
    → AreSources net state joint (is_lane_on words l)
lane_sources net words l state joint h = record {
  bits = h.bits;
  bases = λ p k. ap (λ (x : ℕ). x == 1) (h.bases p k);
  moves = λ r m k. ap (λ (x : ℕ). x == 1) (h.moves r m k);
}

pub word_tells : (t : Tape) (room : List ℕ) (k s word : ℕ) → k < length t.kept.items → s ≡ get_or t.kept.items k 0 → word ≡ get_or room s 0
    → (net : Net) (kept words : List ℕ) → IsTapeOf net kept t → HasRun t words room → IsWordOf net words (get_or kept k 0) word
word_tells t room k s word lt at read net kept words is ran = λ l state joint few h.
    let within : get_or t.kept.items k 0 < slots t.first t.gates.items = t.kept_within k 0 lt in
    let shown : is_lane_on room l (get_or t.kept.items k 0) ≡ (node_value (gates_of net) state joint (get_or kept k 0) == 1) =
    ran.values l (get_or t.kept.items k 0) few within ∙ is.values k (omega (arith, is.size)) state joint (is_lane_on words l)
    (lane_sources net words l state joint h) in
    let is_word : word ≡ get_or room (get_or t.kept.items k 0) 0 = read ∙ ap (λ (i : ℕ). get_or room i 0) at in
    same_bits (bit_at word l) (node_value (gates_of net) state joint (get_or kept k 0)) (bit_at-lt word l)
    (value_lt (gates_of net) state joint h.bits (get_or kept k 0))
    (ap (λ (x : ℕ). bit_at x l == 1) is_word ∙ shown)

-- What a pass writes.

pub run_values : (t : Tape) (words filled room ss : List ℕ) (gs : List Gate) → ss ≡ t.sources.items → gs ≡ t.gates.items
    → ((k l : ℕ) → k < 64 → l < 2 + 2 * length ss → is_lane_on filled k l ≡ start (λ i. is_lane_on words k (get_or ss i 0)) l)
    → ((k l : ℕ) → k < 64 → is_lane_on room k l ≡ pass t.first gs (is_lane_on filled k) l)
    → length room ≡ slots t.first t.gates.items → HasRun t words room
unfolding value
run_values t words filled room ss gs e f fills runs size = record {
  size = size;
  values = λ l s few within.
      runs l s few
      ∙ ap (λ (hs : List Gate). pass t.first hs (is_lane_on filled l) s) f
      ∙ pass_agree t.first t.gates.items (is_lane_on filled l) (start (λ i. is_lane_on words l (get_or t.sources.items i 0))) t.ordered.in_order
      (λ m h. fills l m few (let g = t.given in let c = ap length e in omega arith)
      ∙ ap (λ (xs : List ℕ). start (λ i. is_lane_on words l (get_or xs i 0)) m) e)
      s within;
}

-- The tape of a network.

pub kept_slots : (net : Net) (words kept : List ℕ) (b : Builder) (literals xs slots : List ℕ) → NodesKept net words kept b literals → xs ≡ literals
    → slots ≡ map (λ n. get_or xs n 0) kept
    → All (λ l. l < slots_of b) slots
kept_slots net words kept b literals xs slots a e f =
    rw (f, e) (map_within (λ n. get_or literals n 0) (slots_of b) kept (λ k h. (a.meant k 0 h).slot))

mapped_at : (f : ℕ → ℕ) (xs : List ℕ) (k : ℕ) → k < length xs → get_or (map f xs) k 0 ≡ f (get_or xs k 0)
mapped_at f [] k h = absurd (omega arith)
mapped_at f (x ∷ xs) zero h = refl
mapped_at f (x ∷ xs) (suc k) h = mapped_at f xs k (omega arith)

length_mapped : (f : ℕ → ℕ) (xs : List ℕ) → length (map f xs) ≡ length xs
length_mapped f [] = refl
length_mapped f (x ∷ xs) = ap suc (length_mapped f xs)

tape_with : (net : Net) (words kept : List ℕ) (b : Builder) (literals xs : List ℕ) (t : Tape) → NodesKept net words kept b literals → xs ≡ literals
    → t.first ≡ b.first → t.gates.items ≡ b.gates.items → t.sources.items ≡ words → t.kept.items ≡ map (λ n. get_or xs n 0) kept
    → IsGroupTapeOf net kept words b.groups.items t
tape_with net words kept b literals xs t a e first gates given slots_are = record {
  size = ap length slots_are ∙ length_mapped (λ n. get_or xs n 0) kept;
  given = given;
  values = λ k h state joint w s one.
      let at : get_or t.kept.items k 0 ≡ get_or literals (get_or kept k 0) 0 =
      ap (λ (ls : List ℕ). get_or ls k 0) slots_are ∙ mapped_at (λ m. get_or xs m 0) kept k h
      ∙ ap (λ (ls : List ℕ). get_or ls (get_or kept k 0) 0) e in
      ap (λ (l : ℕ). value t.first t.gates.items (λ i. w (get_or t.sources.items i 0)) l) at
      ∙ ap (λ (f : ℕ). value f t.gates.items (λ i. w (get_or t.sources.items i 0)) (get_or literals (get_or kept k 0) 0)) first
      ∙ ap (λ (gs : List Gate). value b.first gs (λ i. w (get_or t.sources.items i 0)) (get_or literals (get_or kept k 0) 0)) gates
      ∙ ap (λ (xs : List ℕ). value b.first b.gates.items (λ i. w (get_or xs i 0)) (get_or literals (get_or kept k 0) 0)) given
      ∙ (a.meant k 0 h).value state joint w s one;
}

pub tape_of : (net : Net) (words kept : List ℕ) (b : Builder) (groups : List Group) (literals xs : List ℕ) (t : Tape) → b.groups.items ≡ groups
    → NodesKept net words kept b literals → xs ≡ literals
    → t.first ≡ b.first → t.gates.items ≡ b.gates.items → t.sources.items ≡ words → t.kept.items ≡ map (λ n. get_or xs n 0) kept
    → IsGroupTapeOf net kept words groups t
tape_of net words kept b groups literals xs t g a e first gates given slots_are =
    subst (λ (gs : List Group). IsGroupTapeOf net kept words gs t) g (tape_with net words kept b literals xs t a e first gates given slots_are)

-- Without groups it is a tape for all joint moves.
pub plain_tape : (net : Net) (kept words : List ℕ) (groups : List Group) (t : Tape) → IsGroupTapeOf net kept words groups t → groups ≡ []
    → IsTapeOf net kept t
plain_tape net kept words groups t h e = record {
  size = h.size;
  values = λ k lt state joint w s. h.values k lt state joint w s
      (subst (λ (gs : List Group). AreOneOf gs (λ i. w (get_or words i 0))) (sym e) (All-nil _));
}

-- With the groups of the roles it is one for turns.
pub turn_tape : (net : Net) (kept words : List ℕ) (groups : List Group) (t : Tape) → IsGroupTapeOf net kept words groups t
    → AreGroups net words groups → IsTurnTapeOf net kept t
turn_tape net kept words groups t h g = record {
  size = h.size;
  values = λ k lt state joint w turn s. h.values k lt state joint w s (g.one state joint w turn s);
}

pub turn_word_tells : (t : Tape) (room : List ℕ) (k s word : ℕ) → k < length t.kept.items → s ≡ get_or t.kept.items k 0 → word ≡ get_or room s 0
    → (net : Net) (kept words : List ℕ) → IsTurnTapeOf net kept t → HasRun t words room → IsTurnWordOf net words (get_or kept k 0) word
turn_word_tells t room k s word lt at read net kept words is ran = λ l state joint few turn h.
    let within : get_or t.kept.items k 0 < slots t.first t.gates.items = t.kept_within k 0 lt in
    let shown : is_lane_on room l (get_or t.kept.items k 0) ≡ (node_value (gates_of net) state joint (get_or kept k 0) == 1) =
    ran.values l (get_or t.kept.items k 0) few within ∙ is.values k (omega (arith, is.size)) state joint (is_lane_on words l) turn
    (lane_sources net words l state joint h) in
    let is_word : word ≡ get_or room (get_or t.kept.items k 0) 0 = read ∙ ap (λ (i : ℕ). get_or room i 0) at in
    same_bits (bit_at word l) (node_value (gates_of net) state joint (get_or kept k 0)) (bit_at-lt word l)
    (value_lt (gates_of net) state joint h.bits (get_or kept k 0))
    (ap (λ (x : ℕ). bit_at x l == 1) is_word ∙ shown)

pub tape_then : {E : Type 0} → (r : Result Tape E) (P Q : Tape → Type 0) → ((t : Tape) → P t → Q t) → IfOk r P → IfOk r Q
tape_then (Ok t) P Q f h = f t h
tape_then (Err e) P Q f h = h
