-- What is told of a state by the numbers and texts of its base propositions is what is told by their trees.
use Rattle.std.proofs.Common.{ℕ, ◌<◌, ◌≡◌, ◌++◌, ◌∷◌, [], Bool, true, false, cond, List, length, map, refl, sym, ◌∙◌, ap, subst, append_assoc, codes, take, drop}
use Rattle.std.specs.Prelude.{All, if◌then◌else◌, filter, Result, Ok, Err, IfOk}
use Rattle.std.specs.List.{flat_map, range_with_len}
use Rattle.std.proofs.lemmas.List.{length-map, get_or-map}
use Rattle.std.proofs.lemmas.List.Elements.{All-head, All-tail, All-filter}
use Rattle.statement.specs.Tree.{Tree, text}
use Rattle.statement.specs.Clause.{Alternative}
use Rattle.statement.specs.Listing.{base_list}
use Rattle.statement.specs.NamedRules.{NamedRules}
use Rattle.statement.specs.Played.{nth_tree}
use Rattle.statement.specs.Rules.{State, is_stuck}
use Rattle.statement.specs.GameNumbers.{trees_at}
use Rattle.statement.specs.GoalsAndMoves as play
use Rattle.statement.specs.TextFaults.{refusal_line}
use Rattle.statement.specs.declared.history_fault.HistoryFault.{HistoryFault}
use Rattle.statement.specs.declared.status.Status.TheVariants.{Refused}
use Rattle.statement.specs.HistoryTexts.{history_fault_words, role_part}
use Rattle.statement.specs.Answers.{refusal}
use Rattle.statement.specs.Histories.{IsHistoryOf}
use Rattle.statement.specs.Holding.{true_line, true_lines, state_lines, IsStateReply}
use Rattle.game.specs.Keys.{has_bit, state_of_bits}
use Rattle.game.proofs.Facts.{all_below, get_or_any}
use Rattle.ground_instances.specs.declared.flat_ground.FlatGround.{FlatGround}
use Rattle.ground_instances.specs.Grounds.{text_at}
use Rattle.ground_instances.specs.GroundView.{base_of, IsGround}
use Rattle.program_searches.specs.declared.reply.Reply as made
use Rattle.program_searches.specs.Replies.{reply_of}
use Rattle.program_replies.specs.Standing.{standing_line, numbered_line, numbered_lines}

text_there : (ts : List Tree) (k : ℕ) → k < length ts → text_at (map text ts) k ≡ text (nth_tree ts k)
text_there ts k lt = get_or-map text ts k (nth_tree ts k) [] lt ∙ ap text (get_or_any ts k (nth_tree ts k) _ lt)

lines_of_numbers : (ts : List Tree) (ns : List ℕ) → All (λ n. n < length ts) ns
    → flat_map (numbered_line (map text ts)) ns ≡ flat_map true_line (trees_at ts ns)
lines_of_numbers ts [] all = refl
lines_of_numbers ts (n ∷ ns) all =
    let P = λ (k : ℕ). k < length ts in
    ap (λ (t : List ℕ). (codes "true " ++ t ++ 10 ∷ []) ++ flat_map (numbered_line (map text ts)) ns) (text_there ts n (All-head P n ns all))
    ∙ ap (λ (rest : List ℕ). true_line (nth_tree ts n) ++ rest) (lines_of_numbers ts ns (All-tail P n ns all))

bits_below : (n : ℕ) (key : List ℕ) → All (λ k. k < n) (state_of_bits n key)
bits_below n key = All-filter (has_bit key) (λ k. k < n) (range_with_len 0 n) (all_below (λ k. k < n) n (λ k lt. lt))

-- the lines of those that pass a test, one by one
pub passing_lines : (f : ℕ → List ℕ) (test : ℕ → Bool) (xs : List ℕ)
    → flat_map (λ n. if test n then f n else []) xs ≡ flat_map f (filter test xs)
passing_lines f test [] = refl
passing_lines f test (x ∷ xs) = go (test x) (passing_lines f test xs)
  where
    go : (b : Bool) → flat_map (λ n. if test n then f n else []) xs ≡ flat_map f (filter test xs)
        → (if b then f x else []) ++ flat_map (λ n. if test n then f n else []) xs ≡ flat_map f (cond b (x ∷ filter test xs) (filter test xs))
    go true rest = ap (λ (ys : List ℕ). f x ++ ys) rest
    go false rest = rest

behind_line : (b c : Bool) (lines : List ℕ)
    → cond b (codes "state ended" ++ 10 ∷ []) (cond c (codes "state stuck" ++ 10 ∷ []) (codes "state open" ++ 10 ∷ [])) ++ lines
    ≡ cond b (codes "state ended" ++ 10 ∷ lines) (cond c (codes "state stuck" ++ 10 ∷ lines) (codes "state open" ++ 10 ∷ lines))
behind_line true c lines = append_assoc (codes "state ended") (10 ∷ []) lines
behind_line false true lines = append_assoc (codes "state stuck") (10 ∷ []) lines
behind_line false false lines = append_assoc (codes "state open") (10 ∷ []) lines

counted : (rules : List Alternative) (f : FlatGround) → IsGround rules f → length (base_of f) ≡ length (base_list rules)
counted rules f is = ap (λ (xs : List (List ℕ)). length xs) is.base_are ∙ length-map (base_list rules) text

counted_starts : (rules : List Alternative) (f : FlatGround) → IsGround rules f → length f.starts.items ≡ length (base_list rules)
counted_starts rules f is = ap (λ (xs : List Bool). length xs) is.starts_are ∙ length-map (base_list rules) (play.starts rules)

-- what is told of a state by its key
pub standing_told : (rules : List Alternative) (f : FlatGround) (g : NamedRules) (s : State) (key before line after : List ℕ) → IsGround rules f
    → s ≡ state_of_bits (length f.starts.items) key → before ≡ [] → line ≡ before ++ standing_line g.rules s
    → after ≡ line ++ numbered_lines (base_of f) (state_of_bits (length (base_of f)) key) → after ≡ state_lines rules g s
standing_told rules f g s key before line after is keyed none first more =
    let bits = state_of_bits (length (base_of f)) key in
    let same : s ≡ bits = keyed ∙ ap (λ (n : ℕ). state_of_bits n key) (counted_starts rules f is ∙ sym (counted rules f is)) in
    let held : numbered_lines (base_of f) bits ≡ true_lines rules bits =
    ap (λ (xs : List (List ℕ)). flat_map (numbered_line xs) bits) is.base_are
    ∙ lines_of_numbers (base_list rules) bits (subst (λ (n : ℕ). All (λ k. k < n) bits) (counted rules f is) (bits_below (length (base_of f)) key)) in
    more ∙ ap (λ (xs : List ℕ). xs ++ numbered_lines (base_of f) bits) (first ∙ ap (λ (xs : List ℕ). xs ++ standing_line g.rules s) none)
    ∙ ap (λ (xs : List ℕ). standing_line g.rules s ++ xs) (held ∙ ap (true_lines rules) (sym same))
    ∙ behind_line (g.rules.ended s) (is_stuck g.rules s) (true_lines rules s)

-- a history with a fault is refused
pub fault_told : {E : Type 0} (g : NamedRules) (after : List ℕ) (f : FlatGround) (fault : HistoryFault) (r : Result made.Reply E)
    → IsHistoryOf g after (Err fault)
    → IfOk r (λ reply. reply.output.items ≡ refusal_line (history_fault_words fault ++ role_part g.role_name fault))
    → IfOk r (λ reply. reply.status ≡ Refused)
    → IfOk r (λ reply. (rules : List Alternative) → IsGround rules f → IsStateReply rules g after (reply_of reply))
fault_told g after f fault (Ok reply) history line status = λ rules is.
    let same : reply_of reply ≡ refusal (history_fault_words fault ++ role_part g.role_name fault) = cc (line, status) in
    (Err fault, history, same)
fault_told g after f fault (Err e) history line status = tt

-- words written over all of a list
take_front : (xs ys : List ℕ) → take (length xs) (xs ++ ys) ≡ xs
take_front [] ys = refl
take_front (x ∷ xs) ys = ap (λ (zs : List ℕ). x ∷ zs) (take_front xs ys)

pub all_written : (ws items : List ℕ) (n : ℕ) → n ≡ length items → length ws ≡ length items → take n (ws ++ drop (length ws) items) ≡ ws
all_written ws items n e f = ap (λ (k : ℕ). take k (ws ++ drop (length ws) items)) (e ∙ sym f) ∙ take_front ws (drop (length ws) items)
