-- A name that is looked for among tokens.
use Rattle.std.proofs.Common.{ℕ, suc, ◌≡◌, ◌≢◌, ◌<◌, ◌≤◌, ◌+◌, ◌-◌, List, [], ◌∷◌, ◌++◌, map, take, drop, length, get_or, refl, sym, ap, subst, ◌∙◌, append_assoc, arith, true, drop-cons}
use Rattle.std.specs.Prelude.{slice_range}
use Rattle.std.proofs.Math.Seq.{take-suc}
use Rattle.std.proofs.lemmas.List.{map-append, get_or-drop, length-drop, append-nil, append_cancel_right}
use Rattle.statement.specs.Tree.{Tree, trees_of}
use Rattle.statement.specs.Reading.{Reads, trees_tokens}
use Rattle.statement.specs.Lexical.{Token, word, Spot, spots, tokens_of, is_name_byte, name_front, lower}
use Rattle.kif.specs.View.{trees_in}
use Rattle.kif.specs.declared.expr.Expr.{Expr}
use Rattle.diagnose_places.specs.declared.tokens.Token as memory
use Rattle.diagnose_places.specs.declared.tokens.Tokens.{Tokens}
use Rattle.diagnose_places.specs.Unread.{text_of, unread, spot_of, token_at}
use Rattle.diagnose_places.specs.Standing.{IsNoWordOf, LeavesOut, IsFirstWordBehind}
use Rattle.diagnose_places.proofs.Passing.{tokens_in}
use Rattle.diagnose_places.proofs.ItemStarts.{behind, tokens_split}

-- what was read since is no such name
pub record IsNotYet (bytes : List ℕ) (old : List Spot) (now : Tokens) (w : List ℕ) : Type 0 where
  pub text : text_of now ≡ bytes
  pub read : List Spot
  pub all : old ≡ read ++ unread now
  pub none : IsNoWordOf w (tokens_of read)

pub not_yet : (bytes : List ℕ) (now : Tokens) (w : List ℕ) → text_of now ≡ bytes → IsNotYet bytes (unread now) now w
not_yet bytes now w same = record { text = same; read = []; all = refl; none = tt }

no_word_push : (w : List ℕ) (ks : List Token) (k : Token) → IsNoWordOf w ks → k ≢ word w → IsNoWordOf w (ks ++ k ∷ [])
no_word_push w [] k h other = (other, tt)
no_word_push w (l ∷ ks) k h other = (h.0, no_word_push w ks k h.1 other)

tokens_push : (ss : List Spot) (s : Spot) → tokens_of (ss ++ s ∷ []) ≡ tokens_of ss ++ s.token ∷ []
tokens_push [] s = refl
tokens_push (r ∷ ss) s = ap (λ (l : List Token). r.token ∷ l) (tokens_push ss s)

pub still_not : (bytes : List ℕ) (old : List Spot) (now next : Tokens) (w : List ℕ) (t : memory.Token) → IsNotYet bytes old now w
    → unread now ≡ spot_of (text_of now) t ∷ unread next → text_of next ≡ text_of now → token_at bytes t.start t.kind ≢ word w
    → IsNotYet bytes old next w
still_not bytes old now next w t h here same other =
    let s = spot_of (text_of now) t in
    let other' : token_at (text_of now) t.start t.kind ≢ word w = λ e. other (ap (λ (b : List ℕ). token_at b t.start t.kind) (sym h.text) ∙ e) in
    record {
      text = same ∙ h.text;
      read = h.read ++ s ∷ [];
      all = h.all ∙ ap (λ (l : List Spot). h.read ++ l) here ∙ sym (append_assoc h.read (s ∷ []) (unread next));
      none = subst (λ ks. IsNoWordOf w ks) (sym (tokens_push h.read s)) (no_word_push w (tokens_of h.read) s.token h.none other');
    }

tokens_append : (ss rs : List Spot) → tokens_of (ss ++ rs) ≡ tokens_of ss ++ tokens_of rs
tokens_append [] rs = refl
tokens_append (s ∷ ss) rs = ap (λ (l : List Token). s.token ∷ l) (tokens_append ss rs)

-- before the last trees stand the first
pub front_tokens : (n : ℕ) (ts : List Tree) (front old : List Spot) → tokens_of (front ++ old) ≡ trees_tokens (trees_of ts)
    → tokens_of old ≡ trees_tokens (trees_of (drop n ts)) → tokens_of front ≡ trees_tokens (trees_of (take n ts))
front_tokens n ts front old whole last =
    let D = trees_tokens (trees_of (drop n ts)) in
    append_cancel_right (tokens_of front) (trees_tokens (trees_of (take n ts))) D
    (ap (λ (l : List Token). tokens_of front ++ l) (sym last) ∙ sym (tokens_append front old) ∙ whole ∙ tokens_split n ts)

pub found_first : {A : Type 0} (bytes : List ℕ) (es : List (Expr A)) (n : ℕ) (old : List Spot) (now : Tokens) (new : List Spot) (w : List ℕ) (t : memory.Token)
    → LeavesOut (spots bytes) (tokens_in (take n es)) old → IsNotYet bytes old now w → unread now ≡ spot_of (text_of now) t ∷ new
    → token_at bytes t.start t.kind ≡ word w → Reads bytes (trees_of (trees_in es)) → IsFirstWordBehind bytes (take n (trees_in es)) w t.start
found_first bytes es n old now new w t left h here is reads =
    let b = behind bytes es n old reads left in
    let s = spot_of (text_of now) t in
    let same : s ≡ record { at = t.start; token = word w } =
    ap (λ (l : List ℕ). spot_of l t) h.text ∙ ap (λ (k : Token). record { at = t.start; token = k }) is in
    let tail : old ≡ h.read ++ (record { at = t.start; token = word w } ∷ new) =
    h.all ∙ ap (λ (l : List Spot). h.read ++ l) (here ∙ ap (λ (r : Spot). r ∷ new) same) in
    record {
      front = b.front;
      between = h.read;
      rest = new;
      all = b.last ∙ ap (λ (l : List Spot). b.front ++ l) tail ∙ sym (append_assoc b.front h.read (record { at = t.start; token = word w } ∷ new));
      trees = front_tokens n (trees_in es) b.front old (sym (ap tokens_of b.last) ∙ reads.same_tokens) b.tokens;
      first = h.none;
    }

pub none_there : {A : Type 0} (bytes : List ℕ) (es : List (Expr A)) (n : ℕ) (old : List Spot) (now : Tokens) (w : List ℕ)
    → LeavesOut (spots bytes) (tokens_in (take n es)) old → IsNotYet bytes old now w → unread now ≡ [] → Reads bytes (trees_of (trees_in es))
    → IsNoWordOf w (trees_tokens (trees_of (drop n (trees_in es))))
none_there bytes es n old now w left h over reads =
    let b = behind bytes es n old reads left in
    let all : old ≡ h.read = h.all ∙ ap (λ (l : List Spot). h.read ++ l) over ∙ append-nil h.read in
    subst (λ ks. IsNoWordOf w ks) (sym (ap tokens_of all) ∙ b.tokens) h.none

-- a run of name bytes, one byte on
pub run_more : (text : List ℕ) (start end : ℕ) → start ≤ end → end < length text → is_name_byte (get_or text end 0) ≡ true
    → name_front (drop start text) ≡ map lower (slice_range text start end) ++ name_front (drop end text)
    → name_front (drop start text) ≡ map lower (slice_range text start (end + 1)) ++ name_front (drop (end + 1) text)
run_more text start end order within name so_far =
    let n = end - start in
    let b = get_or text end 0 in
    let far : end + 1 ≡ suc end = omega arith in
    let size : end + 1 - start ≡ suc n = omega arith in
    let place : start + n ≡ end = omega arith in
    let long = length-drop start text in
    let last = take-suc (drop start text) n 0 (omega arith) in
    let byte : get_or (drop start text) n 0 ≡ b = get_or-drop start text n 0 ∙ ap (λ (k : ℕ). get_or text k 0) place in
    let grown : slice_range text start (end + 1) ≡ slice_range text start end ++ b ∷ [] =
    ap (λ (k : ℕ). take k (drop start text)) size ∙ last ∙ ap (λ (x : ℕ). take n (drop start text) ++ x ∷ []) byte in
    let rest : drop end text ≡ b ∷ drop (end + 1) text = rw far (drop-cons text end 0 within) in
    let front : name_front (b ∷ drop (end + 1) text) ≡ lower b ∷ name_front (drop (end + 1) text) = rw name refl in
    let more : map lower (slice_range text start (end + 1)) ≡ map lower (slice_range text start end) ++ lower b ∷ [] =
    ap (map lower) grown ∙ map-append lower (slice_range text start end) (b ∷ []) in
    so_far
    ∙ ap (λ (l : List ℕ). map lower (slice_range text start end) ++ l) (ap name_front rest ∙ front)
    ∙ sym (append_assoc (map lower (slice_range text start end)) (lower b ∷ []) (name_front (drop (end + 1) text)))
    ∙ ap (λ (l : List ℕ). l ++ name_front (drop (end + 1) text)) (sym more)
