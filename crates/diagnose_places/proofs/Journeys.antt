-- A walk over the trees of a text.
use Rattle.std.proofs.Common.{ℕ, suc, ◌≡◌, ◌<◌, ◌≤◌, ◌+◌, List, [], ◌∷◌, ◌++◌, take, drop, length, get_or, refl, sym, ap, subst, ◌∙◌, append_assoc, arith}
use Rattle.std.proofs.lemmas.List.{length-map}
use Rattle.statement.specs.Tree.{Tree, trees_of}
use Rattle.statement.specs.Lexical.{Token, word, Spot, spots, tokens_of}
use Rattle.statement.specs.Reading.{Reads, tree_tokens, trees_tokens}
use Rattle.kif.specs.View.{tree_of, trees_in}
use Rattle.kif.specs.declared.expr.Expr.{Expr}
use Rattle.diagnose_places.specs.declared.tokens.Token as memory
use Rattle.diagnose_places.specs.declared.tokens.Tokens.{Tokens}
use Rattle.diagnose_places.specs.declared.walk.Walk.{Walk}
use Rattle.diagnose_places.specs.Unread.{text_of, unread, spot_of, token_at}
use Rattle.diagnose_places.specs.Standing.{LeavesOut, BeginsAt}
use Rattle.diagnose_places.specs.Walking.{walk_text, IsWalk, IsWordBehind}
use Rattle.diagnose_places.proofs.Passing.{tokens_in, tokens_take, left_start, left_more, left_as}
use Rattle.diagnose_places.proofs.ItemStarts.{trees_in_front, behind, begins}
use Rattle.diagnose_places.proofs.Words.{IsNotYet, front_tokens}

pub new_walk : (ts : List Tree) (w : Walk) → w.passed ≡ 0 → text_of w.here ≡ walk_text w → w.inside ≡ w.here → unread w.here ≡ spots (walk_text w) → IsWalk ts w
new_walk ts w none same inner all = record {
  within = rw none (omega arith);
  here_text = same;
  inside_text = ap text_of inner ∙ same;
  left = rw none (left_start _ _ all);
  read = [];
  all = ap unread (sym inner);
}

-- on the way to the tree at a place
pub record IsGoing {A : Type 0} (es : List (Expr A)) (index : ℕ) (old now : Walk) : Type 0 where
  pub walk : IsWalk (trees_in es) now
  pub text : walk_text now ≡ walk_text old
  pub order : old.passed ≤ index → now.passed ≤ index

tree_more : {A : Type 0} (es : List (Expr A)) (i : ℕ) (e : Expr A) → i < length es → e ≡ get_or es i e
    → trees_tokens (trees_of (take i (trees_in es))) ++ tree_tokens (tree_of e) ≡ trees_tokens (trees_of (take (i + 1) (trees_in es)))
tree_more es i e within same =
    ap (λ (ts : List Tree). trees_tokens (trees_of ts) ++ tree_tokens (tree_of e)) (sym (trees_in_front i es))
    ∙ tokens_take es i e within same
    ∙ ap (λ (ts : List Tree). trees_tokens (trees_of ts)) (trees_in_front (i + 1) es)

pub one_on : {A : Type 0} (es : List (Expr A)) (index : ℕ) (old now next : Walk) (e : Expr A) → IsGoing es index old now → now.passed < index
    → index ≤ length es → e ≡ get_or es now.passed e → walk_text next ≡ walk_text now → next.passed ≡ now.passed + 1 → next.inside ≡ next.here
    → text_of next.here ≡ text_of now.here → LeavesOut (unread now.here) (tree_tokens (tree_of e)) (unread next.here)
    → IsGoing es index old next
one_on es index old now next e h below within is text further inner same skipped =
    let size = length-map es tree_of in
    let inside : now.passed < length es = omega (arith, below, within) in
    let here : text_of next.here ≡ walk_text next = same ∙ h.walk.here_text ∙ sym text in
    let left : LeavesOut (spots (walk_text now)) (trees_tokens (trees_of (take (now.passed + 1) (trees_in es)))) (unread next.here) =
    left_as _ _ _ _ (tree_more es now.passed e inside is) (left_more _ (trees_tokens (trees_of (take now.passed (trees_in es)))) _ _ _ h.walk.left skipped) in
    let left' : LeavesOut (spots (walk_text next)) (trees_tokens (trees_of (take next.passed (trees_in es)))) (unread next.here) = rw (text, further) left in
    record {
      walk = record {
        within = let few : now.passed < length (trees_in es) = rw size inside in rw further (omega (arith, few));
        here_text = here;
        inside_text = ap text_of inner ∙ here;
        left = left';
        read = [];
        all = ap unread (sym inner);
      };
      text = text ∙ h.text;
      order = λ up. rw further (omega (arith, below));
    }

left_here : {A : Type 0} (es : List (Expr A)) (w : Walk) → IsWalk (trees_in es) w → LeavesOut (spots (walk_text w)) (tokens_in (take w.passed es)) (unread w.here)
left_here es w h = left_as _ _ _ _ (ap (λ (ts : List Tree). trees_tokens (trees_of ts)) (sym (trees_in_front w.passed es))) h.left

pub begins_here : {A : Type 0} (es : List (Expr A)) (w : Walk) (new : List Spot) (t : memory.Token) → IsWalk (trees_in es) w
    → unread w.here ≡ spot_of (text_of w.here) t ∷ new → Reads (walk_text w) (trees_of (trees_in es))
    → BeginsAt (walk_text w) (drop w.passed (trees_in es)) t.start
begins_here es w new t h next reads = begins (walk_text w) (text_of w.here) es w.passed (unread w.here) new t (left_here es w h) next reads

-- what was read up to a token, and that token
pub read_on : (ts : List Tree) (w next : Walk) (now : Tokens) (name : List ℕ) (s : Spot) → IsWalk ts w → IsNotYet (walk_text w) (unread w.inside) now name
    → next.text ≡ w.text → next.passed ≡ w.passed → next.here ≡ w.here → text_of next.inside ≡ text_of now → unread now ≡ s ∷ unread next.inside → IsWalk ts next
read_on ts w next now name s h seen text passed here inner on =
    let tail : unread w.inside ≡ (seen.read ++ s ∷ []) ++ unread next.inside =
    seen.all ∙ ap (λ (l : List Spot). seen.read ++ l) on ∙ sym (append_assoc seen.read (s ∷ []) (unread next.inside)) in
    let all : unread w.here ≡ (h.read ++ (seen.read ++ s ∷ [])) ++ unread next.inside =
    h.all ∙ ap (λ (l : List Spot). h.read ++ l) tail ∙ sym (append_assoc h.read (seen.read ++ s ∷ []) (unread next.inside)) in
    let same : walk_text next ≡ walk_text w = ap (λ b. b.now) text in
    record {
      within = rw passed h.within;
      here_text = ap text_of here ∙ h.here_text ∙ sym same;
      inside_text = inner ∙ seen.text ∙ sym same;
      left = rw (same, passed, here) h.left;
      read = h.read ++ (seen.read ++ s ∷ []);
      all = ap unread here ∙ all;
    }

pub word_behind : {A : Type 0} (es : List (Expr A)) (w : Walk) (now : Tokens) (new : List Spot) (name : List ℕ) (t : memory.Token)
    → IsWalk (trees_in es) w → IsNotYet (walk_text w) (unread w.inside) now name → unread now ≡ spot_of (text_of now) t ∷ new
    → token_at (walk_text w) t.start t.kind ≡ word name → Reads (walk_text w) (trees_of (trees_in es))
    → IsWordBehind (walk_text w) (take w.passed (trees_in es)) name t.start
word_behind es w now new name t h seen here is reads =
    let text = walk_text w in
    let b = behind text es w.passed (unread w.here) reads (left_here es w h) in
    let s = spot_of (text_of now) t in
    let same : s ≡ record { at = t.start; token = word name } =
    ap (λ (l : List ℕ). spot_of l t) seen.text ∙ ap (λ (k : Token). record { at = t.start; token = k }) is in
    let rest : List Spot = record { at = t.start; token = word name } ∷ new in
    let tail : unread w.here ≡ (h.read ++ seen.read) ++ rest =
    h.all ∙ ap (λ (l : List Spot). h.read ++ l) (seen.all ∙ ap (λ (l : List Spot). seen.read ++ l) (here ∙ ap (λ (r : Spot). r ∷ new) same))
    ∙ sym (append_assoc h.read seen.read rest) in
    record {
      front = b.front;
      between = h.read ++ seen.read;
      rest = new;
      all = b.last ∙ ap (λ (l : List Spot). b.front ++ l) tail ∙ sym (append_assoc b.front (h.read ++ seen.read) rest);
      trees = front_tokens w.passed (trees_in es) b.front (unread w.here) (sym (ap tokens_of b.last) ∙ reads.same_tokens) b.tokens;
    }

-- a name that is looked for, while the walk stays
pub record IsSeeking (old w : Walk) (now : Tokens) (name : List ℕ) : Type 0 where
  pub same : w ≡ old
  pub seen : IsNotYet (walk_text old) (unread old.inside) now name
