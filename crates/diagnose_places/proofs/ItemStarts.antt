-- Where the tree at a place of a list begins.
use Rattle.std.proofs.Common.{ℕ, zero, suc, ◌≡◌, ◌<◌, List, [], ◌∷◌, ◌++◌, take, drop, length, refl, sym, ap, ◌∙◌, append_assoc, arith}
use Rattle.std.proofs.lemmas.List.{length-map}
use Rattle.statement.specs.Tree.{Tree, name, list, trees_of}
use Rattle.statement.specs.Lexical.{Token, Spot, spots, tokens_of}
use Rattle.statement.specs.Reading.{Reads, tree_tokens, trees_tokens}
use Rattle.kif.specs.View.{tree_of, trees_in}
use Rattle.kif.specs.declared.expr.Expr.{Expr}
use Rattle.diagnose_places.specs.declared.tokens.Token as memory
use Rattle.diagnose_places.specs.Unread.{spot_of}
use Rattle.diagnose_places.specs.Standing.{IsBehind, LeavesOut, BeginsAt}
use Rattle.diagnose_places.proofs.Passing.{tokens_in}

pub trees_in_front : {A : Type 0} (n : ℕ) (es : List (Expr A)) → trees_in (take n es) ≡ take n (trees_in es)
trees_in_front zero es = refl
trees_in_front (suc n) [] = refl
trees_in_front (suc n) (e ∷ es) = ap (λ (ts : List Tree). tree_of e ∷ ts) (trees_in_front n es)

pub tokens_split : (n : ℕ) (ts : List Tree) → trees_tokens (trees_of ts) ≡ trees_tokens (trees_of (take n ts)) ++ trees_tokens (trees_of (drop n ts))
tokens_split zero ts = refl
tokens_split (suc n) [] = refl
tokens_split (suc n) (t ∷ ts) =
    ap (λ (l : List Token). tree_tokens t ++ l) (tokens_split n ts)
    ∙ sym (append_assoc (tree_tokens t) (trees_tokens (trees_of (take n ts))) (trees_tokens (trees_of (drop n ts))))

some_token : (t : Tree) (l : List Token) → [] ≡ tree_tokens t ++ l → ⊥
some_token (name n) l e = cc
some_token (list ts) l e = cc

some_tokens : (n : ℕ) (ts : List Tree) → n < length ts → [] ≡ trees_tokens (trees_of (drop n ts)) → ⊥
some_tokens n [] h e = absurd (omega arith)
some_tokens zero (t ∷ ts) h e = some_token t (trees_tokens (trees_of ts)) e
some_tokens (suc n) (t ∷ ts) h e = some_tokens n ts (omega arith) e

pub behind : {A : Type 0} (text : List ℕ) (es : List (Expr A)) (n : ℕ) (mid : List Spot) → Reads text (trees_of (trees_in es))
    → LeavesOut (spots text) (tokens_in (take n es)) mid → IsBehind (spots text) (trees_tokens (trees_of (drop n (trees_in es)))) mid
behind text es n mid reads left =
    let whole = reads.same_tokens ∙ tokens_split n (trees_in es) in
    let front = ap (λ (ts : List Tree). trees_tokens (trees_of ts) ++ trees_tokens (trees_of (drop n (trees_in es)))) (sym (trees_in_front n es)) in
    left (trees_tokens (trees_of (drop n (trees_in es)))) (whole ∙ front)

pub begins : {A : Type 0} (text bytes : List ℕ) (es : List (Expr A)) (n : ℕ) (mid new : List Spot) (t : memory.Token)
    → LeavesOut (spots text) (tokens_in (take n es)) mid → mid ≡ spot_of bytes t ∷ new → Reads text (trees_of (trees_in es))
    → BeginsAt text (drop n (trees_in es)) t.start
begins text bytes es n mid new t left next reads =
    let b = behind text es n mid reads left in
    record {
      front = b.front;
      first = spot_of bytes t;
      rest = new;
      all = b.last ∙ ap (λ (l : List Spot). b.front ++ l) next;
      here = refl;
      tokens = sym (ap tokens_of next) ∙ b.tokens;
    }

pub not_over : {A : Type 0} (text : List ℕ) (es : List (Expr A)) (n : ℕ) (mid : List Spot)
    → LeavesOut (spots text) (tokens_in (take n es)) mid → mid ≡ [] → Reads text (trees_of (trees_in es)) → n < length es → ⊥
not_over text es n mid left over reads within =
    let b = behind text es n mid reads left in
    let size = length-map es tree_of in
    some_tokens n (trees_in es) (rw size within) (sym (ap tokens_of over) ∙ b.tokens)
